use Rattle.std.proofs.Common.{ℕ, ◌≡◌, map, refl, arith, ap, inl, inr}
use Rattle.std.proofs.lemmas.Bool.{cases_eq}
use Rattle.mt_plan.specs.Lists.{cells}
use Rattle.mt_seq.specs.Inner.Ground.{item_on, other_pairs}
use Rattle.mt_seq.proofs.Makes.{Makes-nil, Makes-same}
use Rattle.mt_seq.proofs.Spans.{Makes-steps, ground_after, room_for_two, pairs_more}
use Rattle.mt_seq.proofs.span.read_pairs.Goals as goal

pub loop-cell-init : goal.loop-cell-init
loop-cell-init g c = record {
  before = λ h. omega arith;
  behind = λ h. absurd (omega arith);
  does = Makes-nil (g.P.Port.state c.args.port.now) (g.P.Port.tape c.args.port.now) (g.met.P.Port.sound c.args.port.now);
}

pub read_both-good-requires-clause-ground : goal.read_both-good-requires-clause-ground
read_both-good-requires-clause-ground g c = ground_after c.args.ground c.args.saved.now c.requires.ground c.loop-cell.invariant.does

pub read_both-good-requires-clause-room : goal.read_both-good-requires-clause-room
read_both-good-requires-clause-room g c = λ ne.
    room_for_two (g.P.Port.state c.args.port.now).count (g.P.Port.state c.loop-cell.port).count c.args.ground.n c.args.base.cell c.loop-cell.cell
    c.loop-cell.invariant.before c.loop-cell.invariant.behind c.requires.room c.requires.base c.loop-cell-test.true ne

pub loop-cell-preserved : goal.loop-cell-preserved
loop-cell-preserved g c =
    let inv = c.loop-cell.invariant in
    let done = c.read_both-good.ensures in
    record {
      before = λ h. omega (arith, inv.before (omega arith), done.two (λ e. omega arith));
      behind = λ h. elim (cases_eq c.loop-cell.cell c.args.base.cell) [
        | inl e ↦ omega (arith, inv.before (omega arith), done.none e)
        | inr ne ↦ omega (arith, inv.behind (omega arith), done.two ne)
      ];
      does = Makes-steps (item_on c.args.ground c.args.saved.now) _ _ _ (g.met.P.Port.sound c.args.port.now) (pairs_more c.args.base.flipped c.args.base.cell c.loop-cell.cell) inv.does done.made;
    }

pub returns-clause-made : goal.returns-clause-made
returns-clause-made g c =
    let e : c.loop-cell.cell ≡ c.args.ground.n = omega arith in
    Makes-same (ap (λ (n : ℕ). map (item_on c.args.ground c.args.saved.now) (other_pairs c.args.base.flipped c.args.base.cell (cells n))) e) refl c.loop-cell.invariant.does

pub returns-clause-count : goal.returns-clause-count
returns-clause-count g c = omega (arith, c.loop-cell.invariant.behind (omega (arith, c.requires.base)))
