use Rattle.std.proofs.Common.{ℕ, ◌≡◌, [], ◌∷◌, map, refl, arith, ap, subst}
use Rattle.std.specs.Prelude.{if◌then◌else◌}
use Rattle.mt_fault.specs.Faulty.{is_odd}
use Rattle.mt_plan.specs.declared.algorithm.Act.{Act}
use Rattle.mt_plan.specs.declared.algorithm.Step.{Step}
use Rattle.mt_plan.specs.Lists.{cells, step}
use Rattle.mt_seq.specs.Inner.Ground.{item_on}
use Rattle.mt_seq.specs.Makes.{Makes}
use Rattle.mt_seq.proofs.Makes.{Makes-nil, Makes-same}
use Rattle.mt_seq.proofs.Spans.{Makes-steps, each_more, ground_after}
use Rattle.mt_seq.proofs.span.each_cell.Goals as goal

pub loop-cell-init : goal.loop-cell-init
loop-cell-init g c = record {
  made = omega arith;
  does = Makes-nil (g.P.Port.state c.args.port.now) (g.P.Port.tape c.args.port.now) (g.met.P.Port.sound c.args.port.now);
}

pub make-good-requires-clause-ground : goal.make-good-requires-clause-ground
make-good-requires-clause-ground g c = ground_after c.args.ground c.args.saved.now c.requires.ground c.loop-cell.invariant.does

pub make-good-requires-clause-room : goal.make-good-requires-clause-room
make-good-requires-clause-room g c = omega (arith, c.loop-cell.invariant.made, c.requires.room, c.loop-cell-test.true)

pub loop-cell-preserved : goal.loop-cell-preserved
loop-cell-preserved g c =
    let inv = c.loop-cell.invariant in
    let f : ℕ → Step = λ j. step j (if is_odd j then c.args.odd else c.args.even) in
    let done = subst (λ (a : Act). Makes (map (item_on c.args.ground c.args.saved.now) (step c.loop-cell.cell a ∷ [])) (g.P.Port.state c.loop-cell.port) (g.P.Port.state c.make-good.new.port) (g.P.Port.tape c.loop-cell.port) (g.P.Port.tape c.make-good.new.port) c.make-good.result) c.act_at.ensures c.make-good.ensures in
    record {
      made = omega (arith, done.count, inv.made);
      does = Makes-steps (item_on c.args.ground c.args.saved.now) _ _ _ (g.met.P.Port.sound c.args.port.now) (each_more f c.loop-cell.cell) inv.does done;
    }

pub returns : goal.returns
returns g c =
    let e : c.loop-cell.cell ≡ c.args.ground.n = omega arith in
    Makes-same (ap (λ (n : ℕ). map (item_on c.args.ground c.args.saved.now) (map (λ j. step j (if is_odd j then c.args.odd else c.args.even)) (cells n))) e) refl c.loop-cell.invariant.does
