use Rattle.std.proofs.Common.{ℕ, ◌≡◌, refl, arith, ap, sym}
use Rattle.std.specs.List.{flat_map}
use Rattle.mt_plan.specs.Lists.{cells, others}
use Rattle.mt_seq.specs.Inner.Own.{own_pair}
use Rattle.mt_seq.proofs.Makes.{Makes-append, Makes-nil, Makes-same}
use Rattle.mt_seq.proofs.NamedRuns.{more_others, others_fit, targets_after}
use Rattle.mt_seq.proofs.own.all_pairs.Goals as goal

pub loop-cell-init : goal.loop-cell-init
loop-cell-init g c = record { does = Makes-nil (g.P.Port.state c.args.port.now) (g.P.Port.tape c.args.port.now) (g.met.P.Port.sound c.args.port.now) }

pub pair-good-requires-clause-targets : goal.pair-good-requires-clause-targets
pair-good-requires-clause-targets g c = targets_after c.args.named.now c.requires.targets c.loop-cell.invariant.does

pub pair-good-requires-clause-room : goal.pair-good-requires-clause-room
pair-good-requires-clause-room g c =
    omega (
      arith,
      others_fit (own_pair c.args.base.flipped c.args.named.now c.args.base.cell) c.args.base.cell c.loop-cell.cell c.args.n c.loop-cell-test.true,
      c.loop-cell.invariant.does.count,
      c.requires.room,
    )

pub loop-cell-preserved : goal.loop-cell-preserved
loop-cell-preserved g c = record {
  does = Makes-same (sym (more_others (own_pair c.args.base.flipped c.args.named.now c.args.base.cell) c.args.base.cell c.loop-cell.cell)) refl
      (Makes-append (g.met.P.Port.sound c.args.port.now) c.loop-cell.invariant.does c.pair-good.ensures);
}

pub returns : goal.returns
returns g c =
    let e : c.loop-cell.cell ≡ c.args.n = omega arith in
    Makes-same (ap (λ (k : ℕ). flat_map (own_pair c.args.base.flipped c.args.named.now c.args.base.cell) (others c.args.base.cell (cells k))) e) refl c.loop-cell.invariant.does
