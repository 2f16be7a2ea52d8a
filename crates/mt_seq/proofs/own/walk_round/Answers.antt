use Rattle.std.proofs.Common.{ℕ, ◌≡◌, refl, arith, ap, sym, length-append}
use Rattle.std.specs.Prelude.{if◌then◌else◌}
use Rattle.std.specs.List.{flat_map}
use Rattle.mt_fault.specs.Faulty.{is_odd}
use Rattle.mt_plan.specs.Lists.{cells, write_act}
use Rattle.mt_seq.specs.Inner.Own.{own_each, own_walk_base}
use Rattle.mt_seq.proofs.Makes.{Makes-append, Makes-nil, Makes-same}
use Rattle.mt_seq.proofs.NamedRuns.{Makes-acts, cells_fit, each_long, either, more_cells, targets_after}
use Rattle.mt_seq.proofs.own.walk_round.Goals as goal

pub each-filled-requires-clause-room : goal.each-filled-requires-clause-room
each-filled-requires-clause-room g c =
    omega (
      arith,
      length-append (own_each (λ j. write_act c.args.flipped) c.args.named.now) (flat_map (own_walk_base c.args.flipped c.args.named.now) (cells c.args.n)),
      each_long (λ j. write_act c.args.flipped) c.args.named.now,
      c.requires.room,
    )

pub loop-cell-init : goal.loop-cell-init
loop-cell-init g c = record { does = Makes-nil (g.P.Port.state c.each-filled.new.port) (g.P.Port.tape c.each-filled.new.port) (g.met.P.Port.sound c.each-filled.new.port) }

pub walk_base-good-requires-clause-targets : goal.walk_base-good-requires-clause-targets
walk_base-good-requires-clause-targets g c =
    targets_after c.args.named.now (targets_after c.args.named.now c.requires.targets c.each-filled.ensures) c.loop-cell.invariant.does

pub walk_base-good-requires-clause-room : goal.walk_base-good-requires-clause-room
walk_base-good-requires-clause-room g c =
    omega (
      arith,
      length-append (own_each (λ j. write_act c.args.flipped) c.args.named.now) (flat_map (own_walk_base c.args.flipped c.args.named.now) (cells c.args.n)),
      each_long (λ j. write_act c.args.flipped) c.args.named.now,
      each_long (λ j. if is_odd j then c.writing-2.result else c.writing.result) c.args.named.now,
      cells_fit (own_walk_base c.args.flipped c.args.named.now) c.loop-cell.cell c.args.n c.loop-cell-test.true,
      c.each-filled.ensures.count,
      c.loop-cell.invariant.does.count,
      c.requires.room,
    )

pub loop-cell-preserved : goal.loop-cell-preserved
loop-cell-preserved g c = record {
  does = Makes-same (sym (more_cells (own_walk_base c.args.flipped c.args.named.now) c.loop-cell.cell)) refl (Makes-append (g.met.P.Port.sound c.each-filled.new.port) c.loop-cell.invariant.does c.walk_base-good.ensures);
}

pub returns : goal.returns
returns g c =
    let e : c.loop-cell.cell ≡ c.args.n = omega arith in
    Makes-append (g.met.P.Port.sound c.args.port.now)
    (Makes-acts c.args.named.now (λ j. if is_odd j then c.writing-2.result else c.writing.result) (λ j. write_act c.args.flipped) (λ j. either (is_odd j) _ _ _ c.writing.ensures c.writing-2.ensures) c.each-filled.ensures)
    (Makes-same (ap (λ (k : ℕ). flat_map (own_walk_base c.args.flipped c.args.named.now) (cells k)) e) refl c.loop-cell.invariant.does)
