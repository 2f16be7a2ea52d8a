use Rattle.std.proofs.Common.{Bool, List, arith}
use Rattle.std.specs.Prelude.{not}
use Rattle.mt_plan.specs.Lists.{read_act, write_act}
use Rattle.mt_seq.specs.declared.own.Named.{Named}
use Rattle.mt_seq.specs.Inner.Own.{at_base}
use Rattle.mt_seq.proofs.Makes.{Makes-append}
use Rattle.mt_seq.proofs.NamedRuns.{Makes-acts, each_long, galpat_long, targets_after}
use Rattle.mt_seq.proofs.own.galpat_base.Goals as goal

pub on_base-written-requires-clause-room : goal.on_base-written-requires-clause-room
on_base-written-requires-clause-room g c =
    omega (
      arith,
      galpat_long c.args.base.flipped c.args.n c.args.named.now c.args.base.cell,
      each_long (λ j. c.writing.result) (at_base c.args.base.cell c.args.named.now),
      c.requires.room,
    )

pub on_base-own-requires-clause-targets : goal.on_base-own-requires-clause-targets
on_base-own-requires-clause-targets g c = targets_after c.args.named.now c.requires.targets c.on_base-written.ensures

pub on_base-own-requires-clause-room : goal.on_base-own-requires-clause-room
on_base-own-requires-clause-room g c =
    omega (
      arith,
      galpat_long c.args.base.flipped c.args.n c.args.named.now c.args.base.cell,
      each_long (λ j. c.writing.result) (at_base c.args.base.cell c.args.named.now),
      each_long (λ j. c.reading.result) (at_base c.args.base.cell c.args.named.now),
      c.on_base-written.ensures.count,
      c.requires.room,
    )

pub pairs-pairs-requires-clause-targets : goal.pairs-pairs-requires-clause-targets
pairs-pairs-requires-clause-targets g c =
    targets_after c.args.named.now (targets_after c.args.named.now c.requires.targets c.on_base-written.ensures) c.on_base-own.ensures

pub pairs-pairs-requires-clause-room : goal.pairs-pairs-requires-clause-room
pairs-pairs-requires-clause-room g c =
    omega (
      arith,
      galpat_long c.args.base.flipped c.args.n c.args.named.now c.args.base.cell,
      each_long (λ j. c.writing.result) (at_base c.args.base.cell c.args.named.now),
      each_long (λ j. c.reading.result) (at_base c.args.base.cell c.args.named.now),
      c.on_base-written.ensures.count,
      c.on_base-own.ensures.count,
      c.requires.room,
    )

pub on_base-restored-requires-clause-targets : goal.on_base-restored-requires-clause-targets
on_base-restored-requires-clause-targets g c =
    targets_after c.args.named.now (targets_after c.args.named.now (targets_after c.args.named.now c.requires.targets c.on_base-written.ensures) c.on_base-own.ensures) c.pairs-pairs.ensures

pub on_base-restored-requires-clause-room : goal.on_base-restored-requires-clause-room
on_base-restored-requires-clause-room g c =
    omega (
      arith,
      galpat_long c.args.base.flipped c.args.n c.args.named.now c.args.base.cell,
      each_long (λ j. c.writing.result) (at_base c.args.base.cell c.args.named.now),
      each_long (λ j. c.reading.result) (at_base c.args.base.cell c.args.named.now),
      each_long (λ j. c.writing-2.result) (at_base c.args.base.cell c.args.named.now),
      c.on_base-written.ensures.count,
      c.on_base-own.ensures.count,
      c.pairs-pairs.ensures.count,
      c.requires.room,
    )

pub returns : goal.returns
returns g c =
    let sound = g.met.P.Port.sound c.args.port.now in
    let at : List Named = at_base c.args.base.cell c.args.named.now in
    let v : Bool = c.args.base.flipped in
    Makes-append sound
    (Makes-append sound
    (Makes-append sound
    (Makes-acts at (λ j. c.writing.result) (λ j. write_act (not v)) (λ j. c.writing.ensures) c.on_base-written.ensures)
    (Makes-acts at (λ j. c.reading.result) (λ j. read_act (not v)) (λ j. c.reading.ensures) c.on_base-own.ensures))
    c.pairs-pairs.ensures)
    (Makes-acts at (λ j. c.writing-2.result) (λ j. write_act v) (λ j. c.writing-2.ensures) c.on_base-restored.ensures)
