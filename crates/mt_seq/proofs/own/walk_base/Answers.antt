use Rattle.std.proofs.Common.{Bool, List, arith}
use Rattle.std.specs.Prelude.{not}
use Rattle.mt_plan.specs.Lists.{read_act, write_act}
use Rattle.mt_seq.specs.declared.own.Named.{Named}
use Rattle.mt_seq.specs.Inner.Own.{at_base, off_base}
use Rattle.mt_seq.proofs.Makes.{Makes-append}
use Rattle.mt_seq.proofs.NamedRuns.{Makes-acts, each_long, targets_after, walk_long}
use Rattle.mt_seq.proofs.own.walk_base.Goals as goal

pub on_base-written-requires-clause-room : goal.on_base-written-requires-clause-room
on_base-written-requires-clause-room g c =
    omega (
      arith,
      walk_long c.args.base.flipped c.args.named.now c.args.base.cell,
      each_long (λ j. c.writing.result) (at_base c.args.base.cell c.args.named.now),
      c.requires.room,
    )

pub on_others-others-requires-clause-targets : goal.on_others-others-requires-clause-targets
on_others-others-requires-clause-targets g c = targets_after c.args.named.now c.requires.targets c.on_base-written.ensures

pub on_others-others-requires-clause-room : goal.on_others-others-requires-clause-room
on_others-others-requires-clause-room g c =
    omega (
      arith,
      walk_long c.args.base.flipped c.args.named.now c.args.base.cell,
      each_long (λ j. c.writing.result) (at_base c.args.base.cell c.args.named.now),
      each_long (λ j. c.reading.result) (off_base c.args.base.cell c.args.named.now),
      c.on_base-written.ensures.count,
      c.requires.room,
    )

pub on_base-own-requires-clause-targets : goal.on_base-own-requires-clause-targets
on_base-own-requires-clause-targets g c =
    targets_after c.args.named.now (targets_after c.args.named.now c.requires.targets c.on_base-written.ensures) c.on_others-others.ensures

pub on_base-own-requires-clause-room : goal.on_base-own-requires-clause-room
on_base-own-requires-clause-room g c =
    omega (
      arith,
      walk_long c.args.base.flipped c.args.named.now c.args.base.cell,
      each_long (λ j. c.writing.result) (at_base c.args.base.cell c.args.named.now),
      each_long (λ j. c.reading.result) (off_base c.args.base.cell c.args.named.now),
      each_long (λ j. c.reading-2.result) (at_base c.args.base.cell c.args.named.now),
      c.on_base-written.ensures.count,
      c.on_others-others.ensures.count,
      c.requires.room,
    )

pub on_base-restored-requires-clause-targets : goal.on_base-restored-requires-clause-targets
on_base-restored-requires-clause-targets g c =
    targets_after c.args.named.now (targets_after c.args.named.now (targets_after c.args.named.now c.requires.targets c.on_base-written.ensures) c.on_others-others.ensures) c.on_base-own.ensures

pub on_base-restored-requires-clause-room : goal.on_base-restored-requires-clause-room
on_base-restored-requires-clause-room g c =
    omega (
      arith,
      walk_long c.args.base.flipped c.args.named.now c.args.base.cell,
      each_long (λ j. c.writing.result) (at_base c.args.base.cell c.args.named.now),
      each_long (λ j. c.reading.result) (off_base c.args.base.cell c.args.named.now),
      each_long (λ j. c.reading-2.result) (at_base c.args.base.cell c.args.named.now),
      each_long (λ j. c.writing-2.result) (at_base c.args.base.cell c.args.named.now),
      c.on_base-written.ensures.count,
      c.on_others-others.ensures.count,
      c.on_base-own.ensures.count,
      c.requires.room,
    )

pub returns : goal.returns
returns g c =
    let sound = g.met.P.Port.sound c.args.port.now in
    let at : List Named = at_base c.args.base.cell c.args.named.now in
    let off : List Named = off_base c.args.base.cell c.args.named.now in
    let v : Bool = c.args.base.flipped in
    Makes-append sound
    (Makes-append sound
    (Makes-acts at (λ j. c.writing.result) (λ j. write_act (not v)) (λ j. c.writing.ensures) c.on_base-written.ensures)
    (Makes-acts off (λ j. c.reading.result) (λ j. read_act v) (λ j. c.reading.ensures) c.on_others-others.ensures))
    (Makes-append (g.met.P.Port.sound c.on_others-others.new.port)
    (Makes-acts at (λ j. c.reading-2.result) (λ j. read_act (not v)) (λ j. c.reading-2.ensures) c.on_base-own.ensures)
    (Makes-acts at (λ j. c.writing-2.result) (λ j. write_act v) (λ j. c.writing-2.ensures) c.on_base-restored.ensures))
