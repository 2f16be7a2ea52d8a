use Rattle.std.proofs.Common.{List}
use Rattle.std.specs.Prelude.{if◌then◌else◌, not}
use Rattle.mt_fault.specs.Faulty.{is_odd}
use Rattle.mt_plan.specs.declared.algorithm.Act.TheVariants.{WritePlain, WriteFlipped, ReadPlain, ReadFlipped}
use Rattle.mt_plan.specs.Lists.{read_act, write_act}
use Rattle.mt_seq.specs.declared.own.Named.{Named}
use Rattle.mt_seq.proofs.Makes.{Makes-append}
use Rattle.mt_seq.proofs.NamedRuns.{Makes-acts, reads_by, reads_by_not, targets_after, writes_by, writes_by_not}
use Rattle.mt_seq.proofs.own.checkerboard.Goals as goal

pub each-first_read-requires-clause-targets : goal.each-first_read-requires-clause-targets
each-first_read-requires-clause-targets g c = targets_after c.args.named.now c.requires.targets c.each-first.ensures

pub each-second-requires-clause-targets : goal.each-second-requires-clause-targets
each-second-requires-clause-targets g c = targets_after c.args.named.now (targets_after c.args.named.now c.requires.targets c.each-first.ensures) c.each-first_read.ensures

pub each-second_read-requires-clause-targets : goal.each-second_read-requires-clause-targets
each-second_read-requires-clause-targets g c =
    targets_after c.args.named.now (targets_after c.args.named.now (targets_after c.args.named.now c.requires.targets c.each-first.ensures) c.each-first_read.ensures) c.each-second.ensures

pub returns : goal.returns
returns g c =
    let named : List Named = c.args.named.now in
    let sound = g.met.P.Port.sound c.args.port.now in
    Makes-append sound
    (Makes-append sound
    (Makes-acts named (λ j. if is_odd j then WriteFlipped else WritePlain) (λ j. write_act (is_odd j)) (λ j. writes_by (is_odd j)) c.each-first.ensures)
    (Makes-acts named (λ j. if is_odd j then ReadFlipped else ReadPlain) (λ j. read_act (is_odd j)) (λ j. reads_by (is_odd j)) c.each-first_read.ensures))
    (Makes-append (g.met.P.Port.sound c.each-first_read.new.port)
    (Makes-acts named (λ j. if is_odd j then WritePlain else WriteFlipped) (λ j. write_act (not (is_odd j))) (λ j. writes_by_not (is_odd j)) c.each-second.ensures)
    (Makes-acts named (λ j. if is_odd j then ReadPlain else ReadFlipped) (λ j. read_act (not (is_odd j))) (λ j. reads_by_not (is_odd j)) c.each-second_read.ensures))
