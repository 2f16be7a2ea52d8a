use Rattle.std.proofs.Common.{◌∙◌, sym, ap, length}
use Rattle.mt_plan.specs.declared.algorithm.Policy.{Policy}
use Rattle.mt_seq.specs.Sequence.{saving}
use Rattle.mt_seq.proofs.Lengths.{length-saving}
use Rattle.mt_seq.proofs.course.saving_reads.Goals as goal

pub returns-in-NonDestructive-clause-count : goal.returns-in-NonDestructive-clause-count
returns-in-NonDestructive-clause-count c =
    c.from.ensures ∙ sym (ap (λ (p : Policy). length (saving p c.args.slice)) c.in-NonDestructive.is ∙ length-saving c.args.slice)
