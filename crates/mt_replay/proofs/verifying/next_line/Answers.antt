use Rattle.std.proofs.Common.{ℕ, List, subst}
use Rattle.mt_replay.specs.Inner.Verifying.{WholeGives, LastGives}
use Rattle.mt_replay.proofs.ClaimedLines.{whole_gives, last_gives, missing_gives, refused_gives, not_broken, refusal_cause}
use Rattle.mt_replay.proofs.verifying.next_line.Goals as goal

pub returns-in-Ok-Whole-clause-gives : goal.returns-in-Ok-Whole-clause-gives
returns-in-Ok-Whole-clause-gives g c =
    whole_gives c.whole_line.result c.args.shape c.args.mark c.read_text.new.text.items c.whole_line.new.line _ _ (rw c.in-Ok-Whole.field-0-is at (c.in-Ok-Whole.ensures.ok c.args.shape))
    (subst (λ (l : List ℕ). WholeGives c.whole_line.result c.args.shape c.args.mark l c.whole_line.new.line) c.deref.ensures.0 c.whole_line.ensures)

pub returns-in-Ok-Last-clause-gives : goal.returns-in-Ok-Last-clause-gives
returns-in-Ok-Last-clause-gives g c =
    last_gives c.last_line.result c.args.shape c.args.mark c.read_text.new.text.items c.read_text.new.text.items c.last_line.new.line _ _ (rw c.in-Ok-Last.field-0-is at (c.in-Ok-Last.ensures.ok c.args.shape))
    (subst (λ (l : List ℕ). LastGives c.last_line.result c.args.shape c.args.mark l) c.deref-in-Ok-Last.ensures.0 c.last_line.ensures)

pub returns-in-Ok-Missing-clause-gives : goal.returns-in-Ok-Missing-clause-gives
returns-in-Ok-Missing-clause-gives g c =
    missing_gives c.args.shape c.args.mark c.read_text.new.text.items _ _ (rw c.in-Ok-Missing.field-0-is at (c.in-Ok-Missing.ensures.ok c.args.shape))

pub returns-in-Ok-Refused-clause-gives : goal.returns-in-Ok-Refused-clause-gives
returns-in-Ok-Refused-clause-gives g c =
    refused_gives c.in-Ok-Refused.end c.args.shape c.args.mark _ _ (rw c.in-Ok-Refused.field-0-is at (c.in-Ok-Refused.ensures.ok c.args.shape))

pub returns-in-Ok-Refused-clause-none : goal.returns-in-Ok-Refused-clause-none
returns-in-Ok-Refused-clause-none g c = λ broken. absurd (not_broken c.in-Ok-Refused.end (rw c.in-Ok-Refused.field-0-is at c.in-Ok-Refused.ensures.line) broken)

pub returns-in-Ok-Refused-clause-err : goal.returns-in-Ok-Refused-clause-err
returns-in-Ok-Refused-clause-err g c =
    refusal_cause c.in-Ok-Refused.end _ _ (rw c.in-Ok-Refused.field-0-is at c.in-Ok-Refused.ensures.line) c.in-Ok-Refused.ensures.cause.kept
