use Rattle.mt_replay.proofs.LocatedLines.{past_line}
use Rattle.mt_replay.proofs.locating.end_past.Goals as goal

pub returns-in-Ok-true-clause-gives : goal.returns-in-Ok-true-clause-gives
returns-in-Ok-true-clause-gives g c = λ probe after.
    past_line probe after _ (g.S.Source.left c.fill.new.source) _ (c.in-Ok-true.ensures.some c.in-Ok-true.field-0-test) (rw c.in-Ok-true.field-0-test at c.in-Ok-true.ensures.ok)
