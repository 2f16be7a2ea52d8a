use Rattle.mt_replay.proofs.Runs.{past_line}
use Rattle.mt_replay.proofs.run.run_past.Goals as goal

pub returns-in-Ok-true-clause-gives : goal.returns-in-Ok-true-clause-gives
returns-in-Ok-true-clause-gives g c = λ shape.
    past_line shape _ (g.S.Source.left c.fill.new.source) _ (c.in-Ok-true.ensures.some c.in-Ok-true.field-0-test) (rw c.in-Ok-true.field-0-test at c.in-Ok-true.ensures.ok)
