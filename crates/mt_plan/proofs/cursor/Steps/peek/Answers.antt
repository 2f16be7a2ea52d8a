use Rattle.mt_plan.specs.Cursor.{IsCursor}
use Rattle.mt_plan.proofs.Standing.{stands_step, stands_at, stands_line, stands_inside}
use Rattle.mt_plan.proofs.cursor.Steps.peek.Goals as goal

pub step-requires-clause-small : goal.step-requires-clause-small
unfolding IsCursor
step-requires-clause-small c = c.requires.cursor.small

pub step-requires-clause-on : goal.step-requires-clause-on
unfolding IsCursor
step-requires-clause-on c = stands_line c.args._algorithm.now c.args.self.now c.requires.cursor (stands_inside c.args._algorithm.now c.args.self.now c.requires.cursor c.requires.left)

pub step-requires-clause-at : goal.step-requires-clause-at
unfolding IsCursor
step-requires-clause-at c = stands_at c.args._algorithm.now c.args.self.now c.requires.cursor (stands_inside c.args._algorithm.now c.args.self.now c.requires.cursor c.requires.left)

pub returns-clause-step : goal.returns-clause-step
unfolding IsCursor
returns-clause-step c =
    stands_step c.args._algorithm.now c.args.self.now c.step.result c.requires.cursor (stands_inside c.args._algorithm.now c.args.self.now c.requires.cursor c.requires.left) c.step.ensures.step
