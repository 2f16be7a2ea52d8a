use Rattle.mt_plan.specs.Cursor.{IsCursor}
use Rattle.mt_plan.proofs.Standing.{stands_inside}
use Rattle.mt_plan.proofs.cursor.Steps.advance.Goals as goal

pub go_on-requires-clause-cursor : goal.go_on-requires-clause-cursor
unfolding IsCursor
go_on-requires-clause-cursor c = c.requires.cursor

pub go_on-requires-clause-part : goal.go_on-requires-clause-part
unfolding IsCursor
go_on-requires-clause-part c = stands_inside c.args.algorithm.now c.args.self.now c.requires.cursor c.requires.left

pub returns-clause-cursor : goal.returns-clause-cursor
unfolding IsCursor
returns-clause-cursor c = c.go_on.ensures.cursor
