use Rattle.mt_plan.specs.Cursor.{IsCursor}
use Rattle.mt_plan.proofs.Standing.{stands_line, stands_inside}
use Rattle.mt_plan.proofs.Spans.{cursor_march}
use Rattle.mt_plan.proofs.cursor.Steps.line.Goals as goal

pub returns-clause-inside : goal.returns-clause-inside
unfolding IsCursor
returns-clause-inside c = stands_line c.args._algorithm.now c.args.self.now c.requires.cursor (stands_inside c.args._algorithm.now c.args.self.now c.requires.cursor c.requires.left)

pub returns-clause-march : goal.returns-clause-march
unfolding IsCursor
returns-clause-march c = cursor_march c.args._algorithm.now c.args.self.now c.requires.cursor (stands_inside c.args._algorithm.now c.args.self.now c.requires.cursor c.requires.left)
