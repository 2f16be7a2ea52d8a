use Rattle.std.proofs.Common.{arith}
use Rattle.mt_plan.proofs.Spans.{row_end_some, row_few, stands_along}
use Rattle.mt_plan.proofs.cursor.Steps.pass_row.Goals as goal

pub overflow_sub-last : goal.overflow_sub-last
overflow_sub-last c = row_end_some c.args.algorithm.now c.args.self.now c.requires.cursor c.requires.part

pub overflow_add-self : goal.overflow_add-self
overflow_add-self c = omega (arith, c.requires.at, row_few c.args.algorithm.now c.args.self.now c.requires.cursor c.requires.part)
