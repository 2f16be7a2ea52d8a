use Rattle.std.proofs.Common.{arith, sym, ◌∙◌}
use Rattle.mt_plan.specs.Cursor.{IsCursor}
use Rattle.mt_plan.proofs.Standing.{stands_inside}
use Rattle.mt_plan.proofs.Spans.{element_some, element_span_len, product_few, row_end_some, row_span_len}
use Rattle.mt_plan.proofs.cursor.Steps.span_len.Goals as goal

pub overflow_mul-result : goal.overflow_mul-result
unfolding IsCursor
overflow_mul-result c =
    omega (arith, product_few c.args._algorithm.now c.args.self.now c.requires.cursor (stands_inside c.args._algorithm.now c.args.self.now c.requires.cursor c.requires.left) (sym c.is_on_cell.ensures ∙ c.if-is_on_cell.true))

pub returns-then-is_on_cell-clause-len : goal.returns-then-is_on_cell-clause-len
unfolding IsCursor
returns-then-is_on_cell-clause-len c =
    element_span_len c.args._algorithm.now c.args.self.now (c.requires.cursor.row (stands_inside c.args._algorithm.now c.args.self.now c.requires.cursor c.requires.left)) (sym c.is_on_cell.ensures ∙ c.if-is_on_cell.true)

pub returns-then-is_on_cell-clause-some : goal.returns-then-is_on_cell-clause-some
unfolding IsCursor
returns-then-is_on_cell-clause-some c = element_some c.args._algorithm.now c.args.self.now c.requires.cursor (stands_inside c.args._algorithm.now c.args.self.now c.requires.cursor c.requires.left)

pub returns-else-is_on_cell-clause-len : goal.returns-else-is_on_cell-clause-len
unfolding IsCursor
returns-else-is_on_cell-clause-len c =
    row_span_len c.args._algorithm.now c.args.self.now (c.requires.cursor.row (stands_inside c.args._algorithm.now c.args.self.now c.requires.cursor c.requires.left)) (sym c.is_on_cell.ensures ∙ c.if-is_on_cell.false)

pub returns-else-is_on_cell-clause-some : goal.returns-else-is_on_cell-clause-some
unfolding IsCursor
returns-else-is_on_cell-clause-some c = row_end_some c.args._algorithm.now c.args.self.now c.requires.cursor (stands_inside c.args._algorithm.now c.args.self.now c.requires.cursor c.requires.left)
