use Rattle.std.proofs.Common.{◌∙◌, sym}
use Rattle.std.proofs.lemmas.Bool.{eqb-true}
use Rattle.mt_plan.specs.Cursor.{IsCursor}
use Rattle.mt_plan.proofs.Standing.{stands_inside}
use Rattle.mt_plan.proofs.Spans.{next_element_span, next_row_span}
use Rattle.mt_plan.proofs.cursor.Steps.begins_span.Goals as goal

pub returns-then-self-eq0-clause-next : goal.returns-then-self-eq0-clause-next
unfolding IsCursor
returns-then-self-eq0-clause-next c = λ at.
    next_element_span c.args._algorithm.now c.args.self.now c.requires.cursor (stands_inside c.args._algorithm.now c.args.self.now c.requires.cursor c.requires.left)
    (sym c.is_on_cell.ensures ∙ c.if-is_on_cell.true) c.if-self-eq0.true (eqb-true _ _ at)

pub returns-else-is_on_cell-clause-next : goal.returns-else-is_on_cell-clause-next
unfolding IsCursor
returns-else-is_on_cell-clause-next c = λ at.
    next_row_span c.args._algorithm.now c.args.self.now c.requires.cursor (stands_inside c.args._algorithm.now c.args.self.now c.requires.cursor c.requires.left)
    (sym c.is_on_cell.ensures ∙ c.if-is_on_cell.false) (eqb-true _ _ at)
