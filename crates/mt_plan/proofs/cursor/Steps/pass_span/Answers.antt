use Rattle.std.proofs.Common.{ℕ, ◌≡◌, ◌+◌, true, false, ap, arith, sym, ◌∙◌, subst}
use Rattle.std.specs.Prelude.{Bool}
use Rattle.mt_plan.specs.Cursor.{IsCursor, is_span_place}
use Rattle.mt_plan.proofs.Standing.{stands_inside}
use Rattle.mt_plan.proofs.Spans.{element_place, element_span_len, row_place, row_span_len}
use Rattle.mt_plan.proofs.cursor.Steps.pass_span.Goals as goal

pub pass_rows-requires-clause-cursor : goal.pass_rows-requires-clause-cursor
unfolding IsCursor
pass_rows-requires-clause-cursor c = c.requires.cursor

pub pass_rows-requires-clause-part : goal.pass_rows-requires-clause-part
unfolding IsCursor
pass_rows-requires-clause-part c = stands_inside c.args.algorithm.now c.args.self.now c.requires.cursor c.requires.left

pub pass_rows-requires-clause-row : goal.pass_rows-requires-clause-row
pass_rows-requires-clause-row c = (element_place c.args.self.now c.requires.begins (sym c.is_on_cell.ensures ∙ c.if-is_on_cell.true)).0

pub pass_rows-requires-clause-at : goal.pass_rows-requires-clause-at
pass_rows-requires-clause-at c = (element_place c.args.self.now c.requires.begins (sym c.is_on_cell.ensures ∙ c.if-is_on_cell.true)).1

pub pass_row-requires-clause-cursor : goal.pass_row-requires-clause-cursor
unfolding IsCursor
pass_row-requires-clause-cursor c = c.requires.cursor

pub pass_row-requires-clause-part : goal.pass_row-requires-clause-part
unfolding IsCursor
pass_row-requires-clause-part c = stands_inside c.args.algorithm.now c.args.self.now c.requires.cursor c.requires.left

pub pass_row-requires-clause-at : goal.pass_row-requires-clause-at
pass_row-requires-clause-at c = row_place c.args.self.now c.requires.begins (sym c.is_on_cell.ensures ∙ c.if-is_on_cell.false)

pub returns-then-is_on_cell-clause-cursor : goal.returns-then-is_on_cell-clause-cursor
unfolding IsCursor
returns-then-is_on_cell-clause-cursor c = c.pass_rows.ensures.cursor

pub returns-then-is_on_cell-clause-made : goal.returns-then-is_on_cell-clause-made
unfolding IsCursor
returns-then-is_on_cell-clause-made c =
    let s = c.args.self.now in
    c.pass_rows.ensures.made
    ∙ ap (λ (k : ℕ). s.made + k)
    (element_span_len c.args.algorithm.now s (c.requires.cursor.row (stands_inside c.args.algorithm.now s c.requires.cursor c.requires.left)) (sym c.is_on_cell.ensures ∙ c.if-is_on_cell.true))

pub returns-else-is_on_cell-clause-cursor : goal.returns-else-is_on_cell-clause-cursor
unfolding IsCursor
returns-else-is_on_cell-clause-cursor c = c.pass_row.ensures.cursor

pub returns-else-is_on_cell-clause-made : goal.returns-else-is_on_cell-clause-made
unfolding IsCursor
returns-else-is_on_cell-clause-made c =
    let s = c.args.self.now in
    c.pass_row.ensures.made
    ∙ ap (λ (k : ℕ). s.made + k)
    (row_span_len c.args.algorithm.now s (c.requires.cursor.row (stands_inside c.args.algorithm.now s c.requires.cursor c.requires.left)) (sym c.is_on_cell.ensures ∙ c.if-is_on_cell.false))
