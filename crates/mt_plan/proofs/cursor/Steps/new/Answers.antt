use Rattle.std.proofs.Common.{refl}
use Rattle.mt_plan.specs.Cursor.{IsCursor}
use Rattle.mt_plan.proofs.Standing.{begins_part, some_part, some_row}
use Rattle.mt_plan.proofs.cursor.Steps.new.Goals as goal

pub element_at-element-requires-clause-part : goal.element_at-element-requires-clause-part
element_at-element-requires-clause-part c = some_part c.args.algorithm.now c.requires.accepted

pub line_at-line-requires-clause-row : goal.line_at-line-requires-clause-row
line_at-line-requires-clause-row c = some_row c.args.algorithm.now c.args.n c.requires.some

pub returns-clause-cursor : goal.returns-clause-cursor
unfolding IsCursor
returns-clause-cursor c =
    begins_part c.args.algorithm.now c.args.n 0 c.row_count.result 0 c.len.result c.line_at-line.result c.element_at-element.result
    c.requires.accepted c.requires.some c.requires.small c.row_count.ensures.count refl (some_part c.args.algorithm.now c.requires.accepted)
    c.element_at-element.ensures c.line_at-line.ensures.line c.len.ensures.len
