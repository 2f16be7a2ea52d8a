use Rattle.std.proofs.Common.{◌+◌, arith}
use Rattle.mt_plan.proofs.Standing.{made_few, before_part, begins_part, begins_none}
use Rattle.mt_plan.proofs.cursor.Steps.begin_part.Goals as goal

pub overflow_add-self : goal.overflow_add-self
overflow_add-self c = omega (arith, made_few c.args.algorithm.now c.args.self.now c.requires.cursor c.requires.part)

pub returns-then-part-part_count-clause-cursor : goal.returns-then-part-part_count-clause-cursor
returns-then-part-part_count-clause-cursor c =
    let s = c.args.self.now in
    let is = c.requires.cursor in
    begins_part c.args.algorithm.now s.n (s.made + 1) s.rows (s.place.part + 1) c.len-self.result c.line_at-self.result c.load_element.new.element
    is.accepted is.some is.small is.rows (before_part c.args.algorithm.now s is c.requires.part c.requires.done c.requires.last)
    (omega (arith, c.if-part-part_count.true, c.part_count.ensures.count)) c.load_element.ensures c.line_at-self.ensures.line c.len-self.ensures.len

pub returns-else-part-part_count-clause-cursor : goal.returns-else-part-part_count-clause-cursor
returns-else-part-part_count-clause-cursor c =
    let s = c.args.self.now in
    let is = c.requires.cursor in
    begins_none c.args.algorithm.now s (s.made + 1) (s.place.part + 1)
    is.accepted is.some is.small is.rows (before_part c.args.algorithm.now s is c.requires.part c.requires.done c.requires.last)
    (omega (arith, c.if-part-part_count.false, c.part_count.ensures.count, c.requires.part))
