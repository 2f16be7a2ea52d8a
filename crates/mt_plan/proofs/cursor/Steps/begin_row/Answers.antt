use Rattle.std.proofs.Common.{refl, arith}
use Rattle.mt_plan.proofs.Standing.{made_few, stands_row, stands_cell}
use Rattle.mt_plan.proofs.cursor.Steps.begin_row.Goals as goal

pub overflow_add-self : goal.overflow_add-self
overflow_add-self c = omega (arith, made_few c.args.algorithm.now c.args.self.now c.requires.cursor c.requires.part)

pub returns-in-OnCell-clause-cursor : goal.returns-in-OnCell-clause-cursor
returns-in-OnCell-clause-cursor c =
    stands_cell c.args.algorithm.now c.args.self.now _ c.cell_of.result c.requires.cursor c.requires.part c.requires.done c.requires.more c.in-OnCell.is c.cell_of.ensures.cell

pub returns-in-EachCell : goal.returns-in-EachCell
returns-in-EachCell c = record {
  cursor = stands_row c.args.algorithm.now c.args.self.now c.line_at-self.result c.len-self.result c.requires.cursor c.requires.part c.requires.done c.requires.more c.line_at-self.ensures.line c.len-self.ensures.len;
  cells = refl;
  made = refl;
}
