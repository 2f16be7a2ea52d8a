use Rattle.std.proofs.Common.{arith}
use Rattle.mt_plan.proofs.Spans.{element_few, stands_last}
use Rattle.mt_plan.proofs.cursor.Steps.pass_rows.Goals as goal

pub overflow_add-self : goal.overflow_add-self
overflow_add-self c = omega (arith, element_few c.args.algorithm.now c.args.self.now c.requires.cursor c.requires.part c.requires.on c.requires.row c.requires.at)

pub begin_part-requires-clause-cursor : goal.begin_part-requires-clause-cursor
begin_part-requires-clause-cursor c =
    stands_last c.args.algorithm.now c.args.self.now c.cell_of.result c.requires.cursor c.requires.part c.requires.on c.requires.row c.requires.at c.cell_of.ensures.cell
