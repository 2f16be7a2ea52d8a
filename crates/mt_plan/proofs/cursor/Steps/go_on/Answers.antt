use Rattle.std.proofs.Common.{arith}
use Rattle.mt_plan.proofs.Standing.{made_few, stands_on}
use Rattle.mt_plan.proofs.cursor.Steps.go_on.Goals as goal

pub overflow_add-self-then-self : goal.overflow_add-self-then-self
overflow_add-self-then-self c = omega (arith, made_few c.args.algorithm.now c.args.self.now c.requires.cursor c.requires.part)

pub returns-then-self-clause-cursor : goal.returns-then-self-clause-cursor
returns-then-self-clause-cursor c = stands_on c.args.algorithm.now c.args.self.now c.requires.cursor c.requires.part c.if-self.true
