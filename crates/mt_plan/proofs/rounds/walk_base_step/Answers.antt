use Rattle.std.proofs.Common.{arith}
use Rattle.mt_plan.proofs.Bases.{walk_read, walk_own, walk_back}
use Rattle.mt_plan.proofs.rounds.walk_base_step.Goals as goal

pub returns-then-at-n-clause-step : goal.returns-then-at-n-clause-step
returns-then-at-n-clause-step c =
    rw c.reading.ensures (walk_read c.args.flipped c.args.n c.args.base c.args.at c.other_cell.result c.requires.base (omega arith) (omega arith) c.other_cell.ensures.before c.other_cell.ensures.after)

pub returns-then-at-n-2-clause-step : goal.returns-then-at-n-2-clause-step
returns-then-at-n-2-clause-step c =
    rw c.reading-then-at-n-2.ensures (walk_own c.args.flipped c.args.n c.args.base c.args.at c.requires.base (omega arith))

pub returns-else-at-n-2-clause-step : goal.returns-else-at-n-2-clause-step
returns-else-at-n-2-clause-step c =
    rw c.writing-else-at-n-2.ensures (walk_back c.args.flipped c.args.n c.args.base c.args.at c.requires.base (omega arith))
