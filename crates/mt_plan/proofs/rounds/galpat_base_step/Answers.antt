use Rattle.std.proofs.Common.{arith}
use Rattle.mt_plan.proofs.Bases.{galpat_read, galpat_own, galpat_back}
use Rattle.mt_plan.proofs.rounds.galpat_base_step.Goals as goal

pub returns-then-at-n-clause-step : goal.returns-then-at-n-clause-step
returns-then-at-n-clause-step c =
    rw c.writing-then-at-n.ensures (galpat_back c.args.flipped c.args.n c.args.base c.args.at c.requires.base (omega arith))

pub returns-then-at-eq1-clause-step : goal.returns-then-at-eq1-clause-step
returns-then-at-eq1-clause-step c =
    rw c.reading.ensures (galpat_own c.args.flipped c.args.n c.args.base c.args.at c.requires.base (omega arith) (omega arith))

pub returns-else-at-eq1-clause-step : goal.returns-else-at-eq1-clause-step
returns-else-at-eq1-clause-step c =
    rw c.reading-else-at-eq1.ensures (galpat_read c.args.flipped c.args.n c.args.base c.args.at c.other_cell.result c.requires.base (omega arith) (omega arith) (omega arith) c.other_cell.ensures.before c.other_cell.ensures.after)
