use Rattle.mt_plan.proofs.Counts.{length-steps}
use Rattle.mt_plan.proofs.laws.lengths.Goals as goal

pub returns : goal.returns
returns c = length-steps
