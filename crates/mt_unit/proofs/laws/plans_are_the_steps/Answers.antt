use Rattle.mt_unit.proofs.Bytes.{plans_back}
use Rattle.mt_unit.proofs.laws.plans_are_the_steps.Goals as goal

pub returns : goal.returns
returns c = plans_back
