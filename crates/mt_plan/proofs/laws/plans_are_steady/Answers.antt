use Rattle.mt_plan.proofs.SteadyPlans.{steady_plans}
use Rattle.mt_plan.proofs.laws.plans_are_steady.Goals as goal

pub returns : goal.returns
returns c = steady_plans
