use Rattle.std.proofs.Common.{◌≡◌, ◌++◌, map, take}
use Rattle.mt_plan.specs.Plan.{steps_of}
use Rattle.mt_unit.specs.Plans.{byte_of}
use Rattle.mt_unit.proofs.plan.push_plan.Given as goal

abbrev pub invariant-loop-index : goal.invariant-loop-index
invariant-loop-index l = l.out.items ≡ l.initial.out.items ++ map byte_of (take l.index (steps_of l.algorithm l.n))
