use Rattle.std.proofs.Common.{◌≡◌, ◌++◌, take}
use Rattle.std.specs.List.{flat_map}
use Rattle.mt_unit.specs.Plans.{plan_of}
use Rattle.mt_unit.proofs.numbers.push_plans.Given as goal

abbrev pub invariant-loop-n : goal.invariant-loop-n
invariant-loop-n l = l.out.items ≡ l.initial.out.items ++ flat_map (plan_of l.set.alg) (take l.n-index l.lengths)
