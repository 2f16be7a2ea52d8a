use Rattle.std.proofs.Common.{ℕ, ◌≤◌, List, sym, ◌∙◌, subst}
use Rattle.std.specs.Prelude.{All}
use Rattle.mt_unit.proofs.Ranges.{lengths_within}
use Rattle.mt_unit.proofs.source.say_plans.Goals as goal

pub say_each_plan-requires-clause-lengths : goal.say_each_plan-requires-clause-lengths
say_each_plan-requires-clause-lengths c =
    subst (λ (l : List ℕ). All (λ (n : ℕ). (1 ≤ n) × (n ≤ 64)) l) (sym (c.as_slice.ensures.value ∙ c.lengths_of-lengths.ensures)) (lengths_within c.args.set.now)
