use Rattle.std.proofs.Common.{ℕ, ◌≤◌, List, sym, ◌∙◌, subst}
use Rattle.std.specs.Prelude.{All}
use Rattle.mt_unit.proofs.Ranges.{lengths_within}
use Rattle.mt_unit.proofs.numbers.push_tables.Goals as goal

pub push_plans-requires-clause-lengths : goal.push_plans-requires-clause-lengths
push_plans-requires-clause-lengths c =
    subst (λ (l : List ℕ). All (λ (n : ℕ). (1 ≤ n) × (n ≤ 64)) l) (sym (c.as_slice.ensures.value ∙ c.lengths_of-lengths.ensures)) (lengths_within c.args.set.now)

pub push_plan_rows-requires-clause-lengths : goal.push_plan_rows-requires-clause-lengths
push_plan_rows-requires-clause-lengths c =
    subst (λ (l : List ℕ). All (λ (n : ℕ). (1 ≤ n) × (n ≤ 64)) l) (sym (c.as_slice-2.ensures.value ∙ c.lengths_of-lengths.ensures)) (lengths_within c.args.set.now)
