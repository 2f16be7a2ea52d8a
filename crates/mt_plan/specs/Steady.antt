-- Plans whose reads expect what was written.
use Rattle.std.specs.Prelude.{ℕ, ◌<◌, All, ◌==◌, ◌≡◌, ◌&&◌, Bool, true, if◌then◌else◌, List, [], ◌∷◌, Option, Some, None, length}
use Rattle.mt_march.specs.Accepted.{wrote}
use Rattle.mt_plan.specs.declared.algorithm.Algorithm.{Algorithm}
use Rattle.mt_plan.specs.declared.algorithm.Step.{Step}
use Rattle.mt_plan.specs.Lists.{is_write, is_flipped}
use Rattle.mt_plan.specs.Plan.{IsAccepted, steps_of, step_count}

-- whether each read of a cell expects what the last write to it wrote
abbrev pub steady : ℕ → Option Bool → List Step → Bool
steady cell written [] = true
steady cell written (t ∷ more) =
    if t.cell == cell
    then (if is_write t.act then steady cell (Some (is_flipped t.act)) more else wrote written (is_flipped t.act) && steady cell written more)
    else steady cell written more

-- no read comes before a write to its cell, and each expects what the last one wrote
abbrev pub IsSteady : List Step → Type 0
IsSteady steps = (cell : ℕ) → steady cell None steps ≡ true

-- the steps are those of cells below n
abbrev pub IsInside : ℕ → List Step → Type 0
IsInside n steps = All (λ (t : Step). t.cell < n) steps

-- The steps are steady, and stay on n cells.
pub record IsSteadyOn (n : ℕ) (steps : List Step) : Type 0 where
  pub steady : IsSteady steps
  pub inside : IsInside n steps

-- the plans of all algorithms are steady, and stay on their cells
abbrev pub PlansAreSteady : Type 0
PlansAreSteady = (algorithm : Algorithm) (n : ℕ) → IsAccepted algorithm → IsSteadyOn n (steps_of algorithm n)

-- the list of an algorithm is as long as its closed form says
abbrev pub PlansAreCounted : Type 0
PlansAreCounted = (algorithm : Algorithm) (n : ℕ) → length (steps_of algorithm n) ≡ step_count algorithm n
