-- The steps of an algorithm on the cells of a slice, and how many they are.
use Rattle.std.specs.Prelude.{ℕ, ◌+◌, ◌*◌, List, length}
use Rattle.mt_march.specs.Accepted.{IsAcceptedMarch, operations}
use Rattle.mt_plan.specs.declared.algorithm.Algorithm.{Algorithm}
use Rattle.mt_plan.specs.declared.algorithm.Algorithm.TheVariants.{Checkerboard, March as Marches, WalkPath, Galpat, TransparentGalpat}
use Rattle.mt_plan.specs.declared.algorithm.Policy.{Policy}
use Rattle.mt_plan.specs.declared.algorithm.Policy.TheVariants.{NonDestructive, Destructive}
use Rattle.mt_plan.specs.declared.algorithm.Step.{Step}
use Rattle.mt_plan.specs.Lists.{cells, checkerboard_on, march_on, walk_on, galpat_on}

-- the steps of an algorithm on n cells
unfoldable pub steps_of : Algorithm → ℕ → List Step
steps_of Checkerboard n = checkerboard_on (cells n)
steps_of (Marches march) n = march_on (cells n) march.elements.items
steps_of WalkPath n = walk_on (cells n)
steps_of Galpat n = galpat_on (cells n)
steps_of TransparentGalpat n = galpat_on (cells n)

-- a march in the algorithm is an accepted one
abbrev pub IsAccepted : Algorithm → Type 0
IsAccepted Checkerboard = Unit {0}
IsAccepted (Marches march) = IsAcceptedMarch march.elements.items
IsAccepted WalkPath = Unit {0}
IsAccepted Galpat = Unit {0}
IsAccepted TransparentGalpat = Unit {0}

-- how many steps there are
unfoldable pub step_count : Algorithm → ℕ → ℕ
step_count Checkerboard n = 4 * n
step_count (Marches march) n = length (operations march.elements.items) * n
step_count WalkPath n = 2 * (n * n) + 6 * n
step_count Galpat n = 4 * (n * n) + 4 * n
step_count TransparentGalpat n = 4 * (n * n) + 4 * n

-- how many accesses save and restore n cells, or fill them
abbrev pub frame_of : Policy → ℕ → ℕ
frame_of NonDestructive n = 2 * n
frame_of Destructive n = n

-- how many accesses a sequence has, which interrupts wait for
abbrev pub hold_of : Algorithm → Policy → ℕ → ℕ
hold_of algorithm policy n = step_count algorithm n + frame_of policy n
