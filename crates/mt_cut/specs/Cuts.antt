-- Cuts of a pass into runs of next slices, of which each is one tick. A pass is told by the accesses of its slices.
use Rattle.std.specs.Prelude.{ℕ, suc, zero, ◌+◌, ◌-◌, ◌<◌, ◌≤◌, ◌≡◌, List, [], ◌∷◌, length, take, drop, sum, All, slice_index, position, Option, None, if◌then◌else◌, nat_le, nat_lt}

-- the runs of a cut: so many slices at the front, and then the runs of the rest
abbrev pub runs : List ℕ → List ℕ → List (List ℕ)
runs [] holds = []
runs (n ∷ cut) holds = take n holds ∷ runs cut (drop n holds)

-- A cut of a pass: positive numbers whose sum is the number of its slices.
pub record IsCut (holds cut : List ℕ) : Type 0 where
  pub positive : All (λ n. 1 ≤ n) cut
  pub whole : sum cut ≡ length holds

-- It is under a budget where the accesses of no run are more.
pub record IsCutUnder (budget : ℕ) (holds cut : List ℕ) : Type 0 where
  pub cuts : IsCut holds cut
  pub under : All (λ run. sum run ≤ budget) (runs cut holds)

-- The fewest ticks under a budget: some cut under it has so many, and none has fewer.
pub record IsLeast (budget : ℕ) (holds : List ℕ) (ticks : ℕ) : Type 0 where
  pub cut : List ℕ
  pub under : IsCutUnder budget holds cut
  pub many : length cut ≡ ticks
  pub least : (other : List ℕ) → IsCutUnder budget holds other → ticks ≤ length other

-- some slice alone is above a budget
pub record Exceeds (budget : ℕ) (holds : List ℕ) : Type 0 where
  pub index : ℕ
  pub there : index < length holds
  pub above : budget < slice_index holds index

-- The longest run at the front within a budget: with one slice more it would be above it.
pub record IsLongest (budget : ℕ) (holds : List ℕ) (n : ℕ) : Type 0 where
  pub there : n ≤ length holds
  pub within : sum (take n holds) ≤ budget
  pub longest : n < length holds → budget < sum (take (n + 1) holds)

-- how many slices it has
abbrev pub longest : ℕ → List ℕ → ℕ
longest budget [] = 0
longest budget (hold ∷ more) = if nat_le hold budget then suc (longest (budget - hold) more) else 0

-- the cut in which each run in turn is the longest within a budget, of at most so many runs; a run has its first slice in any case
abbrev pub longest_runs_up_to : ℕ → ℕ → List ℕ → List ℕ
longest_runs_up_to zero budget holds = []
longest_runs_up_to (suc most) budget [] = []
longest_runs_up_to (suc most) budget (hold ∷ more) =
    suc (longest (budget - hold) more) ∷ longest_runs_up_to most budget (drop (longest (budget - hold) more) more)

unfoldable pub longest_runs : ℕ → List ℕ → List ℕ
longest_runs budget holds = longest_runs_up_to (length holds) budget holds

-- the number of the first slice that alone is above a budget, counted from 0
abbrev pub first_above : ℕ → List ℕ → Option ℕ
first_above budget holds = position (λ hold. nat_lt budget hold) holds

-- Where there is none, the longest runs are a cut under the budget, and no cut under it has fewer ticks.
abbrev pub LongestRunsAreUnder : Type 0
LongestRunsAreUnder = (budget : ℕ) (holds : List ℕ) → first_above budget holds ≡ None → IsCutUnder budget holds (longest_runs budget holds)

abbrev pub LongestRunsAreLeast : Type 0
LongestRunsAreLeast = (budget : ℕ) (holds : List ℕ) → first_above budget holds ≡ None → IsLeast budget holds (length (longest_runs budget holds))
