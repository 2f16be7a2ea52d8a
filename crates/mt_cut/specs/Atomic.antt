-- The greatest slice for a wait.
use Rattle.std.specs.Prelude.{ℕ, suc, zero, ◌-◌, ◌<◌, ◌≤◌, Bool, All, Contains, Option, Some, None, if◌then◌else◌, nat_le}
use Rattle.std.specs.List.{list_all}
use Rattle.mt_plan.specs.Plan.{hold_of}
use Rattle.mt_blocks.specs.declared.config.Block.{Block}
use Rattle.mt_blocks.specs.declared.config.ParamSet.{ParamSet}

-- A request that comes while a sequence of so many words runs waits at most so long, under each policy that a block of the set has.
abbrev pub WaitsAtMost : ParamSet → (wait words : ℕ) → Type 0
WaitsAtMost set wait words = All (λ (b : Block). hold_of set.alg b.policy words - 1 ≤ wait) set.blocks

-- the greatest such number of words from 1 to 64
pub record IsLargest (set : ParamSet) (wait words : ℕ) : Type 0 where
  pub some : 1 ≤ words
  pub small : words ≤ 64
  pub waits : WaitsAtMost set wait words
  pub largest : (more : ℕ) → words < more → more ≤ 64 → ¬ WaitsAtMost set wait more

abbrev pub HasNoLargest : ParamSet → ℕ → Type 0
HasNoLargest set wait = (words : ℕ) → 1 ≤ words → words ≤ 64 → ¬ WaitsAtMost set wait words

-- Of such a number of words and of fewer, a request that waits less than the sequence has accesses waits at most so long. So does one that
-- comes while the sequence runs, and is served at its end.
abbrev pub LargestBoundsWaits : Type 0
LargestBoundsWaits =
    (set : ParamSet) (wait words fewer waited : ℕ) (b : Block) → IsLargest set wait words → fewer ≤ words → Contains set.blocks b
    → waited < hold_of set.alg b.policy fewer → waited ≤ wait

-- the same as a test, and as a search from a number down
abbrev pub waits_at_most : ParamSet → (wait words : ℕ) → Bool
waits_at_most set wait words = list_all (λ (b : Block). nat_le (hold_of set.alg b.policy words - 1) wait) set.blocks

unfoldable pub largest_up_to : ℕ → ParamSet → ℕ → Option ℕ
largest_up_to zero set wait = None
largest_up_to (suc words) set wait = if waits_at_most set wait (suc words) then Some (suc words) else largest_up_to words set wait

unfoldable pub largest : ParamSet → ℕ → Option ℕ
largest set wait = largest_up_to 64 set wait
