-- A stream's answers by those of a reader or a writer of std.
use Rattle.std.specs.Prelude.{ℕ, zero, suc, ◌≡◌, Result, Ok, Err, IsErr}
use Rattle.mt_port.specs.Causes.{Rose}
use Rattle.mt_port.specs.declared.stream.Failed.{Failed}

-- the same answer where it is Ok, else a failure, which is counted
abbrev pub Counts : {E : Type 0} → Result ℕ E → Result ℕ Failed → (before now : ℕ) → Type 0
Counts (Ok n) result before now = (result ≡ Ok n) × (now ≡ before)
Counts (Err e) result before now = IsErr result × Rose before now

-- A writer's answer where it took something, or where there was nothing to take; else a failure.
abbrev pub Takes : {E : Type 0} → Result ℕ E → Result ℕ Failed → (size : ℕ) → Type 0
Takes (Ok zero) result zero = result ≡ Ok 0
Takes (Ok zero) result (suc more) = IsErr result
Takes (Ok (suc n)) result size = result ≡ Ok (suc n)
Takes (Err e) result size = IsErr result
