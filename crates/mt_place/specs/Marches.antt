-- Marches that are refused.
use Rattle.std.specs.Prelude.{ℕ, ◌≡◌, ◌<◌, ◌+◌, ◌==◌, if◌then◌else◌, List, length, slice_index, Option, Some, None, Result, Err}
use Rattle.mt_march.specs.Reading.{march_number}
use Rattle.mt_conf.specs.declared.config.Config.{Config}
use Rattle.mt_conf.specs.declared.config.ConfigRefusal.{ConfigRefusal}
use Rattle.mt_conf.specs.declared.config.ConfigRefusal.TheVariants.{March}
use Rattle.mt_conf.specs.Outcome.{outcome}

-- somewhere the letter r stands before the digit
abbrev pub Reads : ℕ → List ℕ → Type 0
Reads digit text = (k : ℕ) × (k + 1 < length text) × (slice_index text k ≡ 114) × (slice_index text (k + 1) ≡ digit)

-- the number of the rule of marches by which a configuration is refused, if it is by one
abbrev pub broken_march : Result Config ConfigRefusal → Option ℕ
broken_march (Err (March set kind place)) = Some (march_number kind)
broken_march read = None

-- the same, for the rule of configurations with the number 11
abbrev pub march_rule : ℕ → List ℕ → Option ℕ
march_rule code config = if code == 11 then broken_march (outcome config) else None
