-- What a page is answered.
use Rattle.std.specs.Prelude.{ℕ, ◌<◌, ◌≡◌, ◌⊎◌, List, [], ◌∷◌, length, take, map, Option, Some, None, String, string_bytes}
use Rattle.std.specs.declared.alloc.Global.{Global}
use Rattle.std.specs.Str.Lossy.{utf8_lossy}
use Rattle.std.specs.Fmt.{decimal}
use Rattle.mt_replay.specs.declared.form.Asked.{Asked}
use Rattle.mt_replay.specs.declared.form.Asked.TheVariants as asks
use Rattle.mt_replay.specs.declared.status.Status.{Status}
use Rattle.mt_replay.specs.declared.status.Status.TheVariants as status
use Rattle.mt_replay.specs.Input.{Finished}
use Rattle.mt_replay.specs.Outcome.{Outcome, outcome, said}
use Rattle.mt_replay.specs.Locate.{locating}
use Rattle.mt_replay.specs.Verify.{verifying}
use Rattle.mt_replay.specs.Soak.{soaked}
use Rattle.mt_replay.specs.Replay.{form_of, usage_text}
use Rattle.mt_replay.specs.Status.{exit_number}
use Rattle.mt_explain.specs.declared.input.Input.{Input}
use Rattle.mt_explain.specs.Inputs.{HasStatus}

-- these words are a form, where U+FFFD stands for what is no UTF-8, and numbers in decimal digits
abbrev pub Spells : List (String Global) → (form numbers : List ℕ) → Type 0
Spells words form numbers = map string_bytes words ≡ utf8_lossy form ∷ map decimal numbers

-- what is asked for gives this of a job that is read to its end, on a board without a defect
abbrev pub given : Option Asked → List ℕ → Outcome
given (Some (asks.Job form)) job = outcome form Finished None job
given (Some asks.Locate) job = locating Finished job
given (Some asks.Verify) job = verifying None Finished job
given (Some (asks.Soak number)) job = soaked number None
given None job = said usage_text status.Usage

-- Nothing was written for want of memory; or the beginning of the text, for want of room; or the whole text, and its status is answered.
abbrev pub Gives : Status → Outcome → List ℕ → Type 0
Gives status.NoMemory outcome text = text ≡ []
Gives status.WriteFault outcome text = (count : ℕ) × (count < length outcome.text) × (text ≡ take count outcome.text)
Gives how outcome text = (how ≡ outcome.status) × (text ≡ outcome.text)

-- The text and the exit number are those that the words of the form and its numbers give for the job.
pub record Answers (form numbers job text : List ℕ) (number : ℕ) : Type 0 where
  pub how : Status
  pub exits : exit_number how ≡ number
  pub gives : (words : List (String Global)) → Spells words form numbers → Gives how (given (form_of words) job) text

-- the job gives this status in a form, or nothing was explained for want of memory or of room
abbrev pub IsRefusedSo : List ℕ → Status → Type 0
IsRefusedSo job how = ((input : Input) × HasStatus input job how) ⊎ ((how ≡ status.NoMemory) ⊎ (how ≡ status.WriteFault))

-- the exit number is that of such a status
abbrev pub Explains : List ℕ → ℕ → Type 0
Explains job number = (how : Status) × (exit_number how ≡ number) × IsRefusedSo job how
