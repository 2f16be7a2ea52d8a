-- The trace that `run` writes for a job is the one that `verify` expects after its script.
use Rattle.std.specs.Prelude.{ℕ, ◌≡◌, ◌≤◌, ◌+◌, List, [], ◌∷◌, ◌++◌, length, Option, None, Ok}
use Rattle.std.specs.List.{sum_by}
use Rattle.mt_fault.specs.declared.fault.Fault.{Fault}
use Rattle.mt_conf.specs.declared.config.Config.{Config}
use Rattle.mt_conf.specs.Outcome.{outcome as config_of}
use Rattle.mt_replay.specs.declared.form.Form.TheVariants as forms
use Rattle.mt_replay.specs.declared.status.Status.TheVariants as status
use Rattle.mt_replay.specs.Input.{Finished, Cut, cut, Parted, separator, job_of}
use Rattle.mt_replay.specs.Outcome.{Outcome, outcome}
use Rattle.mt_replay.specs.Verify.{script_limit, judged_by, verifying}

-- a job, and a trace after its script
abbrev pub with_trace : (bytes trace : List ℕ) → List ℕ
with_trace bytes trace = bytes ++ ((separator ++ 10 ∷ []) ++ trace)

-- what `run` gives for a whole input
abbrev pub ran : Option Fault → List ℕ → Outcome
ran defect bytes = outcome forms.Run Finished defect bytes

-- how many bytes lines have, with a line feed after each
abbrev pub size_of : List (List ℕ) → ℕ
size_of lines = sum_by (λ line. length line + 1) lines

-- If `run` accepts an input that ends with a line feed, and its script has no more bytes than `verify` takes, then `verify` answers that the
-- trace which `run` writes is the same. It makes the same replay, on a board with any defect or none.
abbrev pub OwnTracesAreTheSame : Type 0
OwnTracesAreTheSame =
    (defect : Option Fault) (bytes config : List ℕ) (script : Cut) (c : Config)
    → job_of Finished bytes ≡ Parted config script → config_of config ≡ Ok c → (ran defect bytes).status ≡ status.Done
    → (cut bytes).rest ≡ [] → size_of script.lines ≤ script_limit
    → verifying defect Finished (with_trace bytes (ran defect bytes).text) ≡ judged_by (ran defect bytes) None
