-- What canonical form keeps.
use Rattle.std.specs.Prelude.{ℕ, ◌≡◌, ◌≢◌, ◌≤◌, List, length, All, Option, Ok}
use Rattle.mt_fault.specs.declared.fault.Fault.{Fault}
use Rattle.mt_conf.specs.declared.config.Config.{Config}
use Rattle.mt_conf.specs.Outcome.{outcome as config_of}
use Rattle.mt_conf.specs.Canonical.{config_text}
use Rattle.mt_replay.specs.declared.form.Form.{Form}
use Rattle.mt_replay.specs.declared.form.Form.TheVariants as forms
use Rattle.mt_replay.specs.declared.status.Status.TheVariants as status
use Rattle.mt_replay.specs.Input.{Finished, Cut, cut, Parted, job_of}
use Rattle.mt_replay.specs.Script.{script_from}
use Rattle.mt_replay.specs.Outcome.{Outcome, migrated, canonical_lines, outcome}

-- what `fmt` gives for a whole input
abbrev pub formatted : Option Fault → List ℕ → Outcome
formatted defect bytes = outcome forms.Format Finished defect bytes

-- no line is longer than the line of a script may be
abbrev pub HasShortLines : List ℕ → Type 0
HasShortLines text = All (λ line. length line ≤ 1024) (cut text).lines

-- what `migrate` gives for a whole input
abbrev pub migrated_outcome : Option Fault → List ℕ → Outcome
migrated_outcome defect bytes = outcome forms.Migrate Finished defect bytes

-- An input is accepted with a configuration. Where the configuration's canonical text is read back to it and is no longer than that of a job
-- may be, and no canonical line is too long, the text that `fmt` writes gives in each form what the input gives; with `fmt`, that text again.
abbrev pub FormattingKeepsOutcomes : Type 0
FormattingKeepsOutcomes =
    (form : Form) (defect : Option Fault) (bytes config : List ℕ) (script : Cut) (c : Config)
    → job_of Finished bytes ≡ Parted config script → config_of config ≡ Ok c → (formatted defect bytes).status ≡ status.Done
    → config_of (config_text c) ≡ Ok c → length (config_text c) ≤ 65536 → HasShortLines (canonical_lines c.shape (script_from c.shape Finished 1 script).lines)
    → outcome form Finished defect (formatted defect bytes).text ≡ outcome form Finished defect bytes

-- The same of the text that `migrate` writes, in each form but `fmt`, which tells the version: the job that is migrated replays to the same
-- steps, text, status and board, for every defect; and it is migrated already.
abbrev pub MigratingKeepsOutcomes : Type 0
MigratingKeepsOutcomes =
    (form : Form) (defect : Option Fault) (bytes config : List ℕ) (script : Cut) (c : Config) → form ≢ forms.Format
    → job_of Finished bytes ≡ Parted config script → config_of config ≡ Ok c → (migrated_outcome defect bytes).status ≡ status.Done
    → config_of (config_text (migrated c)) ≡ Ok (migrated c) → length (config_text (migrated c)) ≤ 65536 → HasShortLines (canonical_lines c.shape (script_from c.shape Finished 1 script).lines)
    → outcome form Finished defect (migrated_outcome defect bytes).text ≡ outcome form Finished defect bytes
