-- Which status an input gives.
use Rattle.std.specs.Prelude.{List, ℕ, ◌≡◌, Option, None}
use Rattle.mt_fault.specs.declared.fault.Fault.{Fault}
use Rattle.mt_replay.specs.declared.form.Asked.{Asked}
use Rattle.mt_replay.specs.declared.form.Asked.TheVariants as asks
use Rattle.mt_replay.specs.declared.form.Form.{Form}
use Rattle.mt_replay.specs.declared.form.Form.TheVariants as forms
use Rattle.mt_replay.specs.declared.status.Status.{Status}
use Rattle.mt_replay.specs.Input.{Finished}
use Rattle.mt_replay.specs.Outcome.{outcome}
use Rattle.mt_replay.specs.Locate.{locating}
use Rattle.mt_replay.specs.Verify.{verifying}
use Rattle.mt_explain.specs.declared.input.Input.{Input}
use Rattle.mt_explain.specs.declared.input.Input.TheVariants.{Job, Location, Claim}

-- the form by which an input is read
abbrev pub asked_of : Input → Asked
asked_of Job = asks.Job forms.Check
asked_of Location = asks.Locate
asked_of Claim = asks.Verify

-- The status that the bytes give, read to their end: a job's in each form that takes jobs, on each board; a location's; a claim's on a board without a defect.
abbrev pub HasStatus : Input → List ℕ → Status → Type 0
HasStatus Job bytes status = (form : Form) (defect : Option Fault) → status ≡ (outcome form Finished defect bytes).status
HasStatus Location bytes status = status ≡ (locating Finished bytes).status
HasStatus Claim bytes status = status ≡ (verifying None Finished bytes).status
