-- The status of an input, from what a replay that met no failure answers.
use Rattle.std.proofs.Common.{ℕ, ◌<◌, ◌≤◌, ◌≡◌, ◌⊎◌, inl, inr, Bool, true, false, cond, List, length, Option, Some, None, Result, Ok, Err, nat_lt, refl, sym, ap, ◌∙◌, subst, lit<}
use Rattle.mt_fault.specs.declared.fault.Fault.{Fault}
use Rattle.mt_conf.specs.declared.config.Config.{Config}
use Rattle.mt_conf.specs.declared.config.ConfigRefusal.{ConfigRefusal}
use Rattle.mt_conf.specs.Outcome.{outcome as config_of}
use Rattle.mt_replay.specs.declared.form.Asked.{Asked}
use Rattle.mt_replay.specs.declared.form.Form.{Form}
use Rattle.mt_replay.specs.declared.form.Form.TheVariants as forms
use Rattle.mt_replay.specs.declared.status.Status.{Status}
use Rattle.mt_replay.specs.declared.status.Status.TheVariants as status
use Rattle.mt_replay.specs.Input.{Finished, Cut, Job, Parted, Whole, job_of}
use Rattle.mt_replay.specs.Outcome.{Outcome, configured, judged_job, outcome, bad_config}
use Rattle.mt_replay.specs.declared.refused.Refused.TheVariants as because
use Rattle.mt_replay.specs.Replay.{Completes}
use Rattle.mt_explain.specs.declared.input.Input.{Input}
use Rattle.mt_explain.specs.declared.input.Input.TheVariants as input
use Rattle.mt_explain.specs.Inputs.{asked_of, HasStatus}

-- ---- each form that takes jobs gives the status that `check` gives

accepted : (form : Form) (defect : Option Fault) (read : Result Config ConfigRefusal) (behind : Cut)
    → (configured forms.Check Finished None read behind).status ≡ (configured form Finished defect read behind).status
accepted form defect (Ok config) behind = refl
accepted form defect (Err refusal) behind = refl

by_size : (long : Bool) (first x y : Outcome) → x.status ≡ y.status → (cond long first x).status ≡ (cond long first y).status
by_size true first x y same = refl
by_size false first x y same = same

parted : (form : Form) (defect : Option Fault) (job : Job)
    → (judged_job (configured forms.Check Finished None) Finished job).status ≡ (judged_job (configured form Finished defect) Finished job).status
parted form defect (Parted config behind) = by_size (nat_lt 65536 (length config)) _ _ _ (accepted form defect (config_of config) behind)
parted form defect (Whole bytes) = refl

forms_agree : (form : Form) (defect : Option Fault) (bytes : List ℕ) → (outcome forms.Check Finished None bytes).status ≡ (outcome form Finished defect bytes).status
unfolding outcome
forms_agree form defect bytes = parted form defect (job_of Finished bytes)

-- ---- what a replay over streams that do not fail answers

tells : (input : Input) (bytes : List ℕ) (how : Status) → Completes (Some (asked_of input)) how None (Some bytes) 0 0 0 0 → (how ≡ status.NoMemory → ⊥) → HasStatus input bytes how
tells input.Job bytes how h other = elim (h (refl, lit< tt) (refl, lit< tt) bytes refl) [
  | inl e ↦ λ form defect. e ∙ forms_agree form defect bytes
  | inr e ↦ absurd (other e)
]
tells input.Location bytes how h other = elim (h (refl, lit< tt) (refl, lit< tt) bytes refl) [ inl e ↦ e | inr e ↦ absurd (other e) ]
tells input.Claim bytes how h other = elim (h (refl, lit< tt) (refl, lit< tt) bytes refl) [ inl e ↦ e | inr e ↦ absurd (other e) ]

pub completed : (input : Input) (asked : Option Asked) (defect : Option Fault) (left : Option (List ℕ)) (bytes : List ℕ) (how : Status)
    → asked ≡ Some (asked_of input) → defect ≡ None → left ≡ Some bytes → Completes asked how defect left 0 0 0 0 → (how ≡ status.NoMemory → ⊥)
    → HasStatus input bytes how
completed input asked defect left bytes how a d l h other =
    let told : Completes asked how defect (Some bytes) 0 0 0 0 = subst (λ (x : Option (List ℕ)). Completes asked how defect x 0 0 0 0) l h in
    let sound : Completes asked how None (Some bytes) 0 0 0 0 = subst (λ (x : Option Fault). Completes asked how x (Some bytes) 0 0 0 0) d told in
    tells input bytes how (subst (λ (x : Option Asked). Completes x how None (Some bytes) 0 0 0 0) a sound) other
