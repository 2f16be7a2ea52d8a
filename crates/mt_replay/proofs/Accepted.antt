-- What an accepted job gives.
use Rattle.std.proofs.Common.{ℕ, ◌≡◌, ◌≤◌, Bool, true, false, cond, List, length, Option, Result, Ok, refl, sym, ap, ◌∙◌, arith}
use Rattle.std.specs.Prelude.{nat_lt}
use Rattle.std.proofs.lemmas.Bool.Decides.{nat_tests}
use Rattle.mt_fault.specs.declared.fault.Fault.{Fault}
use Rattle.mt_conf.specs.declared.config.Config.{Config}
use Rattle.mt_conf.specs.declared.config.ConfigRefusal.{ConfigRefusal}
use Rattle.mt_conf.specs.Outcome.{outcome as config_of}
use Rattle.mt_replay.specs.declared.form.Form.{Form}
use Rattle.mt_replay.specs.declared.refused.Refused.TheVariants as because
use Rattle.mt_replay.specs.declared.run.End.{End}
use Rattle.mt_replay.specs.declared.run.End.TheVariants as end
use Rattle.mt_replay.specs.declared.status.Status.TheVariants as status
use Rattle.mt_replay.specs.Input.{Finished, Cut, Parted, job_of}
use Rattle.mt_machine.specs.Machine.{started}
use Rattle.mt_replay.specs.Script.{script_from}
use Rattle.mt_replay.specs.Outcome.{Outcome, end_status, bad_config, configured, by_job, scripted, outcome}

parted_gives : (form : Form) (defect : Option Fault) (bytes config : List ℕ) (script : Cut) (long : Bool) → job_of Finished bytes ≡ Parted config script → nat_lt 65536 (length config) ≡ long
    → outcome form Finished defect bytes ≡ cond long (bad_config (because.Rule 18)) (configured form Finished defect (config_of config) script)
unfolding outcome
parted_gives form defect bytes config script long job e =
    ap (by_job form Finished defect) job ∙ ap (λ (b : Bool). cond b (bad_config (because.Rule 18)) (configured form Finished defect (config_of config) script)) e

-- a job whose configuration is short enough and accepted
pub short_is : (form : Form) (defect : Option Fault) (bytes config : List ℕ) (script : Cut) (c : Config) → job_of Finished bytes ≡ Parted config script → nat_lt 65536 (length config) ≡ false → config_of config ≡ Ok c
    → outcome form Finished defect bytes ≡ scripted form c (started c defect) (script_from c.shape Finished 1 script)
short_is form defect bytes config script c job short is =
    parted_gives form defect bytes config script false job short ∙ ap (λ (r : Result Config ConfigRefusal). configured form Finished defect r script) is

not_long : (form : Form) (defect : Option Fault) (bytes config : List ℕ) (script : Cut) (long : Bool) → job_of Finished bytes ≡ Parted config script → nat_lt 65536 (length config) ≡ long
    → (outcome form Finished defect bytes).status ≡ status.Done → nat_lt 65536 (length config) ≡ false
not_long form defect bytes config script false job e done = e
not_long form defect bytes config script true job e done =
    absurd (let refused : status.BadConfig 18 ≡ status.Done = sym (ap (λ (o : Outcome). o.status) (parted_gives form defect bytes config script true job e)) ∙ done in cc)

pub is_short : (form : Form) (defect : Option Fault) (bytes config : List ℕ) (script : Cut) → job_of Finished bytes ≡ Parted config script → (outcome form Finished defect bytes).status ≡ status.Done
    → nat_lt 65536 (length config) ≡ false
is_short form defect bytes config script job done = not_long form defect bytes config script (nat_lt 65536 (length config)) job refl done

-- an end that is Done is that of a whole script
pub done_is : (e : End) → end_status e ≡ status.Done → (count : ℕ) × (e ≡ end.Whole count)
done_is (end.Whole count) h = (count, refl)
done_is (end.Refused line code at) h = absurd cc
done_is end.Broken h = absurd cc

pub small : (n : ℕ) → n ≤ 65536 → nat_lt 65536 n ≡ false
small n h = grind (arith, nat_tests)
