-- The ticks that `cut` tells are the fewest.
use Rattle.std.specs.Prelude.{◌≡◌, List, length, ◌++◌, ℕ, slice_get, Option, Some, None}
use Rattle.mt_fault.specs.declared.fault.Fault.{Fault}
use Rattle.mt_blocks.specs.declared.config.ParamSet.{ParamSet}
use Rattle.mt_cut.specs.Holds.{pass_holds}
use Rattle.mt_cut.specs.Cuts.{first_above, IsCutUnder, IsLeast}
use Rattle.mt_cut.specs.Atomic.{largest}
use Rattle.mt_conf.specs.declared.config.Config.{Config}
use Rattle.mt_conf.specs.Outcome.{outcome as config_of}
use Rattle.mt_replay.specs.declared.form.Ask.{Ask}
use Rattle.mt_replay.specs.declared.form.Form.TheVariants as forms
use Rattle.mt_replay.specs.declared.status.Status.TheVariants as status
use Rattle.mt_replay.specs.Input.{Finished, Cut, Parted, job_of}
use Rattle.mt_replay.specs.Outcome.{outcome}
use Rattle.mt_replay.specs.Cut.{ticks_text, largest_text}
use Rattle.std.specs.Prelude.{Ok}

-- A text tells the ticks of a cut under the budget, and no cut under it has fewer.
pub record TellsLeast (ask : Ask) (set : ParamSet) (text : List ℕ) : Type 0 where
  pub cut : List ℕ
  pub under : IsCutUnder ask.budget (pass_holds set) cut
  pub least : IsLeast ask.budget (pass_holds set) (length cut)
  pub is : text ≡ ticks_text cut (pass_holds set) ++ largest_text (largest set ask.wait)

-- Whatever bytes an accepted job has, its text is that, where the set is there and no slice alone is above the budget.
abbrev pub TicksAreLeast : Ask → Option Fault → Type 0
TicksAreLeast ask defect =
    (bytes config : List ℕ) (script : Cut) (c : Config) (set : ParamSet)
    → job_of Finished bytes ≡ Parted config script → config_of config ≡ Ok c → (outcome (forms.Cut ask) Finished defect bytes).status ≡ status.Done
    → slice_get c.ram_tst.sets ask.set ≡ Some set → first_above ask.budget (pass_holds set) ≡ None
    → TellsLeast ask set (outcome (forms.Cut ask) Finished defect bytes).text
