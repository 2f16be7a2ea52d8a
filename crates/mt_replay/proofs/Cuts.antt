-- The ticks that are told are the fewest.
use Rattle.std.proofs.Common.{ℕ, ◌≡◌, ◌++◌, Option, None, sym, ap, ◌∙◌}
use Rattle.mt_fault.specs.declared.fault.Fault.{Fault}
use Rattle.mt_blocks.specs.declared.config.ParamSet.{ParamSet}
use Rattle.mt_cut.specs.Holds.{pass_holds}
use Rattle.mt_cut.specs.Cuts.{first_above, longest_runs, LongestRunsAreUnder, LongestRunsAreLeast}
use Rattle.mt_cut.specs.Atomic.{largest}
use Rattle.mt_replay.specs.declared.form.Ask.{Ask}
use Rattle.mt_replay.specs.declared.form.Form.TheVariants as forms
use Rattle.mt_replay.specs.declared.run.End.{End}
use Rattle.mt_replay.specs.Input.{Finished}
use Rattle.mt_replay.specs.Script.{script_from}
use Rattle.mt_replay.specs.Cut.{chosen_text, ticks_text, largest_text, pass_text, set_text}
use Rattle.mt_replay.specs.Outcome.{Outcome, end_text}
use Rattle.mt_replay.specs.Ticks.{TicksAreLeast}
use Rattle.mt_replay.specs.Promises.{TellsLeastTicks}
use Rattle.mt_replay.proofs.Accepted.{short_is, is_short, done_is}

set-text : (ask : Ask) (set : ParamSet) → first_above ask.budget (pass_holds set) ≡ None
    → set_text ask set ≡ ticks_text (longest_runs ask.budget (pass_holds set)) (pass_holds set) ++ largest_text (largest set ask.wait)
unfolding set_text
set-text ask set none = ap (λ (o : Option ℕ). pass_text ask.budget (pass_holds set) o ++ largest_text (largest set ask.wait)) none

ticks_are_least : LongestRunsAreUnder → LongestRunsAreLeast → (ask : Ask) (defect : Option Fault) → TicksAreLeast ask defect
ticks_are_least under least ask defect bytes config script c set job is done there none =
    let s = script_from c.shape Finished 1 script in
    let given = short_is (forms.Cut ask) defect bytes config script c job (is_short (forms.Cut ask) defect bytes config script job done) is in
    let whole = done_is s.end (sym (ap (λ (o : Outcome). o.status) given) ∙ done) in
    record {
      cut = longest_runs ask.budget (pass_holds set);
      under = under ask.budget (pass_holds set) none;
      least = least ask.budget (pass_holds set) none;
      is = ap (λ (o : Outcome). o.text) given ∙ ap (λ (e : End). end_text (forms.Cut ask) c e) whole.1 ∙ ap (chosen_text ask) there ∙ set-text ask set none;
    }

pub tells_least_ticks : LongestRunsAreUnder → LongestRunsAreLeast → (defect : Option Fault) → TellsLeastTicks defect
tells_least_ticks under least defect ask = ticks_are_least under least ask defect
