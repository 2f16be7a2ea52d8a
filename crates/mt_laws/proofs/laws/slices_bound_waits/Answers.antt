use Rattle.mt_window.specs.Waits.{ServesInTime, MakesShortAttempts}
use Rattle.mt_ram.specs.Laws.{TriesSlices, LeavesSetting}
use Rattle.mt_laws.proofs.Bounds.{BoundLaws, lines_wait, scripts_wait}
use Rattle.mt_laws.proofs.Calls.{each_call}
use Rattle.mt_laws.proofs.laws.slices_bound_waits.Goals as goal

pub returns : goal.returns
returns c =
    let waits = c.waits_of_running_calls.ensures in
    let attempts = c.attempts_of_running_calls.ensures in
    let slices = c.attempts_are_at_slices.ensures in
    let settings = c.running_calls_leave_setting.ensures in
    let known : BoundLaws = record {
      served = each_call (λ call. ServesInTime call) waits.tick waits.full waits.partial;
      made = each_call (λ call. MakesShortAttempts call) attempts.tick attempts.full attempts.partial;
      tries = each_call TriesSlices slices.tick slices.full slices.partial;
      bounds = c.greatest_slices_bound_waits.ensures;
      settings = each_call LeavesSetting settings.tick settings.full settings.partial;
      services = c.services_leave_setting.ensures;
    } in
    record { line = lines_wait known; script = scripts_wait known }
