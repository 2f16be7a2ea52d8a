-- The unit's cells are those of FlsTst's state table.
use Rattle.std.proofs.Common.{ℕ, ◌≡◌, Bool, true, false, refl, ap, length}
use Rattle.std.specs.Prelude.{nat_lt, if◌then◌else◌}
use Rattle.mt_window.specs.Rows.{Refuses, Runs}
use Rattle.mt_window.specs.declared.reply.Refusal.TheVariants as refusal
use Rattle.mt_fls.specs.State.{FlsTst}
use Rattle.mt_fls.specs.Table.{FlsCell, cell}
use Rattle.mt_fls.specs.declared.state.State.{State}
use Rattle.mt_fls.specs.declared.state.State.TheVariants as states
use Rattle.mt_unit.specs.declared.fls_cells.FlsRow.{FlsRow}
use Rattle.mt_unit.specs.declared.fls_cells.FlsRow.TheVariants as rows
use Rattle.mt_unit.specs.declared.fls_cells.FlsColumn.{FlsColumn}
use Rattle.mt_unit.specs.FlsCells.{fls_cell, column_of, service_of, IsTaken, SaysReply, FlsCellsAreTheTable}
use Rattle.mt_unit.specs.declared.fls_cells.FlsColumn.TheVariants as columns
use Rattle.mt_fls.specs.State.{fgnd_spans}
use Rattle.mt_fls.specs.Table.{in_state, state_of}
use Rattle.mt_fls.specs.declared.state.Back.TheVariants as back
use Rattle.mt_blocks.specs.Slices.{pieces, span_at}

-- out of range, or taken
ranged : (b : Bool) (next : FlsColumn) (now : State) (r : FlsTst) (is : FlsCell) → IsTaken next now r is → IsTaken next now r (if b then is else Refuses refusal.Range)
ranged true next now r is h = h
ranged false next now r is h = tt

by_state : (row : FlsRow) (now : State) (r : FlsTst) (argument : ℕ) → r.state ≡ now
    → SaysReply (fls_cell row (column_of now)).reply (fls_cell row (column_of now)).next now r (cell r (service_of row argument) now)
by_state rows.Init states.Uninit r argument e = refl
by_state rows.Init states.Init r argument e = refl
by_state rows.Init (states.Running p) r argument e = refl
by_state rows.Init (states.Suspended p) r argument e = refl
by_state rows.Init states.Aborted r argument e = refl
by_state rows.Init (states.Foreground b) r argument e = refl
by_state rows.DeInit states.Uninit r argument e = refl
by_state rows.DeInit states.Init r argument e = refl
by_state rows.DeInit (states.Running p) r argument e = refl
by_state rows.DeInit (states.Suspended p) r argument e = refl
by_state rows.DeInit states.Aborted r argument e = refl
by_state rows.DeInit (states.Foreground b) r argument e = refl
by_state rows.Abort states.Uninit r argument e = refl
by_state rows.Abort states.Init r argument e = refl
by_state rows.Abort (states.Running p) r argument e = refl
by_state rows.Abort (states.Suspended p) r argument e = refl
by_state rows.Abort states.Aborted r argument e = refl
by_state rows.Abort (states.Foreground b) r argument e = refl
by_state rows.Suspend states.Uninit r argument e = refl
by_state rows.Suspend states.Init r argument e = refl
by_state rows.Suspend (states.Running p) r argument e = refl
by_state rows.Suspend (states.Suspended p) r argument e = refl
by_state rows.Suspend states.Aborted r argument e = refl
by_state rows.Suspend (states.Foreground b) r argument e = refl
by_state rows.Resume states.Uninit r argument e = refl
by_state rows.Resume states.Init r argument e = refl
by_state rows.Resume (states.Running p) r argument e = refl
by_state rows.Resume (states.Suspended p) r argument e = refl
by_state rows.Resume states.Aborted r argument e = refl
by_state rows.Resume (states.Foreground b) r argument e = refl
by_state rows.StartFgnd states.Uninit r argument e = refl
by_state rows.StartFgnd states.Init r argument e = ranged (nat_lt argument (length r.setting.config.fgnd)) columns.Foreground states.Init r (Runs (pieces r.setting.config.atomic argument (span_at (fgnd_spans r) argument)) (in_state (states.Foreground (back.Init))) (in_state (state_of (back.Init)))) refl
by_state rows.StartFgnd (states.Running p) r argument e = ranged (nat_lt argument (length r.setting.config.fgnd)) columns.Foreground (states.Running p) r (Runs (pieces r.setting.config.atomic argument (span_at (fgnd_spans r) argument)) (in_state (states.Foreground (back.Running p))) (in_state (state_of (back.Running p)))) refl
by_state rows.StartFgnd (states.Suspended p) r argument e = ranged (nat_lt argument (length r.setting.config.fgnd)) columns.Foreground (states.Suspended p) r (Runs (pieces r.setting.config.atomic argument (span_at (fgnd_spans r) argument)) (in_state (states.Foreground (back.Suspended p))) (in_state (state_of (back.Suspended p)))) refl
by_state rows.StartFgnd states.Aborted r argument e = refl
by_state rows.StartFgnd (states.Foreground b) r argument e = refl
by_state rows.MainFunction states.Uninit r argument e = refl
by_state rows.MainFunction states.Init r argument e = refl
by_state rows.MainFunction (states.Running p) r argument e = ap column_of e
by_state rows.MainFunction (states.Suspended p) r argument e = refl
by_state rows.MainFunction states.Aborted r argument e = refl
by_state rows.MainFunction (states.Foreground b) r argument e = refl
by_state rows.GetCurrentState states.Uninit r argument e = refl
by_state rows.GetCurrentState states.Init r argument e = refl
by_state rows.GetCurrentState (states.Running p) r argument e = refl
by_state rows.GetCurrentState (states.Suspended p) r argument e = refl
by_state rows.GetCurrentState states.Aborted r argument e = refl
by_state rows.GetCurrentState (states.Foreground b) r argument e = refl
by_state rows.GetTestResultBgnd states.Uninit r argument e = refl
by_state rows.GetTestResultBgnd states.Init r argument e = refl
by_state rows.GetTestResultBgnd (states.Running p) r argument e = refl
by_state rows.GetTestResultBgnd (states.Suspended p) r argument e = refl
by_state rows.GetTestResultBgnd states.Aborted r argument e = refl
by_state rows.GetTestResultBgnd (states.Foreground b) r argument e = refl
by_state rows.GetTestResultFgnd states.Uninit r argument e = refl
by_state rows.GetTestResultFgnd states.Init r argument e = refl
by_state rows.GetTestResultFgnd (states.Running p) r argument e = refl
by_state rows.GetTestResultFgnd (states.Suspended p) r argument e = refl
by_state rows.GetTestResultFgnd states.Aborted r argument e = refl
by_state rows.GetTestResultFgnd (states.Foreground b) r argument e = refl
by_state rows.GetErrorDetails states.Uninit r argument e = refl
by_state rows.GetErrorDetails states.Init r argument e = refl
by_state rows.GetErrorDetails (states.Running p) r argument e = refl
by_state rows.GetErrorDetails (states.Suspended p) r argument e = refl
by_state rows.GetErrorDetails states.Aborted r argument e = refl
by_state rows.GetErrorDetails (states.Foreground b) r argument e = refl
by_state rows.GetVersionInfo states.Uninit r argument e = refl
by_state rows.GetVersionInfo states.Init r argument e = refl
by_state rows.GetVersionInfo (states.Running p) r argument e = refl
by_state rows.GetVersionInfo (states.Suspended p) r argument e = refl
by_state rows.GetVersionInfo states.Aborted r argument e = refl
by_state rows.GetVersionInfo (states.Foreground b) r argument e = refl

pub fls_cells : FlsCellsAreTheTable
fls_cells r row argument = by_state row r.state r argument refl
