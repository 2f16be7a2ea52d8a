-- The unit's cells are those of RamTst's state table.
use Rattle.std.proofs.Common.{ℕ, ◌≡◌, Bool, true, false, refl, ap, Some, None, length}
use Rattle.std.specs.Prelude.{nat_lt, nat_le, ◌&&◌, if◌then◌else◌}
use Rattle.mt_window.specs.Rows.{Refuses, Goes, Runs}
use Rattle.mt_window.specs.declared.reply.Refusal.TheVariants as refusal
use Rattle.mt_ram.specs.State.{RamTst}
use Rattle.mt_ram.specs.Table.{RamCell, cell}
use Rattle.mt_ram.specs.declared.state.State.{State}
use Rattle.mt_ram.specs.declared.state.State.TheVariants as states
use Rattle.mt_unit.specs.declared.ram_cells.RamRow.{RamRow}
use Rattle.mt_unit.specs.declared.ram_cells.RamRow.TheVariants as rows
use Rattle.mt_unit.specs.declared.ram_cells.RamColumn.{RamColumn}
use Rattle.mt_unit.specs.RamCells.{ram_cell, column_of, service_of, IsTaken, SaysReply, RamCellsAreTheTable}
use Rattle.mt_unit.specs.declared.ram_cells.RamColumn.TheVariants as columns
use Rattle.std.specs.Prelude.{slice_index_or}
use Rattle.mt_window.specs.Rows.{Answers}
use Rattle.mt_window.specs.declared.reply.Value.TheVariants as value
use Rattle.mt_window.specs.declared.reply.TestResult.TheVariants.{NotTested}
use Rattle.mt_ram.specs.State.{set_of, spans_in}
use Rattle.mt_ram.specs.Table.{in_state, selected}
use Rattle.mt_blocks.specs.Slices.{pieces, span_at}

-- out of range, or taken
ranged : (b : Bool) (next : RamColumn) (now : State) (r : RamTst) (is : RamCell) → IsTaken next now r is → IsTaken next now r (if b then is else Refuses refusal.Range)
ranged true next now r is h = h
ranged false next now r is h = tt

by_state : (row : RamRow) (now : State) (r : RamTst) (argument : ℕ) → r.state ≡ now
    → SaysReply (ram_cell row (column_of now)).reply (ram_cell row (column_of now)).next now r (cell r (service_of row argument) now)
by_state rows.Init states.Uninit r argument e = refl
by_state rows.Init states.Stopped r argument e = refl
by_state rows.Init (states.Running p) r argument e = refl
by_state rows.Init (states.Suspended p) r argument e = refl
by_state rows.Init states.Full r argument e = refl
by_state rows.Init (states.Partial b) r argument e = refl
by_state rows.DeInit states.Uninit r argument e = refl
by_state rows.DeInit states.Stopped r argument e = refl
by_state rows.DeInit (states.Running p) r argument e = refl
by_state rows.DeInit (states.Suspended p) r argument e = refl
by_state rows.DeInit states.Full r argument e = refl
by_state rows.DeInit (states.Partial b) r argument e = refl
by_state rows.Allow states.Uninit r argument e = refl
by_state rows.Allow states.Stopped r argument e = refl
by_state rows.Allow (states.Running p) r argument e = refl
by_state rows.Allow (states.Suspended p) r argument e = refl
by_state rows.Allow states.Full r argument e = refl
by_state rows.Allow (states.Partial b) r argument e = refl
by_state rows.Stop states.Uninit r argument e = refl
by_state rows.Stop states.Stopped r argument e = refl
by_state rows.Stop (states.Running p) r argument e = refl
by_state rows.Stop (states.Suspended p) r argument e = refl
by_state rows.Stop states.Full r argument e = refl
by_state rows.Stop (states.Partial b) r argument e = refl
by_state rows.Suspend states.Uninit r argument e = refl
by_state rows.Suspend states.Stopped r argument e = refl
by_state rows.Suspend (states.Running p) r argument e = refl
by_state rows.Suspend (states.Suspended p) r argument e = refl
by_state rows.Suspend states.Full r argument e = refl
by_state rows.Suspend (states.Partial b) r argument e = refl
by_state rows.Resume states.Uninit r argument e = refl
by_state rows.Resume states.Stopped r argument e = refl
by_state rows.Resume (states.Running p) r argument e = refl
by_state rows.Resume (states.Suspended p) r argument e = refl
by_state rows.Resume states.Full r argument e = refl
by_state rows.Resume (states.Partial b) r argument e = refl
by_state rows.SelectAlgParams states.Uninit r argument e = refl
by_state rows.SelectAlgParams states.Stopped r argument e = ranged (nat_lt argument (length r.setting.config.sets)) columns.Stopped states.Stopped r (Goes (selected r argument)) (ap column_of e)
by_state rows.SelectAlgParams (states.Running p) r argument e = refl
by_state rows.SelectAlgParams (states.Suspended p) r argument e = refl
by_state rows.SelectAlgParams states.Full r argument e = refl
by_state rows.SelectAlgParams (states.Partial b) r argument e = refl
by_state rows.ChangeNumberOfTestedCells states.Uninit r argument e = refl
by_state rows.ChangeNumberOfTestedCells states.Stopped r argument e = ranged (nat_le (set_of r).atomic argument && nat_le argument 65536) columns.Stopped states.Stopped r (Goes (record r { cells = argument })) (ap column_of e)
by_state rows.ChangeNumberOfTestedCells (states.Running p) r argument e = refl
by_state rows.ChangeNumberOfTestedCells (states.Suspended p) r argument e = refl
by_state rows.ChangeNumberOfTestedCells states.Full r argument e = refl
by_state rows.ChangeNumberOfTestedCells (states.Partial b) r argument e = refl
by_state rows.RunFullTest states.Uninit r argument e = refl
by_state rows.RunFullTest states.Stopped r argument e = refl
by_state rows.RunFullTest (states.Running p) r argument e = refl
by_state rows.RunFullTest (states.Suspended p) r argument e = refl
by_state rows.RunFullTest states.Full r argument e = refl
by_state rows.RunFullTest (states.Partial b) r argument e = refl
by_state rows.RunPartialTest states.Uninit r argument e = refl
by_state rows.RunPartialTest states.Stopped r argument e = ranged (nat_lt argument (length (set_of r).blocks)) columns.Partial (states.Stopped) r (Runs (pieces (set_of r).atomic argument (span_at (spans_in r) argument)) (in_state (states.Partial (None))) (in_state (states.Stopped))) refl
by_state rows.RunPartialTest (states.Running p) r argument e = refl
by_state rows.RunPartialTest (states.Suspended p) r argument e = ranged (nat_lt argument (length (set_of r).blocks)) columns.Partial (states.Suspended p) r (Runs (pieces (set_of r).atomic argument (span_at (spans_in r) argument)) (in_state (states.Partial (Some p))) (in_state (states.Suspended p))) refl
by_state rows.RunPartialTest states.Full r argument e = refl
by_state rows.RunPartialTest (states.Partial b) r argument e = refl
by_state rows.MainFunction states.Uninit r argument e = refl
by_state rows.MainFunction states.Stopped r argument e = refl
by_state rows.MainFunction (states.Running p) r argument e = ap column_of e
by_state rows.MainFunction (states.Suspended p) r argument e = refl
by_state rows.MainFunction states.Full r argument e = refl
by_state rows.MainFunction (states.Partial b) r argument e = refl
by_state rows.GetTestResultPerBlock states.Uninit r argument e = refl
by_state rows.GetTestResultPerBlock states.Stopped r argument e = ranged (nat_lt argument (length r.results)) columns.Stopped states.Stopped r (Answers (value.Result (slice_index_or r.results argument NotTested))) refl
by_state rows.GetTestResultPerBlock (states.Running p) r argument e = ranged (nat_lt argument (length r.results)) columns.Running (states.Running p) r (Answers (value.Result (slice_index_or r.results argument NotTested))) refl
by_state rows.GetTestResultPerBlock (states.Suspended p) r argument e = ranged (nat_lt argument (length r.results)) columns.Suspended (states.Suspended p) r (Answers (value.Result (slice_index_or r.results argument NotTested))) refl
by_state rows.GetTestResultPerBlock states.Full r argument e = ranged (nat_lt argument (length r.results)) columns.Full states.Full r (Answers (value.Result (slice_index_or r.results argument NotTested))) refl
by_state rows.GetTestResultPerBlock (states.Partial b) r argument e = ranged (nat_lt argument (length r.results)) columns.Partial (states.Partial b) r (Answers (value.Result (slice_index_or r.results argument NotTested))) refl
by_state rows.GetTestResult states.Uninit r argument e = refl
by_state rows.GetTestResult states.Stopped r argument e = refl
by_state rows.GetTestResult (states.Running p) r argument e = refl
by_state rows.GetTestResult (states.Suspended p) r argument e = refl
by_state rows.GetTestResult states.Full r argument e = refl
by_state rows.GetTestResult (states.Partial b) r argument e = refl
by_state rows.GetAlgParams states.Uninit r argument e = refl
by_state rows.GetAlgParams states.Stopped r argument e = refl
by_state rows.GetAlgParams (states.Running p) r argument e = refl
by_state rows.GetAlgParams (states.Suspended p) r argument e = refl
by_state rows.GetAlgParams states.Full r argument e = refl
by_state rows.GetAlgParams (states.Partial b) r argument e = refl
by_state rows.GetTestAlgorithm states.Uninit r argument e = refl
by_state rows.GetTestAlgorithm states.Stopped r argument e = refl
by_state rows.GetTestAlgorithm (states.Running p) r argument e = refl
by_state rows.GetTestAlgorithm (states.Suspended p) r argument e = refl
by_state rows.GetTestAlgorithm states.Full r argument e = refl
by_state rows.GetTestAlgorithm (states.Partial b) r argument e = refl
by_state rows.GetNumberOfTestedCells states.Uninit r argument e = refl
by_state rows.GetNumberOfTestedCells states.Stopped r argument e = refl
by_state rows.GetNumberOfTestedCells (states.Running p) r argument e = refl
by_state rows.GetNumberOfTestedCells (states.Suspended p) r argument e = refl
by_state rows.GetNumberOfTestedCells states.Full r argument e = refl
by_state rows.GetNumberOfTestedCells (states.Partial b) r argument e = refl
by_state rows.GetExecutionStatus states.Uninit r argument e = refl
by_state rows.GetExecutionStatus states.Stopped r argument e = refl
by_state rows.GetExecutionStatus (states.Running p) r argument e = refl
by_state rows.GetExecutionStatus (states.Suspended p) r argument e = refl
by_state rows.GetExecutionStatus states.Full r argument e = refl
by_state rows.GetExecutionStatus (states.Partial b) r argument e = refl
by_state rows.GetVersionInfo states.Uninit r argument e = refl
by_state rows.GetVersionInfo states.Stopped r argument e = refl
by_state rows.GetVersionInfo (states.Running p) r argument e = refl
by_state rows.GetVersionInfo (states.Suspended p) r argument e = refl
by_state rows.GetVersionInfo states.Full r argument e = refl
by_state rows.GetVersionInfo (states.Partial b) r argument e = refl

pub ram_cells : RamCellsAreTheTable
ram_cells r row argument = by_state row r.state r argument refl
