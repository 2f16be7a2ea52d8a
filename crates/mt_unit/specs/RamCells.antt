-- The cells of RamTst's state table, as a control unit has them.
use Rattle.std.specs.Prelude.{ℕ, ◌≡◌}
use Rattle.mt_window.specs.Rows.{Refuses, Goes, Answers, Rests, Runs}
use Rattle.mt_window.specs.declared.reply.Refusal.TheVariants as refusal
use Rattle.mt_ram.specs.State.{RamTst}
use Rattle.mt_ram.specs.Table.{Service, RamCell, cell}
use Rattle.mt_ram.specs.Table as table
use Rattle.mt_ram.specs.declared.state.State.{State}
use Rattle.mt_ram.specs.declared.state.State.TheVariants as states
use Rattle.mt_unit.specs.declared.cell.CellReply.{CellReply}
use Rattle.mt_unit.specs.declared.cell.CellReply.TheVariants.{Taken, RefusedUninit, RefusedStatus, Resting}
use Rattle.mt_unit.specs.declared.ram_cells.RamRow.{RamRow}
use Rattle.mt_unit.specs.declared.ram_cells.RamRow.TheVariants as rows
use Rattle.mt_unit.specs.declared.ram_cells.RamColumn.{RamColumn}
use Rattle.mt_unit.specs.declared.ram_cells.RamColumn.TheVariants as columns
use Rattle.mt_unit.specs.declared.ram_cells.RamTableCell.{RamTableCell}

-- the service of a row, with its argument where it has one
abbrev pub service_of : RamRow → ℕ → Service
service_of rows.Init argument = table.Init
service_of rows.DeInit argument = table.DeInit
service_of rows.Allow argument = table.Allow
service_of rows.Stop argument = table.Stop
service_of rows.Suspend argument = table.Suspend
service_of rows.Resume argument = table.Resume
service_of rows.SelectAlgParams argument = table.SelectAlgParams argument
service_of rows.ChangeNumberOfTestedCells argument = table.ChangeNumberOfTestedCells argument
service_of rows.RunFullTest argument = table.RunFullTest
service_of rows.RunPartialTest argument = table.RunPartialTest argument
service_of rows.MainFunction argument = table.MainFunction
service_of rows.GetTestResultPerBlock argument = table.GetTestResultPerBlock argument
service_of rows.GetTestResult argument = table.GetTestResult
service_of rows.GetAlgParams argument = table.GetAlgParams
service_of rows.GetTestAlgorithm argument = table.GetTestAlgorithm
service_of rows.GetNumberOfTestedCells argument = table.GetNumberOfTestedCells
service_of rows.GetExecutionStatus argument = table.GetExecutionStatus
service_of rows.GetVersionInfo argument = table.GetVersionInfo

-- the column of a state
abbrev pub column_of : State → RamColumn
column_of states.Uninit = columns.Uninit
column_of states.Stopped = columns.Stopped
column_of (states.Running p) = columns.Running
column_of (states.Suspended p) = columns.Suspended
column_of states.Full = columns.Full
column_of (states.Partial b) = columns.Partial

-- a cell whose call is taken, and goes on in a column; one whose call is refused
abbrev pub taken : RamColumn → RamTableCell
taken next = record { reply = Taken; next = next }

abbrev pub refused : CellReply → RamColumn → RamTableCell
refused reply column = record { reply = reply; next = column }

-- the cells, row by row
abbrev pub ram_cell : RamRow → RamColumn → RamTableCell
ram_cell rows.Init columns.Uninit = taken columns.Stopped
ram_cell rows.Init column = refused RefusedStatus column
ram_cell rows.DeInit columns.Uninit = refused RefusedUninit columns.Uninit
ram_cell rows.DeInit column = taken columns.Uninit
ram_cell rows.Allow columns.Uninit = refused RefusedUninit columns.Uninit
ram_cell rows.Allow columns.Stopped = taken columns.Running
ram_cell rows.Allow column = refused RefusedStatus column
ram_cell rows.Stop columns.Uninit = refused RefusedUninit columns.Uninit
ram_cell rows.Stop columns.Running = taken columns.Stopped
ram_cell rows.Stop columns.Suspended = taken columns.Stopped
ram_cell rows.Stop column = refused RefusedStatus column
ram_cell rows.Suspend columns.Uninit = refused RefusedUninit columns.Uninit
ram_cell rows.Suspend columns.Running = taken columns.Suspended
ram_cell rows.Suspend column = refused RefusedStatus column
ram_cell rows.Resume columns.Uninit = refused RefusedUninit columns.Uninit
ram_cell rows.Resume columns.Suspended = taken columns.Running
ram_cell rows.Resume column = refused RefusedStatus column
ram_cell rows.SelectAlgParams columns.Uninit = refused RefusedUninit columns.Uninit
ram_cell rows.SelectAlgParams columns.Stopped = taken columns.Stopped
ram_cell rows.SelectAlgParams column = refused RefusedStatus column
ram_cell rows.ChangeNumberOfTestedCells columns.Uninit = refused RefusedUninit columns.Uninit
ram_cell rows.ChangeNumberOfTestedCells columns.Stopped = taken columns.Stopped
ram_cell rows.ChangeNumberOfTestedCells column = refused RefusedStatus column
ram_cell rows.RunFullTest columns.Uninit = refused RefusedUninit columns.Uninit
ram_cell rows.RunFullTest columns.Stopped = taken columns.Full
ram_cell rows.RunFullTest column = refused RefusedStatus column
ram_cell rows.RunPartialTest columns.Uninit = refused RefusedUninit columns.Uninit
ram_cell rows.RunPartialTest columns.Stopped = taken columns.Partial
ram_cell rows.RunPartialTest columns.Suspended = taken columns.Partial
ram_cell rows.RunPartialTest column = refused RefusedStatus column
ram_cell rows.MainFunction columns.Uninit = refused RefusedUninit columns.Uninit
ram_cell rows.MainFunction columns.Running = taken columns.Running
ram_cell rows.MainFunction column = refused Resting column
ram_cell rows.GetTestResultPerBlock columns.Uninit = refused RefusedUninit columns.Uninit
ram_cell rows.GetTestResultPerBlock column = taken column
ram_cell rows.GetTestResult columns.Uninit = refused RefusedUninit columns.Uninit
ram_cell rows.GetTestResult column = taken column
ram_cell rows.GetAlgParams columns.Uninit = refused RefusedUninit columns.Uninit
ram_cell rows.GetAlgParams column = taken column
ram_cell rows.GetTestAlgorithm columns.Uninit = refused RefusedUninit columns.Uninit
ram_cell rows.GetTestAlgorithm column = taken column
ram_cell rows.GetNumberOfTestedCells columns.Uninit = refused RefusedUninit columns.Uninit
ram_cell rows.GetNumberOfTestedCells column = taken column
ram_cell rows.GetExecutionStatus column = taken column
ram_cell rows.GetVersionInfo column = taken column

-- A module's cell whose call is taken and goes on in a column. What is refused as out of range, is so by its argument.
abbrev pub IsTaken : RamColumn → State → RamTst → RamCell → Type 0
IsTaken next now r (Refuses refusal.Uninit) = ⊥
IsTaken next now r (Refuses refusal.Status) = ⊥
IsTaken next now r (Refuses refusal.Range) = Unit {0}
IsTaken next now r (Goes after) = column_of after.state ≡ next
IsTaken next now r (Answers what) = column_of now ≡ next
IsTaken next now r Rests = ⊥
IsTaken next now r (Runs slices inside back) = column_of (inside r).state ≡ next

-- what a reply and a column of the unit's table say of the module's cell
abbrev pub SaysReply : CellReply → RamColumn → State → RamTst → RamCell → Type 0
SaysReply Taken next now r is = IsTaken next now r is
SaysReply RefusedUninit next now r is = is ≡ Refuses refusal.Uninit
SaysReply RefusedStatus next now r is = is ≡ Refuses refusal.Status
SaysReply Resting next now r is = is ≡ Rests

-- In each state, and for each argument, the unit's cell of a service says what the module's says.
abbrev pub RamCellsAreTheTable : Type 0
RamCellsAreTheTable =
    (r : RamTst) (row : RamRow) (argument : ℕ)
    → SaysReply (ram_cell row (column_of r.state)).reply (ram_cell row (column_of r.state)).next r.state r (cell r (service_of row argument) r.state)
