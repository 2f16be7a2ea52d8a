-- The cells of FlsTst's state table, as a control unit has them.
use Rattle.std.specs.Prelude.{ℕ, ◌≡◌}
use Rattle.mt_window.specs.Rows.{Refuses, Goes, Answers, Rests, Runs}
use Rattle.mt_window.specs.declared.reply.Refusal.TheVariants as refusal
use Rattle.mt_fls.specs.State.{FlsTst}
use Rattle.mt_fls.specs.Table.{Service, FlsCell, cell}
use Rattle.mt_fls.specs.Table as table
use Rattle.mt_fls.specs.declared.state.State.{State}
use Rattle.mt_fls.specs.declared.state.State.TheVariants as states
use Rattle.mt_unit.specs.declared.cell.CellReply.{CellReply}
use Rattle.mt_unit.specs.declared.cell.CellReply.TheVariants.{Taken, RefusedUninit, RefusedStatus, Resting}
use Rattle.mt_unit.specs.declared.fls_cells.FlsRow.{FlsRow}
use Rattle.mt_unit.specs.declared.fls_cells.FlsRow.TheVariants as rows
use Rattle.mt_unit.specs.declared.fls_cells.FlsColumn.{FlsColumn}
use Rattle.mt_unit.specs.declared.fls_cells.FlsColumn.TheVariants as columns
use Rattle.mt_unit.specs.declared.fls_cells.FlsTableCell.{FlsTableCell}

-- the service of a row, with its argument where it has one
abbrev pub service_of : FlsRow → ℕ → Service
service_of rows.Init argument = table.Init
service_of rows.DeInit argument = table.DeInit
service_of rows.Abort argument = table.Abort
service_of rows.Suspend argument = table.Suspend
service_of rows.Resume argument = table.Resume
service_of rows.StartFgnd argument = table.StartFgnd argument
service_of rows.MainFunction argument = table.MainFunction
service_of rows.GetCurrentState argument = table.GetCurrentState
service_of rows.GetTestResultBgnd argument = table.GetTestResultBgnd
service_of rows.GetTestResultFgnd argument = table.GetTestResultFgnd
service_of rows.GetErrorDetails argument = table.GetErrorDetails
service_of rows.GetVersionInfo argument = table.GetVersionInfo

-- the column of a state
abbrev pub column_of : State → FlsColumn
column_of states.Uninit = columns.Uninit
column_of states.Init = columns.Init
column_of (states.Running p) = columns.Running
column_of (states.Suspended p) = columns.Suspended
column_of states.Aborted = columns.Aborted
column_of (states.Foreground b) = columns.Foreground

-- a cell whose call is taken, and goes on in a column; one whose call is refused
abbrev pub taken : FlsColumn → FlsTableCell
taken next = record { reply = Taken; next = next }

abbrev pub refused : CellReply → FlsColumn → FlsTableCell
refused reply column = record { reply = reply; next = column }

-- the cells, row by row
abbrev pub fls_cell : FlsRow → FlsColumn → FlsTableCell
fls_cell rows.Init columns.Uninit = taken columns.Init
fls_cell rows.Init columns.Aborted = taken columns.Init
fls_cell rows.Init column = refused RefusedStatus column
fls_cell rows.DeInit columns.Uninit = refused RefusedUninit columns.Uninit
fls_cell rows.DeInit column = taken columns.Uninit
fls_cell rows.Abort columns.Uninit = refused RefusedUninit columns.Uninit
fls_cell rows.Abort columns.Init = taken columns.Aborted
fls_cell rows.Abort columns.Running = taken columns.Aborted
fls_cell rows.Abort columns.Suspended = taken columns.Aborted
fls_cell rows.Abort column = refused RefusedStatus column
fls_cell rows.Suspend columns.Uninit = refused RefusedUninit columns.Uninit
fls_cell rows.Suspend columns.Running = taken columns.Suspended
fls_cell rows.Suspend column = refused RefusedStatus column
fls_cell rows.Resume columns.Uninit = refused RefusedUninit columns.Uninit
fls_cell rows.Resume columns.Suspended = taken columns.Running
fls_cell rows.Resume column = refused RefusedStatus column
fls_cell rows.StartFgnd columns.Uninit = refused RefusedUninit columns.Uninit
fls_cell rows.StartFgnd columns.Init = taken columns.Foreground
fls_cell rows.StartFgnd columns.Running = taken columns.Foreground
fls_cell rows.StartFgnd columns.Suspended = taken columns.Foreground
fls_cell rows.StartFgnd column = refused RefusedStatus column
fls_cell rows.MainFunction columns.Uninit = refused RefusedUninit columns.Uninit
fls_cell rows.MainFunction columns.Init = taken columns.Running
fls_cell rows.MainFunction columns.Running = taken columns.Running
fls_cell rows.MainFunction column = refused Resting column
fls_cell rows.GetCurrentState column = taken column
fls_cell rows.GetTestResultBgnd columns.Uninit = refused RefusedUninit columns.Uninit
fls_cell rows.GetTestResultBgnd column = taken column
fls_cell rows.GetTestResultFgnd columns.Uninit = refused RefusedUninit columns.Uninit
fls_cell rows.GetTestResultFgnd column = taken column
fls_cell rows.GetErrorDetails columns.Uninit = refused RefusedUninit columns.Uninit
fls_cell rows.GetErrorDetails column = taken column
fls_cell rows.GetVersionInfo column = taken column

-- A module's cell whose call is taken and goes on in a column. What is refused as out of range, is so by its argument.
abbrev pub IsTaken : FlsColumn → State → FlsTst → FlsCell → Type 0
IsTaken next now r (Refuses refusal.Uninit) = ⊥
IsTaken next now r (Refuses refusal.Status) = ⊥
IsTaken next now r (Refuses refusal.Range) = Unit {0}
IsTaken next now r (Goes after) = column_of after.state ≡ next
IsTaken next now r (Answers what) = column_of now ≡ next
IsTaken next now r Rests = ⊥
IsTaken next now r (Runs slices inside back) = column_of (inside r).state ≡ next

-- what a reply and a column of the unit's table say of the module's cell
abbrev pub SaysReply : CellReply → FlsColumn → State → FlsTst → FlsCell → Type 0
SaysReply Taken next now r is = IsTaken next now r is
SaysReply RefusedUninit next now r is = is ≡ Refuses refusal.Uninit
SaysReply RefusedStatus next now r is = is ≡ Refuses refusal.Status
SaysReply Resting next now r is = is ≡ Rests

-- In each state, and for each argument, the unit's cell of a service says what the module's says.
abbrev pub FlsCellsAreTheTable : Type 0
FlsCellsAreTheTable =
    (r : FlsTst) (row : FlsRow) (argument : ℕ)
    → SaysReply (fls_cell row (column_of r.state)).reply (fls_cell row (column_of r.state)).next r.state r (cell r (service_of row argument) r.state)
