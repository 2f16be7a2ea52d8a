-- Both state tables in numbers, row by row.
use Rattle.std.specs.Prelude.{ℕ, List, [], ◌∷◌}
use Rattle.std.specs.List.{flat_map}
use Rattle.mt_unit.specs.declared.cell.CellReply.{CellReply}
use Rattle.mt_unit.specs.declared.cell.CellReply.TheVariants.{Taken, RefusedUninit, RefusedStatus, Resting}
use Rattle.mt_unit.specs.declared.ram_cells.RamRow.{RamRow}
use Rattle.mt_unit.specs.declared.ram_cells.RamRow.TheVariants as ram
use Rattle.mt_unit.specs.declared.ram_cells.RamColumn.{RamColumn}
use Rattle.mt_unit.specs.declared.ram_cells.RamColumn.TheVariants as ram_at
use Rattle.mt_unit.specs.declared.ram_cells.RamTableCell.{RamTableCell}
use Rattle.mt_unit.specs.declared.fls_cells.FlsRow.{FlsRow}
use Rattle.mt_unit.specs.declared.fls_cells.FlsRow.TheVariants as fls
use Rattle.mt_unit.specs.declared.fls_cells.FlsColumn.{FlsColumn}
use Rattle.mt_unit.specs.declared.fls_cells.FlsColumn.TheVariants as fls_at
use Rattle.mt_unit.specs.declared.fls_cells.FlsTableCell.{FlsTableCell}
use Rattle.mt_unit.specs.FlsCells.{fls_cell}
use Rattle.mt_unit.specs.RamCells.{ram_cell}

-- a refusal has the number that it has in a trace
abbrev pub reply_number : CellReply → ℕ
reply_number Taken = 0
reply_number RefusedUninit = 1
reply_number RefusedStatus = 2
reply_number Resting = 4

abbrev pub ram_column_number : RamColumn → ℕ
ram_column_number ram_at.Uninit = 0
ram_column_number ram_at.Stopped = 1
ram_column_number ram_at.Running = 2
ram_column_number ram_at.Suspended = 3
ram_column_number ram_at.Full = 4
ram_column_number ram_at.Partial = 5

abbrev pub ram_cell_numbers : RamTableCell → List ℕ
ram_cell_numbers cell = reply_number cell.reply ∷ ram_column_number cell.next ∷ []

abbrev pub ram_row_numbers : RamRow → List ℕ
ram_row_numbers row = flat_map (λ column. ram_cell_numbers (ram_cell row column)) (ram_at.Uninit ∷ ram_at.Stopped ∷ ram_at.Running ∷ ram_at.Suspended ∷ ram_at.Full ∷ ram_at.Partial ∷ [])

unfoldable pub ram_table : List ℕ
ram_table = flat_map ram_row_numbers (ram.Init ∷ ram.DeInit ∷ ram.Allow ∷ ram.Stop ∷ ram.Suspend ∷ ram.Resume ∷ ram.SelectAlgParams ∷ ram.ChangeNumberOfTestedCells ∷ ram.RunFullTest ∷ ram.RunPartialTest ∷ ram.MainFunction ∷ ram.GetTestResultPerBlock ∷ ram.GetTestResult ∷ ram.GetAlgParams ∷ ram.GetTestAlgorithm ∷ ram.GetNumberOfTestedCells ∷ ram.GetExecutionStatus ∷ ram.GetVersionInfo ∷ [])

abbrev pub fls_column_number : FlsColumn → ℕ
fls_column_number fls_at.Uninit = 0
fls_column_number fls_at.Init = 1
fls_column_number fls_at.Running = 2
fls_column_number fls_at.Suspended = 3
fls_column_number fls_at.Aborted = 4
fls_column_number fls_at.Foreground = 5

abbrev pub fls_cell_numbers : FlsTableCell → List ℕ
fls_cell_numbers cell = reply_number cell.reply ∷ fls_column_number cell.next ∷ []

abbrev pub fls_row_numbers : FlsRow → List ℕ
fls_row_numbers row = flat_map (λ column. fls_cell_numbers (fls_cell row column)) (fls_at.Uninit ∷ fls_at.Init ∷ fls_at.Running ∷ fls_at.Suspended ∷ fls_at.Aborted ∷ fls_at.Foreground ∷ [])

unfoldable pub fls_table : List ℕ
fls_table = flat_map fls_row_numbers (fls.Init ∷ fls.DeInit ∷ fls.Abort ∷ fls.Suspend ∷ fls.Resume ∷ fls.StartFgnd ∷ fls.MainFunction ∷ fls.GetCurrentState ∷ fls.GetTestResultBgnd ∷ fls.GetTestResultFgnd ∷ fls.GetErrorDetails ∷ fls.GetVersionInfo ∷ [])
