use Rattle.mt_unit.proofs.FlsCells.{fls_cells}
use Rattle.mt_unit.proofs.RamCells.{ram_cells}
use Rattle.mt_unit.proofs.laws.cells_are_the_tables.Goals as goal

pub returns-clause-ram : goal.returns-clause-ram
returns-clause-ram c = ram_cells

pub returns-clause-fls : goal.returns-clause-fls
returns-clause-fls c = fls_cells
