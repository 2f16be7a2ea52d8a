use Rattle.mt_plan.proofs.KeptCells.{kept_cells}
use Rattle.mt_plan.proofs.laws.kept_cells.Goals as goal

pub returns : goal.returns
returns c = kept_cells
