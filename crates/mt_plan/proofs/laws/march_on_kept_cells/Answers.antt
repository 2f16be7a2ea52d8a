use Rattle.mt_plan.proofs.KeptCells.{march_on_kept}
use Rattle.mt_plan.proofs.laws.march_on_kept_cells.Goals as goal

pub returns : goal.returns
returns c = march_on_kept
