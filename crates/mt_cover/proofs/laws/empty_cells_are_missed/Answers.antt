use Rattle.mt_cover.proofs.Missed.{cells_are_missed, mats_misses, some_march_misses}
use Rattle.mt_cover.proofs.laws.empty_cells_are_missed.Goals as goal

pub returns-clause-cells : goal.returns-clause-cells
returns-clause-cells c = cells_are_missed

pub returns-clause-mats : goal.returns-clause-mats
returns-clause-mats c = mats_misses

pub returns-clause-marches : goal.returns-clause-marches
returns-clause-marches c = some_march_misses
