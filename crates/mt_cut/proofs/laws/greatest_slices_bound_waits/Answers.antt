use Rattle.mt_cut.proofs.Bounds.{largest-bounds}
use Rattle.mt_cut.proofs.laws.greatest_slices_bound_waits.Goals as goal

pub returns : goal.returns
returns c = largest-bounds
