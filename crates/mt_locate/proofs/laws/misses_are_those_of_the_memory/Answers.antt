use Rattle.mt_locate.proofs.Raised.{in_memory}
use Rattle.mt_locate.proofs.laws.misses_are_those_of_the_memory.Goals as goal

pub returns : goal.returns
returns c = in_memory c.plans_are_steady.ensures c.faults_of_a_slice_stay_well_placed.ensures
