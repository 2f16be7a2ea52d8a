use Rattle.mt_cover.proofs.Behaviours.{faults_behave}
use Rattle.mt_cover.proofs.laws.faults_behave_as_their_class.Goals as goal

pub returns : goal.returns
returns c = faults_behave c.bits_are_put.ensures.here c.last_access_decides.ensures
