use Rattle.mt_locate.proofs.Members.{members}
use Rattle.mt_locate.proofs.laws.faults_of_the_slice_are_listed.Goals as goal

pub returns : goal.returns
returns c = members
