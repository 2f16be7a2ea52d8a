use Rattle.mt_locate.proofs.Ordered.{ordered}
use Rattle.mt_locate.proofs.laws.faults_are_listed_in_order.Goals as goal

pub returns : goal.returns
returns c = ordered
