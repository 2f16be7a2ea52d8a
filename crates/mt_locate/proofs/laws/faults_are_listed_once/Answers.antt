use Rattle.mt_locate.proofs.Ordered.{once}
use Rattle.mt_locate.proofs.laws.faults_are_listed_once.Goals as goal

pub returns : goal.returns
returns c = once c.faults_are_listed_in_order.ensures
