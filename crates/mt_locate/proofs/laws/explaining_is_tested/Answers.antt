use Rattle.mt_locate.proofs.Tested.{tested}
use Rattle.mt_locate.proofs.laws.explaining_is_tested.Goals as goal

pub returns : goal.returns
returns c = tested
