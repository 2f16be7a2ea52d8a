use Rattle.mt_conf.proofs.LeastNumber.{least_number}
use Rattle.mt_conf.proofs.laws.the_least_number_is_told.Goals as goal

pub returns : goal.returns
returns c = least_number
