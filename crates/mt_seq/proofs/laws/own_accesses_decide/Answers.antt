use Rattle.mt_seq.proofs.Apart.{own_decide}
use Rattle.mt_seq.proofs.laws.own_accesses_decide.Goals as goal

pub returns : goal.returns
returns c = own_decide
