use Rattle.mt_fls.proofs.ServiceLemmas.{marks_are_of_calls}
use Rattle.mt_fls.proofs.laws.marks_are_of_calls.Goals as goal

pub returns : goal.returns
returns c = marks_are_of_calls
