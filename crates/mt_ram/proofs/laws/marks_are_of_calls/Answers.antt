use Rattle.mt_ram.proofs.ServiceLemmas.{marks_are_of_calls}
use Rattle.mt_ram.proofs.laws.marks_are_of_calls.Goals as goal

pub returns : goal.returns
returns c = marks_are_of_calls
