use Rattle.mt_fault.proofs.Forward.{last_forward, answer_forward}
use Rattle.mt_fault.proofs.laws.rules_agree_with_histories.Goals as goal

pub returns : goal.returns
returns c = record { words = last_forward; answers = answer_forward }
