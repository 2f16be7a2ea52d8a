use Rattle.mt_fault.proofs.Others.{stored_plain, answer_plain}
use Rattle.mt_fault.proofs.laws.other_words_are_plain.Goals as goal

pub returns : goal.returns
returns c = record { words = stored_plain; answers = answer_plain }
