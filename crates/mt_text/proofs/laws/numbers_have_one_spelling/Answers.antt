use Rattle.mt_text.proofs.SpellingLaws.{one_spelling}
use Rattle.mt_text.proofs.laws.numbers_have_one_spelling.Goals as goal

pub returns : goal.returns
returns c = one_spelling
