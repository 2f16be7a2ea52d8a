use Rattle.mt_hex.proofs.Words.{word_fits}
use Rattle.mt_hex.proofs.laws.words_fit.Goals as goal

pub returns : goal.returns
returns c = word_fits
