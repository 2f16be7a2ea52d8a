use Rattle.mt_hex.proofs.DigitLemmas.{written, lower_read, upper_read, these}
use Rattle.mt_hex.proofs.laws.digits_have_values.Goals as goal

pub returns : goal.returns
returns c = record { written = written; lower = lower_read; upper = upper_read; these = these }
