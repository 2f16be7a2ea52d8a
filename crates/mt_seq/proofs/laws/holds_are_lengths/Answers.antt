use Rattle.mt_seq.proofs.Attempts.{hold_length}
use Rattle.mt_seq.proofs.laws.holds_are_lengths.Goals as goal

pub returns : goal.returns
returns c = hold_length
