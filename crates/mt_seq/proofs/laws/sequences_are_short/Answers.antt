use Rattle.mt_seq.proofs.Lengths.{holds_are_short}
use Rattle.mt_seq.proofs.laws.sequences_are_short.Goals as goal

pub returns : goal.returns
returns c = holds_are_short
