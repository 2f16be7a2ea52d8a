use Rattle.mt_verify.proofs.Ends.{mismatch}
use Rattle.mt_verify.proofs.laws.mismatches.Goals as goal

pub returns : goal.returns
returns c = mismatch
