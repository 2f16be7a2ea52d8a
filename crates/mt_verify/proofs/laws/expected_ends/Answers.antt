use Rattle.mt_verify.proofs.Ends.{expected_ended}
use Rattle.mt_verify.proofs.laws.expected_ends.Goals as goal

pub returns : goal.returns
returns c = expected_ended
