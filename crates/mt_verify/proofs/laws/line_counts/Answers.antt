use Rattle.mt_verify.proofs.Whole.{as_many}
use Rattle.mt_verify.proofs.laws.line_counts.Goals as goal

pub returns : goal.returns
returns c = as_many
