use Rattle.mt_blocks.proofs.Tests.{goes_on}
use Rattle.mt_blocks.proofs.laws.passes_go_on.Goals as goal

pub returns : goal.returns
returns c = goes_on
