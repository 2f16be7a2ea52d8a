use Rattle.mt_blocks.proofs.Tests.{pass_begins, block_begins}
use Rattle.mt_blocks.proofs.laws.passes_begin.Goals as goal

pub returns-clause-pass : goal.returns-clause-pass
returns-clause-pass c = pass_begins

pub returns-clause-block : goal.returns-clause-block
returns-clause-block c = block_begins
