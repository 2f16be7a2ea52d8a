use Rattle.mt_blocks.proofs.Words.{groups_fit, groups_are_longest}
use Rattle.mt_blocks.proofs.laws.groups_are_longest.Goals as goal

pub returns-clause-fit : goal.returns-clause-fit
returns-clause-fit c = groups_fit

pub returns-clause-longest : goal.returns-clause-longest
returns-clause-longest c = groups_are_longest
