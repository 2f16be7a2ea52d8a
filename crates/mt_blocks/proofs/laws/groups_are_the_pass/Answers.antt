use Rattle.mt_blocks.proofs.Cuts.{groups_are_the_pass}
use Rattle.mt_blocks.proofs.laws.groups_are_the_pass.Goals as goal

pub returns : goal.returns
returns c = groups_are_the_pass
