use Rattle.mt_blocks.proofs.Cuts.{groups_take_a_tick}
use Rattle.mt_blocks.proofs.laws.groups_take_a_tick.Goals as goal

pub returns : goal.returns
returns c = groups_take_a_tick
