use Rattle.mt_blocks.proofs.Words.{slices_are_the_block, only_the_last_is_shorter}
use Rattle.mt_blocks.proofs.laws.slices_are_the_block.Goals as goal

pub returns-clause-words : goal.returns-clause-words
returns-clause-words c = slices_are_the_block

pub returns-clause-whole : goal.returns-clause-whole
returns-clause-whole c = only_the_last_is_shorter
