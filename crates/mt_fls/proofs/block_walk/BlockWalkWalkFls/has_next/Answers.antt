use Rattle.std.proofs.Common.{◌∙◌}
use Rattle.mt_fls.proofs.Walks.{has_next_is}
use Rattle.mt_fls.proofs.block_walk.BlockWalkWalkFls.has_next.Goals as goal

pub returns : goal.returns
returns c = c.is_some.ensures ∙ has_next_is c.passes_go_on.ensures c.args.self.now c.args._callee.now c.requires
