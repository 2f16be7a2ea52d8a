use Rattle.mt_fls.proofs.Marks.{ticks_rest, ticks_compare, ticks_end_their_group}
use Rattle.mt_fls.proofs.laws.ticks_end_by_the_mark.Goals as goal

pub returns-clause-rest : goal.returns-clause-rest
returns-clause-rest c = ticks_rest

pub returns-clause-group : goal.returns-clause-group
returns-clause-group c = ticks_end_their_group

pub returns-clause-compare : goal.returns-clause-compare
returns-clause-compare c = ticks_compare c.passes_go_on.ensures c.passes_begin.ensures.block
