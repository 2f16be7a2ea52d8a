use Rattle.mt_ram.proofs.Marks.{ticks_rest, ticks_test, ticks_end_their_group}
use Rattle.mt_ram.proofs.laws.ticks_end_by_the_mark.Goals as goal

pub returns-clause-rest : goal.returns-clause-rest
returns-clause-rest c = ticks_rest

pub returns-clause-group : goal.returns-clause-group
returns-clause-group c = ticks_end_their_group

pub returns-clause-test : goal.returns-clause-test
returns-clause-test c = ticks_test c.attempts_are_counted.ensures.some c.passes_go_on.ensures
