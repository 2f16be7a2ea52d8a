use Rattle.mt_engine.proofs.Telling.{may_before, reported}
use Rattle.mt_engine.proofs.laws.tests_may_be_broken_off.Goals as goal

pub returns-clause-may : goal.returns-clause-may
returns-clause-may c = may_before c.answers_make_the_sequence.ensures.told c.lengths.ensures

pub returns-clause-seen : goal.returns-clause-seen
returns-clause-seen c = reported c.answers_make_the_sequence.ensures.told c.lengths.ensures c.answers_make_the_sequence.ensures.back
