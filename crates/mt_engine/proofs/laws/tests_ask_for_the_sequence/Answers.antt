use Rattle.mt_engine.proofs.Telling.{asks, puts_back}
use Rattle.mt_engine.proofs.laws.tests_ask_for_the_sequence.Goals as goal

pub returns-clause-asks : goal.returns-clause-asks
returns-clause-asks c = asks c.answers_make_the_sequence.ensures.told

pub returns-clause-back : goal.returns-clause-back
returns-clause-back c = puts_back c.lengths.ensures c.answers_make_the_sequence.ensures.back
