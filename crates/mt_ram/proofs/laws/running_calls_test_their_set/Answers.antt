use Rattle.mt_ram.proofs.AtSlices.{tick_tests_set, full_tests_set, partial_tests_set}
use Rattle.mt_ram.proofs.laws.running_calls_test_their_set.Goals as goal

pub returns-clause-tick : goal.returns-clause-tick
returns-clause-tick c = tick_tests_set

pub returns-clause-full : goal.returns-clause-full
returns-clause-full c = full_tests_set

pub returns-clause-partial : goal.returns-clause-partial
returns-clause-partial c = partial_tests_set
