use Rattle.mt_ram.specs.declared.test_walk.Test.TheVariants as tests
use Rattle.mt_ram.proofs.laws.running_calls_keep_the_board.Goals as goal

pub returns-clause-tick : goal.returns-clause-tick
returns-clause-tick c = c.requests_are_served.ensures.board tt

pub returns-clause-full : goal.returns-clause-full
returns-clause-full c = c.requests_are_served-2.ensures.board tests.Full

pub returns-clause-partial : goal.returns-clause-partial
returns-clause-partial c = λ block. c.requests_are_served-2.ensures.board (tests.Block block)
