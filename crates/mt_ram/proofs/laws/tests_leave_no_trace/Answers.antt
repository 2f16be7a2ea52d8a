use Rattle.mt_ram.specs.Table.{MainFunction, RunFullTest, RunPartialTest}
use Rattle.mt_ram.proofs.Plain.{pass_leaves_no_trace, test_leaves_no_trace}
use Rattle.mt_ram.proofs.laws.tests_leave_no_trace.Goals as goal

pub returns-clause-tick : goal.returns-clause-tick
returns-clause-tick c = pass_leaves_no_trace c.attempts_on_sound_memory.ensures.stays c.attempts_on_sound_memory.ensures.passes MainFunction

pub returns-clause-full : goal.returns-clause-full
returns-clause-full c = test_leaves_no_trace c.attempts_on_sound_memory.ensures.stays c.attempts_on_sound_memory.ensures.passes RunFullTest

pub returns-clause-partial : goal.returns-clause-partial
returns-clause-partial c = λ block. test_leaves_no_trace c.attempts_on_sound_memory.ensures.stays c.attempts_on_sound_memory.ensures.passes (RunPartialTest block)
