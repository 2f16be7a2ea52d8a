use Rattle.mt_seq.specs.Laws.{AttemptsAreShort}
use Rattle.mt_window.specs.Waits.{AttemptsAreWithin}
use Rattle.mt_ram.specs.declared.test_walk.Test.TheVariants as tests
use Rattle.mt_ram.specs.Event.{job_of, of_pass, of_test}
use Rattle.mt_ram.proofs.laws.attempts_of_running_calls.Goals as goal

pass_within : AttemptsAreShort → AttemptsAreWithin of_pass
pass_within short may r p b = short may b (job_of r p) p.slice

test_within : AttemptsAreShort → AttemptsAreWithin of_test
test_within short may r p b = short may b (job_of r p) p.slice

pub returns-clause-tick : goal.returns-clause-tick
returns-clause-tick c = c.attempts_are_within.ensures (pass_within c.attempts_are_counted.ensures.short) tt

pub returns-clause-full : goal.returns-clause-full
returns-clause-full c = c.attempts_are_within-2.ensures (test_within c.attempts_are_counted.ensures.short) tests.Full

pub returns-clause-partial : goal.returns-clause-partial
returns-clause-partial c = λ block. c.attempts_are_within-2.ensures (test_within c.attempts_are_counted.ensures.short) (tests.Block block)
