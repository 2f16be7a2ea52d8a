use Rattle.std.proofs.Common.{arith}
use Rattle.mt_window.specs.Waits.{AttemptsAreWithin}
use Rattle.mt_fls.specs.Event.{of_pass, of_block}
use Rattle.mt_fls.proofs.laws.attempts_of_running_calls.Goals as goal

pass_within : AttemptsAreWithin of_pass
pass_within may f p b = omega arith

block_within : AttemptsAreWithin of_block
block_within may f p b = omega arith

pub returns-clause-tick : goal.returns-clause-tick
returns-clause-tick c = c.attempts_are_within.ensures pass_within tt

pub returns-clause-foreground : goal.returns-clause-foreground
returns-clause-foreground c = λ block. c.attempts_are_within-2.ensures block_within block
