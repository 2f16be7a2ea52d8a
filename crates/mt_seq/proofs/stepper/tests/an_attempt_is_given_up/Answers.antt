use Rattle.std.proofs.Common.{arith}
use Rattle.mt_seq.specs.Sequence.{sequence_hold}
use Rattle.mt_seq.proofs.stepper.tests.an_attempt_is_given_up.Goals as goal

pub run_and_give_up-answers-requires-clause-to : goal.run_and_give_up-answers-requires-clause-to
unfolding sequence_hold
run_and_give_up-answers-requires-clause-to g c = rw c.new-stepper.ensures (omega (arith, c.hold_of-hold.ensures.hold))
