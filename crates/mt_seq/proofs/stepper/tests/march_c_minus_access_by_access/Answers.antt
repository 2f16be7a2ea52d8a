use Rattle.std.proofs.Common.{arith}
use Rattle.mt_seq.specs.Sequence.{sequence_hold}
use Rattle.mt_seq.proofs.stepper.tests.march_c_minus_access_by_access.Goals as goal

pub step_all-early-requires-clause-left : goal.step_all-early-requires-clause-left
unfolding sequence_hold
step_all-early-requires-clause-left g c = rw c.new-stepper.ensures (omega (arith, c.hold_of-hold.ensures.hold))
