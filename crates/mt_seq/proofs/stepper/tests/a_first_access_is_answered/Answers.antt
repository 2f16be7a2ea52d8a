use Rattle.std.proofs.Common.{arith}
use Rattle.mt_seq.proofs.Urgent.{hold_some}
use Rattle.mt_seq.proofs.stepper.tests.a_first_access_is_answered.Goals as goal

pub next-access-requires-clause-left : goal.next-access-requires-clause-left
next-access-requires-clause-left g c = rw c.new-stepper.ensures (omega (arith, hold_some c.march_job.result 2))

pub answered-requires-clause-left : goal.answered-requires-clause-left
answered-requires-clause-left g c = rw c.new-stepper.ensures (omega (arith, hold_some c.march_job.result 2))
