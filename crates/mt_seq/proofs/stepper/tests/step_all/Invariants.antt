use Rattle.std.proofs.Common.{◌≡◌, ◌+◌, ◌≤◌}
use Rattle.mt_seq.specs.Sequence.{sequence_hold}
use Rattle.mt_seq.specs.Stepping.{IsReady}
use Rattle.mt_seq.proofs.stepper.tests.step_all.Given as goal

abbrev pub invariant-loop-left : goal.invariant-loop-left
invariant-loop-left g l = record {
  ready : IsReady (g.P.Port.state l.port) l.stepper l.left;
  left : l.stepper.made + l.left ≤ sequence_hold l.stepper.job l.stepper.slice.n;
}

abbrev pub decreases-loop-left : goal.decreases-loop-left
decreases-loop-left g l = l.left
