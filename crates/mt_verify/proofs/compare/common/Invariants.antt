use Rattle.std.proofs.Common.{length, ◌-◌, ◌≡◌, ◌≤◌, take}
use Rattle.mt_verify.proofs.compare.common.Given as goal

abbrev pub invariant-loop-same : goal.invariant-loop-same
invariant-loop-same l = record {
  expected : l.same ≤ length l.expected;
  given : l.same ≤ length l.given;
  prefix : take l.same l.expected ≡ take l.same l.given;
}

abbrev pub decreases-loop-same : goal.decreases-loop-same
decreases-loop-same l = length l.expected - l.same
