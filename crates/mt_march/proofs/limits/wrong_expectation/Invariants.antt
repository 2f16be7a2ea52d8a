use Rattle.std.proofs.Common.{◌≡◌, ◌+◌, drop}
use Rattle.mt_march.specs.Scan.{wrong_expectation}
use Rattle.mt_march.proofs.limits.wrong_expectation.Given as goal

abbrev pub invariant-loop-i : goal.invariant-loop-i
invariant-loop-i l = wrong_expectation (l.i + 1) l.written (drop l.i l.text) ≡ wrong_expectation 1 0 l.text
