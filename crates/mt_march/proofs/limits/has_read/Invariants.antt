use Rattle.std.proofs.Common.{◌≡◌, drop}
use Rattle.mt_march.specs.Scan.{has_read}
use Rattle.mt_march.proofs.limits.has_read.Given as goal

abbrev pub invariant-loop-i : goal.invariant-loop-i
invariant-loop-i l = has_read l.digit (drop l.i l.text) ≡ has_read l.digit l.text
