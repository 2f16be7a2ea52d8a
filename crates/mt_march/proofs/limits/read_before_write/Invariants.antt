use Rattle.std.proofs.Common.{◌≡◌, ◌+◌, drop}
use Rattle.mt_march.specs.Scan.{read_before_write}
use Rattle.mt_march.proofs.limits.read_before_write.Given as goal

abbrev pub invariant-loop-i : goal.invariant-loop-i
invariant-loop-i l = read_before_write (l.i + 1) (drop l.i l.text) ≡ read_before_write 1 l.text
