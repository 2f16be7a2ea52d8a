use Rattle.std.proofs.Common.{◌≡◌, ◌+◌, ◌≤◌, drop}
use Rattle.mt_march.specs.Scan.{too_long}
use Rattle.mt_march.proofs.limits.too_long.Given as goal

abbrev pub invariant-loop-i : goal.invariant-loop-i
invariant-loop-i l = (too_long (l.i + 1) l.elements l.ops (drop l.i l.text) ≡ too_long 1 0 0 l.text) × (l.elements ≤ 16) × (l.ops ≤ 8)
