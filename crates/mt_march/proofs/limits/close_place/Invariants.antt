use Rattle.std.proofs.Common.{◌≡◌, ◌+◌, drop}
use Rattle.mt_march.specs.Scan.{close_place}
use Rattle.mt_march.proofs.limits.close_place.Given as goal

abbrev pub invariant-loop-i : goal.invariant-loop-i
invariant-loop-i l = close_place (l.i + 1) (drop l.i l.text) ≡ close_place 1 l.text
