use Rattle.std.proofs.Common.{◌≡◌, length, take}
use Rattle.mt_c.proofs.state.places_of.Given as goal

-- the places begin with the bytes that were copied
abbrev pub invariant-loop-i : goal.invariant-loop-i
invariant-loop-i l = (take l.i l.places ≡ take l.i l.text) × (length l.places ≡ 448)
