use Rattle.std.proofs.Common.{◌≡◌, ◌+◌, map, take}
use Rattle.mt_place.specs.Places.{byte_count}
use Rattle.mt_place.proofs.mark.mark_at.Given as goal

abbrev pub invariant-loop-number : goal.invariant-loop-number
invariant-loop-number l = l.rest + byte_count (take l.number (map (λ line. line.now) l.file)) ≡ l.index
