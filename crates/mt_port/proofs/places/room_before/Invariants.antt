use Rattle.std.proofs.Common.{ℕ, ◌≡◌, ◌<◌, ◌≤◌, ◌+◌, ◌⊎◌, get_or, Contains}
use Rattle.mt_port.proofs.places.room_before.Given as goal

abbrev pub invariant-loop-fail : goal.invariant-loop-fail
invariant-loop-fail l = record {
  most : l.room ≤ l.limit;
  some : 0 < l.limit → 0 < l.room;
  before : (k : ℕ) → k < l.fail-index → l.place < get_or l.fails k 0 → l.place + l.room ≤ get_or l.fails k 0;
  short : (l.room ≡ l.limit) ⊎ Contains l.fails (l.place + l.room);
}
