use Rattle.std.proofs.Common.{◌≡◌, ◌≤◌, ◌+◌, ◌++◌, reverse, length}
use Rattle.mt_board.proofs.board.move_reversed.Given as goal

abbrev pub invariant-loop-request : goal.invariant-loop-request
invariant-loop-request l = record {
  moved : l.to.items ++ reverse l.from.items ≡ reverse l.fn.from.items;
  few : length l.to.items + length l.from.items ≤ 16;
}

abbrev pub decreases-loop-request : goal.decreases-loop-request
decreases-loop-request l = length l.from.items
