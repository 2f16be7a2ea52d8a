use Rattle.std.proofs.Common.{◌≡◌, ◌<◌, false}
use Rattle.mt_board.specs.Board.{sim_state}
use Rattle.mt_board.proofs.tests.hands_out.Given as goal

abbrev pub invariant-loop-reads : goal.invariant-loop-reads
invariant-loop-reads g l = record {
  free : (sim_state l.board).held ≡ false;
  inside : 0 < (sim_state l.board).shape.ram;
}
