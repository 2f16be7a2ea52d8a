use Rattle.std.proofs.Common.{◌≡◌, ◌+◌, true}
use Rattle.mt_board.specs.Board.{sim_state}
use Rattle.mt_board.proofs.tests.read_times.Given as goal

abbrev pub invariant-loop : goal.invariant-loop
invariant-loop l = record {
  held : (sim_state l.board).held ≡ true;
  shape : (sim_state l.board).shape ≡ (sim_state l.fn.board).shape;
  count : (sim_state l.board).count ≡ (sim_state l.fn.board).count + l.counter;
}
