use Rattle.std.proofs.Common.{◌≡◌, true}
use Rattle.mt_board.specs.Board.{sim_state}
use Rattle.mt_board.proofs.tests.a_tape_tells_256_accesses.Given as goal

abbrev pub invariant-loop : goal.invariant-loop
invariant-loop g l = record {
  held : (sim_state l.board).held ≡ true;
  ram : (sim_state l.board).shape.ram ≡ 10;
  count : (sim_state l.board).count ≡ l.counter;
}
