-- A simulated board as a contract sees it.
use Rattle.std.specs.Prelude.{false, List, [], reverse, Option, None}
use Rattle.mt_fault.specs.declared.fault.Fault.{Fault}
use Rattle.mt_port.specs.declared.board.Touch.{Touch}
use Rattle.mt_port.specs.Board.{Board}
use Rattle.mt_board.specs.Stores.{shape_of, fault_of, words_of, flash_of}
use Rattle.mt_board.specs.declared.board.SimBoard.{SimBoard}

-- the board that was never powered up: a shape of 8 bits without words
abbrev pub unpowered : Option Fault → Board
unpowered defect = record { shape = shape_of None; fault = None; words = []; flash = []; held = false; since = 0; count = 0; left = []; taken = 0; operations = 0; defect = defect }

-- all that a contract sees of the board, but for its tape
abbrev pub sim_state : SimBoard → Board
sim_state b = record {
  shape = shape_of b.stores;
  fault = fault_of b.stores;
  words = words_of b.stores;
  flash = flash_of b.stores;
  held = b.held;
  since = b.since;
  count = b.count;
  left = reverse b.later.items;
  taken = b.taken;
  operations = b.operations;
  defect = b.defect;
}

abbrev pub sim_tape : SimBoard → Option (List Touch)
sim_tape b = b.tape
