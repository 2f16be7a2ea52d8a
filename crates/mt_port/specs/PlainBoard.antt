use Rattle.std.specs.Prelude.{List, [], Option, None}
use Rattle.mt_port.specs.declared.board.Touch.{Touch}
use Rattle.mt_port.specs.declared.plain.PlainBoard.{PlainBoard}
use Rattle.mt_port.specs.Board.{Board}

-- the board as a contract sees it; it has no fault
abbrev pub plain_state : PlainBoard → Board
plain_state b = record { shape = b.shape; fault = None; words = b.words.items; flash = b.flash.items; held = b.held; since = b.since; count = b.count; left = []; taken = 0; operations = b.operations; defect = None }

-- its tape
abbrev pub plain_tape : PlainBoard → Option (List Touch)
plain_tape b = b.tape
