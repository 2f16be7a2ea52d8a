-- What boundaries leave of RamTst.
use Rattle.mt_window.specs.Kept.{due_served-moves, left_served-moves}
use Rattle.mt_ram.specs.Laws.{Moves, BoundariesMove, RequestsLeftMove}
use Rattle.mt_ram.specs.Moves.{ram_moves}
use Rattle.mt_ram.specs.Table.{ram_table}

pub boundaries_move : BoundariesMove
boundaries_move s = due_served-moves ram_table Moves ram_moves s.board.left s

pub requests_left_move : RequestsLeftMove
requests_left_move s = left_served-moves ram_table Moves ram_moves s.board.left s
