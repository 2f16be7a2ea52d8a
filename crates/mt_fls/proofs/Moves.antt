-- What boundaries leave of FlsTst.
use Rattle.mt_window.specs.Kept.{IsKept, due_served-moves, left_served-moves}
use Rattle.mt_fls.specs.Laws.{Moves, BoundariesMove, RequestsLeftMove}
use Rattle.mt_fls.specs.Walks.{Moves-refl, Moves-trans, row-moves}
use Rattle.mt_fls.specs.Table.{fls_table}

fls_moves : IsKept fls_table Moves
fls_moves = record { none = Moves-refl; both = Moves-trans; row = row-moves }

pub boundaries_move : BoundariesMove
boundaries_move s = due_served-moves fls_table Moves fls_moves s.board.left s

pub requests_left_move : RequestsLeftMove
requests_left_move s = left_served-moves fls_table Moves fls_moves s.board.left s
