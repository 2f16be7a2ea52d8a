use Rattle.mt_fls.proofs.Moves.{boundaries_move, requests_left_move}
use Rattle.mt_fls.proofs.laws.handlers_leave_results.Goals as goal

pub returns-clause-boundary : goal.returns-clause-boundary
returns-clause-boundary c = boundaries_move

pub returns-clause-left : goal.returns-clause-left
returns-clause-left c = requests_left_move
