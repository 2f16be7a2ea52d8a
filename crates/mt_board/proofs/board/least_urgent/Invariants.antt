use Rattle.std.proofs.Common.{◌≡◌, take}
use Rattle.mt_board.specs.Requests.{least_urgent}
use Rattle.mt_board.proofs.board.least_urgent.Given as goal

abbrev pub invariant-loop-request : goal.invariant-loop-request
invariant-loop-request l = l.least ≡ least_urgent (take l.request-index l.requests)
