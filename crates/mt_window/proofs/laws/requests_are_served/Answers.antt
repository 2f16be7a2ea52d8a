use Rattle.mt_window.proofs.Events.{event-board}
use Rattle.mt_window.proofs.Order.{event-order, event-none_left}
use Rattle.mt_window.proofs.Places.{event-places}
use Rattle.mt_window.proofs.laws.requests_are_served.Goals as goal

pub returns-clause-places : goal.returns-clause-places
returns-clause-places g c = λ name. event-places (g.W.Walk.running name)

pub returns-clause-order : goal.returns-clause-order
returns-clause-order g c = λ name. event-order (g.W.Walk.running name)

pub returns-clause-taken : goal.returns-clause-taken
returns-clause-taken g c = λ name. event-none_left (g.W.Walk.running name)

pub returns-clause-board : goal.returns-clause-board
returns-clause-board g c = λ name. event-board (g.W.Walk.running name)
