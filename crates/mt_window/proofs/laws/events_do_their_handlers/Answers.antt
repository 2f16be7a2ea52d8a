use Rattle.mt_window.proofs.Handlers.{counts_operations, opens_with_due, ends_with_left}
use Rattle.mt_window.proofs.laws.events_do_their_handlers.Goals as goal

pub returns-clause-counted : goal.returns-clause-counted
returns-clause-counted g c = λ name. counts_operations (g.W.Walk.running name)

pub returns-clause-opens : goal.returns-clause-opens
returns-clause-opens g c = λ name. opens_with_due (g.W.Walk.running name)

pub returns-clause-ends : goal.returns-clause-ends
returns-clause-ends g c = λ name. ends_with_left (g.W.Walk.running name)
