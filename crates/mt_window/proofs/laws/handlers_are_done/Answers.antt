use Rattle.mt_window.proofs.Handlers.{handlers_are_done}
use Rattle.mt_window.proofs.laws.handlers_are_done.Goals as goal

pub returns : goal.returns
returns g c = handlers_are_done g.C.Callee.table
