use Rattle.std.proofs.Common.{sym, subst}
use Rattle.mt_window.specs.Waits.{DropsInTime}
use Rattle.mt_window.proofs.Urgent.{event-urgent}
use Rattle.mt_window.proofs.Waits.{event-waits}
use Rattle.mt_window.proofs.laws.waits_are_short.Goals as goal

pub returns-clause-waits : goal.returns-clause-waits
returns-clause-waits g c = λ name. event-waits (g.W.Walk.running name)

pub returns-clause-urgent : goal.returns-clause-urgent
returns-clause-urgent g c = λ drops name. event-urgent (g.W.Walk.running name) (subst DropsInTime (sym (g.met.W.Walk.same_tests name)) drops)
