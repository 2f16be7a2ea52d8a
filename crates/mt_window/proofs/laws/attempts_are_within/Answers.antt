use Rattle.std.proofs.Common.{sym, subst}
use Rattle.mt_window.specs.Waits.{AttemptsAreWithin}
use Rattle.mt_window.proofs.Waits.{event-within}
use Rattle.mt_window.proofs.laws.attempts_are_within.Goals as goal

pub returns : goal.returns
returns g c = λ within name. event-within (g.W.Walk.running name) (subst AttemptsAreWithin (sym (g.met.W.Walk.same_tests name)) within)
