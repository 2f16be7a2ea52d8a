use Rattle.mt_fls.proofs.ServiceLemmas.{init_forgets, services_leave_results}
use Rattle.mt_fls.proofs.laws.results_are_reset.Goals as goal

pub returns : goal.returns
returns c = record { init = init_forgets; kept = services_leave_results }
