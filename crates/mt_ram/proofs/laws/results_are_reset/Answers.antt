use Rattle.mt_ram.proofs.ServiceLemmas.{results_are_reset, init_forgets}
use Rattle.mt_ram.proofs.laws.results_are_reset.Goals as goal

pub returns : goal.returns
returns c = record { reset = results_are_reset; init = init_forgets }
