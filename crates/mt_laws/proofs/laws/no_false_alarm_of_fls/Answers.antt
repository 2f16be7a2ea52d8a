use Rattle.mt_laws.proofs.FlsAlarms.{fls_alarms}
use Rattle.mt_laws.proofs.laws.no_false_alarm_of_fls.Goals as goal

pub returns : goal.returns
returns c = fls_alarms c.comparisons_are_exact.ensures.nothing
