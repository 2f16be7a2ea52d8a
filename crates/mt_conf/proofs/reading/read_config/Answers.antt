use Rattle.std.proofs.Common.{sym, subst}
use Rattle.mt_conf.specs.Accepted.{IsAcceptedConfig}
use Rattle.mt_conf.proofs.reading.read_config.Goals as goal

pub returns-in-Ok-clause-accepted : goal.returns-in-Ok-clause-accepted
returns-in-Ok-clause-accepted c = subst IsAcceptedConfig (sym c.in-Ok.ensures) (c.accepted_is_taken.ensures _ c.in_ok-check.ensures.ok)
