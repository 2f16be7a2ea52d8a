use Rattle.mt_march.proofs.Least.{refusal_is_least}
use Rattle.mt_march.proofs.laws.the_least_rule_refuses.Goals as goal

pub returns : goal.returns
returns c = refusal_is_least
