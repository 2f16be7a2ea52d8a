use Rattle.mt_march.proofs.Agreement.{accepted_is_march}
use Rattle.mt_march.proofs.Refusals.{accepted_breaks_no_rule}
use Rattle.mt_march.proofs.laws.accepted_breaks_no_rule.Goals as goal

pub returns-clause-rules : goal.returns-clause-rules
returns-clause-rules c = accepted_breaks_no_rule

pub returns-clause-march : goal.returns-clause-march
returns-clause-march c = accepted_is_march
