use Rattle.mt_conf.specs.Outcome.{first_broken, rules_of}
use Rattle.mt_conf.proofs.Least.{first_is, none_is}
use Rattle.mt_conf.proofs.laws.refusal_is_least.Goals as goal

pub returns-clause-least : goal.returns-clause-least
unfolding first_broken
returns-clause-least c = λ t e h. first_is (rules_of t) e h

pub returns-clause-none : goal.returns-clause-none
unfolding first_broken
returns-clause-none c = λ t h. none_is (rules_of t) h
