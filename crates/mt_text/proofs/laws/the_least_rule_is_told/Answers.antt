use Rattle.mt_text.proofs.LeastRules.{refused_by_least, taken_breaks_none}
use Rattle.mt_text.proofs.laws.the_least_rule_is_told.Goals as goal

pub returns-clause-refused : goal.returns-clause-refused
returns-clause-refused c = λ shape text e b. refused_by_least shape _ e b

pub returns-clause-taken : goal.returns-clause-taken
returns-clause-taken c = λ shape form after bytes h. taken_breaks_none shape form bytes after h
