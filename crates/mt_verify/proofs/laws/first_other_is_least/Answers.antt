use Rattle.mt_verify.proofs.Least.{least, none_where_equal}
use Rattle.mt_verify.proofs.laws.first_other_is_least.Goals as goal

pub returns-clause-least : goal.returns-clause-least
returns-clause-least c = least

pub returns-clause-none : goal.returns-clause-none
returns-clause-none c = none_where_equal
