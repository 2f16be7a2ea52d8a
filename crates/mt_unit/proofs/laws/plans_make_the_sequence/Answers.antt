use Rattle.mt_unit.proofs.Making.{plans_make, words_come_back}
use Rattle.mt_unit.proofs.laws.plans_make_the_sequence.Goals as goal

pub returns-clause-makes : goal.returns-clause-makes
returns-clause-makes c = plans_make

pub returns-clause-back : goal.returns-clause-back
returns-clause-back c = words_come_back
