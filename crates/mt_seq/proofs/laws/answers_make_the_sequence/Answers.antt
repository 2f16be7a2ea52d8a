use Rattle.mt_seq.proofs.Told.{answers_make, told_holds, written_back}
use Rattle.mt_seq.proofs.laws.answers_make_the_sequence.Goals as goal

pub returns-clause-told : goal.returns-clause-told
returns-clause-told c = answers_make

pub returns-clause-count : goal.returns-clause-count
returns-clause-count c = told_holds

pub returns-clause-back : goal.returns-clause-back
returns-clause-back c = written_back
