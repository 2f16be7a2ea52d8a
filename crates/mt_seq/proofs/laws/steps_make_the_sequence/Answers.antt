use Rattle.mt_seq.proofs.Underway.{underway_begun, underway_more}
use Rattle.mt_seq.proofs.Endings.{sequences_end}
use Rattle.mt_seq.proofs.laws.steps_make_the_sequence.Goals as goal

pub returns-clause-begin : goal.returns-clause-begin
returns-clause-begin c = underway_begun

pub returns-clause-go_on : goal.returns-clause-go_on
returns-clause-go_on c = underway_more

pub returns-clause-end : goal.returns-clause-end
returns-clause-end c = sequences_end
