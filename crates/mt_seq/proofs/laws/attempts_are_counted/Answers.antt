use Rattle.mt_seq.proofs.Urgent.{attempts_are_counted, attempts_are_short, attempts_are_told, no_attempt_is_empty}
use Rattle.mt_seq.proofs.laws.attempts_are_counted.Goals as goal

pub returns-clause-count : goal.returns-clause-count
returns-clause-count c = attempts_are_counted

pub returns-clause-short : goal.returns-clause-short
returns-clause-short c = attempts_are_short

pub returns-clause-some : goal.returns-clause-some
returns-clause-some c = no_attempt_is_empty

pub returns-clause-told : goal.returns-clause-told
returns-clause-told c = attempts_are_told
