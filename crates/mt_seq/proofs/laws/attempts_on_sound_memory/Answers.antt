use Rattle.mt_seq.proofs.Sound.{dropped_stays, whole_attempts_pass}
use Rattle.mt_seq.proofs.laws.attempts_on_sound_memory.Goals as goal

pub returns-clause-stays : goal.returns-clause-stays
returns-clause-stays c = dropped_stays

pub returns-clause-passes : goal.returns-clause-passes
returns-clause-passes c = whole_attempts_pass
