use Rattle.mt_seq.proofs.FirstMoments.{attempts_end}
use Rattle.mt_seq.proofs.laws.attempts_end_at_the_first_moment.Goals as goal

pub returns : goal.returns
returns c = attempts_end
