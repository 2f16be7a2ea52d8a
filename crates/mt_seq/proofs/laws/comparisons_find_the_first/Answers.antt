use Rattle.mt_seq.proofs.FirstMoments.{comparisons_find}
use Rattle.mt_seq.proofs.laws.comparisons_find_the_first.Goals as goal

pub returns : goal.returns
returns c = comparisons_find
