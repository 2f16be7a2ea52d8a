use Rattle.mt_word.proofs.WordLemmas.{put_here, put_other, put_twice, put_same, put_fits}
use Rattle.mt_word.proofs.laws.bits_are_put.Goals as goal

pub returns : goal.returns
returns c = record { here = put_here; others = put_other; twice = put_twice; same = put_same; fits = put_fits }
