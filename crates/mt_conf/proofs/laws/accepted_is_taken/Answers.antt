use Rattle.mt_conf.proofs.Taken.{taken}
use Rattle.mt_conf.proofs.laws.accepted_is_taken.Goals as goal

pub returns : goal.returns
returns c = taken c.words_fit.ensures c.refusals_are_of_texts.ensures.unrefused
