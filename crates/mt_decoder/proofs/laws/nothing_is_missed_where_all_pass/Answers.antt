use Rattle.mt_decoder.proofs.Steps.{nothing_missed}
use Rattle.mt_decoder.proofs.laws.nothing_is_missed_where_all_pass.Goals as goal

pub returns : goal.returns
returns c = nothing_missed c.test_accesses_may_be_cut.ensures.split
