use Rattle.mt_cover.proofs.Indices.{misses_each}
use Rattle.mt_cover.proofs.laws.each_tabled_fault_has_an_index.Goals as goal

pub returns : goal.returns
returns c = misses_each c.each_tabled_fault_is_caught.ensures c.nothing_is_missed_where_all_pass.ensures
