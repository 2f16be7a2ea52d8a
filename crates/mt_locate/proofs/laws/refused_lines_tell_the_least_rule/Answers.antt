use Rattle.mt_locate.proofs.LinesRead.{slices_least, misses_least}
use Rattle.mt_locate.proofs.laws.refused_lines_tell_the_least_rule.Goals as goal

pub returns-clause-slices : goal.returns-clause-slices
returns-clause-slices c = slices_least

pub returns-clause-misses : goal.returns-clause-misses
returns-clause-misses c = misses_least
