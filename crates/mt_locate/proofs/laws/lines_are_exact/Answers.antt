use Rattle.mt_locate.proofs.LinesRead.{slices_exact, misses_exact}
use Rattle.mt_locate.proofs.laws.lines_are_exact.Goals as goal

pub returns-clause-slices : goal.returns-clause-slices
returns-clause-slices c = slices_exact

pub returns-clause-misses : goal.returns-clause-misses
returns-clause-misses c = misses_exact
