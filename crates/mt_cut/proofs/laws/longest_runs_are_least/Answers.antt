use Rattle.mt_cut.proofs.Greedy.{longest_runs-under}
use Rattle.mt_cut.proofs.Ahead.{longest_runs-least}
use Rattle.mt_cut.proofs.Places.{above-low}
use Rattle.mt_cut.proofs.laws.longest_runs_are_least.Goals as goal

pub returns-clause-under : goal.returns-clause-under
returns-clause-under c = λ budget holds none. longest_runs-under budget holds (above-low budget holds none)

pub returns-clause-least : goal.returns-clause-least
returns-clause-least c = λ budget holds none. longest_runs-least budget holds (above-low budget holds none)
