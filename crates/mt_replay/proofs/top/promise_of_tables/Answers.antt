use Rattle.mt_replay.proofs.Cuts.{tells_least_ticks}
use Rattle.mt_replay.proofs.Locates.{locating-exact}
use Rattle.mt_replay.proofs.top.promise_of_tables.Goals as goal

pub returns : goal.returns
returns c = record {
  exact = locating-exact c.faults_of_the_slice_are_listed.ensures c.explaining_is_tested.ensures c.faults_are_listed_once.ensures;
  least = tells_least_ticks c.longest_runs_are_least.ensures.under c.longest_runs_are_least.ensures.least;
}
