use Rattle.mt_ram.proofs.Tested.{results_are_of_tests, failures_are_kept, other_blocks_stay, overall_is_of_all}
use Rattle.mt_ram.proofs.laws.results_are_of_tests.Goals as goal

pub returns : goal.returns
returns c = record { blocks = results_are_of_tests; failures = failures_are_kept; others = other_blocks_stay; overall = overall_is_of_all }
