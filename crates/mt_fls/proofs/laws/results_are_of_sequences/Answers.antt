use Rattle.mt_fls.proofs.Tested.{intervals_are_of_sequences, identifiers_count, foreground_tests_are_of_sequences}
use Rattle.mt_fls.proofs.laws.results_are_of_sequences.Goals as goal

pub returns : goal.returns
returns c = record { intervals = intervals_are_of_sequences; identifiers = identifiers_count; foreground = foreground_tests_are_of_sequences }
