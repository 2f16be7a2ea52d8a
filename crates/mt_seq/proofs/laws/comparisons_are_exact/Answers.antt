use Rattle.mt_seq.proofs.Comparison.{comparisons_are_pairs, nothing_is_found}
use Rattle.mt_seq.proofs.laws.comparisons_are_exact.Goals as goal

pub returns-clause-pairs : goal.returns-clause-pairs
returns-clause-pairs c = comparisons_are_pairs

pub returns-clause-nothing : goal.returns-clause-nothing
returns-clause-nothing c = nothing_is_found
