use Rattle.std.proofs.Common.{rules}
use Rattle.mt_conf.specs.Rules.{wrong_algorithm, wrong_algorithm_in_set}
use Rattle.mt_conf.proofs.values.has_wrong_algorithm.Goals as goal

pub returns : goal.returns
unfolding wrong_algorithm
returns c =
    let found = c.any_table.ensures (wrong_algorithm_in_set) (λ x answer call. search rules) in
    search rules
