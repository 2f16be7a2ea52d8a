use Rattle.std.proofs.Common.{rules}
use Rattle.mt_conf.specs.Rules.{wrong_algorithm_in_set, wrong_policy}
use Rattle.mt_conf.proofs.values.set_has_wrong_algorithm.Goals as goal

pub returns-else-set_has_idle_march : goal.returns-else-set_has_idle_march
unfolding wrong_algorithm_in_set
returns-else-set_has_idle_march c =
    let found = c.any_table.ensures (wrong_policy) (λ x answer call. search rules) in
    search rules
