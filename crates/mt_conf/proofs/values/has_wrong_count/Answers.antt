use Rattle.std.proofs.Common.{rules}
use Rattle.mt_conf.specs.Rules.{wrong_count, wrong_count_in_fls}
use Rattle.mt_conf.proofs.values.has_wrong_count.Goals as goal

pub returns-else-ram_part_has_wrong_count : goal.returns-else-ram_part_has_wrong_count
unfolding wrong_count
returns-else-ram_part_has_wrong_count c =
    let found = c.in_fls.ensures (wrong_count_in_fls) (λ x answer call. search rules) in
    search rules
