use Rattle.std.proofs.Common.{rules}
use Rattle.mt_conf.specs.Rules.{wrong_count_in_set}
use Rattle.mt_conf.proofs.values.ram_part_has_wrong_count.Goals as goal

pub returns-else-not-is_count : goal.returns-else-not-is_count
returns-else-not-is_count c =
    let found = c.any_table.ensures (wrong_count_in_set) (λ x answer call. search rules) in
    search rules
