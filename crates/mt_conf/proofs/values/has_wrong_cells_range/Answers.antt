use Rattle.std.proofs.Common.{rules}
use Rattle.mt_conf.specs.Rules.{wrong_cells_in_set, wrong_cells_range}
use Rattle.mt_conf.proofs.values.has_wrong_cells_range.Goals as goal

pub returns : goal.returns
unfolding wrong_cells_range
returns c =
    let found = c.any_table.ensures (wrong_cells_in_set c.is_version-first.result) (λ x answer call. search rules) in
    search rules
