use Rattle.std.proofs.Common.{rules}
use Rattle.mt_conf.specs.Rules.{overlap, overlap_in_set}
use Rattle.mt_conf.proofs.values.has_overlap.Goals as goal

pub returns : goal.returns
unfolding overlap
returns c =
    let found = c.any_table.ensures (overlap_in_set) (λ x answer call. search rules) in
    search rules
