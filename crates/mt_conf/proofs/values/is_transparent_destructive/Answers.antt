use Rattle.std.proofs.Common.{rules}
use Rattle.mt_conf.specs.Rules.{transparent_destructive, transparent_destructive_in_set}
use Rattle.mt_conf.proofs.values.is_transparent_destructive.Goals as goal

pub returns : goal.returns
unfolding transparent_destructive
returns c =
    let found = c.any_table.ensures (transparent_destructive_in_set) (λ x answer call. search rules) in
    search rules
