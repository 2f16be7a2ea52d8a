use Rattle.std.proofs.Common.{rules}
use Rattle.mt_conf.specs.Rules.{is_destructive, transparent_destructive_in_set}
use Rattle.mt_conf.proofs.values.set_is_transparent_destructive.Goals as goal

pub returns-then-is_named : goal.returns-then-is_named
unfolding transparent_destructive_in_set
returns-then-is_named c =
    let found = c.any_table.ensures (is_destructive) (λ x answer call. search rules) in
    search rules
