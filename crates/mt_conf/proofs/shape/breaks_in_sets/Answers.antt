use Rattle.std.proofs.Common.{rules}
use Rattle.mt_conf.specs.Rules.{breaks, any_in_set}
use Rattle.mt_conf.proofs.shape.breaks_in_sets.Goals as goal

pub returns : goal.returns
returns c =
    let found = c.any_table.ensures (any_in_set (breaks c.args.rule)) (λ x answer call. search rules) in
    search rules
