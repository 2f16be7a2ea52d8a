use Rattle.std.proofs.Common.{rules}
use Rattle.mt_conf.specs.Rules.{breaks, any_in_fls, breaks_somewhere}
use Rattle.mt_conf.proofs.shape.breaks_somewhere.Goals as goal

pub returns-else-breaks_in_sets : goal.returns-else-breaks_in_sets
unfolding breaks_somewhere
returns-else-breaks_in_sets c =
    let found = c.in_fls.ensures (any_in_fls (breaks c.args.rule)) (λ x answer call. search rules) in
    search rules
