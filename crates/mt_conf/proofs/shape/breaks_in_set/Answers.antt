use Rattle.std.proofs.Common.{rules}
use Rattle.mt_conf.specs.declared.schema.Part.TheVariants.{Block}
use Rattle.mt_conf.specs.Rules.{breaks}
use Rattle.mt_conf.proofs.shape.breaks_in_set.Goals as goal

pub returns-else-breaks : goal.returns-else-breaks
returns-else-breaks c =
    let found = c.any_table.ensures (breaks c.args.rule Block) (λ x answer call. search rules) in
    search rules
