use Rattle.std.proofs.Common.{rules}
use Rattle.mt_conf.specs.Rules.{wrong_range}
use Rattle.mt_conf.proofs.values.set_has_wrong_range.Goals as goal

pub returns : goal.returns
returns c =
    let found = c.any_table.ensures (wrong_range c.args.ram) (λ x answer call. search rules) in
    search rules
