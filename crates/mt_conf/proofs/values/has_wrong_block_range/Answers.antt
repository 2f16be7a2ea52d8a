use Rattle.std.proofs.Common.{rules}
use Rattle.mt_conf.specs.Rules.{any_block, wrong_block_range, wrong_range}
use Rattle.mt_conf.proofs.values.has_wrong_block_range.Goals as goal

pub returns : goal.returns
unfolding wrong_block_range
returns c =
    let found = c.any_table.ensures (any_block (wrong_range c.number_at-ram.result)) (λ x answer call. search rules) in
    search rules
