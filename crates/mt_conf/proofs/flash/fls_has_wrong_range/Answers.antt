use Rattle.std.proofs.Common.{rules}
use Rattle.mt_conf.specs.Rules.{wrong_flash_block, wrong_fls}
use Rattle.mt_conf.proofs.flash.fls_has_wrong_range.Goals as goal

pub returns-else-not-is_within : goal.returns-else-not-is_within
unfolding wrong_fls
returns-else-not-is_within c =
    let found = c.any_flash_block.ensures (wrong_flash_block c.args.flash) (λ x answer call. search rules) in
    search rules
