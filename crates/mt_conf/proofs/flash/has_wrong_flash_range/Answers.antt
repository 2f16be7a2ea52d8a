use Rattle.std.proofs.Common.{rules}
use Rattle.mt_conf.specs.Rules.{wrong_flash_range, wrong_fls}
use Rattle.mt_conf.proofs.flash.has_wrong_flash_range.Goals as goal

pub returns : goal.returns
unfolding wrong_flash_range
returns c =
    let found = c.in_fls.ensures (wrong_fls c.number_at-flash.result) (λ x answer call. search rules) in
    search rules
