use Rattle.std.proofs.Common.{rules}
use Rattle.mt_conf.specs.Rules.{copy_overlap_in_fls, meets_copy}
use Rattle.mt_conf.proofs.flash.fls_has_copy_overlap.Goals as goal

pub returns : goal.returns
unfolding copy_overlap_in_fls
returns c =
    let found = c.any_flash_block.ensures (meets_copy) (λ x answer call. search rules) in
    search rules
