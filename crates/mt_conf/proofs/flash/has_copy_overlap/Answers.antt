use Rattle.std.proofs.Common.{rules}
use Rattle.mt_conf.specs.Rules.{copy_overlap, copy_overlap_in_fls}
use Rattle.mt_conf.proofs.flash.has_copy_overlap.Goals as goal

pub returns : goal.returns
unfolding copy_overlap
returns c =
    let found = c.in_fls.ensures (copy_overlap_in_fls) (λ x answer call. search rules) in
    search rules
