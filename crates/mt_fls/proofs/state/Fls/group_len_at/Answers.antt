use Rattle.std.proofs.Common.{◌≡◌, ◌∙◌, List, ap, length, arith}
use Rattle.std.proofs.lemmas.Bool.Decides.{nat_tests}
use Rattle.mt_blocks.specs.declared.config.FlashBlock.{FlashBlock}
use Rattle.mt_blocks.specs.declared.config.FlsConfig.{FlsConfig}
use Rattle.mt_fls.proofs.Walks.{no_group}
use Rattle.mt_fls.proofs.state.Fls.group_len_at.Goals as goal

pub returns-then-is_empty-clause-group : goal.returns-then-is_empty-clause-group
returns-then-is_empty-clause-group c =
    let none : length c.as_slice.result.now ≡ 0 = grind (arith, nat_tests) in
    let same = c.as_slice.ensures ∙ ap (λ (x : FlsConfig). x.bgnd) c.config-config.ensures.config in
    no_group c.args.self.now c.args.at (omega (arith, none, ap (λ (l : List FlashBlock). length l) same))
