use Rattle.std.proofs.Common.{List, Option, subst}
use Rattle.std.specs.Prelude.{IfSome}
use Rattle.mt_blocks.specs.declared.config.FlashBlock.{FlashBlock}
use Rattle.mt_blocks.specs.declared.config.FlsConfig.{FlsConfig}
use Rattle.mt_blocks.specs.declared.pass.Position.{Position}
use Rattle.mt_blocks.specs.Slices.{IsValid}
use Rattle.mt_blocks.specs.Accepted.{flash_spans}
use Rattle.mt_fls.proofs.state.Fls.next_of_pass.Goals as goal

pub returns-clause-valid : goal.returns-clause-valid
returns-clause-valid c = λ p e.
    let valid : IsValid c.config-config.result.now.atomic (flash_spans c.config-config.result.now.bgnd) p =
    subst (λ (l : List FlashBlock). IsValid c.config-config.result.now.atomic (flash_spans l) p) c.as_slice.ensures (subst (λ (o : Option Position). IfSome o (IsValid c.config-config.result.now.atomic (flash_spans c.as_slice.result.now))) e c.following.ensures.valid) in
    subst (λ (x : FlsConfig). IsValid x.atomic (flash_spans x.bgnd) p) c.config-config.ensures.config valid
