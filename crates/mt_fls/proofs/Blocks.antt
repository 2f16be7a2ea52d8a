-- The blocks of an accepted configuration.
use Rattle.std.proofs.Common.{ℕ, ◌<◌, ◌≤◌, ◌≡◌, All, List, length, sym, subst, arith}
use Rattle.std.proofs.lemmas.List.{length-map, get_or-map}
use Rattle.mt_port.specs.declared.board.Shape.{Shape}
use Rattle.mt_blocks.specs.declared.span.Span.{Span}
use Rattle.mt_blocks.specs.declared.config.FlashBlock.{FlashBlock}
use Rattle.mt_blocks.specs.declared.config.FlsConfig.{FlsConfig}
use Rattle.mt_blocks.specs.Slices.{AreSpans, span_at, no_span}
use Rattle.mt_blocks.specs.Accepted.{IsAcceptedFls, IsAcceptedFlashBlock, flash_block_at, no_flash_block, flash_spans}

spans_at : (blocks : List FlashBlock) (i : ℕ) → i < length blocks → span_at (flash_spans blocks) i ≡ (flash_block_at blocks i).span
spans_at blocks i inside = get_or-map (λ (b : FlashBlock). b.span) blocks i no_flash_block no_span inside

accepted_spans : (shape : Shape) (config : FlsConfig) (blocks : List FlashBlock) → IsAcceptedFls shape config → length blocks ≤ 64 → All (IsAcceptedFlashBlock shape) blocks
    → AreSpans config.atomic (flash_spans blocks)
accepted_spans shape config blocks ok few all =
    let many = length-map blocks (λ (b : FlashBlock). b.span) in
    record {
      some = ok.atomic_some;
      small = ok.atomic_small;
      few = omega (arith, many, few);
      ordered = λ i h. let inside : i < length blocks = omega (arith, many, h) in
          subst (λ (s : Span). s.first ≤ s.last) (sym (spans_at blocks i inside)) (all i no_flash_block inside).ordered;
      limit = λ i h. let inside : i < length blocks = omega (arith, many, h) in
          subst (λ (s : Span). s.last < 65536) (sym (spans_at blocks i inside)) (let low = (all i no_flash_block inside).inside in omega (arith, low, ok.limits.flash));
    }

pub bgnd_accepted : (shape : Shape) (config : FlsConfig) → IsAcceptedFls shape config → AreSpans config.atomic (flash_spans config.bgnd)
bgnd_accepted shape config ok = accepted_spans shape config config.bgnd ok ok.bgnd_few ok.bgnd

pub fgnd_accepted : (shape : Shape) (config : FlsConfig) → IsAcceptedFls shape config → AreSpans config.atomic (flash_spans config.fgnd)
fgnd_accepted shape config ok = accepted_spans shape config config.fgnd ok ok.fgnd_few ok.fgnd
