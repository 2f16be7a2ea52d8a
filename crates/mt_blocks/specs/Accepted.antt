-- Configurations that the modules take.
use Rattle.std.specs.Prelude.{ℕ, ◌+◌, ◌-◌, ◌<◌, ◌≤◌, ◌≡◌, ◌⊎◌, true, List, [], map, length, slice_index_or, All}
use Rattle.mt_word.specs.Word.{Fits}
use Rattle.mt_plan.specs.declared.algorithm.Algorithm.TheVariants.{Checkerboard}
use Rattle.mt_plan.specs.declared.algorithm.Policy.TheVariants.{NonDestructive}
use Rattle.mt_plan.specs.Plan.{IsAccepted}
use Rattle.mt_port.specs.declared.board.Shape.{Shape}
use Rattle.mt_port.specs.Board.{IsWithinLimits}
use Rattle.mt_seq.specs.Sequence.{is_transparent}
use Rattle.mt_blocks.specs.declared.span.Span.{Span}
use Rattle.mt_blocks.specs.declared.config.Block.{Block}
use Rattle.mt_blocks.specs.declared.config.FlashBlock.{FlashBlock}
use Rattle.mt_blocks.specs.declared.config.ParamSet.{ParamSet}
use Rattle.mt_blocks.specs.declared.config.RamConfig.{RamConfig}
use Rattle.mt_blocks.specs.declared.config.FlsConfig.{FlsConfig}
use Rattle.mt_blocks.specs.Slices.{span_at, no_span}

-- the spans of blocks
abbrev pub spans_of : List Block → List Span
spans_of blocks = map (λ (b : Block). b.span) blocks

abbrev pub flash_spans : List FlashBlock → List Span
flash_spans blocks = map (λ (b : FlashBlock). b.span) blocks

-- the block and the set with a number
abbrev pub no_block : Block
no_block = record { span = no_span; policy = NonDestructive; fill = 0 }

abbrev pub block_at : List Block → ℕ → Block
block_at blocks i = slice_index_or blocks i no_block

abbrev pub no_flash_block : FlashBlock
no_flash_block = record { span = no_span; copy = 0 }

abbrev pub flash_block_at : List FlashBlock → ℕ → FlashBlock
flash_block_at blocks i = slice_index_or blocks i no_flash_block

abbrev pub no_set : ParamSet
no_set = record { alg = Checkerboard; background = 0; atomic = 1; cells = 1; blocks = []; retries = 0 }

abbrev pub set_at : List ParamSet → ℕ → ParamSet
set_at sets i = slice_index_or sets i no_set

-- no word is in both spans
abbrev pub AreApart : Span → Span → Type 0
AreApart a b = (a.last < b.first) ⊎ (b.last < a.first)

-- A block of RAM words: it lies in the RAM, and its fill fits.
pub record IsAcceptedBlock (shape : Shape) (b : Block) : Type 0 where
  pub ordered : b.span.first ≤ b.span.last
  pub inside : b.span.last < shape.ram
  pub fill : Fits shape.width b.fill

-- A parameter set: an accepted march, no destructive block for the transparent test, a background that fits, 1 to 64
-- blocks of which no two share a word, slices of 1 to 64 words, a tick of at least one slice and at most 65,536 words, and
-- at most 16 tries of a slice that are broken off.
pub record IsAcceptedSet (shape : Shape) (set : ParamSet) : Type 0 where
  pub accepted : IsAccepted set.alg
  pub kept : is_transparent set.alg ≡ true → All (λ (b : Block). b.policy ≡ NonDestructive) set.blocks
  pub background : Fits shape.width set.background
  pub some : 1 ≤ length set.blocks
  pub few : length set.blocks ≤ 64
  pub blocks : All (IsAcceptedBlock shape) set.blocks
  pub apart : (i j : ℕ) → i < j → j < length set.blocks → AreApart (span_at (spans_of set.blocks) i) (span_at (spans_of set.blocks) j)
  pub atomic_some : 1 ≤ set.atomic
  pub atomic_small : set.atomic ≤ 64
  pub cells_low : set.atomic ≤ set.cells
  pub cells_high : set.cells ≤ 65536
  pub retries : set.retries ≤ 16

-- A configuration of RamTst for a shape: sizes within the limits, and 1 to 16 accepted sets.
pub record IsAcceptedRam (shape : Shape) (config : RamConfig) : Type 0 where
  pub limits : IsWithinLimits shape
  pub some : 1 ≤ length config.sets
  pub few : length config.sets ≤ 16
  pub sets : All (IsAcceptedSet shape) config.sets

-- A block of flash words: it and its copy lie in the flash, and share no word.
pub record IsAcceptedFlashBlock (shape : Shape) (b : FlashBlock) : Type 0 where
  pub ordered : b.span.first ≤ b.span.last
  pub inside : b.span.last < shape.flash
  pub copy : b.copy + (b.span.last - b.span.first) < shape.flash
  pub apart : AreApart b.span (record { first = b.copy; last = b.copy + (b.span.last - b.span.first) })

-- A configuration of FlsTst for a shape: sizes within the limits, slices of 1 to 64 words, a tick of at least one slice
-- and at most 65,536 words, identifiers up to 65,535, and at most 64 accepted blocks of each kind.
pub record IsAcceptedFls (shape : Shape) (config : FlsConfig) : Type 0 where
  pub limits : IsWithinLimits shape
  pub atomic_some : 1 ≤ config.atomic
  pub atomic_small : config.atomic ≤ 64
  pub cells_low : config.atomic ≤ config.cells
  pub cells_high : config.cells ≤ 65536
  pub interval_end : config.interval_end ≤ 65535
  pub bgnd_few : length config.bgnd ≤ 64
  pub fgnd_few : length config.fgnd ≤ 64
  pub bgnd : All (IsAcceptedFlashBlock shape) config.bgnd
  pub fgnd : All (IsAcceptedFlashBlock shape) config.fgnd
