-- What is known of a slice between calls.
use Rattle.std.specs.Prelude.{◌+◌, ◌*◌, ◌≤◌}
use Rattle.mt_word.specs.declared.Width.{Width}
use Rattle.mt_word.specs.Word.{width_bits}
use Rattle.mt_seq.specs.declared.sequence.Slice.{Slice}
use Rattle.mt_blocks.specs.declared.span.Span.{Span}

-- What is known of the slice that a line names: 1 to 64 words of its block's span, of at most 128 bits.
pub record IsLocatedSlice (width : Width) (span : Span) (slice : Slice) : Type 0 where
  pub some : 1 ≤ slice.n
  pub small : slice.n ≤ 64
  pub bits : slice.n * width_bits width ≤ 128
  pub inside : slice.first + slice.n ≤ span.last + 1
