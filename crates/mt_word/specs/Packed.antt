-- Words of a memory that are packed into bytes.
use Rattle.std.specs.Prelude.{ℕ, ◌+◌, ◌*◌, ◌/◌, List, map, length, slice_range}
use Rattle.std.specs.List.{range_with_len}
use Rattle.std.specs.Int.{w8, w16, w32, w64, from_le_bytes}
use Rattle.mt_word.specs.declared.Width.{Width}
use Rattle.mt_word.specs.declared.Width.TheVariants.{W8, W16, W32, W64}

-- words of one width, as contracts see a `Words`
pub record WordList : Type 0 where
  pub width : Width
  pub words : List ℕ

-- how many bytes a word has
abbrev pub width_bytes : Width → ℕ
width_bytes W8 = 1
width_bytes W16 = 2
width_bytes W32 = 4
width_bytes W64 = 8

-- the bytes of the word with an index
abbrev pub bytes_of : Width → List ℕ → ℕ → List ℕ
bytes_of width bytes i = slice_range bytes (width_bytes width * i) (width_bytes width * i + width_bytes width)

-- the word with an index: the number of its bytes, the least one first
unfoldable pub word_at : Width → List ℕ → ℕ → ℕ
word_at W8 bytes i = from_le_bytes w8 (bytes_of W8 bytes i)
word_at W16 bytes i = from_le_bytes w16 (bytes_of W16 bytes i)
word_at W32 bytes i = from_le_bytes w32 (bytes_of W32 bytes i)
word_at W64 bytes i = from_le_bytes w64 (bytes_of W64 bytes i)

-- the words that some bytes hold
unfoldable pub unpacked : Width → List ℕ → List ℕ
unpacked width bytes = map (word_at width bytes) (range_with_len 0 (length bytes / width_bytes width))
