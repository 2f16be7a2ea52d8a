use Rattle.std.specs.Prelude.{ℕ, ◌+◌, ◌-◌, ◌*◌, ◌^◌, ◌<◌, ◌==◌, Bool, true, false}
use Rattle.std.specs.Int.{bit_at}
use Rattle.mt_word.specs.declared.Width.{Width}
use Rattle.mt_word.specs.declared.Width.TheVariants.{W8, W16, W32, W64}

-- how many bits a word has
abbrev pub width_bits : Width → ℕ
width_bits W8 = 8
width_bits W16 = 16
width_bits W32 = 32
width_bits W64 = 64

-- a word of the width
abbrev pub Fits : Width → ℕ → Type 0
Fits width word = word < 2 ^ width_bits width

-- the word with every bit of the width flipped
abbrev pub complement_of : Width → ℕ → ℕ
complement_of width word = 2 ^ width_bits width - 1 - word

-- whether bit i is 1: the word divided by 2 to the power i, rounded down, is odd
unfoldable pub has_bit : ℕ → ℕ → Bool
has_bit word i = bit_at word i == 1

-- a bit as a number
abbrev pub bit_number : Bool → ℕ
bit_number true = 1
bit_number false = 0

-- the word with bit i set so
unfoldable pub put_bit : ℕ → ℕ → Bool → ℕ
put_bit word i value = word - bit_at word i * 2 ^ i + bit_number value * 2 ^ i
