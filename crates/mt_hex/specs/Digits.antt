-- Words as they are written.
use Rattle.std.specs.Prelude.{ℕ, zero, suc, ◌+◌, ◌/◌, ◌%◌, nat_lt, if◌then◌else◌, List, [], ◌∷◌, ◌++◌}
use Rattle.mt_word.specs.declared.Width.{Width}
use Rattle.mt_word.specs.Word.{width_bits}

-- a lower-case hexadecimal digit
abbrev pub digit_byte : ℕ → ℕ
digit_byte n = if nat_lt n 10 then 48 + n else 87 + n

-- the last n hexadecimal digits of a word
unfoldable pub hex_text : ℕ → ℕ → List ℕ
hex_text zero word = []
hex_text (suc n) word = hex_text n (word / 16) ++ digit_byte (word % 16) ∷ []

-- a word of the width, in width divided by 4 digits
abbrev pub word_text : Width → ℕ → List ℕ
word_text width word = hex_text (width_bits width / 4) word
