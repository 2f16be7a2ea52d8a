-- Laws of words.
use Rattle.std.specs.Prelude.{◌≡◌, ◌<◌, ◌↔◌, ◌++◌, ℕ, List, Some, IsTrue, Contains, codes, slice_index}
use Rattle.mt_word.specs.declared.Width.{Width}
use Rattle.mt_word.specs.Word.{Fits}
use Rattle.mt_hex.specs.Hex.{is_hex, hex_digit, word_of}
use Rattle.mt_hex.specs.Digits.{digit_byte}

-- the word that a width's digits spell fits the width
abbrev pub WordsFit : Type 0
WordsFit = (width : Width) (bytes : List ℕ) (word : ℕ) → word_of width bytes ≡ Some word → Fits width word

-- the digits in the order of their values, in either case
abbrev pub lower_digits : List ℕ
lower_digits = codes "0123456789abcdef"

abbrev pub upper_digits : List ℕ
upper_digits = codes "0123456789ABCDEF"

-- a digit is written as the byte at its value of the text of the lower-case digits
abbrev pub DigitsAreWritten : Type 0
DigitsAreWritten = (digit : ℕ) → digit < 16 → digit_byte digit ≡ slice_index lower_digits digit

-- the byte at each value of a text is read as that value
abbrev pub AreRead : List ℕ → Type 0
AreRead digits = (digit : ℕ) → digit < 16 → hex_digit (slice_index digits digit) ≡ digit

-- a byte is a digit exactly where it is one of these texts
abbrev pub DigitsAreThese : Type 0
DigitsAreThese = (byte : ℕ) → IsTrue (is_hex byte) ↔ Contains (lower_digits ++ upper_digits) byte
