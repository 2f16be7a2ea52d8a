-- The numbers that a C text has: digits that stand for themselves, with a `u` right after them.
use Rattle.std.specs.Prelude.{ℕ, ◌+◌, ◌-◌, ◌*◌, ◌^◌, ◌==◌, Bool, ◌&&◌, ◌||◌, nat_lt, nat_le, List, [], ◌∷◌, ◌++◌, if◌then◌else◌}
use Rattle.mt_unit.specs.declared.reader.Place.{Place}
use Rattle.mt_unit.specs.declared.reader.Place.TheVariants.{Between, Word, Number}

abbrev pub is_digit : ℕ → Bool
is_digit byte = nat_le 48 byte && nat_le byte 57

-- a byte of a word: a digit, a letter of either case, or the low line
abbrev pub is_word_byte : ℕ → Bool
is_word_byte byte = is_digit byte || (nat_le 65 byte && nat_le byte 90) || (nat_le 97 byte && nat_le byte 122) || byte == 95

-- a number with one digit more; a word, where it has 2 to the power 64 or more
abbrev pub grown : ℕ → ℕ → Place
grown value byte = if nat_lt (10 * value + (byte - 48)) (2 ^ 64) then Number (10 * value + (byte - 48)) else Word

-- where a text stands after a byte that is no digit of a number
abbrev pub fresh : ℕ → Place
fresh byte = if is_word_byte byte then Word else Between

-- where a text stands after a byte
abbrev pub after_byte : Place → ℕ → Place
after_byte Between byte = if is_digit byte then grown 0 byte else fresh byte
after_byte Word byte = fresh byte
after_byte (Number value) byte = if is_digit byte then grown value byte else fresh byte

-- the number that ends with a byte, a `u`
abbrev pub ended_by : Place → ℕ → List ℕ
ended_by Between byte = []
ended_by Word byte = []
ended_by (Number value) byte = if byte == 117 then value ∷ [] else []

abbrev pub numbers_from : Place → List ℕ → List ℕ
numbers_from place [] = []
numbers_from place (byte ∷ more) = ended_by place byte ++ numbers_from (after_byte place byte) more

-- the numbers of a text, in order
unfoldable pub numbers_in : List ℕ → List ℕ
numbers_in text = numbers_from Between text
