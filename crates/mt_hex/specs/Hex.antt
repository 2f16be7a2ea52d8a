-- Words as they are read.
use Rattle.std.specs.Prelude.{ℕ, ◌+◌, ◌-◌, ◌*◌, ◌/◌, ◌==◌, nat_lt, nat_le, ◌||◌, ◌&&◌, not, Bool, if◌then◌else◌, List, [], ◌∷◌, length, Option, Some, None}
use Rattle.std.specs.List.{list_all}
use Rattle.mt_word.specs.declared.Width.{Width}
use Rattle.mt_word.specs.Word.{width_bits}

-- a decimal digit
abbrev pub is_digit : ℕ → Bool
is_digit b = nat_le 48 b && nat_le b 57

-- a hexadecimal digit of either case
abbrev pub is_hex : ℕ → Bool
is_hex b = is_digit b || ((nat_le 97 b && nat_le b 102) || (nat_le 65 b && nat_le b 70))

-- its value
abbrev pub hex_digit : ℕ → ℕ
hex_digit b = if is_digit b then b - 48 else (if nat_le 97 b then b - 87 else b - 55)

-- a digit in upper case
abbrev pub upper : ℕ → ℕ
upper b = if nat_le 97 b && nat_le b 102 then b - 32 else b

-- the value of hexadecimal digits behind those of n
abbrev pub hex : ℕ → List ℕ → ℕ
hex n [] = n
hex n (b ∷ bs) = hex (16 * n + hex_digit b) bs

-- the number that 1 to 16 hexadecimal digits spell
unfoldable pub hex_of : List ℕ → Option ℕ
hex_of bytes =
    if length bytes == 0 then None else (if nat_lt 16 (length bytes) then None else (if not (list_all is_hex bytes) then None else Some (hex 0 bytes)))

-- how many hexadecimal digits a word of the width has
abbrev pub digits_of : Width → ℕ
digits_of width = width_bits width / 4

abbrev pub is_word : Width → List ℕ → Bool
is_word width bytes = (length bytes == digits_of width) && list_all is_hex bytes

-- the word that exactly the digits of the width spell
unfoldable pub word_of : Width → List ℕ → Option ℕ
word_of width bytes = if is_word width bytes then Some (hex 0 bytes) else None
