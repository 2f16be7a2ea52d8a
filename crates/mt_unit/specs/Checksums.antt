-- CRC-32, as IEEE 802.3 has it.
use Rattle.std.specs.Prelude.{ℕ, suc, zero, ◌-◌, ◌/◌, ◌%◌, List, [], ◌∷◌, if◌then◌else◌}
use Rattle.std.specs.List.{flat_map}
use Rattle.std.specs.Int.Bits.{bit_xor}
use Rattle.mt_fault.specs.Faulty.{is_odd}

-- the polynomial, the least power first
abbrev pub polynomial : ℕ
polynomial = 3988292384

-- a register once a bit was shifted out of it, and so many bits
abbrev pub shifted : ℕ → ℕ
shifted register = if is_odd register then bit_xor (register / 2) polynomial else register / 2

abbrev pub shifted_by : ℕ → ℕ → ℕ
shifted_by zero register = register
shifted_by (suc n) register = shifted_by n (shifted register)

-- a register once a byte was taken in, and these bytes
abbrev pub taken_in : ℕ → ℕ → ℕ
taken_in register byte = shifted_by 8 (bit_xor register byte)

abbrev pub all_taken_in : ℕ → List ℕ → ℕ
all_taken_in register [] = register
all_taken_in register (byte ∷ more) = all_taken_in (taken_in register byte) more

-- the checksum of some bytes
unfoldable pub crc32 : List ℕ → ℕ
crc32 bytes = 4294967295 - all_taken_in 4294967295 bytes

-- a number in so many bytes, the least first
abbrev pub in_bytes : ℕ → ℕ → List ℕ
in_bytes zero number = []
in_bytes (suc n) number = number % 256 ∷ in_bytes n (number / 256)

-- the checksum of some numbers, each in so many bytes
unfoldable pub checksum : ℕ → List ℕ → ℕ
checksum size numbers = crc32 (flat_map (in_bytes size) numbers)
