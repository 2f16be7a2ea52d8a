-- The numbers from which the lines of a script are drawn, and what is read off each.
use Rattle.std.specs.Prelude.{ℕ, ◌+◌, ◌*◌, ◌/◌, ◌%◌, ◌^◌}

-- the number behind another: Knuth's linear congruential generator of 64 bits
unfoldable pub next : ℕ → ℕ
next x = (x * 6364136223846793005 + 1442695040888963407) % 2 ^ 64

-- its upper 31 bits
abbrev pub upper : ℕ → ℕ
upper x = x / 2 ^ 33

-- of these, the least three choose the form of a line,
abbrev pub drawn_form : ℕ → ℕ
drawn_form x = upper x % 8

-- the next eight an address,
abbrev pub drawn_address : ℕ → ℕ
drawn_address x = upper x / 8 % 256

-- and the next sixteen a word
abbrev pub drawn_word : ℕ → ℕ
drawn_word x = upper x / 2048 % 65536
