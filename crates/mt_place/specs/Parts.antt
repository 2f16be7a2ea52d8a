-- Parts of a line.
use Rattle.std.specs.Prelude.{ℕ, ◌≡◌, ◌≤◌, ◌<◌, ◌+◌, ◌-◌, List, length, take, drop, slice_index}
use Rattle.std.specs.Str.{IsTrimAscii}
use Rattle.mt_place.specs.declared.entry.Piece.{Piece}
use Rattle.mt_place.specs.declared.entry.Entry.{Entry}
use Rattle.mt_place.specs.Keys.{IsBlank}

-- the bytes are those of the line from the column on
abbrev pub IsPart : List ℕ → Piece → Type 0
IsPart line piece =
    (1 ≤ piece.column) × (piece.column - 1 + length piece.bytes.now ≤ length line)
    × (piece.bytes.now ≡ take (length piece.bytes.now) (drop (piece.column - 1) line))

-- the key is what stands before an equals sign, without white space, and the value stands after it
abbrev pub IsEntry : List ℕ → Entry → Type 0
IsEntry line entry =
    IsPart line entry.key × IsPart line entry.value × IsBlank line 0 (entry.key.column - 1)
    × ((equals : ℕ) × (equals < entry.value.column - 1) × (slice_index line equals ≡ 61)
    × IsTrimAscii (take equals line) entry.key.bytes.now × IsBlank line (equals + 1) (entry.value.column - 1))
