-- Places in a file, by its lines.
use Rattle.std.specs.Prelude.{ℕ, ◌≤◌, ◌+◌, ◌-◌, List, [], length, take, slice_get, unwrap_or}
use Rattle.std.specs.List.{sum_by}
use Rattle.mt_place.specs.declared.mark.Mark.{Mark}

-- the line of a file with a number, counted from 1; after the last one there is nothing
abbrev pub line_at : List (List ℕ) → ℕ → List ℕ
line_at file number = unwrap_or (slice_get file (number - 1)) []

-- The place is in the file: on a line of it, or on the one after the last; and on a byte of that line, or at its end.
abbrev pub IsIn : List (List ℕ) → Mark → Type 0
IsIn file mark = (1 ≤ mark.line) × (mark.line ≤ length file + 1) × (1 ≤ mark.column) × (mark.column ≤ length (line_at file mark.line) + 1)

-- how many bytes some lines have, with a line feed after each
abbrev pub byte_count : List (List ℕ) → ℕ
byte_count file = sum_by (λ line. length line + 1) file

-- how many bytes of the file stand before the place
abbrev pub bytes_before : List (List ℕ) → Mark → ℕ
bytes_before file mark = byte_count (take (mark.line - 1) file) + (mark.column - 1)
