-- The lines of a text, and the first line at which two texts differ.
use Rattle.std.specs.Prelude.{ℕ, ◌+◌, ◌==◌, List, [], ◌∷◌, Option, Some, None, option_map, if◌then◌else◌, bytes_eq, count_by}
use Rattle.std.specs.List.{onto_first}

-- the number of line feeds
abbrev pub feeds : List ℕ → ℕ
feeds bytes = count_by (λ byte. byte == 10) bytes

-- the lines of a text: a line feed ends a line, and a last line without one counts where it has at least one byte
unfoldable pub lines : List ℕ → List (List ℕ)
lines [] = []
lines (byte ∷ text) = if byte == 10 then [] ∷ lines text else onto_first byte (lines text)

-- the least place, counted from 1, at which two lists have different lines or only one has a line; none where they are equal
unfoldable pub first_other : List (List ℕ) → List (List ℕ) → Option ℕ
first_other [] [] = None
first_other [] (y ∷ ys) = Some 1
first_other (x ∷ xs) [] = Some 1
first_other (x ∷ xs) (y ∷ ys) = if bytes_eq x y then option_map (λ i. i + 1) (first_other xs ys) else Some 1

-- the first other line of two texts
abbrev pub first_other_line : List ℕ → List ℕ → Option ℕ
first_other_line expected given = first_other (lines expected) (lines given)

-- fewer line feeds are matched than this, so that the line behind the next one has a number of 32 bits too
abbrev pub feed_limit : ℕ
feed_limit = 4294967294

-- the first other line where the given text ended behind so many line feeds, and one byte more is expected
abbrev pub line_at_end : ℕ → ℕ → ℕ
line_at_end matched next = if next == 10 then matched + 2 else matched + 1
