-- What a line of a configuration shows: the header of a table, or a key and its value.
use Rattle.std.specs.Prelude.{ℕ, ◌≡◌, ◌≤◌, ◌<◌, ◌+◌, ◌-◌, ◌⊎◌, true, List, [], ◌∷◌, ◌++◌, length, take, drop, slice_index, IfSome}
use Rattle.std.specs.Char.{is_ascii_whitespace}
use Rattle.std.specs.Str.{IsTrimAscii}
use Rattle.mt_place.specs.declared.mark.Spot.{Spot}
use Rattle.mt_place.specs.declared.note.Note.{Note}
use Rattle.mt_place.specs.declared.find.Target.{Target}
use Rattle.mt_place.specs.declared.find.Target.TheVariants.{Header, Key, Value}
use Rattle.mt_place.specs.Places.{line_at}

-- the bytes spell a key, as it is or in quotes
abbrev pub IsSpelled : List ℕ → List ℕ → Type 0
IsSpelled key bytes = (bytes ≡ key) ⊎ (bytes ≡ 34 ∷ key ++ 34 ∷ [])

-- the bytes from one index up to another are white space
abbrev pub IsBlank : List ℕ → ℕ → ℕ → Type 0
IsBlank line from to = (i : ℕ) → from ≤ i → i < to → is_ascii_whitespace (slice_index line i) ≡ true

-- what stands before an index is a key and an equals sign, with white space about them
abbrev pub LeadsTo : List ℕ → List ℕ → ℕ → Type 0
LeadsTo key line to =
    (equals : ℕ) × (bytes : List ℕ) × (equals < to) × (slice_index line equals ≡ 61) × IsTrimAscii (take equals line) bytes × IsSpelled key bytes × IsBlank line (equals + 1) to

-- the bytes of a line that a spot marks
abbrev pub marked : List ℕ → Spot → List ℕ
marked line spot = take spot.length (drop (spot.mark.column - 1) line)

-- What is marked: a header, from its bracket on; a key, as it is or in quotes; what stands after a key and its equals sign.
abbrev pub Shows : Target → List ℕ → Spot → Type 0
Shows Header line spot = IsBlank line 0 (spot.mark.column - 1) × (slice_index (marked line spot) 0 ≡ 91)
Shows (Key key) line spot = IsBlank line 0 (spot.mark.column - 1) × IsSpelled key.now (marked line spot)
Shows (Value key) line spot = LeadsTo key.now line (spot.mark.column - 1)

-- the spot lies on the line
abbrev pub LiesOn : List ℕ → Spot → Type 0
LiesOn line spot = (1 ≤ spot.mark.column) × (spot.mark.column - 1 + spot.length ≤ length line)

-- the spot is one of the line with this number, and marks what is looked for
abbrev pub IsSpotOn : Target → ℕ → List ℕ → Spot → Type 0
IsSpotOn target number line spot = (spot.mark.line ≡ number) × LiesOn line spot × Shows target line spot

-- the spot lies on a line of the file, and marks what is looked for
abbrev pub IsSpotOf : List (List ℕ) → Target → Spot → Type 0
IsSpotOf file target spot =
    (1 ≤ spot.mark.line) × (spot.mark.line ≤ length file) × LiesOn (line_at file spot.mark.line) spot × Shows target (line_at file spot.mark.line) spot

-- what a note marks, if it marks anything, is a header, a key or a value in the file
abbrev pub MarksSome : List (List ℕ) → Note → Type 0
MarksSome file note = IfSome note.mark (λ mark. (target : Target) × IsSpotOf file target (record { mark = mark; length = note.length }))
