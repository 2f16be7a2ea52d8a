-- Which name is near a word.
use Rattle.std.specs.Prelude.{ℕ, ◌≤◌, ◌<◌, ◌*◌, List, [], ◌∷◌, length, nat_eq, if◌then◌else◌, Option, Some, None}
use Rattle.std.specs.List.{All, Contains}
use Rattle.std.specs.Str.{chars, bytes_eq, str_to_ascii_lowercase}
use Rattle.strsim.specs.Edits.{damerau}

-- how many letters are put in, left out, changed or swapped with the next one on the way from one text to another
abbrev pub letters_changed : List ℕ → List ℕ → ℕ
letters_changed [] ys = length ys
letters_changed (x ∷ xs) [] = length (x ∷ xs)
letters_changed (x ∷ xs) (y ∷ ys) = damerau nat_eq (x ∷ xs) (y ∷ ys)

abbrev pub distance : List ℕ → List ℕ → ℕ
distance a b = if bytes_eq a b then 0 else letters_changed (chars a) (chars b)

-- the same whatever the case of the letters
abbrev pub edits : List ℕ → List ℕ → ℕ
edits word name = distance (str_to_ascii_lowercase word) (str_to_ascii_lowercase name)

-- at most two edits, and fewer than half of the name's letters
abbrev pub AreFew : ℕ → List ℕ → Type 0
AreFew count name = (count ≤ 2) × (2 * count < length name)

abbrev pub IsNear : List ℕ → List ℕ → Type 0
IsNear word name = AreFew (edits word name) name

-- a name of the list that is near, and none of the list is nearer; none if none is near
abbrev pub IsNearest : List ℕ → List (List ℕ) → Option (List ℕ) → Type 0
IsNearest word names None = All (λ name. ¬ (IsNear word name)) names
IsNearest word names (Some best) = Contains names best × IsNear word best × All (λ name. IsNear word name → edits word best ≤ edits word name) names
