-- The order in which the faults of a slice are listed.
use Rattle.std.specs.Prelude.{ℕ, ◌≡◌, ◌<◌, ◌⊎◌, not, List, [], ◌∷◌, AllPairs}
use Rattle.mt_word.specs.declared.Width.{Width}
use Rattle.mt_word.specs.Word.{bit_number}
use Rattle.mt_fault.specs.declared.fault.Fault.{Fault}
use Rattle.mt_fault.specs.declared.fault.Fault.TheVariants.{StuckAt, CannotRise, CannotFall, Invert, Force, State, NoCell, Also, Instead}
use Rattle.mt_locate.specs.Listed.{faults_of}

-- the kind of a fault, by its number in the order of the script's table, and then the fields of its line; `up` comes before `down`, and `and` before `or`
abbrev pub rank : Fault → List ℕ
rank (StuckAt vic value) = 0 ∷ vic.word ∷ vic.bit ∷ bit_number value ∷ []
rank (CannotRise vic) = 1 ∷ vic.word ∷ vic.bit ∷ []
rank (CannotFall vic) = 2 ∷ vic.word ∷ vic.bit ∷ []
rank (Invert agg rise vic) = 3 ∷ bit_number (not rise) ∷ agg.word ∷ agg.bit ∷ vic.word ∷ vic.bit ∷ []
rank (Force agg rise vic value) = 4 ∷ bit_number (not rise) ∷ agg.word ∷ agg.bit ∷ vic.word ∷ vic.bit ∷ bit_number value ∷ []
rank (State agg holds vic value) = 5 ∷ bit_number holds ∷ agg.word ∷ agg.bit ∷ vic.word ∷ vic.bit ∷ bit_number value ∷ []
rank (NoCell addr seen) = 6 ∷ addr ∷ seen ∷ []
rank (Also addr other wired_and) = 7 ∷ addr ∷ other ∷ bit_number (not wired_and) ∷ []
rank (Instead addr other) = 8 ∷ addr ∷ other ∷ []

-- the first numbers that differ decide, and some do
abbrev pub IsBelow : List ℕ → List ℕ → Type 0
IsBelow [] ys = ⊥
IsBelow (x ∷ xs) [] = ⊥
IsBelow (x ∷ xs) (y ∷ ys) = (x < y) ⊎ ((x ≡ y) × IsBelow xs ys)

-- a fault comes before another one
abbrev pub ComesBefore : Fault → Fault → Type 0
ComesBefore f g = IsBelow (rank f) (rank g)

-- the list rises strictly, so no fault stands in it twice
abbrev pub FaultsAreInOrder : Type 0
FaultsAreInOrder = (width : Width) (first n : ℕ) → AllPairs ComesBefore (faults_of width first n)
