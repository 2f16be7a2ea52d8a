-- All faults of a slice in the order of their lines, and the lines of those that explain what was read.
use Rattle.std.specs.Prelude.{ℕ, ◌+◌, ◌*◌, ◌/◌, ◌%◌, ◌^◌, ◌==◌, ◌&&◌, ◌↔◌, if◌then◌else◌, IsTrue, Bool, true, false, codes, List, [], ◌∷◌, ◌++◌, map, filter, Contains, AllPairs, ◌≢◌}
use Rattle.std.specs.List.{flat_map, range_with_len}
use Rattle.std.specs.Cmp.Lexicographic.{pointwise}
use Rattle.mt_word.specs.declared.Width.{Width}
use Rattle.mt_word.specs.Word.{width_bits}
use Rattle.mt_fault.specs.declared.fault.Spot.{Spot}
use Rattle.mt_fault.specs.declared.fault.Fault.{Fault}
use Rattle.mt_fault.specs.declared.fault.Fault.TheVariants as fault
use Rattle.mt_text.specs.declared.line.Event.TheVariants.{Inject}
use Rattle.mt_text.specs.Lines.{line}
use Rattle.mt_text.specs.Canonical.{canonical}
use Rattle.mt_locate.specs.declared.probe.Probe.{Probe}
use Rattle.mt_locate.specs.declared.probe.Miss.{Miss}
use Rattle.mt_locate.specs.declared.kinds.OfBit.{OfBit}
use Rattle.mt_locate.specs.declared.kinds.OfBit.TheVariants.{StuckAt, CannotRise, CannotFall}
use Rattle.mt_locate.specs.declared.kinds.Coupling.{Coupling}
use Rattle.mt_locate.specs.declared.kinds.Coupling.TheVariants.{Invert, Force, State}
use Rattle.mt_locate.specs.declared.kinds.OfCells.{OfCells}
use Rattle.mt_locate.specs.declared.kinds.Kind.{Kind}
use Rattle.mt_locate.specs.declared.kinds.Kind.TheVariants as kind
use Rattle.mt_locate.specs.declared.kinds.OfCells.TheVariants.{Also, Instead}
use Rattle.mt_locate.specs.Explanations.{misses_under, Explains}
use Rattle.mt_locate.specs.Moved.{IsFaultOfSlice}

-- ---- the order

-- the bits of the words from `first` on, word after word, counted from the first word's least bit
abbrev pub spot_at : Width → ℕ → ℕ → Spot
spot_at width first k = record { word = first + k / width_bits width; bit = k % width_bits width }

-- the bits of n words
abbrev pub spots : Width → (first n : ℕ) → List Spot
spots width first n = map (spot_at width first) (range_with_len 0 (n * width_bits width))

-- the faults of one bit, of one kind
abbrev pub on_bit : OfBit → Spot → List Fault
on_bit StuckAt vic = fault.StuckAt vic false ∷ fault.StuckAt vic true ∷ []
on_bit CannotRise vic = fault.CannotRise vic ∷ []
on_bit CannotFall vic = fault.CannotFall vic ∷ []

-- the coupling faults of two bits, of one kind
abbrev pub on_bits : Coupling → (agg vic : Spot) → List Fault
on_bits (Invert rise) agg vic = fault.Invert agg rise vic ∷ []
on_bits (Force rise) agg vic = fault.Force agg rise vic false ∷ fault.Force agg rise vic true ∷ []
on_bits (State holds) agg vic = fault.State agg holds vic false ∷ fault.State agg holds vic true ∷ []

-- aggressor and victim lie in different words
abbrev pub coupled : Coupling → (agg vic : Spot) → List Fault
coupled kind agg vic = if vic.word == agg.word then [] else on_bits kind agg vic

-- the faults of the address decoder with two cells, of one kind
abbrev pub on_cells : OfCells → (addr other : ℕ) → List Fault
on_cells Also addr other = fault.Also addr other true ∷ fault.Also addr other false ∷ []
on_cells Instead addr other = fault.Instead addr other ∷ []

abbrev pub crossed : OfCells → (addr other : ℕ) → List Fault
crossed kind addr other = if other == addr then [] else on_cells kind addr other

-- all faults of one bit, bit after bit
abbrev pub all_on_bit : Width → (first n : ℕ) → OfBit → List Fault
all_on_bit width first n kind = flat_map (on_bit kind) (spots width first n)

-- all faults of two bits, aggressor after aggressor
abbrev pub all_coupled : Width → (first n : ℕ) → Coupling → List Fault
all_coupled width first n kind = flat_map (λ agg. flat_map (coupled kind agg) (spots width first n)) (spots width first n)

-- a word without a cell, for each word that may be seen there
abbrev pub all_seen : Width → ℕ → List Fault
all_seen width addr = map (fault.NoCell addr) (range_with_len 0 (2 ^ width_bits width))

-- all faults of two cells, address after address
abbrev pub all_crossed : (first n : ℕ) → OfCells → List Fault
all_crossed first n kind = flat_map (λ addr. flat_map (crossed kind addr) (range_with_len first n)) (range_with_len first n)

-- the kinds in their order: faults of a bit, coupling faults, words without a cell, and faults of two cells
abbrev pub kinds : List Kind
kinds =
    kind.OfBit StuckAt ∷ kind.OfBit CannotRise ∷ kind.OfBit CannotFall
    ∷ kind.Coupling (Invert true) ∷ kind.Coupling (Invert false)
    ∷ kind.Coupling (Force true) ∷ kind.Coupling (Force false)
    ∷ kind.Coupling (State false) ∷ kind.Coupling (State true)
    ∷ kind.NoCell ∷ kind.OfCells Also ∷ kind.OfCells Instead ∷ []

-- all faults of one kind
unfoldable pub of_kind : Width → (first n : ℕ) → Kind → List Fault
of_kind width first n (kind.OfBit k) = all_on_bit width first n k
of_kind width first n (kind.Coupling k) = all_coupled width first n k
of_kind width first n kind.NoCell = flat_map (all_seen width) (range_with_len first n)
of_kind width first n (kind.OfCells k) = all_crossed first n k

-- all faults inside the n words from `first` on
unfoldable pub faults_of : Width → (first n : ℕ) → List Fault
faults_of width first n = flat_map (of_kind width first n) kinds

-- the list has each fault of the slice, and no other
abbrev pub FaultsOfTheSliceAreListed : Type 0
FaultsOfTheSliceAreListed = (width : Width) (first n : ℕ) (f : Fault) → Contains (faults_of width first n) f ↔ IsFaultOfSlice width first n f

-- no two faults of the list are one
abbrev pub FaultsAreListedOnce : Type 0
FaultsAreListedOnce = (width : Width) (first n : ℕ) → AllPairs ◌≢◌ (faults_of width first n)

-- ---- the faults that explain

-- whether two misses are one
abbrev pub same_miss : Miss → Miss → Bool
same_miss a b = a.index == b.index && a.word == b.word

-- whether a fault explains the misses
unfoldable pub explains : Probe → List Miss → Fault → Bool
explains probe misses f = pointwise same_miss (misses_under probe f) misses

-- those of some faults that explain the misses
unfoldable pub explaining : Probe → List Miss → List Fault → List Fault
explaining probe misses faults = filter (explains probe misses) faults

-- the faults of the slice that explain the misses
abbrev pub located : Probe → List Miss → List Fault
located probe misses = explaining probe misses (faults_of probe.width probe.first probe.n)

-- the test is the definition
abbrev pub ExplainsIsTested : Type 0
ExplainsIsTested = (probe : Probe) (misses : List Miss) (f : Fault) → IsTrue (explains probe misses f) ↔ Explains probe misses f

-- ---- the text

-- the line that injects a fault, with its line feed
abbrev pub fault_line : Width → Fault → List ℕ
fault_line width f = canonical width (line (Inject f) []) ++ codes "\n"

-- the lines of some faults
unfoldable pub fault_lines : Width → List Fault → List ℕ
fault_lines width faults = flat_map (fault_line width) faults
