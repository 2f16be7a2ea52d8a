-- Faults that pass, computed.
use Rattle.std.proofs.Common.{ℕ, ◌≡◌, Bool, true, false, List, [], ◌∷◌, All, length, map, Some, refl, sym, subst, inl, inr, lit<, lit≤, rules}
use Rattle.mt_word.specs.declared.Width.TheVariants.{W8}
use Rattle.mt_word.specs.Word.{Fits, has_bit, put_bit}
use Rattle.mt_fault.specs.declared.fault.Spot.{Spot}
use Rattle.mt_fault.specs.declared.fault.Fault.{Fault}
use Rattle.mt_fault.specs.declared.fault.Fault.TheVariants.{CannotFall, Invert, Force, State, Also, Instead}
use Rattle.mt_fault.specs.Faulty.{stored_under, answer_under}
use Rattle.mt_fault.specs.Items.{passes}
use Rattle.mt_fault.specs.Placement.{IsWellPlaced, IsInside}
use Rattle.mt_march.specs.declared.march.March.{March}
use Rattle.mt_march.specs.declared.march.Element.{Element}
use Rattle.mt_march.specs.declared.march.Order.TheVariants.{Either}
use Rattle.mt_march.specs.declared.march.Op.TheVariants.{R0, R1, W0, W1}
use Rattle.mt_march.specs.Value.{element}
use Rattle.mt_march.specs.Accepted.{IsAcceptedMarch}
use Rattle.mt_march.specs.Known.{mats_plus}
use Rattle.mt_plan.specs.declared.algorithm.Algorithm.{Algorithm}
use Rattle.mt_plan.specs.declared.algorithm.Algorithm.TheVariants.{Checkerboard, March as Marches, WalkPath, Galpat, TransparentGalpat}
use Rattle.mt_plan.specs.Accesses.{item_of}
use Rattle.mt_plan.specs.Lists.{cells, march_on}
use Rattle.mt_plan.specs.Plan.{steps_of, IsAccepted}
use Rattle.mt_cover.specs.declared.class.Class.{Class}
use Rattle.mt_cover.specs.declared.class.Class.TheVariants as classes
use Rattle.mt_cover.specs.Coverage.{class_of}
use Rattle.mt_cover.specs.Missed.{Missed, background_of, EmptyCellsAreMissed, MatsMissesOthers, SomeMarchMisses}

-- bit 0 of a word
abbrev low : ℕ → Spot
low word = record { word = word; bit = 0 }

-- a memory of two words, or of three, that are all 0
abbrev two : List ℕ
two = 0 ∷ 0 ∷ []

abbrev three : List ℕ
three = 0 ∷ 0 ∷ 0 ∷ []

abbrev Passes : Algorithm → Fault → List ℕ → Type 0
Passes algorithm fault words = passes (Some fault) words [] (map (item_of W8 0 (background_of algorithm fault words 0)) (steps_of algorithm (length words))) ≡ true

-- a fault that passes over the background 0
passed : (algorithm : Algorithm) (fault : Fault) (words : List ℕ) → IsAccepted algorithm → All (Fits W8) words → IsWellPlaced W8 (length words) fault → IsInside fault 0 (length words)
    → Passes algorithm fault words → Missed algorithm (class_of fault)
passed algorithm fault words is fit placed inside passes_it = record {
  fault = fault;
  background = 0;
  words = words;
  accepted = is;
  is_of_class = refl;
  background_fits = lit< tt;
  words_fit = fit;
  placed = placed;
  inside = inside;
  passed = passes_it;
}

two_fit : All (Fits W8) two
two_fit = search rules

three_fit : All (Fits W8) three
three_fit = search rules

mixed_fit : All (Fits W8) (255 ∷ 0 ∷ [])
mixed_fit = search rules

-- ---- faults of two words

abbrev inverts : (rise : Bool) → Fault
inverts rise = Invert (low 0) rise (low 1)

abbrev forces : (rise value : Bool) → Fault
forces rise value = Force (low 0) rise (low 1) value

abbrev holds : (bit value : Bool) → Fault
holds bit value = State (low 0) bit (low 1) value

over_two : (algorithm : Algorithm) → IsAccepted algorithm → (fault : Fault) → IsWellPlaced W8 2 fault → IsInside fault 0 2 → Passes algorithm fault two → Missed algorithm (class_of fault)
over_two algorithm is fault placed inside = passed algorithm fault two is two_fit placed inside

falls : (algorithm : Algorithm) → IsAccepted algorithm → Passes algorithm (CannotFall (low 0)) two → Missed algorithm classes.Transition
falls algorithm is = over_two algorithm is (CannotFall (low 0)) (record { inside = ((lit< tt, (lit< tt, tt)), tt); apart = tt }) (search rules)

inverted : (algorithm : Algorithm) (rise : Bool) → IsAccepted algorithm → Passes algorithm (inverts rise) two → Missed algorithm classes.Invert
inverted algorithm rise is = over_two algorithm is (inverts rise) (record { inside = search rules; apart = λ e. cc }) (search rules)

forced : (algorithm : Algorithm) (rise value : Bool) → IsAccepted algorithm → Passes algorithm (forces rise value) two → Missed algorithm classes.Force
forced algorithm rise value is = over_two algorithm is (forces rise value) (record { inside = search rules; apart = λ e. cc }) (search rules)

held : (algorithm : Algorithm) (bit value : Bool) → IsAccepted algorithm → Passes algorithm (holds bit value) two → Missed algorithm classes.State
held algorithm bit value is = over_two algorithm is (holds bit value) (record { inside = search rules; apart = λ e. cc }) (search rules)

-- ---- decoder faults: another cell of the same parity, and two cells whose words differ

far : IsWellPlaced W8 3 (Instead 0 2)
far = record { inside = search rules; apart = λ e. cc }

near : IsWellPlaced W8 2 (Instead 0 1)
near = record { inside = search rules; apart = λ e. cc }

both_cells : IsWellPlaced W8 2 (Also 0 1 false)
both_cells = record { inside = search rules; apart = λ e. cc }

-- ---- what each algorithm lets pass

check : (class : Class) → (class ≡ classes.StuckAt → ⊥) → Missed Checkerboard class
unfolding steps_of passes stored_under answer_under has_bit put_bit
check classes.StuckAt empty = absurd (empty refl)
check classes.Transition empty = falls Checkerboard tt refl
check classes.Invert empty = inverted Checkerboard true tt refl
check classes.Force empty = forced Checkerboard true true tt refl
check classes.State empty = held Checkerboard false true tt refl
check classes.Decoder empty = passed Checkerboard (Instead 0 2) three tt three_fit far (search rules) refl

walk_force : Passes WalkPath (forces true false) two
unfolding steps_of passes stored_under answer_under has_bit put_bit
walk_force = refl

galpat_force : Passes Galpat (forces true false) two
unfolding steps_of passes stored_under answer_under has_bit put_bit
galpat_force = refl

transparent_force : Passes TransparentGalpat (forces true false) two
unfolding steps_of passes stored_under answer_under has_bit put_bit
transparent_force = refl

transparent_also : Passes TransparentGalpat (Also 0 1 false) (255 ∷ 0 ∷ [])
unfolding steps_of passes stored_under answer_under has_bit put_bit
transparent_also = refl

pub cells_are_missed : EmptyCellsAreMissed
cells_are_missed Checkerboard class is empty other = check class empty
cells_are_missed (Marches march) class is empty other = absurd is
cells_are_missed WalkPath classes.Force is empty other = forced WalkPath true false tt walk_force
cells_are_missed WalkPath classes.State is empty other = absurd (other refl)
cells_are_missed WalkPath classes.StuckAt is empty other = absurd (empty tt)
cells_are_missed WalkPath classes.Transition is empty other = absurd (empty tt)
cells_are_missed WalkPath classes.Invert is empty other = absurd (empty tt)
cells_are_missed WalkPath classes.Decoder is empty other = absurd (empty tt)
cells_are_missed Galpat classes.Force is empty other = forced Galpat true false tt galpat_force
cells_are_missed Galpat classes.State is empty other = absurd (other refl)
cells_are_missed Galpat classes.StuckAt is empty other = absurd (empty tt)
cells_are_missed Galpat classes.Transition is empty other = absurd (empty tt)
cells_are_missed Galpat classes.Invert is empty other = absurd (empty tt)
cells_are_missed Galpat classes.Decoder is empty other = absurd (empty tt)
cells_are_missed TransparentGalpat classes.Force is empty other = forced TransparentGalpat true false tt transparent_force
cells_are_missed TransparentGalpat classes.State is empty other = absurd (other refl)
cells_are_missed TransparentGalpat classes.StuckAt is empty other = absurd (empty (tt, λ e. cc))
cells_are_missed TransparentGalpat classes.Transition is empty other = absurd (empty (tt, λ e. cc))
cells_are_missed TransparentGalpat classes.Invert is empty other = absurd (empty (tt, λ e. cc))
cells_are_missed TransparentGalpat classes.Decoder is empty other =
    passed TransparentGalpat (Also 0 1 false) (255 ∷ 0 ∷ []) tt mixed_fit both_cells (search rules) transparent_also

-- ---- marches

mats_accepted : IsAcceptedMarch mats_plus
mats_accepted = record { some = lit≤ tt; few = lit≤ tt; short = search rules; written = refl; agree = refl; zeros = refl; ones = refl }

-- all accesses of a cell before the next one
abbrev cell_by_cell : List Element
cell_by_cell = element Either (W0 ∷ R0 ∷ W1 ∷ R1 ∷ []) ∷ []

cell_by_cell_accepted : IsAcceptedMarch cell_by_cell
cell_by_cell_accepted = record { some = lit≤ tt; few = lit≤ tt; short = search rules; written = refl; agree = refl; zeros = refl; ones = refl }

abbrev MarchPasses : Fault → List Element → Type 0
MarchPasses fault march = passes (Some fault) two [] (map (item_of W8 0 (λ cell. 0)) (march_on (cells 2) march)) ≡ true

-- a march passes where its elements do
march_passes : (march : March) (fault : Fault) (elements : List Element) → march.elements.items ≡ elements → MarchPasses fault elements → Passes (Marches march) fault two
unfolding steps_of
march_passes march fault elements same h = subst (MarchPasses fault) (sym same) h

mats_fall : MarchPasses (CannotFall (low 0)) mats_plus
unfolding passes stored_under answer_under has_bit put_bit
mats_fall = refl

mats_invert : MarchPasses (inverts false) mats_plus
unfolding passes stored_under answer_under has_bit put_bit
mats_invert = refl

mats_force : MarchPasses (forces false true) mats_plus
unfolding passes stored_under answer_under has_bit put_bit
mats_force = refl

mats_state : MarchPasses (holds false false) mats_plus
unfolding passes stored_under answer_under has_bit put_bit
mats_state = refl

cell_by_cell_instead : MarchPasses (Instead 0 1) cell_by_cell
unfolding passes stored_under answer_under has_bit put_bit
cell_by_cell_instead = refl

pub mats_misses : MatsMissesOthers
mats_misses march classes.StuckAt same empty = absurd (empty (inl refl))
mats_misses march classes.Decoder same empty = absurd (empty (inr refl))
mats_misses march classes.Transition same empty = falls (Marches march) (subst IsAcceptedMarch (sym same) mats_accepted) (march_passes march (CannotFall (low 0)) mats_plus same mats_fall)
mats_misses march classes.Invert same empty = inverted (Marches march) false (subst IsAcceptedMarch (sym same) mats_accepted) (march_passes march (inverts false) mats_plus same mats_invert)
mats_misses march classes.Force same empty = forced (Marches march) false true (subst IsAcceptedMarch (sym same) mats_accepted) (march_passes march (forces false true) mats_plus same mats_force)
mats_misses march classes.State same empty = held (Marches march) false false (subst IsAcceptedMarch (sym same) mats_accepted) (march_passes march (holds false false) mats_plus same mats_state)

abbrev march_of : List Element → March
march_of elements = record { elements = record { items = elements } }

pub some_march_misses : SomeMarchMisses
some_march_misses classes.StuckAt empty = absurd (empty refl)
some_march_misses classes.Decoder empty =
    (march_of cell_by_cell, passed (Marches (march_of cell_by_cell)) (Instead 0 1) two cell_by_cell_accepted two_fit near (search rules) (march_passes (march_of cell_by_cell) (Instead 0 1) cell_by_cell refl cell_by_cell_instead))
some_march_misses classes.Transition empty = (march_of mats_plus, mats_misses (march_of mats_plus) classes.Transition refl (λ t. elim t [ inl e ↦ cc | inr e ↦ cc ]))
some_march_misses classes.Invert empty = (march_of mats_plus, mats_misses (march_of mats_plus) classes.Invert refl (λ t. elim t [ inl e ↦ cc | inr e ↦ cc ]))
some_march_misses classes.Force empty = (march_of mats_plus, mats_misses (march_of mats_plus) classes.Force refl (λ t. elim t [ inl e ↦ cc | inr e ↦ cc ]))
some_march_misses classes.State empty = (march_of mats_plus, mats_misses (march_of mats_plus) classes.State refl (λ t. elim t [ inl e ↦ cc | inr e ↦ cc ]))
