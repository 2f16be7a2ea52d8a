-- Which faults an algorithm catches. The table is this project's theorem.
use Rattle.std.specs.Prelude.{◌≡◌, ◌≢◌, ◌⊎◌, ◌<◌, ℕ, false, IsTrue, is_some, List, map, Some}
use Rattle.mt_word.specs.declared.Width.{Width}
use Rattle.mt_word.specs.Word.{Fits}
use Rattle.mt_fault.specs.declared.fault.Fault.{Fault}
use Rattle.mt_fault.specs.declared.fault.Fault.TheVariants as faults
use Rattle.mt_fault.specs.History.{History}
use Rattle.mt_fault.specs.Placement.{IsWellPlaced, IsInside}
use Rattle.mt_fault.specs.Items.{passes}
use Rattle.mt_march.specs.Known.{march_c_minus}
use Rattle.mt_plan.specs.declared.algorithm.Step.{Step}
use Rattle.mt_plan.specs.declared.algorithm.Algorithm.{Algorithm}
use Rattle.mt_plan.specs.declared.algorithm.Algorithm.TheVariants.{Checkerboard, March as Marches, WalkPath, Galpat, TransparentGalpat}
use Rattle.mt_plan.specs.Accesses.{item_of}
use Rattle.mt_plan.specs.Plan.{steps_of, IsAccepted}
use Rattle.mt_decoder.specs.Misses.{accesses, first_miss}
use Rattle.mt_cover.specs.declared.class.Class.{Class}
use Rattle.mt_cover.specs.declared.class.Class.TheVariants.{StuckAt, Transition, Invert, Force, State, Decoder}

-- the class of a fault
abbrev pub class_of : Fault → Class
class_of (faults.StuckAt vic value) = StuckAt
class_of (faults.CannotRise vic) = Transition
class_of (faults.CannotFall vic) = Transition
class_of (faults.Invert agg rise vic) = Invert
class_of (faults.Force agg rise vic value) = Force
class_of (faults.State agg holds vic value) = State
class_of (faults.NoCell addr seen) = Decoder
class_of (faults.Also addr other wired_and) = Decoder
class_of (faults.Instead addr other) = Decoder

-- the classes of walk path and Galpat: stuck-at, transition, inversion coupling and decoder faults
abbrev pub IsWalkTabled : Class → Type 0
IsWalkTabled StuckAt = Unit {0}
IsWalkTabled Transition = Unit {0}
IsWalkTabled Invert = Unit {0}
IsWalkTabled Force = ⊥
IsWalkTabled State = ⊥
IsWalkTabled Decoder = Unit {0}

-- the table of coverage: March C- has all classes, any other accepted march stuck-at alone
abbrev pub IsTabled : Algorithm → Class → Type 0
IsTabled Checkerboard class = class ≡ StuckAt
IsTabled (Marches march) class = (class ≡ StuckAt) ⊎ (march.elements.items ≡ march_c_minus)
IsTabled WalkPath class = IsWalkTabled class
IsTabled Galpat class = IsWalkTabled class
IsTabled TransparentGalpat class = IsWalkTabled class × (class ≢ Decoder)

-- some checked read of the steps answers another word, whatever the first words and the accesses before were
abbrev pub Catches : Width → (first : ℕ) → (back : ℕ → ℕ) → List Step → Fault → Type 0
Catches width first back steps fault =
    (words : List ℕ) (earlier : History) → passes (Some fault) words earlier (map (item_of width first back) steps) ≡ false

-- n cells have one background word
abbrev pub HasOneWord : (back : ℕ → ℕ) → ℕ → Type 0
HasOneWord back n = (i j : ℕ) → i < n → j < n → back i ≡ back j

-- the algorithm catches the fault wherever it lies inside n cells and whatever their background words are; a decoder
-- fault, wherever these are one word
abbrev pub Covers : Algorithm → Fault → Type 0
Covers algorithm fault =
    (width : Width) (size first n : ℕ) (back : ℕ → ℕ)
    → IsWellPlaced width size fault → IsInside fault first n → ((cell : ℕ) → cell < n → Fits width (back cell))
    → (class_of fault ≡ Decoder → HasOneWord back n)
    → Catches width first back (steps_of algorithm n) fault

-- each fault of a tabled class is caught
abbrev pub Coverage : Type 0
Coverage = (algorithm : Algorithm) (fault : Fault) → IsAccepted algorithm → IsTabled algorithm (class_of fault) → Covers algorithm fault

-- the accesses of an algorithm with one background word miss each fault of a tabled class that lies inside their span
abbrev pub MissesEachTabledFault : Type 0
MissesEachTabledFault =
    (algorithm : Algorithm) (fault : Fault) (width : Width) (size background first n : ℕ) (words : List ℕ)
    → IsAccepted algorithm → IsTabled algorithm (class_of fault) → IsWellPlaced width size fault → IsInside fault first n → Fits width background
    → IsTrue (is_some (first_miss (Some fault) words (accesses width algorithm background first n)))
