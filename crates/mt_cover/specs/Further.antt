-- What is caught beyond the table of coverage.
use Rattle.std.specs.Prelude.{ℕ, ◌+◌, ◌<◌, ◌≡◌, ◌⊎◌, Bool, true, false, List, map}
use Rattle.mt_word.specs.declared.Width.{Width}
use Rattle.mt_word.specs.Word.{Fits, has_bit}
use Rattle.mt_fault.specs.declared.fault.Fault.{Fault}
use Rattle.mt_fault.specs.declared.fault.Fault.TheVariants as faults
use Rattle.mt_fault.specs.declared.fault.Spot.{Spot}
use Rattle.mt_fault.specs.Placement.{IsSpot}
use Rattle.mt_march.specs.declared.march.Order.{Order}
use Rattle.mt_march.specs.declared.march.Order.TheVariants.{Up, Down, Either}
use Rattle.mt_march.specs.declared.march.Element.{Element}
use Rattle.mt_march.specs.Known.{march_c_minus, mats_plus}
use Rattle.mt_plan.specs.declared.algorithm.Algorithm.{Algorithm}
use Rattle.mt_plan.specs.declared.algorithm.Algorithm.TheVariants.{Checkerboard, March as Marches, WalkPath, Galpat, TransparentGalpat}
use Rattle.mt_plan.specs.Lists.{cells, march_on}
use Rattle.mt_cover.specs.declared.class.Class.{Class}
use Rattle.mt_cover.specs.declared.class.Class.TheVariants.{StuckAt, State, Decoder}
use Rattle.mt_cover.specs.Coverage.{class_of, Catches, Covers}

-- either order runs upwards here
abbrev pub settled : Order → Order
settled Up = Up
settled Down = Down
settled Either = Up

-- the marches are one where `*` is written as `u`
abbrev pub RunsAs : List Element → List Element → Type 0
RunsAs march other = map (λ (e : Element). record e { order = settled e.order }) march ≡ map (λ (e : Element). record e { order = settled e.order }) other

-- what MATS+ catches on any background: stuck-at and decoder faults
abbrev pub IsMatsTabled : Class → Type 0
IsMatsTabled class = (class ≡ StuckAt) ⊎ (class ≡ Decoder)

-- March C- and MATS+ with `u` or `*`, and state coupling under walk path and Galpat
abbrev pub IsFurtherTabled : Algorithm → Class → Type 0
IsFurtherTabled Checkerboard class = ⊥
IsFurtherTabled (Marches march) class =
    RunsAs march.elements.items march_c_minus ⊎ (RunsAs march.elements.items mats_plus × IsMatsTabled class)
IsFurtherTabled WalkPath class = class ≡ State
IsFurtherTabled Galpat class = class ≡ State
IsFurtherTabled TransparentGalpat class = class ≡ State

-- each fault of these classes is caught
abbrev pub FurtherCoverage : Type 0
FurtherCoverage = (algorithm : Algorithm) (fault : Fault) → IsFurtherTabled algorithm (class_of fault) → Covers algorithm fault

-- the transition fault that keeps a bit as it is in the background word
abbrev pub kept_at : Bool → Spot → Fault
kept_at false vic = faults.CannotRise vic
kept_at true vic = faults.CannotFall vic

-- MATS+ catches the transition faults of one direction: those by which a bit cannot leave its background
abbrev pub MatsCatchesOneDirection : Type 0
MatsCatchesOneDirection =
    (march : List Element) (width : Width) (size first n : ℕ) (back : ℕ → ℕ) (cell : ℕ) (vic : Spot)
    → RunsAs march mats_plus → IsSpot width size vic → first + cell ≡ vic.word → cell < n → ((c : ℕ) → c < n → Fits width (back c))
    → Catches width first back (march_on (cells n) march) (kept_at (has_bit (back cell) vic.bit) vic)
