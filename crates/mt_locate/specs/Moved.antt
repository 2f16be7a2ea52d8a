-- A fault of a slice, as a fault of the words that stand for the slice.
use Rattle.std.specs.Prelude.{ℕ, ◌+◌, ◌-◌}
use Rattle.mt_word.specs.declared.Width.{Width}
use Rattle.mt_fault.specs.declared.fault.Spot.{Spot}
use Rattle.mt_fault.specs.declared.fault.Fault.{Fault}
use Rattle.mt_fault.specs.declared.fault.Fault.TheVariants.{StuckAt, CannotRise, CannotFall, Invert, Force, State, NoCell, Also, Instead}
use Rattle.mt_fault.specs.Placement.{IsWellPlaced, IsInside}

-- A fault that can be there, with all its addresses among the n words from `first` on.
pub record IsFaultOfSlice (width : Width) (first n : ℕ) (fault : Fault) : Type 0 where
  pub placed : IsWellPlaced width (first + n) fault
  pub inside : IsInside fault first n

-- the same bit, where words are counted from the slice's first one
abbrev pub spot_down : ℕ → Spot → Spot
spot_down first spot = record { word = spot.word - first; bit = spot.bit }

-- the same fault, where words are counted from the slice's first one
abbrev pub moved_down : ℕ → Fault → Fault
moved_down first (StuckAt vic value) = StuckAt (spot_down first vic) value
moved_down first (CannotRise vic) = CannotRise (spot_down first vic)
moved_down first (CannotFall vic) = CannotFall (spot_down first vic)
moved_down first (Invert agg rise vic) = Invert (spot_down first agg) rise (spot_down first vic)
moved_down first (Force agg rise vic value) = Force (spot_down first agg) rise (spot_down first vic) value
moved_down first (State agg holds vic value) = State (spot_down first agg) holds (spot_down first vic) value
moved_down first (NoCell addr seen) = NoCell (addr - first) seen
moved_down first (Also addr other wired_and) = Also (addr - first) (other - first) wired_and
moved_down first (Instead addr other) = Instead (addr - first) (other - first)

-- moved down, a fault of a slice can be there in n words
abbrev pub FaultsStayWellPlaced : Type 0
FaultsStayWellPlaced =
    (width : Width) (first n : ℕ) (fault : Fault) → IsFaultOfSlice width first n fault → IsWellPlaced width n (moved_down first fault)
