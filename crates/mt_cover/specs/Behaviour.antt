-- The classes of faults by what they do to stored bits and words: van de Goor, Testing Semiconductor Memories.
use Rattle.std.specs.Prelude.{◌≡◌, ◌≢◌, ◌⊎◌, ℕ, Bool, not, List, [], ◌∷◌, slice_index}
use Rattle.mt_word.specs.Word.{has_bit}
use Rattle.mt_fault.specs.History.{Access, History, Write}
use Rattle.mt_fault.specs.Faulty.{stored_under}
use Rattle.mt_fault.specs.Placement.{AreApart, addresses}
use Rattle.mt_fault.specs.declared.fault.Spot.{Spot}
use Rattle.mt_fault.specs.declared.fault.Fault.{Fault}
use Rattle.mt_cover.specs.declared.class.Class.{Class}
use Rattle.mt_cover.specs.declared.class.Class.TheVariants.{StuckAt, Transition, Invert, Force, State, Decoder}
use Rattle.mt_cover.specs.Coverage.{class_of}

-- the stored bit of a spot after a history
abbrev pub bit_after : Fault → List ℕ → History → Spot → Bool
bit_after fault words h spot = has_bit (stored_under fault words h spot.word) spot.bit

-- Stuck-at: a bit that has one value whatever was there and whatever is written.
pub record IsStuck (fault : Fault) (vic : Spot) (value : Bool) : Type 0 where
  pub stuck : (words : List ℕ) (h : History) → bit_after fault words h vic ≡ value

-- Transition: a bit that has either value at first, takes the one that is written, and never leaves it.
pub record NeverLeaves (fault : Fault) (vic : Spot) (value : Bool) : Type 0 where
  pub begins : (words : List ℕ) → bit_after fault words [] vic ≡ has_bit (slice_index words vic.word) vic.bit
  pub takes : (words : List ℕ) (h : History) (x : ℕ) → has_bit x vic.bit ≡ value → bit_after fault words (Write vic.word x ∷ h) vic ≡ value
  pub keeps : (words : List ℕ) (h : History) (access : Access) → bit_after fault words h vic ≡ value → bit_after fault words (access ∷ h) vic ≡ value

-- a write to the aggressor's word changes its bit in the direction
pub record IsChange (fault : Fault) (words : List ℕ) (h : History) (agg : Spot) (rise : Bool) (x : ℕ) : Type 0 where
  pub was : bit_after fault words h agg ≡ not rise
  pub «is» : has_bit x agg.bit ≡ rise

-- a write to the aggressor's word does not change its bit in the direction
abbrev pub IsNoChange : Fault → List ℕ → History → Spot → (rise : Bool) → (x : ℕ) → Type 0
IsNoChange fault words h agg rise x = (bit_after fault words h agg ≡ rise) ⊎ (has_bit x agg.bit ≡ not rise)

-- Coupling by a change: a write of another word that changes the aggressor's bit in one direction makes of the victim's bit
-- what `becomes` says; any other write there leaves it; and a write of the victim's word stores what it asks.
pub record IsCoupled (fault : Fault) (agg vic : Spot) (rise : Bool) (becomes : Bool → Bool) : Type 0 where
  pub apart : agg.word ≢ vic.word
  pub changed : (words : List ℕ) (h : History) (x : ℕ) → IsChange fault words h agg rise x → bit_after fault words (Write agg.word x ∷ h) vic ≡ becomes (bit_after fault words h vic)
  pub left : (words : List ℕ) (h : History) (x : ℕ) → IsNoChange fault words h agg rise x → bit_after fault words (Write agg.word x ∷ h) vic ≡ bit_after fault words h vic
  pub stores : (words : List ℕ) (h : History) (x : ℕ) → bit_after fault words (Write vic.word x ∷ h) vic ≡ has_bit x vic.bit

-- State coupling: while the aggressor's bit is `holds` the victim's bit is `value`, and while it is not, a write of the
-- victim's word stores what it asks.
pub record IsHeld (fault : Fault) (agg vic : Spot) (holds value : Bool) : Type 0 where
  pub apart : agg.word ≢ vic.word
  pub held : (words : List ℕ) (h : History) → bit_after fault words h agg ≡ holds → bit_after fault words h vic ≡ value
  pub stores : (words : List ℕ) (h : History) (x : ℕ) → bit_after fault words h agg ≡ not holds → bit_after fault words (Write vic.word x ∷ h) vic ≡ has_bit x vic.bit

-- no write to the address changes its word
abbrev pub ReachesNoCell : Fault → ℕ → Type 0
ReachesNoCell fault addr = (words : List ℕ) (h : History) (x : ℕ) → stored_under fault words (Write addr x ∷ h) addr ≡ stored_under fault words h addr

-- each write to the address is stored at another one
abbrev pub ReachesAnother : Fault → (addr other : ℕ) → Type 0
ReachesAnother fault addr other = (addr ≢ other) × ((words : List ℕ) (h : History) (x : ℕ) → stored_under fault words (Write addr x ∷ h) other ≡ x)

-- what the faults of a class do
abbrev pub Behaves : Class → Fault → Type 0
Behaves StuckAt fault = (vic : Spot) × ((value : Bool) × IsStuck fault vic value)
Behaves Transition fault = (vic : Spot) × ((value : Bool) × NeverLeaves fault vic value)
Behaves Invert fault = (agg : Spot) × ((vic : Spot) × ((rise : Bool) × IsCoupled fault agg vic rise not))
Behaves Force fault = (agg : Spot) × ((vic : Spot) × ((rise : Bool) × ((value : Bool) × IsCoupled fault agg vic rise (λ b. value))))
Behaves State fault = (agg : Spot) × ((vic : Spot) × ((holds : Bool) × ((value : Bool) × IsHeld fault agg vic holds value)))
Behaves Decoder fault = (addr : ℕ) × (ReachesNoCell fault addr ⊎ ((other : ℕ) × ReachesAnother fault addr other))

-- each fault does what the faults of its class do
abbrev pub FaultsBehaveAsTheirClass : Type 0
FaultsBehaveAsTheirClass = (fault : Fault) → AreApart (addresses fault) → Behaves (class_of fault) fault
