-- The faults of a slice, place after place.
use Rattle.std.specs.Prelude.{ℕ, ◌+◌, ◌*◌, ◌/◌, ◌%◌, ◌<◌, List, [], ◌∷◌}
use Rattle.mt_word.specs.declared.Width.{Width}
use Rattle.mt_word.specs.Word.{width_bits}
use Rattle.mt_fault.specs.declared.fault.Spot.{Spot}
use Rattle.mt_fault.specs.declared.fault.Fault.{Fault}
use Rattle.mt_fault.specs.Placement.{IsWithin}
use Rattle.mt_locate.specs.declared.probe.Probe.{Probe}
use Rattle.mt_locate.specs.declared.kinds.Kind.{Kind}
use Rattle.mt_locate.specs.declared.kinds.Kind.TheVariants as kind
use Rattle.mt_locate.specs.declared.faults.Few.{Few}
use Rattle.mt_locate.specs.declared.faults.Few.TheVariants as few
use Rattle.mt_locate.specs.Listed.{spot_at, on_bit, coupled, all_seen, crossed}

-- a bit of one of the slice's words
pub record IsSpotOfSlice (probe : Probe) (spot : Spot) : Type 0 where
  pub word : IsWithin probe.first probe.n spot.word
  pub bit : spot.bit < width_bits probe.width

abbrev pub faults_in : Few → List Fault
faults_in few.None = []
faults_in (few.One f) = f ∷ []
faults_in (few.Two f g) = f ∷ g ∷ []

-- how many bits n words have
abbrev pub bits_of : Width → ℕ → ℕ
bits_of width n = n * width_bits width

-- how many places a kind has on n words: bits, pairs of bits, words, or pairs of words
abbrev pub places : Width → (n : ℕ) → Kind → ℕ
places width n (kind.OfBit k) = bits_of width n
places width n (kind.Coupling k) = bits_of width n * bits_of width n
places width n kind.NoCell = n
places width n (kind.OfCells k) = n * n

-- the faults of a kind at a place
abbrev pub faults_at : Width → (first n : ℕ) → Kind → ℕ → List Fault
faults_at width first n (kind.OfBit k) i = on_bit k (spot_at width first i)
faults_at width first n (kind.Coupling k) i = coupled k (spot_at width first (i / bits_of width n)) (spot_at width first (i % bits_of width n))
faults_at width first n kind.NoCell i = all_seen width (first + i)
faults_at width first n (kind.OfCells k) i = crossed k (first + i / n) (first + i % n)
