-- Which faults explain what was read of a slice.
use Rattle.std.specs.Prelude.{ℕ, ◌≡◌, ◌+◌, ◌≤◌, List, Some, length, replicate, slice_index}
use Rattle.mt_fault.specs.declared.fault.Fault.{Fault}
use Rattle.mt_fault.specs.Items.{Item}
use Rattle.mt_fault.specs.Memory.{first_words}
use Rattle.mt_fault.specs.Placement.{IsWithin}
use Rattle.mt_plan.specs.Plan.{IsAccepted}
use Rattle.mt_decoder.specs.Misses.{accesses}
use Rattle.mt_locate.specs.declared.probe.Probe.{Probe}
use Rattle.mt_locate.specs.declared.probe.Miss.{Miss}
use Rattle.mt_locate.specs.Moved.{moved_down, IsFaultOfSlice}
use Rattle.mt_locate.specs.Misses.{misses_of}

-- the accesses of the algorithm on the words that stand for the slice
abbrev pub accesses_of : Probe → List Item
accesses_of probe = accesses probe.width probe.alg probe.background 0 probe.n

-- what is missed where the fault comes to the slice, each of its words `initial`, and then the algorithm runs
abbrev pub misses_under : Probe → Fault → List Miss
misses_under probe fault =
    misses_of (Some (moved_down probe.first fault)) (first_words (moved_down probe.first fault) (replicate probe.n probe.initial)) (accesses_of probe)

-- a fault explains exactly the list of all its misses
abbrev pub Explains : Probe → List Miss → Fault → Type 0
Explains probe misses fault = misses_under probe fault ≡ misses

-- A memory that has the slice, with `initial` in each of its words.
pub record HoldsInitial (probe : Probe) (words : List ℕ) : Type 0 where
  pub size : probe.first + probe.n ≤ length words
  pub initial : (a : ℕ) → IsWithin probe.first probe.n a → slice_index words a ≡ probe.initial

-- what is missed there, at the slice's own addresses and under the fault as it is, is what is missed on the words that stand for the slice
abbrev pub MissesAreThoseOfTheMemory : Type 0
MissesAreThoseOfTheMemory =
    (probe : Probe) (words : List ℕ) (fault : Fault)
    → IsAccepted probe.alg → IsFaultOfSlice probe.width probe.first probe.n fault → HoldsInitial probe words
    → misses_of (Some fault) (first_words fault words) (accesses probe.width probe.alg probe.background probe.first probe.n) ≡ misses_under probe fault
