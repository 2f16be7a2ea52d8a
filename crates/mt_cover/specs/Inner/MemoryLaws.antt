-- What proofs about attempts take from the laws of a faulty memory.
use Rattle.std.specs.Prelude.{ℕ, ◌<◌, ◌≡◌, List, length, [], Option}
use Rattle.mt_word.specs.Word.{Fits}
use Rattle.mt_fault.specs.declared.fault.Fault.{Fault}
use Rattle.mt_fault.specs.History.{History}
use Rattle.mt_fault.specs.Faulty.{answer, words_after}
use Rattle.mt_fault.specs.Memory.{Memory, IsSound, WritesFit}

-- a read of a sound memory answers a word that fits
abbrev pub AnswersFit : Type 0
AnswersFit = (m : Memory) → IsSound m → (a : ℕ) → a < length m.words → Fits m.width (answer m.fault m.words [] a)

-- accesses leave the number of words
abbrev pub KeepsSize : Type 0
KeepsSize = (fault : Option Fault) (first : List ℕ) (h : History) → length (words_after fault first h) ≡ length first

-- accesses whose words fit leave a memory sound
abbrev pub StaysSound : Type 0
StaysSound = (m : Memory) (h : History) → IsSound m → WritesFit m.width h → IsSound (record m { words = words_after m.fault m.words h })
