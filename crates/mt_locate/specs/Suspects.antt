-- What the first miss tells of a fault.
use Rattle.std.specs.Prelude.{◌≡◌, ℕ, ◌+◌, ◌==◌, ◌&&◌, ◌||◌, not, Bool, true, false, List, [], ◌∷◌, slice_get, get_or, Option, Some, None, IsSomeAnd}
use Rattle.mt_word.specs.Word.{has_bit, put_bit}
use Rattle.mt_fault.specs.declared.fault.Fault.{Fault}
use Rattle.mt_fault.specs.declared.fault.Fault.TheVariants.{StuckAt, CannotRise, CannotFall, Invert, Force, State, NoCell, Also, Instead}
use Rattle.mt_locate.specs.declared.probe.Probe.{Probe}
use Rattle.mt_locate.specs.declared.probe.Miss.{Miss}
use Rattle.mt_locate.specs.Probes.{IsAcceptedProbe}
use Rattle.mt_locate.specs.Moved.{IsFaultOfSlice}
use Rattle.mt_fault.specs.Items.{Item, Look, Check, Store}
use Rattle.mt_locate.specs.declared.evidence.CheckedRead.{CheckedRead}
use Rattle.mt_locate.specs.declared.evidence.Evidence.{Evidence}
use Rattle.mt_locate.specs.declared.evidence.Evidence.TheVariants.{NoMiss, NoRead}
use Rattle.mt_locate.specs.declared.evidence.Evidence.TheVariants as evidence
use Rattle.mt_locate.specs.Explanations.{accesses_of, Explains}

-- where a word without a cell explains the misses, there is a miss, and the first one answers what is seen there
abbrev pub FirstMissTellsWhatIsSeen : Type 0
FirstMissTellsWhatIsSeen =
    (probe : Probe) (misses : List Miss) (addr seen : ℕ)
    → IsAcceptedProbe probe → IsFaultOfSlice probe.width probe.first probe.n (NoCell addr seen)
    → Explains probe misses (NoCell addr seen) → IsSomeAnd (slice_get misses 0) (λ m. m.word ≡ seen)

-- the checked read that an access is, if it is one
abbrev pub checked : Item → Option CheckedRead
checked (Look a) = None
checked (Check a w) = Some (record { cell = a; word = w })
checked (Store a w) = None

-- the checked read with an index among the accesses of a probe; its cell is counted from the slice's first word
abbrev pub checked_at : Probe → ℕ → Option CheckedRead
checked_at probe i = checked (get_or (accesses_of probe) i (Look 0))

-- what is told by a read that answered another word
abbrev pub told_by : ℕ → Option CheckedRead → (answered : ℕ) → Evidence
told_by first None answered = NoRead
told_by first (Some read) answered = evidence.Read (first + read.cell) read.word answered

-- what the first of some misses tells
unfoldable pub evidence_of : Probe → List Miss → Evidence
evidence_of probe [] = NoMiss
evidence_of probe (m ∷ more) = told_by probe.first (checked_at probe m.index) m.word

-- whether two words differ in this bit, and in no other one
abbrev pub is_flipped_bit : (at expected answered : ℕ) → Bool
is_flipped_bit at expected answered = put_bit expected at (not (has_bit expected at)) == answered

-- whether a read of the word at an address may answer so under a fault
abbrev pub may_answer : Fault → (addr expected answered : ℕ) → Bool
may_answer (StuckAt vic value) addr expected answered = vic.word == addr && is_flipped_bit vic.bit expected answered
may_answer (CannotRise vic) addr expected answered = vic.word == addr && is_flipped_bit vic.bit expected answered
may_answer (CannotFall vic) addr expected answered = vic.word == addr && is_flipped_bit vic.bit expected answered
may_answer (Invert agg rise vic) addr expected answered = vic.word == addr && is_flipped_bit vic.bit expected answered
may_answer (Force agg rise vic value) addr expected answered = vic.word == addr && is_flipped_bit vic.bit expected answered
may_answer (State agg holds vic value) addr expected answered = vic.word == addr && is_flipped_bit vic.bit expected answered
may_answer (NoCell lost seen) addr expected answered = lost == addr && seen == answered
may_answer (Also one other wired_and) addr expected answered = one == addr || other == addr
may_answer (Instead one other) addr expected answered = one == addr || other == addr

-- whether a fault may explain misses whose first one tells this
abbrev pub suspect : Evidence → Fault → Bool
suspect NoMiss fault = true
suspect NoRead fault = false
suspect (evidence.Read addr expected answered) fault = may_answer fault addr expected answered

-- a fault that explains the misses is among the suspects
abbrev pub CulpritsAreSuspects : Type 0
CulpritsAreSuspects =
    (probe : Probe) (misses : List Miss) (fault : Fault) → IsAcceptedProbe probe → IsFaultOfSlice probe.width probe.first probe.n fault
    → Explains probe misses fault → suspect (evidence_of probe misses) fault ≡ true
