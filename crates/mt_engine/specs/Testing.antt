-- A test that is under way: which access is due, what its answer adds, and where it is broken off.
use Rattle.std.specs.Prelude.{ℕ, ◌+◌, ◌-◌, ◌^◌, ◌≤◌, ◌≡◌, ◌==◌, Bool, true, false, not, ◌&&◌, ◌||◌, nat_le, nat_lt, min, if◌then◌else◌, All, List, take, length, slice_set, Option, Some, None}
use Rattle.mt_word.specs.declared.Width.{Width}
use Rattle.mt_word.specs.Word.{Fits}
use Rattle.mt_fault.specs.Items.{Item, Look, Check, Store}
use Rattle.mt_plan.specs.declared.algorithm.Policy.{Policy}
use Rattle.mt_plan.specs.declared.algorithm.Policy.TheVariants.{NonDestructive, Destructive}
use Rattle.mt_plan.specs.Plan.{steps_of}
use Rattle.mt_seq.specs.Attempts.{keeps_words}
use Rattle.mt_seq.specs.Sequence.{sequence_hold, IsSoundJob, IsSoundSlice}
use Rattle.mt_seq.specs.Stepping.{Stepping, begun, item_at}
use Rattle.mt_seq.specs.Told.{known_after}
use Rattle.mt_engine.specs.declared.plan.Plan.{Plan}
use Rattle.mt_engine.specs.declared.test.Moment.{Moment}
use Rattle.mt_engine.specs.declared.test.Due.{Due}
use Rattle.mt_engine.specs.declared.test.Due.TheVariants.{Read, Write, Ended}
use Rattle.mt_engine.specs.declared.test.Ending.{Ending}
use Rattle.mt_engine.specs.declared.test.Ending.TheVariants.{Pass, Fail, BrokenOff}
use Rattle.mt_engine.specs.Setup.{is_word}

-- A test: the width of its words, what is known of its sequence, and whether it was broken off.
pub record Testing : Type 0 where
  pub width : Width
  pub known : Stepping
  pub broken : Bool

-- ---- the parts of a test as a caller keeps them

-- how many saved words there are behind so many accesses
abbrev pub saved_count : Policy → ℕ → ℕ → ℕ
saved_count NonDestructive n made = min made n
saved_count Destructive n made = 0

-- the places once an answer is kept: each saving read has a place of its own
abbrev pub saved_places : Policy → ℕ → ℕ → List ℕ → ℕ → List ℕ
saved_places NonDestructive n made places word = if nat_lt made n then slice_set places made word else places
saved_places Destructive n made places word = places

-- the test of a plan, a moment, and the places of the saved words
abbrev pub testing : Plan → Moment → List ℕ → Testing
testing plan at places = record {
  width = plan.width;
  known = record { job = plan.job; slice = plan.slice; made = at.made; saved = take (saved_count plan.job.policy plan.slice.n at.made) places; differs = at.differs };
  broken = at.broken;
}

-- how many accesses stand before the writes that end the sequence, where the words are kept
abbrev pub ending_from : Stepping → ℕ
ending_from s = s.slice.n + length (steps_of s.job.alg s.slice.n)

-- a test that was broken off stands at its saving reads, or at the writes that end it
abbrev pub is_where_broken : Stepping → Bool
is_where_broken s = keeps_words s.job.policy && (nat_le s.made s.slice.n || nat_le (ending_from s) s.made)

-- What a test is. Each call asks for one, and leaves one.
pub record IsTest (t : Testing) : Type 0 where
  pub job : IsSoundJob t.width t.known.job
  pub slice : IsSoundSlice (2 ^ 32 - 1) t.known.slice
  pub made : t.known.made ≤ sequence_hold t.known.job t.known.slice.n
  pub fit : All (Fits t.width) t.known.saved
  pub saved : length t.known.saved ≡ saved_count t.known.job.policy t.known.slice.n t.known.made
  pub broken : t.broken ≡ true → is_where_broken t.known ≡ true

-- ---- what a caller is told

-- nothing is made yet
abbrev pub set_up : Plan → Testing
set_up plan = record { width = plan.width; known = begun plan.job plan.slice; broken = false }

-- whether no access is left. A test that was broken off at its saving reads has written nothing, and ends there.
abbrev pub is_over : Testing → Bool
is_over t = (t.broken && nat_le t.known.made t.known.slice.n) || (t.known.made == sequence_hold t.known.job t.known.slice.n)

-- how it ends: a difference that was seen is reported, also where the test was broken off after it
abbrev pub ending_of : Testing → Ending
ending_of t = if t.known.differs then Fail else (if t.broken then BrokenOff else Pass)

-- an access as it is asked for. Whoever makes a read is not told what it is to answer.
abbrev pub asked : Option Item → Due
asked None = Ended Fail
asked (Some (Look addr)) = Read addr
asked (Some (Check addr word)) = Read addr
asked (Some (Store addr word)) = Write addr word

-- the access that is due, or the end
unfoldable pub due : Testing → Due
due t = if is_over t then Ended (ending_of t) else asked (item_at t.width t.known)

-- the test after the access that is due was answered; a test that is over stays as it is
unfoldable pub answered : Testing → ℕ → Testing
answered t answer = if is_over t then t else record t { known = known_after t.known (item_at t.width t.known) answer }

-- whether an answer is none: a word that was read has the width of the memory's words
abbrev pub is_no_answer : Due → Width → ℕ → Bool
is_no_answer (Read addr) width answer = not (is_word width answer)
is_no_answer (Write addr word) width answer = false
is_no_answer (Ended ending) width answer = false

-- ---- breaking off

-- whether a test may be broken off: it keeps the words, and the writes that end it have not begun
unfoldable pub may_break_off : Testing → Bool
may_break_off t = not t.broken && keeps_words t.known.job.policy && nat_lt t.known.made (ending_from t.known)

-- where it stands then: at its saving reads it ends there; later it goes on at the writes of the saved words
abbrev pub broken_off : Testing → Testing
broken_off t = record t {
  broken = true;
  known = record t.known { made = if nat_lt t.known.slice.n t.known.made then ending_from t.known else t.known.made };
}
