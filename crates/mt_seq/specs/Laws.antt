-- What sequences answer on sound memory, and under a fault that the algorithm catches, and what a flash sequence finds.
use Rattle.std.specs.Prelude.{ℕ, ◌+◌, ◌*◌, ◌<◌, ◌≤◌, ◌≡◌, ◌≢◌, nat_le, nat_lt, All, not, Bool, true, false, if◌then◌else◌, List, [], map, length, slice_index, Option, Some, None, ◌&&◌}
use Rattle.std.specs.List.{filter, range_with_len}
use Rattle.mt_fault.specs.History.{History}
use Rattle.mt_fault.specs.Faulty.{words_after}
use Rattle.mt_fault.specs.Items.{Item, history, passes, place}
use Rattle.mt_fault.specs.Projection.{is_of_fault}
use Rattle.mt_plan.specs.declared.algorithm.Policy.{Policy}
use Rattle.mt_plan.specs.declared.algorithm.Policy.TheVariants.{NonDestructive, Destructive}
use Rattle.mt_plan.specs.Plan.{steps_of, IsAccepted}
use Rattle.mt_port.specs.Board.{Board, IsSound, is_urgent_due}
use Rattle.mt_port.specs.declared.board.Touch.{Touch}
use Rattle.mt_seq.specs.Makes.{Makes}
use Rattle.mt_seq.specs.Stepping.{Stepping, begun, IsStep, IsUnderway}
use Rattle.mt_port.specs.declared.request.Request.{Request}
use Rattle.mt_seq.specs.declared.sequence.Verdict.{Verdict}
use Rattle.mt_seq.specs.Attempts.{may_back_out, part_length, attempt_length, attempt_touches, attempt_verdict, attempt_words, dropped_at}
use Rattle.mt_seq.specs.declared.sequence.Slice.{Slice}
use Rattle.mt_seq.specs.declared.sequence.Job.{Job}
use Rattle.mt_seq.specs.declared.sequence.Verdict.TheVariants.{Pass, Fail}
use Rattle.mt_seq.specs.Compare.{comparison, compare_touches, compare_hold}
use Rattle.mt_seq.specs.Sequence.{saved_words, testing, sequence, verdict_of, sequence_verdict, sequence_words, sequence_hold}

-- whether an address is one of the slice
abbrev pub is_in : Slice → ℕ → Bool
is_in slice a = nat_le slice.first a && nat_lt a (slice.first + slice.n)

-- the words, with the fill in the slice
abbrev pub filled : List ℕ → Slice → ℕ → List ℕ
filled words slice fill = map (λ a. if is_in slice a then fill else slice_index words a) (range_with_len 0 (length words))

-- the words that a sequence leaves on sound memory
abbrev pub left_words : List ℕ → Policy → Slice → ℕ → List ℕ
left_words words NonDestructive slice fill = words
left_words words Destructive slice fill = filled words slice fill

-- on sound memory each sequence passes
abbrev pub SoundMemoryPasses : Type 0
SoundMemoryPasses =
    (b : Board) (job : Job) (slice : Slice) → b.fault ≡ None → IsAccepted job.alg → sequence_verdict b job slice ≡ Pass

-- on sound memory each sequence leaves the words as they were, or the fill
abbrev pub SoundMemoryStays : Type 0
SoundMemoryStays =
    (b : Board) (job : Job) (slice : Slice) → b.fault ≡ None → IsAccepted job.alg
    → sequence_words b job slice ≡ left_words b.words job.policy slice job.fill

-- A sequence that keeps the words comes to the same as its accesses of the words that the fault names, made alone: it passes exactly
-- where they do, and it leaves the words that they leave. So accesses of all other words decide nothing.
abbrev pub OwnAccessesDecide : Type 0
OwnAccessesDecide =
    (b : Board) (job : Job) (slice : Slice) → IsAccepted job.alg → job.policy ≡ NonDestructive →
    let own = filter (λ (item : Item). is_of_fault b.fault (place item)) (sequence b job slice) in
    (passes b.fault b.words [] (sequence b job slice) ≡ passes b.fault b.words [] own)
    × (words_after b.fault b.words (history (sequence b job slice)) ≡ words_after b.fault b.words (history own))

-- the algorithm's accesses of a sequence on a board
abbrev pub tested : Board → Job → Slice → List Item
tested b job slice = testing b.shape.width job slice (saved_words job.policy b.fault b.words slice) (steps_of job.alg slice.n)

-- a fault that the algorithm's accesses catch after any earlier history makes the sequence fail
abbrev pub CaughtFaultsFail : Type 0
CaughtFaultsFail =
    (b : Board) (job : Job) (slice : Slice) → ((h : History) → passes b.fault b.words h (tested b job slice) ≡ false)
    → sequence_verdict b job slice ≡ Fail

-- no sequence has more than 262 accesses a word
abbrev pub SequencesAreShort : Type 0
SequencesAreShort = (job : Job) (n : ℕ) → IsAccepted job.alg → n ≤ 64 → sequence_hold job n ≤ 262 * n

-- a sequence of which nothing is made is under way
abbrev pub SequencesBegin : Type 0
SequencesBegin = (b : Board) (told : Option (List Touch)) (job : Job) (slice : Slice) → IsSound b → IsUnderway b told (begun job slice) b told

-- and stays so after each step
abbrev pub SequencesGoOn : Type 0
SequencesGoOn =
    (b : Board) (told : Option (List Touch)) (s : Stepping) (a : Board) (tape : Option (List Touch)) (t : Stepping) (c : Board) (more : Option (List Touch))
    → IsSound b → IsUnderway b told s a tape → IsStep s a tape t c more → IsUnderway b told t c more

-- after its last step all its accesses were made, and it passes exactly where no checked read differed
abbrev pub SequencesEnd : Type 0
SequencesEnd =
    (b : Board) (told : Option (List Touch)) (s : Stepping) (a : Board) (tape : Option (List Touch))
    → IsUnderway b told s a tape → s.made ≡ sequence_hold s.job s.slice.n
    → Makes (sequence b s.job s.slice) b a told tape (not s.differs) × (verdict_of (not s.differs) ≡ sequence_verdict b s.job s.slice)

-- the list of a sequence is as long as its hold
abbrev pub HoldsAreLengths : Type 0
HoldsAreLengths = (b : Board) (job : Job) (slice : Slice) → length (sequence b job slice) ≡ sequence_hold job slice.n

-- on sound memory a dropped attempt leaves the words as they were
abbrev pub DroppedAttemptsStay : Type 0
DroppedAttemptsStay =
    (may : Bool) (b : Board) (job : Job) (slice : Slice) → b.fault ≡ None → IsAccepted job.alg
    → attempt_verdict may b job slice ≡ None → attempt_words may b job slice ≡ b.words

-- on sound memory an attempt that is not dropped passes, and leaves the words as they were, or the fill
abbrev pub WholeAttemptsPass : Type 0
WholeAttemptsPass =
    (may : Bool) (b : Board) (job : Job) (slice : Slice) (verdict : Verdict) → b.fault ≡ None → IsAccepted job.alg
    → attempt_verdict may b job slice ≡ Some verdict
    → (verdict ≡ Pass) × (attempt_words may b job slice ≡ left_words b.words job.policy slice job.fill)

-- how many accesses an attempt on n words has, by where it is dropped
abbrev pub length_to : Job → ℕ → Option ℕ → ℕ
length_to job n None = sequence_hold job n
length_to job n (Some i) = part_length n i

abbrev pub AttemptsAreCounted : Type 0
AttemptsAreCounted = (may : Bool) (b : Board) (job : Job) (slice : Slice) → attempt_length may b job slice ≡ length_to job slice.n (dropped_at may b job slice)

-- no attempt is empty
abbrev pub NoAttemptIsEmpty : Type 0
NoAttemptIsEmpty = (may : Bool) (b : Board) (job : Job) (slice : Slice) → 1 ≤ slice.n → 1 ≤ attempt_length may b job slice

-- a tape that tells an attempt has all its accesses
abbrev pub AttemptsAreTold : Type 0
AttemptsAreTold = (may : Bool) (b : Board) (job : Job) (slice : Slice) → length (attempt_touches may b job slice) ≡ attempt_length may b job slice

-- no attempt has more accesses than its sequence
abbrev pub AttemptsAreShort : Type 0
AttemptsAreShort = (may : Bool) (b : Board) (job : Job) (slice : Slice) → attempt_length may b job slice ≤ sequence_hold job slice.n

-- where an attempt is dropped, an urgent request is due at its end
abbrev pub DroppedAttemptsServe : Type 0
DroppedAttemptsServe =
    (may : Bool) (b : Board) (job : Job) (slice : Slice) → attempt_verdict may b job slice ≡ None
    → is_urgent_due (b.count + attempt_length may b job slice) b.left ≡ true

-- where an attempt may be dropped, an urgent request that falls due in it waits for no more accesses than the slice has words
abbrev pub UrgentWaitsAreShort : Type 0
UrgentWaitsAreShort =
    (b : Board) (job : Job) (slice : Slice) → job.policy ≡ NonDestructive
    → All (λ (r : Request). r.urgent ≡ true → b.count < r.offset) b.left
    → All (λ (r : Request). r.urgent ≡ true → b.count + attempt_length true b job slice ≤ r.offset + slice.n) b.left

-- a flash sequence has two accesses a word
abbrev pub ComparisonsArePairs : Type 0
ComparisonsArePairs = (first copy n : ℕ) → length (compare_touches first copy n) ≡ compare_hold n

-- each of n flash words equals its copy
abbrev pub EqualsCopy : List ℕ → (first copy n : ℕ) → Type 0
EqualsCopy flash first copy n = (k : ℕ) → k < n → slice_index flash (first + k) ≡ slice_index flash (copy + k)

-- a comparison finds nothing exactly where each word equals its copy
abbrev pub NothingIsFoundWhereAllEqual : Type 0
NothingIsFoundWhereAllEqual =
    (flash : List ℕ) (first copy n : ℕ)
    → (comparison flash first copy n ≡ None → EqualsCopy flash first copy n) × (EqualsCopy flash first copy n → comparison flash first copy n ≡ None)

-- What is known of the moment at which an attempt is dropped: the words are kept, the writes back have not begun, an urgent request
-- is due there, and none is at an earlier moment.
pub record IsWhereDropped (may : Bool) (b : Board) (job : Job) (slice : Slice) (i : ℕ) : Type 0 where
  pub may' : may ≡ true
  pub early : may_back_out job slice.n i ≡ true
  pub some : 1 ≤ i
  pub due : is_urgent_due (b.count + i) b.left ≡ true
  pub first : (j : ℕ) → 1 ≤ j → j < i → is_urgent_due (b.count + j) b.left ≡ false

-- an attempt is dropped exactly at the first moment at which it may be given up and an urgent request is due
abbrev pub AttemptsEndAtTheFirstMoment : Type 0
AttemptsEndAtTheFirstMoment =
    (may : Bool) (b : Board) (job : Job) (slice : Slice) (i : ℕ)
    → (dropped_at may b job slice ≡ Some i → IsWhereDropped may b job slice i) × (IsWhereDropped may b job slice i → dropped_at may b job slice ≡ Some i)

-- What is known of the address that a comparison tells: the word there differs from its copy, and none before it does.
pub record IsFirstDifference (flash : List ℕ) (first copy n a : ℕ) : Type 0 where
  pub cell : ℕ
  pub here : a ≡ first + cell
  pub within : cell < n
  pub differs : slice_index flash (first + cell) ≢ slice_index flash (copy + cell)
  pub before : (k : ℕ) → k < cell → slice_index flash (first + k) ≡ slice_index flash (copy + k)

abbrev pub ComparisonsFindTheFirst : Type 0
ComparisonsFindTheFirst = (flash : List ℕ) (first copy n a : ℕ) → comparison flash first copy n ≡ Some a → IsFirstDifference flash first copy n a
