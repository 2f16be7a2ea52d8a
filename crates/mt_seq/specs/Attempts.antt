-- Attempts: a sequence that may be dropped where an urgent request falls due.
use Rattle.std.specs.Prelude.{ℕ, ◌+◌, ◌-◌, Bool, true, false, ◌&&◌, nat_lt, List, [], ◌++◌, map, take, length, Option, Some, None, if◌then◌else◌, find}
use Rattle.std.specs.List.{range_with_len}
use Rattle.mt_fault.specs.Faulty.{words_after}
use Rattle.mt_fault.specs.Items.{Item, history}
use Rattle.mt_plan.specs.declared.algorithm.Algorithm.{Algorithm}
use Rattle.mt_plan.specs.declared.algorithm.Policy.{Policy}
use Rattle.mt_plan.specs.declared.algorithm.Policy.TheVariants.{NonDestructive, Destructive}
use Rattle.mt_plan.specs.Plan.{steps_of}
use Rattle.mt_port.specs.declared.board.Touch.{Touch}
use Rattle.mt_port.specs.Board.{Board, is_urgent_due}
use Rattle.mt_seq.specs.declared.sequence.Slice.{Slice}
use Rattle.mt_seq.specs.declared.sequence.Job.{Job}
use Rattle.mt_seq.specs.declared.sequence.Verdict.{Verdict}
use Rattle.mt_seq.specs.Sequence.{saved_words, ending, sequence, sequence_verdict}
use Rattle.mt_seq.specs.Tape.{touch_of}

abbrev pub keeps_words : Policy → Bool
keeps_words NonDestructive = true
keeps_words Destructive = false

-- whether an attempt may be given up after so many accesses: the words are kept, and the writes that end it have not begun
abbrev pub may_back_out : Job → ℕ → ℕ → Bool
may_back_out job n made = keeps_words job.policy && nat_lt made (n + length (steps_of job.alg n))

-- the moments at which an attempt may be dropped: after at least one access, and before the writes that end it
abbrev pub moments : Algorithm → ℕ → List ℕ
moments alg n = range_with_len 1 (n + length (steps_of alg n) - 1)

-- After how many accesses an attempt is dropped: the first of these moments at which an urgent request left is due. Never in a
-- destructive test, nor where it may not be dropped.
unfoldable pub dropped_at : Bool → Board → Job → Slice → Option ℕ
dropped_at may b job slice = if may && keeps_words job.policy then find (λ i. is_urgent_due (b.count + i) b.left) (moments job.alg slice.n) else None

-- the accesses of an attempt that is dropped after i of them: these, and where the algorithm has begun, the writes of the saved words
abbrev pub backed_out : Board → Job → Slice → ℕ → List Item
backed_out b job slice i =
    take i (sequence b job slice) ++ (if nat_lt slice.n i then ending job slice (saved_words job.policy b.fault b.words slice) else [])

-- how many they are
abbrev pub part_length : ℕ → ℕ → ℕ
part_length n i = if nat_lt n i then i + n else i

-- the accesses of an attempt that is dropped there, or that is not
abbrev pub attempt_to : Board → Job → Slice → Option ℕ → List Item
attempt_to b job slice None = sequence b job slice
attempt_to b job slice (Some i) = backed_out b job slice i

-- a dropped attempt has no verdict
abbrev pub verdict_to : Board → Job → Slice → Option ℕ → Option Verdict
verdict_to b job slice None = Some (sequence_verdict b job slice)
verdict_to b job slice (Some i) = None

-- the accesses of an attempt
unfoldable pub attempt : Bool → Board → Job → Slice → List Item
attempt may b job slice = attempt_to b job slice (dropped_at may b job slice)

-- its verdict, none where it was dropped
unfoldable pub attempt_verdict : Bool → Board → Job → Slice → Option Verdict
attempt_verdict may b job slice = verdict_to b job slice (dropped_at may b job slice)

-- the words after it
unfoldable pub attempt_words : Bool → Board → Job → Slice → List ℕ
attempt_words may b job slice = words_after b.fault b.words (history (attempt may b job slice))

-- its accesses as a tape has them
unfoldable pub attempt_touches : Bool → Board → Job → Slice → List Touch
attempt_touches may b job slice = map touch_of (attempt may b job slice)

-- how many they are
unfoldable pub attempt_length : Bool → Board → Job → Slice → ℕ
attempt_length may b job slice = length (attempt may b job slice)
