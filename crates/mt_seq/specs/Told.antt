-- A sequence whose accesses are answered by anything: by a memory that is not modelled.
use Rattle.std.specs.Prelude.{ℕ, ◌+◌, ◌<◌, ◌≤◌, ◌≡◌, Bool, true, not, ◌&&◌, List, [], ◌∷◌, take, length, Option, Some, None, slice_get, slice_index}
use Rattle.mt_word.specs.declared.Width.{Width}
use Rattle.mt_fault.specs.Items.{Item, Store}
use Rattle.mt_plan.specs.declared.algorithm.Policy.TheVariants.{NonDestructive}
use Rattle.mt_plan.specs.Plan.{steps_of}
use Rattle.mt_seq.specs.declared.sequence.Slice.{Slice}
use Rattle.mt_seq.specs.declared.sequence.Job.{Job}
use Rattle.mt_seq.specs.Sequence.{listed, saving, sequence_hold}
use Rattle.mt_seq.specs.Stepping.{Stepping, agreed, begun, item_at, stepped}

-- what is known after the next access, where there is one, was answered
abbrev pub known_after : Stepping → Option Item → ℕ → Stepping
known_after s None answer = s
known_after s (Some item) answer = stepped s item answer

-- what is known once these answers were told, one after another
abbrev pub told : Width → Stepping → List ℕ → Stepping
told width s [] = s
told width s (answer ∷ answers) = told width (known_after s (item_at width s) answer) answers

-- the accesses of a sequence that is answered so: the first answers are the words that its saving reads save
abbrev pub sequence_told : Width → Job → Slice → List ℕ → List Item
sequence_told width job slice answers = listed width job slice (take (length (saving job.policy slice)) answers) (steps_of job.alg slice.n)

-- whether each checked read among some accesses answered its word, as far as answers go
abbrev pub all_agreed : List Item → List ℕ → Bool
all_agreed [] answers = true
all_agreed (item ∷ items) [] = true
all_agreed (item ∷ items) (answer ∷ answers) = agreed item answer && all_agreed items answers

-- A sequence after k of its answers: it asks for the access with that index of its list, and it differs where a checked read
-- so far answered another word.
pub record IsTold (width : Width) (job : Job) (slice : Slice) (answers : List ℕ) (k : ℕ) (s : Stepping) : Type 0 where
  pub same_job : s.job ≡ job
  pub same_slice : s.slice ≡ slice
  pub made : s.made ≡ k
  pub saved : s.saved ≡ take k (take (length (saving job.policy slice)) answers)
  pub next : item_at width s ≡ slice_get (sequence_told width job slice answers) k
  pub differs : s.differs ≡ not (all_agreed (sequence_told width job slice answers) (take k answers))

-- whatever is answered, the accesses are those of the list of these answers, in its order
abbrev pub AnswersMakeTheSequence : Type 0
AnswersMakeTheSequence =
    (width : Width) (job : Job) (slice : Slice) (answers : List ℕ) (k : ℕ) → length answers ≤ sequence_hold job slice.n → k ≤ length answers
    → IsTold width job slice answers k (told width (begun job slice) (take k answers))

-- the last accesses of a sequence that keeps the words write the saved ones, in rising order
abbrev pub SavedWordsAreWrittenBack : Type 0
SavedWordsAreWrittenBack =
    (width : Width) (s : Stepping) (k : ℕ) → s.job.policy ≡ NonDestructive → k < s.slice.n → s.made ≡ s.slice.n + length (steps_of s.job.alg s.slice.n) + k
    → item_at width s ≡ Some (Store (s.slice.first + k) (slice_index s.saved k))

-- and they are as many as the hold says
abbrev pub ToldSequencesAreHolds : Type 0
ToldSequencesAreHolds = (width : Width) (job : Job) (slice : Slice) (answers : List ℕ) → length (sequence_told width job slice answers) ≡ sequence_hold job slice.n
