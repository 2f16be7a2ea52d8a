-- What plans are, said from outside.
use Rattle.std.specs.Prelude.{ℕ, ◌<◌, ◌≤◌, ◌≡◌, Bool, ◌&&◌, nat_lt, List, [], ◌++◌, map, take, length, Option, Some, None, if◌then◌else◌, find}
use Rattle.mt_word.specs.declared.Width.{Width}
use Rattle.mt_fault.specs.Items.{Item}
use Rattle.mt_plan.specs.Plan.{steps_of}
use Rattle.mt_plan.specs.declared.algorithm.Algorithm.{Algorithm}
use Rattle.mt_seq.specs.Attempts.{keeps_words, moments}
use Rattle.mt_seq.specs.Sequence.{ending, saving, verdict_of}
use Rattle.mt_seq.specs.Told.{all_agreed, sequence_told}
use Rattle.mt_seq.specs.declared.sequence.Slice.{Slice}
use Rattle.mt_seq.specs.declared.sequence.Job.{Job}
use Rattle.mt_unit.specs.Carrying.{Carried, carried}
use Rattle.mt_unit.specs.Plans.{plan_of, step_in}

-- a plan reads back as the steps of its algorithm
abbrev pub PlansAreTheSteps : Type 0
PlansAreTheSteps = (alg : Algorithm) (n : ℕ) → map step_in (plan_of alg n) ≡ steps_of alg n

-- where the words of a test are saved in, the first answers
abbrev pub saved_of : Job → Slice → List ℕ → List ℕ
saved_of job slice answers = take (length (saving job.policy slice)) answers

-- The attempt at a slice that is answered so. `moment` is the first at which it may be dropped and an urgent interrupt waits, if
-- there is one: then the accesses are those before it, and where the algorithm has begun, the writes of the saved words.
abbrev pub attempt_told : Width → Job → Slice → List ℕ → Option ℕ → Carried
attempt_told width job slice answers None =
    let items = sequence_told width job slice answers in
    record { made = items; verdict = Some (verdict_of (all_agreed items answers)) }
attempt_told width job slice answers (Some i) = record {
  made = take i (sequence_told width job slice answers) ++ (if nat_lt slice.n i then ending job slice (saved_of job slice answers) else []);
  verdict = None;
}

-- Carrying the plan out makes the accesses of the sequence, in order, and has its verdict; and where an urgent interrupt waits
-- at a moment at which an attempt is dropped, it makes the accesses of the attempt that is dropped there.
abbrev pub PlansMakeTheSequence : Type 0
PlansMakeTheSequence =
    (width : Width) (job : Job) (slice : Slice) (answers : List ℕ) (waits : ℕ → Bool) → 1 ≤ length (steps_of job.alg slice.n)
    → carried width job slice (plan_of job.alg slice.n) answers waits
    ≡ attempt_told width job slice answers (find (λ i. keeps_words job.policy && waits i) (moments job.alg slice.n))

-- accesses of which these are the last
pub record EndsIn (items final : List Item) : Type 0 where
  pub before : List Item
  pub is : items ≡ before ++ final

-- However an attempt ends that has made more than the saving reads, whatever its plan is and whatever the memory answers: the last
-- accesses are one write for each cell, in rising order, of what its saving read answered, or of the fill in a destructive slice.
abbrev pub WordsComeBack : Type 0
WordsComeBack =
    (width : Width) (job : Job) (slice : Slice) (plan answers : List ℕ) (waits : ℕ → Bool)
    → length (saving job.policy slice) < length (carried width job slice plan answers waits).made
    → EndsIn (carried width job slice plan answers waits).made (ending job slice (saved_of job slice answers))
