-- A sequence that is made access by access: what is known of it, and what each access adds.
use Rattle.std.specs.Prelude.{All, ℕ, zero, ◌+◌, ◌^◌, ◌<◌, ◌≤◌, ◌≡◌, ◌==◌, Bool, true, false, not, List, [], ◌∷◌, ◌++◌, take, length, Option, Some, slice_get}
use mathlib.Core.Bool.{◌||◌}
use Rattle.mt_word.specs.declared.Width.{Width}
use Rattle.mt_word.specs.Word.{Fits}
use Rattle.mt_fault.specs.Items.{Item, Look, Check, Store}
use Rattle.mt_plan.specs.Cursor.{IsCursor, cells_of, made_by}
use Rattle.mt_plan.specs.Plan.{IsAccepted, steps_of}
use Rattle.mt_plan.specs.declared.algorithm.Algorithm.{Algorithm}
use Rattle.mt_plan.specs.declared.algorithm.Policy.TheVariants.{NonDestructive}
use Rattle.mt_port.specs.declared.board.Touch.{Touch}
use Rattle.mt_port.specs.Board.{Board, IsSound, answered as answer_at}
use Rattle.mt_seq.specs.declared.access.Access.{Access}
use Rattle.mt_seq.specs.declared.access.Access.TheVariants as accesses
use Rattle.mt_seq.specs.declared.course.Course.{Course}
use Rattle.mt_seq.specs.declared.sequence.Frame.{Frame}
use Rattle.mt_seq.specs.declared.sequence.Slice.{Slice}
use Rattle.mt_seq.specs.declared.sequence.Job.{Job}
use Rattle.mt_seq.specs.declared.stepper.Progress.{Progress}
use Rattle.mt_seq.specs.declared.stepper.Progress.TheVariants.{More, Ended}
use Rattle.mt_seq.specs.Makes.{Makes}
use Rattle.mt_seq.specs.Sequence.{is_transparent, saving, saved_words, listed, sequence, verdict_of}

-- An access as an item of a list.
abbrev pub item_of_access : Access → Item
item_of_access (accesses.Look addr) = Look addr
item_of_access (accesses.Check addr word) = Check addr word
item_of_access (accesses.Store addr word) = Store addr word

abbrev pub place_of : Access → ℕ
place_of (accesses.Look addr) = addr
place_of (accesses.Check addr word) = addr
place_of (accesses.Store addr word) = addr

-- a word that is written fits
abbrev pub FitsAccess : Width → Access → Type 0
FitsAccess width (accesses.Look addr) = Unit {0}
FitsAccess width (accesses.Check addr word) = Unit {0}
FitsAccess width (accesses.Store addr word) = Fits width word

-- whether an access is no checked read that answered another word
abbrev pub agreed : Item → ℕ → Bool
agreed (Look addr) answer = true
agreed (Check addr word) answer = answer == word
agreed (Store addr word) answer = true

-- the answer of a saving read is the memory's, and fits
abbrev pub IsLookAnswer : Board → Item → ℕ → Type 0
IsLookAnswer b (Look addr) answer = (answer ≡ answer_at b.fault b.words addr) × Fits b.shape.width answer
IsLookAnswer b (Check addr word) answer = Unit {0}
IsLookAnswer b (Store addr word) answer = Unit {0}

-- What is known of a sequence that is under way: how many of its accesses were made, the words that its saving reads
-- have answered, and whether a checked read answered another word.
pub record Stepping : Type 0 where
  pub job : Job
  pub slice : Slice
  pub made : ℕ
  pub saved : List ℕ
  pub differs : Bool

-- nothing is made yet
abbrev pub begun : Job → Slice → Stepping
begun job slice = record { job = job; slice = slice; made = 0; saved = []; differs = false }

-- its next access, on words of a width
unfoldable pub item_at : Width → Stepping → Option Item
item_at width s = slice_get (listed width s.job s.slice s.saved (steps_of s.job.alg s.slice.n)) s.made

-- the words that are saved after an access was answered
abbrev pub saved_after : List ℕ → Item → ℕ → List ℕ
saved_after saved (Look addr) answer = saved ++ answer ∷ []
saved_after saved (Check addr word) answer = saved
saved_after saved (Store addr word) answer = saved

-- what is known after an access was answered
abbrev pub stepped : Stepping → Item → ℕ → Stepping
stepped s item answer = record s {
  made = s.made + 1;
  saved = saved_after s.saved item answer;
  differs = s.differs || not (agreed item answer);
}

-- One access was made, the next one: what is known and the board before it, and both after it.
pub record IsStep (old : Stepping) (a : Board) (told : Option (List Touch)) (new : Stepping) (b : Board) (tape : Option (List Touch)) : Type 0 where
  pub item : Item
  pub answer : ℕ
  pub next : item_at a.shape.width old ≡ Some item
  pub makes : Makes (item ∷ []) a b told tape (agreed item answer)
  pub look : IsLookAnswer a item answer
  pub known : new ≡ stepped old item answer

-- the item is no saving read
abbrev pub IsNoLook : Item → Type 0
IsNoLook (Look addr) = ⊥
IsNoLook (Check addr word) = Unit {0}
IsNoLook (Store addr word) = Unit {0}

-- The sequence of a board is under way: so many of its accesses were made, and these are the saved words and the differences.
pub record IsUnderway (b : Board) (told : Option (List Touch)) (s : Stepping) (now : Board) (tape : Option (List Touch)) : Type 0 where
  pub saved : s.saved ≡ take s.made (saved_words s.job.policy b.fault b.words s.slice)
  pub makes : Makes (take s.made (sequence b s.job s.slice)) b now told tape (not s.differs)

-- a job by its parts
abbrev pub job_of : Algorithm → Frame → Job
job_of alg frame = record { alg = alg; policy = frame.policy; background = frame.background; fill = frame.fill }

-- what a contract sees of a course
abbrev pub view_of : Job → Course → Stepping
view_of job c = record { job = job; slice = c.slice; made = c.made; saved = c.saved.items; differs = c.differs }

-- A course is one of a job.
pub record IsCourse (job : Job) (c : Course) : Type 0 where
  pub accepted : IsAccepted job.alg
  pub kept : is_transparent job.alg ≡ true → job.policy ≡ NonDestructive
  pub some : 1 ≤ c.slice.n
  pub small : c.slice.n ≤ 64
  pub transparent : c.transparent ≡ is_transparent job.alg
  pub from : c.testing_from ≡ length (saving job.policy c.slice)
  pub to : c.ending_from ≡ c.testing_from + length (steps_of job.alg c.slice.n)
  pub made : c.made ≤ c.ending_from + c.slice.n
  pub cursor : IsCursor job.alg c.steps
  pub cells : cells_of c.steps ≡ c.slice.n
  pub before : c.made ≤ c.testing_from → made_by c.steps ≡ 0
  pub during : c.testing_from ≤ c.made → c.made ≤ c.ending_from → c.testing_from + made_by c.steps ≡ c.made
  pub part : c.made ≤ c.testing_from → length c.saved.items ≡ c.made
  pub whole : c.testing_from ≤ c.made → length c.saved.items ≡ c.testing_from

-- A course after one more access, which was answered.
pub record IsMoved (job : Job) (old : Course) (item : Item) (answer : ℕ) (new : Course) : Type 0 where
  pub course : IsCourse job new
  pub view : view_of job new ≡ stepped (view_of job old) item answer

-- a course made its next access
abbrev pub IsStepOf : Job → Course → Board → Option (List Touch) → Course → Board → Option (List Touch) → Type 0
IsStepOf job old a told new b tape = IsStep (view_of job old) a told (view_of job new) b tape

-- What so many accesses need: interrupts are held, the slice is in the RAM, words fit, and there is room to count.
pub record IsReady (b : Board) (s : Stepping) (count : ℕ) : Type 0 where
  pub held : b.held ≡ true
  pub inside : s.slice.first + s.slice.n ≤ b.shape.ram
  pub background : Fits b.shape.width s.job.background
  pub fill : Fits b.shape.width s.job.fill
  pub fit : All (Fits b.shape.width) s.saved
  pub room : b.count + count < 2 ^ 32

-- More accesses were made: those next in each sequence that is under way so far.
pub record Runs (old : Stepping) (a : Board) (told : Option (List Touch)) (new : Stepping) (b : Board) (tape : Option (List Touch)) : Type 0 where
  pub job : new.job ≡ old.job
  pub slice : new.slice ≡ old.slice
  pub shape : b.shape ≡ a.shape
  pub held : b.held ≡ a.held
  pub ahead : old.made ≤ new.made
  pub count : b.count + old.made ≡ a.count + new.made
  pub fit : All (Fits a.shape.width) old.saved → All (Fits a.shape.width) new.saved
  pub under : (begun : Board) (t : Option (List Touch)) → IsSound begun → IsUnderway begun t old a told → IsUnderway begun t new b tape

-- a course made more accesses
abbrev pub RunsOf : Job → Course → Board → Option (List Touch) → Course → Board → Option (List Touch) → Type 0
RunsOf job old a told new b tape = Runs (view_of job old) a told (view_of job new) b tape

-- More where accesses are left, else the verdict
abbrev pub progress_of : ℕ → Stepping → Progress
progress_of zero s = Ended (verdict_of (not s.differs))
progress_of left s = More
