-- The accesses of one sequence, its verdict, and the words after it.
use Rattle.std.specs.Prelude.{ℕ, ◌+◌, ◌≤◌, ◌≡◌, Bool, true, false, List, [], ◌++◌, map, slice_index, if◌then◌else◌, Option}
use Rattle.mt_word.specs.declared.Width.{Width}
use Rattle.mt_word.specs.Word.{Fits}
use Rattle.mt_fault.specs.declared.fault.Fault.{Fault}
use Rattle.mt_fault.specs.Faulty.{answer, words_after}
use Rattle.mt_plan.specs.declared.algorithm.Algorithm.{Algorithm}
use Rattle.mt_plan.specs.declared.algorithm.Algorithm.TheVariants.{Checkerboard, March as Marches, WalkPath, Galpat, TransparentGalpat}
use Rattle.mt_plan.specs.declared.algorithm.Step.{Step}
use Rattle.mt_plan.specs.Lists.{cells}
use Rattle.mt_plan.specs.Plan.{steps_of, hold_of, IsAccepted}
use Rattle.mt_plan.specs.Accesses.{item_of}
use Rattle.mt_port.specs.Board.{Board}
use Rattle.mt_port.specs.declared.board.Touch.{Touch}
use Rattle.mt_seq.specs.Tape.{touch_of}
use Rattle.mt_seq.specs.declared.sequence.Slice.{Slice}
use Rattle.mt_seq.specs.declared.sequence.Job.{Job}
use Rattle.mt_plan.specs.declared.algorithm.Policy.{Policy}
use Rattle.mt_plan.specs.declared.algorithm.Policy.TheVariants.{NonDestructive, Destructive}
use Rattle.mt_seq.specs.declared.sequence.Verdict.{Verdict}
use Rattle.mt_seq.specs.declared.sequence.Verdict.TheVariants.{Pass, Fail}
use Rattle.mt_fault.specs.Items.{Item, Look, Store, history, passes}

-- whether the background of an algorithm is the saved words
abbrev pub is_transparent : Algorithm → Bool
is_transparent Checkerboard = false
is_transparent (Marches march) = false
is_transparent WalkPath = false
is_transparent Galpat = false
is_transparent TransparentGalpat = true

-- the background word of a cell
abbrev pub back_of : Job → List ℕ → ℕ → ℕ
back_of job saved cell = if is_transparent job.alg then slice_index saved cell else job.background

-- the word that a cell is left with
abbrev pub last_of : Policy → ℕ → List ℕ → ℕ → ℕ
last_of NonDestructive fill saved cell = slice_index saved cell
last_of Destructive fill saved cell = fill

-- the reads whose answers are saved
abbrev pub saving : Policy → Slice → List Item
saving NonDestructive slice = map (λ cell. Look (slice.first + cell)) (cells slice.n)
saving Destructive slice = []

-- what they answer. Reads change nothing.
abbrev pub saved_words : Policy → Option Fault → List ℕ → Slice → List ℕ
saved_words NonDestructive fault words slice = map (λ cell. answer fault words [] (slice.first + cell)) (cells slice.n)
saved_words Destructive fault words slice = []

-- the algorithm's accesses
abbrev pub testing : Width → Job → Slice → List ℕ → List Step → List Item
testing width job slice saved steps = map (item_of width slice.first (back_of job saved)) steps

-- the writes that leave the saved words or the fill
abbrev pub ending : Job → Slice → List ℕ → List Item
ending job slice saved = map (λ cell. Store (slice.first + cell) (last_of job.policy job.fill saved cell)) (cells slice.n)

-- all accesses of one sequence on words of a width, with the steps of its algorithm, where the saving reads answered `saved`
abbrev pub listed : Width → Job → Slice → List ℕ → List Step → List Item
listed width job slice saved steps = saving job.policy slice ++ testing width job slice saved steps ++ ending job slice saved

-- all accesses of one sequence on a board, with the steps of its algorithm
unfoldable pub accesses_of : Board → Job → Slice → List Step → List Item
accesses_of b job slice steps = listed b.shape.width job slice (saved_words job.policy b.fault b.words slice) steps

abbrev pub verdict_of : Bool → Verdict
verdict_of true = Pass
verdict_of false = Fail

-- ---- what upper crates cite

-- the accesses of one sequence on a board, in their order
unfoldable pub sequence : Board → Job → Slice → List Item
sequence b job slice = accesses_of b job slice (steps_of job.alg slice.n)

-- its verdict: Pass exactly where each checked read answers the word that it is to answer
unfoldable pub sequence_verdict : Board → Job → Slice → Verdict
sequence_verdict b job slice = verdict_of (passes b.fault b.words [] (sequence b job slice))

-- the words after it, whatever the verdict
unfoldable pub sequence_words : Board → Job → Slice → List ℕ
sequence_words b job slice = words_after b.fault b.words (history (sequence b job slice))

-- its accesses as a tape has them
unfoldable pub sequence_touches : Board → Job → Slice → List Touch
sequence_touches b job slice = map touch_of (sequence b job slice)

-- how many accesses it has
unfoldable pub sequence_hold : Job → ℕ → ℕ
sequence_hold job n = hold_of job.alg job.policy n

-- What a job may be, on words of a width: an accepted march, words that fit, and a transparent test that keeps the words.
pub record IsSoundJob (width : Width) (job : Job) : Type 0 where
  pub accepted : IsAccepted job.alg
  pub kept : is_transparent job.alg ≡ true → job.policy ≡ NonDestructive
  pub background : Fits width job.background
  pub fill : Fits width job.fill

-- A slice of 1 to 64 words of the RAM.
pub record IsSoundSlice (ram : ℕ) (slice : Slice) : Type 0 where
  pub some : 1 ≤ slice.n
  pub small : slice.n ≤ 64
  pub inside : slice.first + slice.n ≤ ram
