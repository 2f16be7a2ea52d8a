-- How many accesses there are.
use Rattle.std.proofs.Common.{ℕ, zero, suc, ◌+◌, ◌*◌, ◌≤◌, ◌≡◌, List, length, refl, ap, ◌∙◌, arith, length-append}
use Rattle.std.specs.Prelude.{Option, [], ◌∷◌, ◌++◌}
use Rattle.std.proofs.lemmas.List.{length-map}
use Rattle.mt_word.specs.declared.Width.{Width}
use Rattle.mt_fault.specs.declared.fault.Fault.{Fault}
use Rattle.mt_fault.specs.Faulty.{answer}
use Rattle.mt_plan.specs.declared.algorithm.Step.{Step}
use Rattle.mt_plan.specs.Lists.{cells}
use Rattle.mt_plan.specs.Plan.{frame_of}
use Rattle.mt_plan.proofs.Counts.{steps_few}
use Rattle.mt_seq.specs.Laws.{SequencesAreShort}
use Rattle.mt_port.specs.Board.{Board}
use Rattle.mt_seq.specs.declared.sequence.Slice.{Slice}
use Rattle.mt_seq.specs.declared.sequence.Job.{Job}
use Rattle.mt_plan.specs.declared.algorithm.Policy.{Policy}
use Rattle.mt_plan.specs.declared.algorithm.Policy.TheVariants.{NonDestructive, Destructive}
use Rattle.mt_fault.specs.Items.{Look, Store}
use Rattle.mt_plan.specs.Accesses.{item_of}
use Rattle.mt_seq.specs.Sequence.{saving, saved_words, last_of, testing, ending, accesses_of, sequence_hold, back_of}

-- how many accesses there are beside so many steps
abbrev pub hold_with : Policy → ℕ → ℕ → ℕ
hold_with policy n steps = steps + frame_of policy n

pub length-cells : (n : ℕ) → length (cells n) ≡ n
length-cells zero = refl
length-cells (suc n) = length-append (cells n) (n ∷ []) ∙ (let e : length (cells n) ≡ n = length-cells n in omega arith)

pub length-saved : (policy : Policy) (fault : Option Fault) (words : List ℕ) (slice : Slice) → policy ≡ NonDestructive → length (saved_words policy fault words slice) ≡ slice.n
length-saved policy fault words slice e =
    ap (λ (p : Policy). length (saved_words p fault words slice)) e
    ∙ length-map (cells slice.n) (λ (cell : ℕ). answer fault words [] (slice.first + cell))
    ∙ length-cells slice.n

pub length-saving : (slice : Slice) → length (saving NonDestructive slice) ≡ slice.n
length-saving slice = length-map (cells slice.n) (λ (cell : ℕ). Look (slice.first + cell)) ∙ length-cells slice.n

pub length-ending : (job : Job) (slice : Slice) (saved : List ℕ) → length (ending job slice saved) ≡ slice.n
length-ending job slice saved = length-map (cells slice.n) (λ (cell : ℕ). Store (slice.first + cell) (last_of job.policy job.fill saved cell)) ∙ length-cells slice.n

pub length-testing : (width : Width) (job : Job) (slice : Slice) (saved : List ℕ) (steps : List Step) → length (testing width job slice saved steps) ≡ length steps
length-testing width job slice saved steps = length-map steps (item_of width slice.first (back_of job saved))

pub hold_is : (policy : Policy) (slice : Slice) (steps : ℕ) → hold_with policy slice.n steps ≡ length (saving policy slice) + steps + slice.n
hold_is NonDestructive slice steps = omega (arith, length-saving slice)
hold_is Destructive slice steps = omega arith

pub length-sequence : (b : Board) (job : Job) (slice : Slice) (steps : List Step) → length (accesses_of b job slice steps) ≡ hold_with job.policy slice.n (length steps)
unfolding accesses_of
length-sequence b job slice steps =
    let saved = saved_words job.policy b.fault b.words slice in
    omega (
      arith,
      length-append (saving job.policy slice ++ testing b.shape.width job slice saved steps) (ending job slice saved),
      length-append (saving job.policy slice) (testing b.shape.width job slice saved steps),
      length-testing b.shape.width job slice saved steps,
      length-ending job slice saved,
      hold_is job.policy slice (length steps),
    )

pub same_testing : (v w : Width) (job : Job) (slice : Slice) (s t : List ℕ) (steps : List Step) → v ≡ w → s ≡ t → testing v job slice s steps ≡ testing w job slice t steps
same_testing v w job slice s t steps e f = ap (λ (x : Width). testing x job slice s steps) e ∙ ap (λ (x : List ℕ). testing w job slice x steps) f

frame_short : (policy : Policy) (n : ℕ) → frame_of policy n ≤ 2 * n
frame_short NonDestructive n = omega arith
frame_short Destructive n = omega arith

pub holds_are_short : SequencesAreShort
unfolding sequence_hold
holds_are_short job n accepted small = omega (arith, steps_few job.alg n accepted small, frame_short job.policy n)
