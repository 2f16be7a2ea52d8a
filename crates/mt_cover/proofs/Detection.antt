-- From coverage to sequences and attempts.
use Rattle.std.proofs.Common.{ℕ, zero, suc, ◌+◌, ◌<◌, ◌≤◌, ◌≡◌, true, List, [], length, length-append, get_or, All, Option, Some, None, refl, sym, ap, ◌∙◌, subst, arith}
use Rattle.std.specs.Prelude.{slice_index}
use Rattle.std.proofs.lemmas.List.{length-map}
use Rattle.std.proofs.lemmas.List.Elements.{All-map, All-nil, All-push}
use Rattle.mt_word.specs.declared.Width.{Width}
use Rattle.mt_word.specs.Word.{Fits}
use Rattle.mt_fault.specs.declared.fault.Fault.{Fault}
use Rattle.mt_fault.specs.Faulty.{answer}
use Rattle.mt_fault.specs.Items.{passes}
use Rattle.mt_fault.specs.Memory as memory
use Rattle.mt_fault.specs.Placement.{IsInside}
use Rattle.mt_port.specs.Board.{Board}
use Rattle.mt_plan.specs.declared.algorithm.Algorithm.{Algorithm}
use Rattle.mt_plan.specs.declared.algorithm.Algorithm.TheVariants.{Checkerboard, March, WalkPath, Galpat, TransparentGalpat}
use Rattle.mt_plan.specs.declared.algorithm.Policy.{Policy}
use Rattle.mt_plan.specs.declared.algorithm.Policy.TheVariants.{NonDestructive}
use Rattle.mt_plan.specs.Lists.{cells}
use Rattle.mt_plan.specs.Plan.{steps_of}
use Rattle.mt_seq.specs.declared.sequence.Slice.{Slice}
use Rattle.mt_seq.specs.declared.sequence.Job.{Job}
use Rattle.mt_seq.specs.declared.sequence.Verdict.TheVariants.{Fail}
use Rattle.mt_seq.specs.Sequence.{saved_words, testing, back_of, is_transparent, sequence_verdict, IsSoundJob, IsSoundSlice}
use Rattle.mt_seq.specs.Attempts.{attempt_verdict, verdict_to, dropped_at}
use Rattle.mt_seq.specs.Laws.{CaughtFaultsFail}
use Rattle.mt_cover.specs.declared.class.Class.{Class}
use Rattle.mt_cover.specs.declared.class.Class.TheVariants as classes
use Rattle.mt_cover.specs.Coverage.{class_of, IsTabled, HasOneWord, Coverage}
use Rattle.mt_cover.specs.Inner.MemoryLaws.{AnswersFit}
use Rattle.mt_cover.specs.Detection.{Detection, HasSoundWords, AttemptsDetect, WholeAttemptsEnd}

pub cells_below : (n : ℕ) → All (λ (c : ℕ). c < n) (cells n)
cells_below zero = All-nil (λ (c : ℕ). c < zero)
cells_below (suc n) = All-push (λ (c : ℕ). c < suc n) (cells n) n (λ k d h. omega (arith, cells_below n k d h)) (omega arith)

length-cells : (n : ℕ) → length (cells n) ≡ n
length-cells zero = refl
length-cells (suc n) = simp length-append (omega (arith, length-cells n))

-- the saved words fit
saved_fit : AnswersFit → (width : Width) (fault : Fault) (words : List ℕ) (slice : Slice) → memory.IsSound (record { width = width; fault = Some fault; words = words })
    → slice.first + slice.n ≤ length words → All (Fits width) (saved_words NonDestructive (Some fault) words slice)
saved_fit answers_fit width fault words slice sound inside =
    All-map (Fits width) (λ (cell : ℕ). answer (Some fault) words [] (slice.first + cell)) (cells slice.n)
    (λ k d h.
    let cell = get_or (cells slice.n) k d in
    let below : cell < slice.n = cells_below slice.n k d h in
    answers_fit (record { width = width; fault = Some fault; words = words }) sound (slice.first + cell) (omega (arith, below, inside)))

-- each background word fits
back_fits : AnswersFit → (alg : Algorithm) (policy : Policy) (width : Width) (fault : Fault) (words : List ℕ) (background fill : ℕ) (slice : Slice)
    → (is_transparent alg ≡ true → policy ≡ NonDestructive) → Fits width background
    → memory.IsSound (record { width = width; fault = Some fault; words = words }) → slice.first + slice.n ≤ length words
    → (cell : ℕ) → cell < slice.n → Fits width (back_of (record { alg = alg; policy = policy; background = background; fill = fill }) (saved_words policy (Some fault) words slice) cell)
back_fits answers_fit Checkerboard policy width fault words background fill slice kept fits sound inside cell h = fits
back_fits answers_fit (March march) policy width fault words background fill slice kept fits sound inside cell h = fits
back_fits answers_fit WalkPath policy width fault words background fill slice kept fits sound inside cell h = fits
back_fits answers_fit Galpat policy width fault words background fill slice kept fits sound inside cell h = fits
back_fits answers_fit TransparentGalpat policy width fault words background fill slice kept fits sound inside cell h =
    let saves = kept refl in
    subst (λ (p : Policy). Fits width (slice_index (saved_words p (Some fault) words slice) cell)) (sym saves)
    (saved_fit answers_fit width fault words slice sound inside cell 0 (omega (arith, h, length-map (cells slice.n) (λ (c : ℕ). answer (Some fault) words [] (slice.first + c)), length-cells slice.n)))

-- a tabled decoder fault is one of a test with one background word
one_word : (alg : Algorithm) (policy : Policy) (background fill : ℕ) (saved : List ℕ) (n : ℕ) (class : Class) → IsTabled alg class → class ≡ classes.Decoder
    → HasOneWord (back_of (record { alg = alg; policy = policy; background = background; fill = fill }) saved) n
one_word Checkerboard policy background fill saved n class tabled is i j h g = refl
one_word (March march) policy background fill saved n class tabled is i j h g = refl
one_word WalkPath policy background fill saved n class tabled is i j h g = refl
one_word Galpat policy background fill saved n class tabled is i j h g = refl
one_word TransparentGalpat policy background fill saved n class tabled is i j h g = absurd (tabled.1 is)

-- what a sequence answers goes by the words and the fault alone
sequence_detects : Coverage → CaughtFaultsFail → AnswersFit → (b : Board) (job : Job) (slice : Slice) (fault : Fault) → HasSoundWords b → b.fault ≡ Some fault → IsSoundJob b.shape.width job
    → IsSoundSlice b.shape.ram slice → IsTabled job.alg (class_of fault) → IsInside fault slice.first slice.n → sequence_verdict b job slice ≡ Fail
sequence_detects coverage caught_fails answers_fit b job slice fault sound present good at tabled inside =
    let width = b.shape.width in
    let saved = saved_words job.policy b.fault b.words slice in
    let whole = subst (λ (f : Option Fault). memory.IsSound (record { width = width; fault = f; words = b.words })) present sound.memory in
    let within : slice.first + slice.n ≤ length b.words = omega (arith, at.inside, sound.sized) in
    let fits : (cell : ℕ) → cell < slice.n → Fits width (back_of job saved cell) =
    λ cell h. subst (λ (f : Option Fault). Fits width (back_of job (saved_words job.policy f b.words slice) cell)) (sym present)
    (back_fits answers_fit job.alg job.policy width fault b.words job.background job.fill slice good.kept good.background whole within cell h) in
    caught_fails b job slice (λ earlier.
    ap (λ (f : Option Fault). passes f b.words earlier (testing width job slice saved (steps_of job.alg slice.n))) present
    ∙ coverage job.alg fault good.accepted tabled width (length b.words) slice.first slice.n (back_of job saved) whole.placed inside fits
    (one_word job.alg job.policy job.background job.fill saved slice.n (class_of fault) tabled) b.words earlier)

pub detection : Coverage → CaughtFaultsFail → AnswersFit → Detection
detection coverage caught_fails answers_fit b job slice fault sound present good at tabled inside =
    sequence_detects coverage caught_fails answers_fit b job slice fault (record { sized = sound.sized; memory = sound.memory }) present good at tabled inside

-- an attempt has the verdict of its sequence, or none
pub attempts_detect : Coverage → CaughtFaultsFail → AnswersFit → AttemptsDetect
unfolding attempt_verdict
attempts_detect coverage caught_fails answers_fit may b job slice fault v sound present good at tabled inside = of (dropped_at may b job slice)
  where
    of : (dropped : Option ℕ) → verdict_to b job slice dropped ≡ Some v → v ≡ Fail
    of None e =
        let same : v ≡ sequence_verdict b job slice = cc in
        same ∙ sequence_detects coverage caught_fails answers_fit b job slice fault sound present good at tabled inside
    of (Some i) e = absurd cc

pub whole_attempts_end : WholeAttemptsEnd
unfolding attempt_verdict dropped_at
whole_attempts_end b job slice = (sequence_verdict b job slice, refl)
