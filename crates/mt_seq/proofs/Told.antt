-- A sequence whose accesses are answered by anything.
use Rattle.std.proofs.Common.{ℕ, zero, suc, add-one, ◌≡◌, ◌+◌, ◌<◌, ◌≤◌, Bool, true, false, List, [], ◌∷◌, ◌++◌, take, length, length-append, refl, arith, ap, sym, ◌∙◌, subst, Option, Some, None, inl, inr, get_or}
use Rattle.std.specs.Prelude.{not, slice_get}
use mathlib.Core.Bool.{◌||◌, ◌&&◌}
use Rattle.std.proofs.lemmas.Bool.{cases_lt}
use Rattle.std.proofs.lemmas.List.{take_all, length-take}
use Rattle.std.proofs.lemmas.Option.{slice_get-get_or}
use Rattle.mt_word.specs.declared.Width.{Width}
use Rattle.mt_fault.specs.Items.{Item, Look, Store}
use Rattle.mt_plan.specs.declared.algorithm.Policy.{Policy}
use Rattle.mt_plan.specs.declared.algorithm.Step.{Step}
use Rattle.mt_plan.specs.Plan.{steps_of}
use Rattle.mt_seq.specs.declared.sequence.Slice.{Slice}
use Rattle.mt_seq.specs.declared.sequence.Job.{Job}
use Rattle.mt_seq.specs.Sequence.{saving, testing, ending, last_of}
use Rattle.mt_seq.specs.Stepping.{Stepping, agreed, begun, item_at, stepped, saved_after}
use Rattle.mt_seq.specs.Told.{all_agreed, known_after, told, sequence_told, AnswersMakeTheSequence, IsTold, ToldSequencesAreHolds, SavedWordsAreWrittenBack}
use Rattle.mt_seq.proofs.Attempts.{hold_is_long}
use Rattle.mt_seq.proofs.Lengths.{hold_is, length-saving, length-testing, length-ending}
use Rattle.mt_seq.proofs.Moves.{ending_item}
use Rattle.mt_seq.proofs.Underway.{take_more, next_listed, early_look, later_no_look, no_look_saves}

-- ---- lists

within_some : {X : Type 0} (xs : List X) (k : ℕ) → k < length xs → (x : X) × (slice_get xs k ≡ Some x)
within_some [] k h = absurd (omega arith)
within_some (x ∷ xs) zero h = (x, refl)
within_some (x ∷ xs) (suc k) h = within_some xs k (omega arith)

at_take : {X : Type 0} (xs : List X) (n k : ℕ) (x : X) → k < n → slice_get xs k ≡ Some x → slice_get (take n xs) k ≡ Some x
at_take [] n k x h at = cc
at_take (y ∷ xs) zero k x h at = absurd (omega arith)
at_take (y ∷ xs) (suc n) zero x h at = at
at_take (y ∷ xs) (suc n) (suc k) x h at = at_take xs n k x (omega arith) at

none_agreed : (items : List Item) → all_agreed items [] ≡ true
none_agreed [] = refl
none_agreed (item ∷ items) = refl

and_end : (a b : Bool) → b ≡ true → (a && b) ≡ a
and_end true b e = e
and_end false b e = refl

and_turn : (a b c : Bool) → (a && (b && c)) ≡ ((a && b) && c)
and_turn true b c = refl
and_turn false b c = refl

agreed_more : (items : List Item) (xs : List ℕ) (item : Item) (a : ℕ) → slice_get items (length xs) ≡ Some item → all_agreed items (xs ++ a ∷ []) ≡ (all_agreed items xs && agreed item a)
agreed_more [] xs item a at = cc
agreed_more (i ∷ items) [] item a at = let same : i ≡ item = cc in and_end (agreed i a) (all_agreed items []) (none_agreed items) ∙ ap (λ (x : Item). agreed x a) same
agreed_more (i ∷ items) (x ∷ xs) item a at = ap (λ (b : Bool). agreed i x && b) (agreed_more items xs item a at) ∙ and_turn (agreed i x) (all_agreed items xs) (agreed item a)

differs_too : (all g : Bool) → (not all || not g) ≡ not (all && g)
differs_too true g = refl
differs_too false g = refl

-- ---- what was told

told_more : (width : Width) (s : Stepping) (xs : List ℕ) (a : ℕ) → told width s (xs ++ a ∷ []) ≡ known_after (told width s xs) (item_at width (told width s xs)) a
told_more width s [] a = refl
told_more width s (x ∷ xs) a = told_more width (known_after s (item_at width s) x) xs a

after_job : (s : Stepping) (next : Option Item) (a : ℕ) → (known_after s next a).job ≡ s.job
after_job s None a = refl
after_job s (Some item) a = refl

after_slice : (s : Stepping) (next : Option Item) (a : ℕ) → (known_after s next a).slice ≡ s.slice
after_slice s None a = refl
after_slice s (Some item) a = refl

told_job : (width : Width) (s : Stepping) (xs : List ℕ) → (told width s xs).job ≡ s.job
told_job width s [] = refl
told_job width s (x ∷ xs) = told_job width (known_after s (item_at width s) x) xs ∙ after_job s (item_at width s) x

told_slice : (width : Width) (s : Stepping) (xs : List ℕ) → (told width s xs).slice ≡ s.slice
told_slice width s [] = refl
told_slice width s (x ∷ xs) = told_slice width (known_after s (item_at width s) x) xs ∙ after_slice s (item_at width s) x

-- ---- one answer more

short_take : (n : ℕ) (xs : List ℕ) → length (take n xs) ≤ n
short_take n xs = omega (arith, length-take n xs)

saved_more : (width : Width) (s : Stepping) (answers : List ℕ) (k a : ℕ) (item : Item) → IsTold width s.job s.slice answers k s
    → slice_get (sequence_told width s.job s.slice answers) k ≡ Some item → slice_get answers k ≡ Some a
    → saved_after s.saved item a ≡ take (suc k) (take (length (saving s.job.policy s.slice)) answers)
saved_more width s answers k a item is at here =
    let from : ℕ = length (saving s.job.policy s.slice) in
    let all : List ℕ = take from answers in
    let steps : List Step = steps_of s.job.alg s.slice.n in
    elim (cases_lt k from) [
      | inl lt ↦ (
          let look : item ≡ Look (s.slice.first + k) = cc (at, early_look width s.job s.slice all steps k lt) in
          ap (λ (i : Item). saved_after s.saved i a) look ∙ ap (λ (l : List ℕ). l ++ a ∷ []) is.saved
          ∙ sym (take_more all k a (at_take answers from k a lt here)) ∙ ap (λ (i : ℕ). take i all) (add-one k))
      | inr le ↦
          no_look_saves item s.saved a (later_no_look width s.job s.slice all steps k item le at) ∙ is.saved
          ∙ take_all k all (omega (arith, short_take from answers)) ∙ sym (take_all (suc k) all (omega (arith, short_take from answers)))
    ]

one_more : (width : Width) (s : Stepping) (answers : List ℕ) (k a : ℕ) (item : Item) → IsTold width s.job s.slice answers k s
    → slice_get (sequence_told width s.job s.slice answers) k ≡ Some item → slice_get answers k ≡ Some a
    → IsTold width s.job s.slice answers (suc k) (stepped s item a)
one_more width s answers k a item is at here =
    let from : ℕ = length (saving s.job.policy s.slice) in
    let list : List Item = sequence_told width s.job s.slice answers in
    let made : s.made + 1 ≡ suc k = omega (arith, is.made) in
    let saved : saved_after s.saved item a ≡ take (suc k) (take from answers) = saved_more width s answers k a item is at here in
    let front : length (take k answers) ≡ k = omega (arith, length-take k answers, Rattle.std.proofs.lemmas.Option.slice_get_within answers k a here) in
    record {
      same_job = refl;
      same_slice = refl;
      made = made;
      saved = saved;
      next = next_listed width (stepped s item a) (take from answers) (short_take from answers) (saved ∙ ap (λ (i : ℕ). take i (take from answers)) (sym made)) ∙ ap (slice_get list) made;
      differs = ap (λ (d : Bool). d || not (agreed item a)) is.differs
          ∙ differs_too (all_agreed list (take k answers)) (agreed item a)
          ∙ ap not (sym (agreed_more list (take k answers) item a (ap (slice_get list) front ∙ at)))
          ∙ ap (λ (l : List ℕ). not (all_agreed list l)) (sym (take_more answers k a here) ∙ ap (λ (i : ℕ). take i answers) (add-one k));
    }

pub told_holds : ToldSequencesAreHolds
told_holds width job slice answers =
    let saved : List ℕ = take (length (saving job.policy slice)) answers in
    let steps : List Step = steps_of job.alg slice.n in
    omega (
      arith,
      length-append (saving job.policy slice ++ testing width job slice saved steps) (ending job slice saved),
      length-append (saving job.policy slice) (testing width job slice saved steps),
      length-testing width job slice saved steps,
      length-ending job slice saved,
      hold_is job.policy slice (length steps),
      hold_is_long job slice.n,
    )

pub answers_make : AnswersMakeTheSequence
answers_make width job slice answers zero few h =
    let from : ℕ = length (saving job.policy slice) in
    record {
      same_job = refl;
      same_slice = refl;
      made = refl;
      saved = refl;
      next = next_listed width (begun job slice) (take from answers) (short_take from answers) refl;
      differs = ap not (sym (none_agreed (sequence_told width job slice answers)));
    }
answers_make width job slice answers (suc k) few h =
    let s : Stepping = told width (begun job slice) (take k answers) in
    let before : IsTold width job slice answers k s = answers_make width job slice answers k few (omega arith) in
    let j : s.job ≡ job = told_job width (begun job slice) (take k answers) in
    let l : s.slice ≡ slice = told_slice width (begun job slice) (take k answers) in
    let here : slice_get answers k ≡ Some (get_or answers k 0) = slice_get-get_or answers k 0 (omega arith) in
    let there = within_some (sequence_told width job slice answers) k (omega (arith, told_holds width job slice answers)) in
    let own : IsTold width s.job s.slice answers k s =
    subst (λ (x : Slice). IsTold width s.job x answers k s) (sym l) (subst (λ (x : Job). IsTold width x slice answers k s) (sym j) before) in
    let at : slice_get (sequence_told width s.job s.slice answers) k ≡ Some there.0 =
    ap (λ (x : Slice). slice_get (sequence_told width s.job x answers) k) l ∙ ap (λ (x : Job). slice_get (sequence_told width x slice answers) k) j ∙ there.1 in
    let after : IsTold width s.job s.slice answers (suc k) (stepped s there.0 (get_or answers k 0)) = one_more width s answers k (get_or answers k 0) there.0 own at here in
    let home : IsTold width job slice answers (suc k) (stepped s there.0 (get_or answers k 0)) =
    subst (λ (x : Slice). IsTold width job x answers (suc k) (stepped s there.0 (get_or answers k 0))) l
    (subst (λ (x : Job). IsTold width x s.slice answers (suc k) (stepped s there.0 (get_or answers k 0))) j after) in
    let same : told width (begun job slice) (take (suc k) answers) ≡ stepped s there.0 (get_or answers k 0) =
    ap (told width (begun job slice)) (ap (λ (i : ℕ). take i answers) (sym (add-one k)) ∙ take_more answers k (get_or answers k 0) here)
    ∙ told_more width (begun job slice) (take k answers) (get_or answers k 0)
    ∙ ap (λ (o : Option Item). known_after s o (get_or answers k 0)) (before.next ∙ there.1) in
    subst (IsTold width job slice answers (suc k)) (sym same) home

-- ---- the writes of the saved words

pub written_back : SavedWordsAreWrittenBack
written_back width s k keeps h made =
    let from : length (saving s.job.policy s.slice) ≡ s.slice.n = ap (λ (p : Policy). length (saving p s.slice)) keeps ∙ length-saving s.slice in
    ending_item width s k (omega (arith, made, from)) h
    ∙ ap (λ (p : Policy). Some (Store (s.slice.first + k) (last_of p s.job.fill s.saved k))) keeps
