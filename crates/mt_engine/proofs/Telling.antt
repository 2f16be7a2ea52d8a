-- A test that is told answers, one after another.
use Rattle.std.proofs.Common.{ℕ, zero, suc, ◌≡◌, ◌+◌, ◌*◌, ◌<◌, ◌≤◌, Bool, true, false, List, [], ◌∷◌, ◌++◌, take, length, refl, arith, ap, sym, ◌∙◌, subst, inl, inr, get_or, eq-eqb}
use Rattle.std.specs.Prelude.{◌↔◌, not, ◌&&◌, ◌||◌, ◌==◌, nat_le, nat_lt, if◌then◌else◌, slice_get, slice_index}
use Rattle.std.proofs.lemmas.Bool.{cases_lt, eqb-true, ne_eqb, lt-ltb, le-ltb, le-leb, lt-leb}
use Rattle.std.proofs.lemmas.List.{take_all}
use Rattle.std.proofs.Math.Seq.{take-suc}
use Rattle.mt_fault.specs.Items.{Item, Store}
use Rattle.mt_plan.specs.declared.algorithm.Policy.{Policy}
use Rattle.mt_plan.specs.declared.algorithm.Policy.TheVariants.{NonDestructive, Destructive}
use Rattle.mt_plan.specs.Plan.{frame_of}
use Rattle.mt_plan.specs.Steady.{PlansAreCounted}
use Rattle.mt_word.specs.declared.Width.{Width}
use Rattle.mt_seq.specs.declared.sequence.Job.{Job}
use Rattle.mt_seq.specs.declared.sequence.Slice.{Slice}
use Rattle.mt_seq.specs.Attempts.{keeps_words}
use Rattle.mt_seq.specs.Sequence.{sequence_hold}
use Rattle.mt_seq.specs.Stepping.{Stepping, begun, item_at}
use Rattle.mt_seq.specs.Told.{all_agreed, known_after, sequence_told, told as known_told, AnswersMakeTheSequence, IsTold, SavedWordsAreWrittenBack}
use Rattle.mt_engine.specs.declared.plan.Plan.{Plan}
use Rattle.mt_engine.specs.declared.test.Due.TheVariants.{Write, Ended}
use Rattle.mt_engine.specs.declared.test.Ending.TheVariants.{Pass, Fail, BrokenOff}
use Rattle.mt_engine.specs.Laws.{told, due_after, due_back, BrokenTestsPutTheWordsBack, MayBeBrokenOffBeforeTheWritesBack, SeenDifferencesAreReported, TestsAskForTheSequence}
use Rattle.mt_engine.specs.Testing.{Testing, answered, asked, broken_off, due, ending_from, is_over, may_break_off, set_up}
use Rattle.mt_engine.proofs.Answering.{over_due, over_answered, left_due, left_answered}
use Rattle.mt_engine.proofs.Breaking.{keeps, may_keeps, may_early}

told_more : (t : Testing) (xs : List ℕ) (a : ℕ) → told t (xs ++ a ∷ []) ≡ answered (told t xs) a
told_more t [] a = refl
told_more t (x ∷ xs) a = told_more (answered t x) xs a

known_more : (width : Width) (s : Stepping) (xs : List ℕ) (a : ℕ) → known_told width s (xs ++ a ∷ []) ≡ known_after (known_told width s xs) (item_at width (known_told width s xs)) a
known_more width s [] a = refl
known_more width s (x ∷ xs) a = known_more width (known_after s (item_at width s) x) xs a

next_answer : (answers : List ℕ) (k : ℕ) → k < length answers → take (suc k) answers ≡ take k answers ++ get_or answers k 0 ∷ []
next_answer answers k h = take-suc answers k 0 h

left_known : (t : Testing) (a : ℕ) → is_over t ≡ false → answered t a ≡ record t { known = known_after t.known (item_at t.width t.known) a }
unfolding answered
left_known t a left = ap (λ (b : Bool). if b then t else record t { known = known_after t.known (item_at t.width t.known) a }) left

-- ---- a whole test

-- a test of a plan of which this is known
abbrev pub known_test : Plan → Stepping → Testing
known_test plan s = record { width = plan.width; known = s; broken = false }

same_hold : (plan : Plan) (answers : List ℕ) (k : ℕ) (s : Stepping) → IsTold plan.width plan.job plan.slice answers k s → sequence_hold s.job s.slice.n ≡ sequence_hold plan.job plan.slice.n
same_hold plan answers k s is = ap (λ (j : Job). sequence_hold j s.slice.n) is.same_job ∙ ap (λ (x : Slice). sequence_hold plan.job x.n) is.same_slice

told_known : AnswersMakeTheSequence → (plan : Plan) (answers : List ℕ) → length answers ≡ sequence_hold plan.job plan.slice.n → (k : ℕ) → k ≤ length answers
    → told (set_up plan) (take k answers) ≡ known_test plan (known_told plan.width (begun plan.job plan.slice) (take k answers))
told_known law plan answers whole zero h = refl
told_known law plan answers whole (suc k) h =
    let s : Stepping = known_told plan.width (begun plan.job plan.slice) (take k answers) in
    let a : ℕ = get_or answers k 0 in
    let is : IsTold plan.width plan.job plan.slice answers k s = law plan.width plan.job plan.slice answers k (omega (arith, whole)) (omega arith) in
    let left : is_over (known_test plan s) ≡ false =
    ne_eqb s.made (sequence_hold s.job s.slice.n) (λ e. absurd (omega (arith, e, is.made, same_hold plan answers k s is, whole, h))) in
    let more : take (suc k) answers ≡ take k answers ++ a ∷ [] = next_answer answers k (omega arith) in
    ap (told (set_up plan)) more ∙ told_more (set_up plan) (take k answers) a
    ∙ ap (λ (t : Testing). answered t a) (told_known law plan answers whole k (omega arith))
    ∙ left_known (known_test plan s) a left
    ∙ ap (known_test plan) (sym (ap (known_told plan.width (begun plan.job plan.slice)) more ∙ known_more plan.width (begun plan.job plan.slice) (take k answers) a))

choose : {X : Type 0} (b : Bool) (x y z w : X) → (b ≡ true → x ≡ y) → z ≡ w → (if b then x else z) ≡ (if b then y else w)
choose true x y z w f e = f refl
choose false x y z w f e = e

turned : (all : Bool) → (if not all then Fail else Pass) ≡ (if all then Pass else Fail)
turned true = refl
turned false = refl

due_known : (plan : Plan) (answers : List ℕ) (k : ℕ) (s : Stepping) → length answers ≡ sequence_hold plan.job plan.slice.n → IsTold plan.width plan.job plan.slice answers k s
    → due (known_test plan s) ≡ due_after plan answers k
unfolding due
due_known plan answers k s whole is =
    let items : List Item = sequence_told plan.width plan.job plan.slice answers in
    let hold : ℕ = sequence_hold plan.job plan.slice.n in
    ap (λ (b : Bool). if b then Ended (if s.differs then Fail else Pass) else asked (item_at plan.width s))
    (ap (λ (m : ℕ). m == sequence_hold s.job s.slice.n) is.made ∙ ap (λ (m : ℕ). k == m) (same_hold plan answers k s is))
    ∙ choose (k == hold) (Ended (if s.differs then Fail else Pass)) (Ended (if all_agreed items answers then Pass else Fail)) (asked (item_at plan.width s)) (asked (slice_get items k))
    (λ e.
    let all : take k answers ≡ answers = take_all k answers (omega (arith, eqb-true k hold e, whole)) in
    ap Ended (ap (λ (d : Bool). if d then Fail else Pass) (is.differs ∙ ap (λ (l : List ℕ). not (all_agreed items l)) all) ∙ turned (all_agreed items answers)))
    (ap asked is.next)

pub asks : AnswersMakeTheSequence → TestsAskForTheSequence
asks law plan answers k whole h =
    ap due (told_known law plan answers whole k h)
    ∙ due_known plan answers k (known_told plan.width (begun plan.job plan.slice) (take k answers)) whole (law plan.width plan.job plan.slice answers k (omega (arith, whole)) h)

-- ---- a test that was broken off

hold_from : PlansAreCounted → (s : Stepping) → s.job.policy ≡ NonDestructive → sequence_hold s.job s.slice.n ≡ ending_from s + s.slice.n
unfolding sequence_hold
hold_from counted s keeps =
    let frame : frame_of s.job.policy s.slice.n ≡ 2 * s.slice.n = ap (λ (p : Policy). frame_of p s.slice.n) keeps in
    omega (arith, counted s.job.alg s.slice.n, frame)

-- it has written so many words back
abbrev pub back : Testing → ℕ → Testing
back t k = record t { broken = true; known = record t.known { made = ending_from t.known + k } }

or_false : (a b : Bool) → a ≡ false → b ≡ false → (a || b) ≡ false
or_false true b e f = cc
or_false false b e f = f

or_right : (a b : Bool) → b ≡ true → (a || b) ≡ true
or_right true b e = refl
or_right false b e = e

or_none : (b : Bool) → (b || false) ≡ b
or_none true = refl
or_none false = refl

back_left : PlansAreCounted → (t : Testing) (k : ℕ) → t.known.job.policy ≡ NonDestructive → t.known.slice.n < ending_from t.known → k < t.known.slice.n → is_over (back t k) ≡ false
back_left counted t k keeps far h =
    or_false (nat_le (ending_from t.known + k) t.known.slice.n) (ending_from t.known + k == sequence_hold t.known.job t.known.slice.n)
    (lt-leb (ending_from t.known + k) t.known.slice.n (omega (arith, far)))
    (ne_eqb (ending_from t.known + k) (sequence_hold t.known.job t.known.slice.n) (λ e. absurd (omega (arith, e, hold_from counted t.known keeps, h))))

told_back : PlansAreCounted → SavedWordsAreWrittenBack → (t : Testing) (answers : List ℕ) → t.known.job.policy ≡ NonDestructive → t.known.slice.n < t.known.made → t.known.made < ending_from t.known
    → (k : ℕ) → k ≤ length answers → k ≤ t.known.slice.n → told (broken_off t) (take k answers) ≡ back t k
told_back counted law t answers keeps later early zero h few =
    ap (λ (m : ℕ). record t { broken = true; known = record t.known { made = m } })
    (ap (λ (b : Bool). if b then ending_from t.known else t.known.made) (lt-ltb t.known.slice.n t.known.made later) ∙ (let same : ending_from t.known ≡ ending_from t.known + 0 = omega arith in same))
told_back counted law t answers keeps later early (suc k) h few =
    let a : ℕ = get_or answers k 0 in
    let item : Item = Store (t.known.slice.first + k) (slice_index t.known.saved k) in
    let next : ending_from t.known + k + 1 ≡ ending_from t.known + suc k = omega arith in
    ap (told (broken_off t)) (next_answer answers k (omega arith)) ∙ told_more (broken_off t) (take k answers) a
    ∙ ap (λ (x : Testing). answered x a) (told_back counted law t answers keeps later early k (omega arith) (omega arith))
    ∙ left_answered (back t k) item a (back_left counted t k keeps (omega arith) (omega arith)) (law t.width (back t k).known k keeps (omega arith) refl)
    ∙ ap (λ (m : ℕ). record t { broken = true; known = record t.known { made = m; differs = t.known.differs || false } }) next
    ∙ ap (λ (d : Bool). record t { broken = true; known = record t.known { made = ending_from t.known + suc k; differs = d } }) (or_none t.known.differs)

told_over : (t : Testing) (xs : List ℕ) → is_over t ≡ true → told t xs ≡ t
told_over t [] over = refl
told_over t (x ∷ xs) over = ap (λ (u : Testing). told u xs) (sym (over_answered t x over)) ∙ told_over t xs over

none_back : (t : Testing) (xs : List ℕ) (k : ℕ) → t.known.made ≤ t.known.slice.n → due (told (broken_off t) xs) ≡ due_back t k
none_back t xs k le =
    let n : ℕ = t.known.slice.n in
    let here : (if nat_lt n t.known.made then ending_from t.known else t.known.made) ≡ t.known.made =
    ap (λ (b : Bool). if b then ending_from t.known else t.known.made) (le-ltb n t.known.made le) in
    let over : is_over (broken_off t) ≡ true =
    ap (λ (m : ℕ). nat_le m n || (m == sequence_hold t.known.job n)) here ∙ ap (λ (b : Bool). b || (t.known.made == sequence_hold t.known.job n)) (le-leb t.known.made n le) in
    ap due (told_over (broken_off t) xs over) ∙ over_due (broken_off t) over
    ∙ sym (ap (λ (b : Bool). if b && nat_lt k n then Write (t.known.slice.first + k) (slice_index t.known.saved k) else Ended (if t.known.differs then Fail else BrokenOff)) (le-ltb n t.known.made le))

put_back : PlansAreCounted → SavedWordsAreWrittenBack → (t : Testing) (answers : List ℕ) (k : ℕ) → may_break_off t ≡ true → k ≤ length answers → k ≤ t.known.slice.n
    → due (told (broken_off t) (take k answers)) ≡ due_back t k
put_back counted law t answers k may h few =
    let n : ℕ = t.known.slice.n in
    let keeps : t.known.job.policy ≡ NonDestructive = may_keeps t may in
    let early : t.known.made < ending_from t.known = may_early t may in
    elim (cases_lt n t.known.made) [
      | inl later ↦ (
          let begun_writes : (if nat_lt n t.known.made && nat_lt k n then Write (t.known.slice.first + k) (slice_index t.known.saved k) else Ended (if t.known.differs then Fail else BrokenOff))
          ≡ (if nat_lt k n then Write (t.known.slice.first + k) (slice_index t.known.saved k) else Ended (if t.known.differs then Fail else BrokenOff)) =
          ap (λ (b : Bool). if b && nat_lt k n then Write (t.known.slice.first + k) (slice_index t.known.saved k) else Ended (if t.known.differs then Fail else BrokenOff)) (lt-ltb n t.known.made later) in
          ap due (told_back counted law t answers keeps later early k h few)
          ∙ elim (cases_lt k n) [
            | inl lt ↦
                left_due (back t k) (Store (t.known.slice.first + k) (slice_index t.known.saved k)) (back_left counted t k keeps (omega arith) lt) (law t.width (back t k).known k keeps lt refl)
                ∙ sym (ap (λ (b : Bool). if b then Write (t.known.slice.first + k) (slice_index t.known.saved k) else Ended (if t.known.differs then Fail else BrokenOff)) (lt-ltb k n lt))
            | inr le ↦
                over_due (back t k) (or_right (nat_le (ending_from t.known + k) n) (ending_from t.known + k == sequence_hold t.known.job n)
                (eq-eqb (ending_from t.known + k) (sequence_hold t.known.job n) (omega (arith, hold_from counted t.known keeps))))
                ∙ sym (ap (λ (b : Bool). if b then Write (t.known.slice.first + k) (slice_index t.known.saved k) else Ended (if t.known.differs then Fail else BrokenOff)) (le-ltb k n le))
          ]
          ∙ sym begun_writes)
      | inr le ↦ none_back t (take k answers) k le
    ]

pub puts_back : PlansAreCounted → SavedWordsAreWrittenBack → BrokenTestsPutTheWordsBack
puts_back counted law t answers k is may h few = put_back counted law t answers k may h few

-- ---- where it may be broken off, and what it then reports

keeping : (policy : Policy) → policy ≡ NonDestructive → keeps_words policy ≡ true
keeping NonDestructive e = refl
keeping Destructive e = cc

may_when : (t : Testing) → t.broken ≡ false → keeps_words t.known.job.policy ≡ true → t.known.made < ending_from t.known → may_break_off t ≡ true
unfolding may_break_off
may_when t whole keeps early = rw (whole, keeps, lt-ltb t.known.made (ending_from t.known) early)

none_due : {X : Type 0} (b : Bool) (x y : X) → (if b && false then x else y) ≡ y
none_due true x y = refl
none_due false x y = refl

turned_back : (all : Bool) → Ended (if not all then Fail else BrokenOff) ≡ Ended (if all then BrokenOff else Fail)
turned_back true = refl
turned_back false = refl

pub may_before : AnswersMakeTheSequence → PlansAreCounted → MayBeBrokenOffBeforeTheWritesBack
may_before law counted plan answers k whole h =
    let s : Stepping = known_told plan.width (begun plan.job plan.slice) (take k answers) in
    let is : IsTold plan.width plan.job plan.slice answers k s = law plan.width plan.job plan.slice answers k (omega (arith, whole)) h in
    let t : Testing = known_test plan s in
    let same : told (set_up plan) (take k answers) ≡ t = told_known law plan answers whole k h in
    let job_is : s.job ≡ plan.job = is.same_job in
    let slice_is : s.slice ≡ plan.slice = is.same_slice in
    let hold_is : sequence_hold s.job s.slice.n ≡ sequence_hold plan.job plan.slice.n = same_hold plan answers k s is in
    let n_is : s.slice.n ≡ plan.slice.n = ap (λ (x : Slice). x.n) slice_is in
    subst (λ (u : Testing). (may_break_off u ≡ true) ↔ ((keeps_words plan.job.policy ≡ true) × (k + plan.slice.n < length answers))) (sym same) (
      (λ may.
          let kept : s.job.policy ≡ NonDestructive = may_keeps t may in
          let early : s.made < ending_from s = may_early t may in (
            ap (λ (j : Job). keeps_words j.policy) (sym job_is) ∙ keeping s.job.policy kept,
            omega (arith, hold_from counted s kept, early, hold_is, n_is, is.made, whole),
          )),
      (λ facts.
          let kept : keeps_words s.job.policy ≡ true = ap (λ (j : Job). keeps_words j.policy) job_is ∙ facts.0 in
          let few : k + plan.slice.n < length answers = facts.1 in
          may_when t refl kept (omega (arith, hold_from counted s (keeps s.job.policy kept), few, hold_is, n_is, is.made, whole))),
    )

pub reported : AnswersMakeTheSequence → PlansAreCounted → SavedWordsAreWrittenBack → SeenDifferencesAreReported
reported law counted back_law plan answers writes k whole h may all =
    let s : Stepping = known_told plan.width (begun plan.job plan.slice) (take k answers) in
    let is : IsTold plan.width plan.job plan.slice answers k s = law plan.width plan.job plan.slice answers k (omega (arith, whole)) h in
    let t : Testing = known_test plan s in
    let same : told (set_up plan) (take k answers) ≡ t = told_known law plan answers whole k h in
    let n_is : s.slice.n ≡ plan.slice.n = ap (λ (x : Slice). x.n) is.same_slice in
    let may_t : may_break_off t ≡ true = subst (λ (u : Testing). may_break_off u ≡ true) same may in
    let taken : take s.slice.n writes ≡ writes = take_all s.slice.n writes (omega (arith, all, n_is)) in
    let agreed : Bool = all_agreed (sequence_told plan.width plan.job plan.slice answers) (take k answers) in
    ap (λ (u : Testing). due (told (broken_off u) writes)) same
    ∙ ap (λ (l : List ℕ). due (told (broken_off t) l)) (sym taken)
    ∙ put_back counted back_law t writes s.slice.n may_t (omega (arith, all, n_is)) (omega arith)
    ∙ ap (λ (b : Bool). if nat_lt s.slice.n s.made && b then Write (s.slice.first + s.slice.n) (slice_index s.saved s.slice.n) else Ended (if s.differs then Fail else BrokenOff)) (le-ltb s.slice.n s.slice.n (omega arith))
    ∙ none_due (nat_lt s.slice.n s.made) _ _
    ∙ ap (λ (d : Bool). Ended (if d then Fail else BrokenOff)) is.differs
    ∙ turned_back agreed
