-- Carrying a plan out is the attempt that is answered so.
use Rattle.std.proofs.Common.{ℕ, ◌≡◌, ◌+◌, ◌-◌, ◌<◌, ◌≤◌, Bool, true, false, List, [], ◌∷◌, ◌++◌, map, take, drop, length, refl, arith, ap, sym, ◌∙◌, Option, Some, None, append-nil}
use Rattle.std.specs.Prelude.{◌&&◌, nat_lt, if◌then◌else◌, find}
use Rattle.std.specs.Option.{option_or}
use Rattle.std.specs.List.{range_with_len}
use Rattle.std.proofs.Math.Seq.{take-append-add}
use Rattle.std.proofs.lemmas.Bool.{lt-ltb, le-ltb}
use Rattle.std.proofs.lemmas.List.{length-append, length-map, take-append-le}
use Rattle.mt_word.specs.declared.Width.{Width}
use Rattle.mt_fault.specs.Items.{Item, Look}
use Rattle.mt_plan.specs.Accesses.{item_of}
use Rattle.mt_plan.specs.Lists.{cells}
use Rattle.mt_plan.specs.Plan.{steps_of}
use Rattle.mt_plan.specs.declared.algorithm.Policy.{Policy}
use Rattle.mt_plan.specs.declared.algorithm.Policy.TheVariants.{NonDestructive, Destructive}
use Rattle.mt_seq.specs.Attempts.{keeps_words, moments}
use Rattle.mt_seq.specs.Sequence.{back_of, ending, last_of, saving, testing, verdict_of}
use Rattle.mt_seq.specs.Told.{all_agreed, sequence_told}
use Rattle.mt_seq.specs.declared.sequence.Slice.{Slice}
use Rattle.mt_seq.specs.declared.sequence.Job.{Job}
use Rattle.mt_seq.specs.declared.sequence.Verdict.{Verdict}
use Rattle.mt_unit.specs.Carrying.{Carried, carried, but_last, is_stopped, polled}
use Rattle.mt_unit.specs.Laws.{EndsIn, PlansMakeTheSequence, WordsComeBack, attempt_told, saved_of}
use Rattle.mt_unit.specs.Plans.{plan_of}
use Rattle.mt_unit.proofs.Carrying.{Stops, accesses_are, agreed-after-looks, agreed-before-stores, found_in_parts, goes_on, length-but_last, length-cells, stops, take-but_last}

-- the loops over any lists
abbrev carried_in : (ℕ → Bool) → (saves steps final : List Item) → Verdict → Carried
carried_in heeded saves steps final verdict =
    if is_stopped heeded 0 saves then record { made = polled heeded 0 saves; verdict = None }
    else (if is_stopped heeded (length saves) (but_last steps)
    then record { made = saves ++ polled heeded (length saves) (but_last steps) ++ final; verdict = None }
    else record { made = saves ++ steps ++ final; verdict = Some verdict })

-- the attempt, with any lists
abbrev told_in : ℕ → (items final : List Item) → Verdict → Option ℕ → Carried
told_in n items final verdict None = record { made = items; verdict = Some verdict }
told_in n items final verdict (Some i) = record { made = take i items ++ (if nat_lt n i then final else []); verdict = None }

-- the moment at which a loop stops that has saved the words
first_moment : (heeded : ℕ → Bool) (n long : ℕ) → 1 ≤ long
    → find heeded (range_with_len 1 (n + long - 1)) ≡ option_or (find heeded (range_with_len 1 n)) (find heeded (range_with_len (1 + n) (long - 1)))
first_moment heeded n long some =
    let e : n + long - 1 ≡ n + (long - 1) = omega (arith, some) in
    ap (λ (k : ℕ). find heeded (range_with_len 1 k)) e ∙ found_in_parts heeded 1 n (long - 1)

core : (heeded : ℕ → Bool) (saves steps final : List Item) (verdict : Verdict) (n long : ℕ) → length saves ≡ n → length steps ≡ long → 1 ≤ long
    → carried_in heeded saves steps final verdict ≡ told_in n (saves ++ steps ++ final) final verdict (find heeded (range_with_len 1 (n + long - 1)))
core heeded saves steps final verdict n long all are some = early (is_stopped heeded 0 saves) refl
  where
    told : Option ℕ → Carried
    told = told_in n (saves ++ steps ++ final) final verdict

    inside : (b : Bool) → Carried
    inside b =
        if b then record { made = saves ++ polled heeded (length saves) (but_last steps) ++ final; verdict = None }
        else record { made = saves ++ steps ++ final; verdict = Some verdict }

    late : (b : Bool) → is_stopped heeded 0 saves ≡ false → is_stopped heeded (length saves) (but_last steps) ≡ b
        → inside b ≡ told (find heeded (range_with_len 1 (n + long - 1)))
    late true on is =
        let stop : Stops heeded (length saves) (but_last steps) = stops heeded (length saves) (but_last steps) is in
        let at : ℕ = stop.at in
        let few : length (but_last steps) ≡ long - 1 = length-but_last steps ∙ ap (λ (k : ℕ). k - 1) are in
        let none : find heeded (range_with_len 1 n) ≡ None = ap (λ (k : ℕ). find heeded (range_with_len 1 k)) (sym all) ∙ goes_on heeded 0 saves on in
        let from : 1 + n ≡ length saves + 1 = omega (arith, all) in
        let found : find heeded (range_with_len 1 (n + long - 1)) ≡ Some at =
        first_moment heeded n long some
        ∙ ap (λ (o : Option ℕ). option_or o (find heeded (range_with_len (1 + n) (long - 1)))) none
        ∙ ap (λ (k : ℕ). find heeded (range_with_len k (long - 1))) from
        ∙ ap (λ (k : ℕ). find heeded (range_with_len (length saves + 1) k)) (sym few)
        ∙ stop.found in
        let behind : nat_lt n at ≡ true = lt-ltb n at (omega (arith, stop.after, all)) in
        let rest : ℕ = at - length saves in
        let whole : length saves + rest ≡ at = omega (arith, stop.after) in
        let short : at ≤ length (saves ++ steps) = omega (arith, stop.within, few, are, some, length-append saves steps) in
        let made : polled heeded (length saves) (but_last steps) ≡ take rest steps =
        stop.makes ∙ take-but_last steps rest (omega (arith, stop.within, few, are)) in
        let front : saves ++ polled heeded (length saves) (but_last steps) ≡ take at (saves ++ steps ++ final) =
        ap (λ (l : List Item). saves ++ l) made
        ∙ sym (take-append-add saves steps rest)
        ∙ ap (λ (k : ℕ). take k (saves ++ steps)) whole
        ∙ sym (take-append-le at (saves ++ steps) final short) in
        ap (λ (l : List Item). record { made = l ++ final; verdict = None }) front
        ∙ ap (λ (b : Bool). record { made = take at (saves ++ steps ++ final) ++ (if b then final else []); verdict = None }) (sym behind)
        ∙ ap told (sym found)
    late false on is =
        let few : length (but_last steps) ≡ long - 1 = length-but_last steps ∙ ap (λ (k : ℕ). k - 1) are in
        let none : find heeded (range_with_len 1 n) ≡ None = ap (λ (k : ℕ). find heeded (range_with_len 1 k)) (sym all) ∙ goes_on heeded 0 saves on in
        let from : 1 + n ≡ length saves + 1 = omega (arith, all) in
        let found : find heeded (range_with_len 1 (n + long - 1)) ≡ None =
        first_moment heeded n long some
        ∙ ap (λ (o : Option ℕ). option_or o (find heeded (range_with_len (1 + n) (long - 1)))) none
        ∙ ap (λ (k : ℕ). find heeded (range_with_len k (long - 1))) from
        ∙ ap (λ (k : ℕ). find heeded (range_with_len (length saves + 1) k)) (sym few)
        ∙ goes_on heeded (length saves) (but_last steps) is in
        ap told (sym found)

    outside : (b : Bool) → Carried
    outside b = if b then record { made = polled heeded 0 saves; verdict = None } else inside (is_stopped heeded (length saves) (but_last steps))

    early : (b : Bool) → is_stopped heeded 0 saves ≡ b → carried_in heeded saves steps final verdict ≡ told (find heeded (range_with_len 1 (n + long - 1)))
    early true is =
        let stop : Stops heeded 0 saves = stops heeded 0 saves is in
        let at : ℕ = stop.at in
        let first : find heeded (range_with_len 1 n) ≡ Some at = ap (λ (k : ℕ). find heeded (range_with_len 1 k)) (sym all) ∙ stop.found in
        let found : find heeded (range_with_len 1 (n + long - 1)) ≡ Some at =
        first_moment heeded n long some ∙ ap (λ (o : Option ℕ). option_or o (find heeded (range_with_len (1 + n) (long - 1)))) first in
        let before : nat_lt n at ≡ false = le-ltb n at (omega (arith, stop.within, all)) in
        let same : at - 0 ≡ at = omega arith in
        let front : polled heeded 0 saves ≡ take at (saves ++ steps ++ final) =
        stop.makes
        ∙ ap (λ (k : ℕ). take k saves) same
        ∙ sym (take-append-le at saves steps (omega (arith, stop.within)))
        ∙ sym (take-append-le at (saves ++ steps) final (omega (arith, stop.within, length-append saves steps))) in
        ap outside is
        ∙ ap (λ (l : List Item). record { made = l; verdict = None }) (front ∙ sym (append-nil (take at (saves ++ steps ++ final))))
        ∙ ap (λ (b : Bool). record { made = take at (saves ++ steps ++ final) ++ (if b then final else []); verdict = None }) (sym before)
        ∙ ap told (sym found)
    early false is = ap outside is ∙ late (is_stopped heeded (length saves) (but_last steps)) is refl

-- where no interrupt is heeded
never_stopped : (made : ℕ) (items : List Item) → is_stopped (λ (i : ℕ). false) made items ≡ false
never_stopped made [] = refl
never_stopped made (item ∷ more) = never_stopped (made + 1) more

never_found : (xs : List ℕ) → find (λ (i : ℕ). false) xs ≡ None
never_found [] = refl
never_found (x ∷ xs) = never_found xs

-- what is agreed of the whole sequence is what is agreed of its steps
agreed : (width : Width) (job : Job) (slice : Slice) (answers : List ℕ)
    → all_agreed (sequence_told width job slice answers) answers
    ≡ all_agreed (testing width job slice (saved_of job slice answers) (steps_of job.alg slice.n)) (drop (length (saving job.policy slice)) answers)
agreed width job slice answers =
    agreed-before-stores slice.first (last_of job.policy job.fill (saved_of job slice answers)) (cells slice.n)
    (saving job.policy slice ++ testing width job slice (saved_of job slice answers) (steps_of job.alg slice.n)) answers
    ∙ after job.policy
  where
    steps : List Item
    steps = testing width job slice (saved_of job slice answers) (steps_of job.alg slice.n)

    after : (policy : Policy) → all_agreed (saving policy slice ++ steps) answers ≡ all_agreed steps (drop (length (saving policy slice)) answers)
    after Destructive = refl
    after NonDestructive =
        agreed-after-looks slice.first (cells slice.n) steps answers
        ∙ ap (λ (k : ℕ). all_agreed steps (drop k answers)) (sym (length-map (cells slice.n) (λ (j : ℕ). Look (slice.first + j))))

-- an attempt by any steps, under either policy
under_policy : (waits : ℕ → Bool) (slice : Slice) (steps final : List Item) (verdict : Verdict) (long : ℕ) → length steps ≡ long → 1 ≤ long → (policy : Policy)
    → carried_in (λ (i : ℕ). keeps_words policy && waits i) (saving policy slice) steps final verdict
    ≡ told_in slice.n (saving policy slice ++ steps ++ final) final verdict (find (λ (i : ℕ). keeps_words policy && waits i) (range_with_len 1 (slice.n + long - 1)))
under_policy waits slice steps final verdict long are some NonDestructive =
    core waits (saving NonDestructive slice) steps final verdict slice.n long (length-map (cells slice.n) (λ (j : ℕ). Look (slice.first + j)) ∙ length-cells slice.n) are some
under_policy waits slice steps final verdict long are some Destructive =
    ap (λ (b : Bool). if b then record { made = [] ++ polled (λ (i : ℕ). false) 0 (but_last steps) ++ final; verdict = None }
    else record { made = [] ++ steps ++ final; verdict = Some verdict }) (never_stopped 0 (but_last steps))
    ∙ ap (λ (o : Option ℕ). told_in slice.n ([] ++ steps ++ final) final verdict o) (sym (never_found (range_with_len 1 (slice.n + long - 1))))

pub plans_make : PlansMakeTheSequence
unfolding plan_of
plans_make width job slice answers waits some =
    ap (λ (l : List Item). carried_in heeded saves l final (verdict_of (all_agreed l (drop (length saves) answers))))
    (accesses_are width slice.first (back_of job (saved_of job slice answers)) (steps_of job.alg slice.n))
    ∙ under_policy waits slice tested final (verdict_of (all_agreed tested (drop (length saves) answers))) (length (steps_of job.alg slice.n))
    (length-map (steps_of job.alg slice.n) (item_of width slice.first (back_of job (saved_of job slice answers)))) some job.policy
    ∙ as_told (find heeded (moments job.alg slice.n))
  where
    heeded : ℕ → Bool
    heeded = λ (i : ℕ). keeps_words job.policy && waits i

    saves : List Item
    saves = saving job.policy slice

    tested : List Item
    tested = testing width job slice (saved_of job slice answers) (steps_of job.alg slice.n)

    final : List Item
    final = ending job slice (saved_of job slice answers)

    as_told : (o : Option ℕ) → told_in slice.n (saves ++ tested ++ final) final (verdict_of (all_agreed tested (drop (length saves) answers))) o ≡ attempt_told width job slice answers o
    as_told None = ap (λ (b : Bool). record { made = sequence_told width job slice answers; verdict = Some (verdict_of b) }) (sym (agreed width job slice answers))
    as_told (Some i) = refl

-- ---- the words come back

polled_short : (waits : ℕ → Bool) (made : ℕ) (items : List Item) → length (polled waits made items) ≤ length items
polled_short waits made [] = omega arith
polled_short waits made (item ∷ more) = here (waits (made + 1)) (polled_short waits (made + 1) more)
  where
    here : (b : Bool) → length (polled waits (made + 1) more) ≤ length more → length (item ∷ (if b then [] else polled waits (made + 1) more)) ≤ length (item ∷ more)
    here true rest = omega arith
    here false rest = omega (arith, rest)

pub words_come_back : WordsComeBack
words_come_back width job slice plan answers waits more = here (is_stopped heeded 0 saves) (is_stopped heeded (length saves) (but_last steps)) more
  where
    heeded : ℕ → Bool
    heeded = λ (i : ℕ). keeps_words job.policy && waits i

    saves : List Item
    saves = saving job.policy slice

    steps : List Item
    steps = map (Rattle.mt_unit.specs.Carrying.access_for width slice.first (back_of job (saved_of job slice answers))) plan

    final : List Item
    final = ending job slice (saved_of job slice answers)

    verdict : Verdict
    verdict = verdict_of (all_agreed steps (drop (length saves) answers))

    outcome : Bool → Bool → Carried
    outcome early late =
        if early then record { made = polled heeded 0 saves; verdict = None }
        else (if late then record { made = saves ++ polled heeded (length saves) (but_last steps) ++ final; verdict = None }
        else record { made = saves ++ steps ++ final; verdict = Some verdict })

    here : (early late : Bool) → length saves < length (outcome early late).made → EndsIn (outcome early late).made final
    here true late long = absurd (omega (arith, long, polled_short heeded 0 saves))
    here false true long = record { before = saves ++ polled heeded (length saves) (but_last steps); is = refl }
    here false false long = record { before = saves ++ steps; is = refl }
