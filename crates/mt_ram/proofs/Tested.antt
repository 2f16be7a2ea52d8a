-- The results of blocks, and of all blocks, by what has ended.
use Rattle.std.proofs.Common.{zero, suc, ◌<◌, ◌≡◌, Bool, true, false, cond, List, [], ◌∷◌, length, Option, Some, None, refl, sym, ap, ◌∙◌, arith}
use Rattle.std.specs.Prelude.{◌||◌, ◌&&◌, All, Contains, fold, find}
use Rattle.std.specs.List.{list_any, list_all}
use Rattle.std.proofs.lemmas.List.{get_or-set_other}
use Rattle.std.proofs.lemmas.List.Sums.{AllPass-from_list_all, list_all-from_AllPass}
use Rattle.std.proofs.lemmas.Map.Views.{Contains-from_any}
use Rattle.mt_seq.specs.declared.sequence.Verdict.{Verdict}
use Rattle.mt_seq.specs.declared.sequence.Verdict.TheVariants.{Pass, Fail}
use Rattle.mt_window.specs.declared.reply.TestResult.{TestResult}
use Rattle.mt_window.specs.declared.reply.TestResult.TheVariants.{NotTested, Ok, NotOk, Undefined}
use Rattle.mt_ram.specs.Results.{has_failed, is_result, result_after, failed_after}
use Rattle.mt_ram.specs.Tested.{End, failed_so_far, decides, result_by, result_of, ResultsAreOfTests, FailuresAreKept, OtherBlocksStay, OverallIsOfAll}

-- ---- one block

-- a decided result is none of NOT_TESTED and UNDEFINED
decided : (failed : Bool) → is_result NotTested (cond failed NotOk Ok) ≡ false
decided true = refl
decided false = refl

-- a slice that passes and is not the last leaves a decided result, and makes others UNDEFINED
undecided : (e : End) (latest : Option End) (ends : List End) → find decides ends ≡ latest → cond (is_result NotTested (result_by latest ends)) Undefined (result_by latest ends) ≡ result_by latest (e ∷ ends)
undecided e (Some d) ends is = ap (λ (b : Bool). cond b Undefined (result_by (Some d) ends)) (decided (failed_so_far d))
undecided e None [] is = refl
undecided e None (f ∷ ends) is = refl

one_end : (v : Verdict) (before : List Verdict) (last : Bool) (ends : List End) → result_of ends ≡ result_by (find decides ends) ends
    → result_after (result_of ends) v (list_any has_failed before) last ≡ result_by (find decides (record { before = before; verdict = v; last = last } ∷ ends)) (record { before = before; verdict = v; last = last } ∷ ends)
one_end Fail before last ends h = refl
one_end Pass before true ends h = refl
one_end Pass before false ends h =
    ap (λ (old : TestResult). cond (is_result NotTested old) Undefined old) h ∙ undecided (record { before = before; verdict = Pass; last = false }) (find decides ends) ends refl

pub results_are_of_tests : ResultsAreOfTests
results_are_of_tests [] = refl
results_are_of_tests (e ∷ ends) = one_end e.verdict e.before e.last ends (results_are_of_tests ends)

-- ---- failures

failing : (failed : Bool) (before : List Verdict) → fold (λ (f : Bool) (v : Verdict). failed_after v f false) failed before ≡ (failed || list_any has_failed before)
failing true [] = refl
failing false [] = refl
failing true (v ∷ before) = failing true before
failing false (Pass ∷ before) = failing false before
failing false (Fail ∷ before) = failing true before

pub failures_are_kept : FailuresAreKept
failures_are_kept = record { kept = failing false; dropped = λ v failed. refl }

pub other_blocks_stay : OtherBlocksStay
other_blocks_stay r p v failed block d other = get_or-set_other r.results p.place.block block _ d other

-- ---- all blocks

same_result : (a b : TestResult) → is_result a b ≡ true → a ≡ b
same_result NotTested NotTested h = refl
same_result Ok Ok h = refl
same_result NotOk NotOk h = refl
same_result Undefined Undefined h = refl
same_result NotTested Ok h = absurd cc
same_result NotTested NotOk h = absurd cc
same_result NotTested Undefined h = absurd cc
same_result Ok NotTested h = absurd cc
same_result Ok NotOk h = absurd cc
same_result Ok Undefined h = absurd cc
same_result NotOk NotTested h = absurd cc
same_result NotOk Ok h = absurd cc
same_result NotOk Undefined h = absurd cc
same_result Undefined NotTested h = absurd cc
same_result Undefined Ok h = absurd cc
same_result Undefined NotOk h = absurd cc

itself : (a : TestResult) → is_result a a ≡ true
itself NotTested = refl
itself Ok = refl
itself NotOk = refl
itself Undefined = refl

some_here : (q : TestResult) (results : List TestResult) → Contains results q → list_any (is_result q) results ≡ true
some_here q [] (k, lt, e) = absurd (omega (arith, lt))
some_here q (x ∷ xs) (zero, lt, e) = rw (e, itself q) refl
some_here q (x ∷ xs) (suc k, lt, e) = later (is_result q x) (some_here q xs (k, omega (arith, lt), e))
  where
    later : (b : Bool) → list_any (is_result q) xs ≡ true → (b || list_any (is_result q) xs) ≡ true
    later true h = refl
    later false h = h

all_here : (q : TestResult) (results : List TestResult) → All (λ result. result ≡ q) results → list_all (is_result q) results ≡ true
all_here q results all = list_all-from_AllPass (is_result q) results (λ k d lt. rw (all k d lt) (itself q))

all_there : (q : TestResult) (results : List TestResult) → list_all (is_result q) results ≡ true → All (λ result. result ≡ q) results
all_there q results h = λ k d lt. sym (same_result q _ (AllPass-from_list_all (is_result q) results h k d lt))

-- where all are one result, none is another
none_other : (q p : TestResult) → is_result p q ≡ false → (results : List TestResult) → list_all (is_result q) results ≡ true → list_any (is_result p) results ≡ false
none_other q p apart [] h = refl
none_other q p apart (x ∷ xs) h = of (is_result q x) refl h (none_other q p apart xs)
  where
    of : (b : Bool) → is_result q x ≡ b → (b && list_all (is_result q) xs) ≡ true → (list_all (is_result q) xs ≡ true → list_any (is_result p) xs ≡ false) → (is_result p x || list_any (is_result p) xs) ≡ false
    of true is h rest = rw (← same_result q x is, apart) (rest h)
    of false is h rest = absurd cc

-- where all are one result, and there is one, not all are another
not_all_other : (q p : TestResult) → is_result p q ≡ false → (results : List TestResult) → 0 < length results → list_all (is_result q) results ≡ true → list_all (is_result p) results ≡ false
not_all_other q p apart [] some h = absurd (omega (arith, some))
not_all_other q p apart (x ∷ xs) some h = of (is_result q x) refl h
  where
    of : (b : Bool) → is_result q x ≡ b → (b && list_all (is_result q) xs) ≡ true → (is_result p x && list_all (is_result p) xs) ≡ false
    of true is h = rw (← same_result q x is, apart) refl
    of false is h = absurd cc

first_is : (any ok none : Bool) → cond any NotOk (cond ok Ok (cond none NotTested Undefined)) ≡ NotOk → any ≡ true
first_is true ok none h = refl
first_is false true none h = absurd cc
first_is false false true h = absurd cc
first_is false false false h = absurd cc

second_is : (any ok none : Bool) → cond any NotOk (cond ok Ok (cond none NotTested Undefined)) ≡ Ok → ok ≡ true
second_is true ok none h = absurd cc
second_is false true none h = refl
second_is false false true h = absurd cc
second_is false false false h = absurd cc

third_is : (any ok none : Bool) → cond any NotOk (cond ok Ok (cond none NotTested Undefined)) ≡ NotTested → none ≡ true
third_is true ok none h = absurd cc
third_is false true none h = absurd cc
third_is false false true h = refl
third_is false false false h = absurd cc

pub overall_is_of_all : OverallIsOfAll
overall_is_of_all results some =
    let any = list_any (is_result NotOk) results in
    let ok = list_all (is_result Ok) results in
    let none = list_all (is_result NotTested) results in
    record {
      not_ok = (λ h. Contains-from_any {eq = is_result} same_result NotOk results (first_is any ok none h), λ h. rw (some_here NotOk results h) refl);
      ok = (
        λ h. all_there Ok results (second_is any ok none h),
        λ h. (let all = all_here Ok results h in rw (none_other Ok NotOk refl results all, all) refl),
      );
      not_tested = (
        λ h. all_there NotTested results (third_is any ok none h),
        λ h. (let all = all_here NotTested results h in rw (none_other NotTested NotOk refl results all, not_all_other NotTested Ok refl results some all, all) refl),
      );
    }
