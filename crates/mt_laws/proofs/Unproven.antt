-- A block over a fault that is caught doesn't become OK by a slice.
use Rattle.std.proofs.Common.{ℕ, ◌≡◌, ◌≢◌, ◌<◌, ◌≤◌, ◌-◌, Bool, true, false, cond, leb, List, length, Some, refl, sym, ap, ◌∙◌, subst, arith, inl, inr}
use Rattle.std.specs.Prelude.{◌⊎◌, slice_get, slice_set, slice_index_or}
use Rattle.std.proofs.lemmas.Bool.Decides.{nat_tests}
use Rattle.std.proofs.lemmas.Option.{slice_get-get_or, slice_get_within, get_or_from_slice_get}
use Rattle.std.proofs.lemmas.List.{get_or-set_same, get_or-set_other, length-set}
use Rattle.mt_seq.specs.declared.sequence.Verdict.{Verdict}
use Rattle.mt_seq.specs.declared.sequence.Verdict.TheVariants.{Pass, Fail}
use Rattle.mt_window.specs.declared.reply.TestResult.{TestResult}
use Rattle.mt_window.specs.declared.reply.TestResult.TheVariants.{NotTested, Ok, NotOk, Undefined}
use Rattle.mt_blocks.specs.declared.span.Span.{Span}
use Rattle.mt_blocks.specs.declared.pass.Position.{Position}
use Rattle.mt_blocks.specs.Slices.{piece_at, span_at, span_len, next_in, or_start}
use Rattle.mt_ram.specs.Results.{result_after, failed_after, is_result}
use Rattle.mt_laws.proofs.Phases.{results_by, Knows, settled, kept_next}

-- A test that goes on at a position: the block of a slice isn't OK, and if the position is behind the slice in that block, a slice of the
-- block's test failed.
pub record IsUnproven (at x : Position) (results : List TestResult) (failed : Bool) : Type 0 where
  pub result : slice_get results at.block ≢ Some Ok
  pub kept : x.block ≡ at.block → at.offset < x.offset → failed ≡ true

-- ---- the result of a block

-- a block that isn't OK doesn't become OK, if its last slice comes behind a failure
not_ok : (old : TestResult) (v : Verdict) (failed last : Bool) → old ≢ Ok → (last ≡ true → (failed ≡ true) ⊎ (v ≡ Fail)) → result_after old v failed last ≢ Ok
not_ok old Fail failed last n h e = absurd (let different : NotOk ≡ Ok = e in cc)
not_ok old Pass true true n h e = absurd (let different : NotOk ≡ Ok = e in cc)
not_ok old Pass false true n h e = of (h refl)
  where
    of : (false ≡ true) ⊎ (Pass ≡ Fail) → ⊥
    of (inl f) = cc
    of (inr f) = cc
not_ok old Pass failed false n h e = of (is_result NotTested old) e
  where
    of : (b : Bool) → cond b Undefined old ≡ Ok → ⊥
    of true f = cc
    of false f = n f

some_ok : (r : TestResult) → Some r ≡ Some Ok → r ≡ Ok
some_ok r e = cc

-- after a set
set_same : (results : List TestResult) (i : ℕ) (new : TestResult) → (slice_index_or results i NotTested ≢ Ok → new ≢ Ok) → slice_get results i ≢ Some Ok → slice_get (slice_set results i new) i ≢ Some Ok
set_same results i new h n e =
    let there = slice_get_within (slice_set results i new) i Ok e in
    let low : i < length results = omega (arith, there, length-set results i new) in
    let is : new ≡ Ok = sym (get_or-set_same results i new NotTested low) ∙ get_or_from_slice_get (slice_set results i new) i Ok NotTested e in
    h (λ old. n (slice_get-get_or results i NotTested low ∙ ap (λ (r : TestResult). Some r) old)) is

set_others : (results : List TestResult) (i j : ℕ) (new : TestResult) → j ≢ i → slice_get results j ≢ Some Ok → slice_get (slice_set results i new) j ≢ Some Ok
set_others results i j new other n e =
    let there = slice_get_within (slice_set results i new) j Ok e in
    let low : j < length results = omega (arith, there, length-set results i new) in
    n
    (slice_get-get_or results j NotTested low
    ∙ ap (λ (r : TestResult). Some r) (sym (get_or-set_other results i j new NotTested other) ∙ get_or_from_slice_get (slice_set results i new) j Ok NotTested e))

same_or_not : (i j : ℕ) → (i ≡ j) ⊎ (i ≢ j)
same_or_not i j = of (leb i j) (leb j i) refl refl
  where
    of : (a b : Bool) → leb i j ≡ a → leb j i ≡ b → (i ≡ j) ⊎ (i ≢ j)
    of true true e f = inl (grind (arith, nat_tests))
    of true false e f = inr (λ g. grind (arith, nat_tests))
    of false b e f = inr (λ g. grind (arith, nat_tests))

-- ---- one slice

pub unproven_next : (whole : Bool) (K : ℕ) (spans : List Span) (at x : Position) (results : List TestResult) (v : Verdict) (failed : Bool) → Knows K spans at x v → IsUnproven at x results failed
    → IsUnproven at (or_start (next_in whole K spans x)) (results_by results (piece_at K spans x) v failed) (failed_after v failed (piece_at K spans x).last)
unproven_next whole K spans at x results v failed k u = record {
  result = of (same_or_not at.block x.block);
  kept = λ same below. kept_next whole K spans at x v failed (settled K spans at x v failed k u.kept) same below;
}
  where
    last : Bool
    last = (piece_at K spans x).last

    reached : x.block ≡ at.block → last ≡ true → (failed ≡ true) ⊎ (v ≡ Fail)
    reached same e =
        let length_is : span_len (span_at spans x.block) ≡ span_len (span_at spans at.block) = ap (λ (i : ℕ). span_len (span_at spans i)) same in
        let ends : leb (span_len (span_at spans x.block) - x.offset) K ≡ true = e in
        let low : span_len (span_at spans x.block) - x.offset ≤ K = grind (arith, nat_tests) in
        settled K spans at x v failed k u.kept same (omega (arith, low, length_is, k.at_valid.offset))

    of : (at.block ≡ x.block) ⊎ (at.block ≢ x.block) → slice_get (results_by results (piece_at K spans x) v failed) at.block ≢ Some Ok
    of (inl same) =
        let new = result_after (slice_index_or results x.block NotTested) v failed last in
        subst (λ (i : ℕ). slice_get (slice_set results x.block new) i ≢ Some Ok) (sym same)
        (set_same results x.block new (λ old. not_ok (slice_index_or results x.block NotTested) v failed last old (reached (sym same)))
        (subst (λ (i : ℕ). slice_get results i ≢ Some Ok) same u.result))
    of (inr other) = set_others results x.block at.block _ other u.result
