-- Where a test of slices stands to a slice whose fault is caught.
use Rattle.std.proofs.Common.{ℕ, ◌+◌, ◌-◌, ◌*◌, ◌/◌, ◌<◌, ◌≤◌, ◌≡◌, ◌≢◌, Bool, true, false, not, cond, leb, ltb, List, length, Some, None, refl, sym, ap, ◌∙◌, subst, arith, inl, inr}
use Rattle.std.specs.Prelude.{◌⊎◌, ◌&&◌, slice_get, slice_set, slice_index_or}
use Rattle.std.proofs.Math.Nat.{mul-le-mul_right, add-mul}
use Rattle.std.proofs.lemmas.Bool.Decides.{nat_tests}
use Rattle.std.proofs.lemmas.Option.{slice_get-get_or, slice_get_within, get_or_from_slice_get}
use Rattle.std.proofs.lemmas.List.{get_or-set_same, get_or-set_other, length-set}
use Rattle.mt_seq.specs.declared.sequence.Verdict.{Verdict}
use Rattle.mt_seq.specs.declared.sequence.Verdict.TheVariants.{Pass, Fail}
use Rattle.mt_window.specs.declared.reply.TestResult.{TestResult}
use Rattle.mt_window.specs.declared.reply.TestResult.TheVariants.{NotTested, NotOk}
use Rattle.mt_blocks.specs.declared.span.Span.{Span}
use Rattle.mt_blocks.specs.declared.pass.Position.{Position}
use Rattle.mt_blocks.specs.Slices.{Piece, piece_at, span_at, span_len, ends_block, next_in, or_start, IsValid}
use Rattle.mt_ram.specs.Results.{result_after, failed_after}

-- what a slice with a verdict makes of the results
abbrev pub results_by : List TestResult → Piece → Verdict → Bool → List TestResult
results_by results x v failed = slice_set results x.place.block (result_after (slice_index_or results x.place.block NotTested) v failed x.last)

-- A test that goes on at a position stands behind a slice: the slice's block is NOT_OK, and where the position is behind the slice in that
-- block, a slice of the block's test failed.
pub record IsBehind (at x : Position) (results : List TestResult) (failed : Bool) : Type 0 where
  pub result : slice_get results at.block ≡ Some NotOk
  pub kept : x.block ≡ at.block → at.offset < x.offset → failed ≡ true

-- ---- the next position

abbrev within : ℕ → Position → Position
within K x = record { block = x.block; offset = x.offset + K }

-- it is in the same block where the slice isn't the block's last, or a block's start
pub next_stands : (whole : Bool) (K : ℕ) (spans : List Span) (x : Position)
    → ((ends_block K (span_at spans x.block) x.offset ≡ false) × (or_start (next_in whole K spans x) ≡ within K x)) ⊎ ((or_start (next_in whole K spans x)).offset ≡ 0)
next_stands whole K spans x = of (not whole && ends_block K (span_at spans x.block) x.offset) (ltb K (span_len (span_at spans x.block) - x.offset)) (ltb (x.block + 1) (length spans)) refl
  where
    of : (ends more later : Bool) → ltb K (span_len (span_at spans x.block) - x.offset) ≡ more
        → ((leb (span_len (span_at spans x.block) - x.offset) K ≡ false)
        × (or_start (cond ends None (cond more (Some (within K x)) (cond later (Some (record { block = x.block + 1; offset = 0 })) None))) ≡ within K x))
        ⊎ ((or_start (cond ends None (cond more (Some (within K x)) (cond later (Some (record { block = x.block + 1; offset = 0 })) None)))).offset ≡ 0)
    of true more later e = inr refl
    of false true later e = inl (grind (arith, nat_tests), refl)
    of false false true e = inr refl
    of false false false e = inr refl

-- ---- one slice

-- two positions of slices in a block, where one isn't below the end of the other's slice
not_before : (K : ℕ) (at x : Position) → at.offset ≡ at.offset / K * K → x.offset ≡ x.offset / K * K → at.offset < x.offset + K → at.offset ≤ x.offset
not_before K at x e f h =
    let a = at.offset / K in
    let b = x.offset / K in
    of (ltb b a) refl
  where
    of : (beyond : Bool) → ltb (x.offset / K) (at.offset / K) ≡ beyond → at.offset ≤ x.offset
    of true t =
        let one : x.offset / K + 1 ≤ at.offset / K = grind (arith, nat_tests) in
        let more = mul-le-mul_right K one in
        absurd (omega (arith, more, add-mul (x.offset / K) 1 K, e, f, h))
    of false t =
        let one : at.offset / K ≤ x.offset / K = grind (arith, nat_tests) in
        let more = mul-le-mul_right K one in
        omega (arith, more, e, f)

same_place : (x y : Position) → x.block ≡ y.block → x.offset ≡ y.offset → x ≡ y
same_place x y e f =
    ap (λ (b : ℕ). let p : Position = record { block = b; offset = x.offset } in p) e ∙ ap (λ (o : ℕ). let p : Position = record { block = y.block; offset = o } in p) f

-- what is known of a slice that is tested with a verdict
pub record Knows (K : ℕ) (spans : List Span) (at x : Position) (v : Verdict) : Type 0 where
  pub at_valid : IsValid K spans at
  pub valid : IsValid K spans x
  pub fails : x ≡ at → v ≡ Fail

-- behind the caught slice, or at it
pub settled : (K : ℕ) (spans : List Span) (at x : Position) (v : Verdict) (failed : Bool) → Knows K spans at x v → (x.block ≡ at.block → at.offset < x.offset → failed ≡ true)
    → x.block ≡ at.block → at.offset < x.offset + K → (failed ≡ true) ⊎ (v ≡ Fail)
settled K spans at x v failed k kept same h = of (ltb at.offset x.offset) refl
  where
    of : (below : Bool) → ltb at.offset x.offset ≡ below → (failed ≡ true) ⊎ (v ≡ Fail)
    of true e = inl (kept same (grind (arith, nat_tests)))
    of false e =
        let low = not_before K at x k.at_valid.multiple k.valid.multiple h in
        let equal : x.offset ≡ at.offset = let high : x.offset ≤ at.offset = grind (arith, nat_tests) in omega (arith, low, high) in
        inr (k.fails (same_place x at same equal))

failed_more : (v : Verdict) (failed last : Bool) → last ≡ false → (failed ≡ true) ⊎ (v ≡ Fail) → failed_after v failed last ≡ true
failed_more v failed last e (inl f) = ap (λ (l : Bool). failed_after v failed l) e ∙ ap (λ (g : Bool). failed_after v g false) f
failed_more v failed last e (inr f) = ap (λ (l : Bool). failed_after v failed l) e ∙ ap (λ (u : Verdict). failed_after u failed false) f ∙ or_true failed
  where
    or_true : (b : Bool) → failed_after Fail b false ≡ true
    or_true true = refl
    or_true false = refl

-- a block that is NOT_OK stays so, where its last slice comes behind a failure
stays : (v : Verdict) (failed last : Bool) → (last ≡ true → (failed ≡ true) ⊎ (v ≡ Fail)) → result_after NotOk v failed last ≡ NotOk
stays Fail failed last h = refl
stays Pass failed false h = refl
stays Pass failed true h = of (h refl)
  where
    of : (failed ≡ true) ⊎ (Pass ≡ Fail) → result_after NotOk Pass failed true ≡ NotOk
    of (inl e) = ap (λ (f : Bool). result_after NotOk Pass f true) e
    of (inr e) = absurd (let different : Pass ≡ Fail = e in cc)

-- the result of a block after a set
set_here : (results : List TestResult) (i : ℕ) (new : TestResult) → i < length results → new ≡ NotOk → slice_get (slice_set results i new) i ≡ Some NotOk
set_here results i new there e =
    slice_get-get_or (slice_set results i new) i NotTested (omega (arith, there, length-set results i new))
    ∙ ap (λ (r : TestResult). Some r) (get_or-set_same results i new NotTested there ∙ e)

set_other : (results : List TestResult) (i j : ℕ) (new : TestResult) → j ≢ i → slice_get results j ≡ Some NotOk → slice_get (slice_set results i new) j ≡ Some NotOk
set_other results i j new other e =
    let there = slice_get_within results j NotOk e in
    slice_get-get_or (slice_set results i new) j NotTested (omega (arith, there, length-set results i new))
    ∙ ap (λ (r : TestResult). Some r) (get_or-set_other results i j new NotTested other ∙ get_or_from_slice_get results j NotOk NotTested e)

-- the next slice behind one that failed, or before which one failed
pub kept_next : (whole : Bool) (K : ℕ) (spans : List Span) (at x : Position) (v : Verdict) (failed : Bool)
    → (x.block ≡ at.block → at.offset < x.offset + K → (failed ≡ true) ⊎ (v ≡ Fail))
    → (or_start (next_in whole K spans x)).block ≡ at.block → at.offset < (or_start (next_in whole K spans x)).offset → failed_after v failed (piece_at K spans x).last ≡ true
kept_next whole K spans at x v failed h same below = of (next_stands whole K spans x)
  where
    of : ((ends_block K (span_at spans x.block) x.offset ≡ false) × (or_start (next_in whole K spans x) ≡ within K x)) ⊎ ((or_start (next_in whole K spans x)).offset ≡ 0)
        → failed_after v failed (piece_at K spans x).last ≡ true
    of (inl (more, e)) =
        failed_more v failed (piece_at K spans x).last more
        (h (sym (ap (λ (p : Position). p.block) e) ∙ same) (subst (λ (p : Position). at.offset < p.offset) e below))
    of (inr e) = absurd (omega (arith, e, below))

-- the caught slice itself
pub reaches : (whole : Bool) (K : ℕ) (spans : List Span) (at x : Position) (results : List TestResult) (v : Verdict) (failed : Bool) → x ≡ at → v ≡ Fail → at.block < length results
    → IsBehind at (or_start (next_in whole K spans x)) (results_by results (piece_at K spans x) v failed) (failed_after v failed (piece_at K spans x).last)
reaches whole K spans at x results v failed here fails there =
    let last = (piece_at K spans x).last in
    let block : x.block ≡ at.block = ap (λ (p : Position). p.block) here in
    let new = result_after (slice_index_or results x.block NotTested) v failed last in
    record {
      result =
          subst (λ (i : ℕ). slice_get (slice_set results i new) at.block ≡ Some NotOk) (sym block)
          (set_here results at.block new there (ap (λ (u : Verdict). result_after (slice_index_or results x.block NotTested) u failed last) fails));
      kept = λ same below. kept_next whole K spans at x v failed (λ b o. inr fails) same below;
    }

-- and each slice from then on
pub goes_on : (whole : Bool) (K : ℕ) (spans : List Span) (at x : Position) (results : List TestResult) (v : Verdict) (failed : Bool) → Knows K spans at x v → IsBehind at x results failed
    → IsBehind at (or_start (next_in whole K spans x)) (results_by results (piece_at K spans x) v failed) (failed_after v failed (piece_at K spans x).last)
goes_on whole K spans at x results v failed k behind = record {
  result = of (cases at.block x.block);
  kept = λ same below. kept_next whole K spans at x v failed (settled K spans at x v failed k behind.kept) same below;
}
  where
    cases : (i j : ℕ) → (i ≡ j) ⊎ (i ≢ j)
    cases i j = split (leb i j) (leb j i) refl refl
      where
        split : (a b : Bool) → leb i j ≡ a → leb j i ≡ b → (i ≡ j) ⊎ (i ≢ j)
        split true true e f = inl (grind (arith, nat_tests))
        split true false e f = inr (λ g. grind (arith, nat_tests))
        split false b e f = inr (λ g. grind (arith, nat_tests))

    last : Bool
    last = (piece_at K spans x).last

    reached : x.block ≡ at.block → last ≡ true → (failed ≡ true) ⊎ (v ≡ Fail)
    reached same e =
        let length_is : span_len (span_at spans x.block) ≡ span_len (span_at spans at.block) = ap (λ (i : ℕ). span_len (span_at spans i)) same in
        let ends : leb (span_len (span_at spans x.block) - x.offset) K ≡ true = e in
        let low : span_len (span_at spans x.block) - x.offset ≤ K = grind (arith, nat_tests) in
        settled K spans at x v failed k behind.kept same (omega (arith, low, length_is, k.at_valid.offset))

    of : (at.block ≡ x.block) ⊎ (at.block ≢ x.block) → slice_get (results_by results (piece_at K spans x) v failed) at.block ≡ Some NotOk
    of (inl same) =
        let new = result_after (slice_index_or results x.block NotTested) v failed last in
        let there = slice_get_within results at.block NotOk behind.result in
        let old : slice_index_or results x.block NotTested ≡ NotOk = ap (λ (i : ℕ). slice_index_or results i NotTested) (sym same) ∙ get_or_from_slice_get results at.block NotOk NotTested behind.result in
        subst (λ (i : ℕ). slice_get (slice_set results i new) at.block ≡ Some NotOk) same
        (set_here results at.block new there (ap (λ (r : TestResult). result_after r v failed last) old ∙ stays v failed last (reached (sym same))))
    of (inr other) = set_other results x.block at.block _ other behind.result
