-- Tests over the slices of a pass or of a block, one after another.
use Rattle.std.proofs.Common.{ℕ, suc, zero, ◌+◌, ◌-◌, ◌*◌, ◌<◌, ◌≤◌, ◌≡◌, Bool, true, false, cond, leb, ltb, List, [], ◌∷◌, drop, take, length, Option, Some, None, refl, sym, ap, ◌∙◌, arith, inl, inr}
use Rattle.std.specs.Prelude.{◌⊎◌, not, ◌&&◌}
use Rattle.std.proofs.Math.Nat.{div-eq_of_lt}
use Rattle.std.proofs.lemmas.Bool.Decides.{leb_tells}
use Rattle.std.proofs.lemmas.Bool.{lt-ltb}
use Rattle.mt_blocks.specs.declared.span.Span.{Span}
use Rattle.mt_blocks.specs.declared.pass.Position.{Position}
use Rattle.mt_blocks.specs.Slices.{Piece, span_len, span_at, ends_block, from_place, from_next, piece_at, next_of, or_start, test_from, next_in, test_rest, AreSpans, IsValid}
use Rattle.mt_blocks.specs.Groups.{group_len}
use Rattle.mt_blocks.specs.Laws.{PassesGoOn, PassesBegin, BlocksBegin}
use Rattle.mt_blocks.proofs.Passes.{from_step, from_first, next_valid, block_step, block_end, block_first}
use Rattle.mt_blocks.proofs.Words.{word_count-block, word_count-pass}

-- the first slice of a block
pub start_valid : (K : ℕ) (spans : List Span) (i : ℕ) → AreSpans K spans → i < length spans → IsValid K spans (record { block = i; offset = 0 })
start_valid K spans i ok inside = record {
  block = inside;
  offset = omega arith;
  multiple = (let z : 0 ≡ 0 * K = omega arith in z) ∙ ap (λ (n : ℕ). n * K) (sym (div-eq_of_lt {n = 0} {m = K} (omega (arith, ok.some))));
}

-- the next position of the pass is that of a slice
pub or_start-valid : (K : ℕ) (spans : List Span) (p : Position) → AreSpans K spans → IsValid K spans p → IsValid K spans (or_start (next_of K spans p))
or_start-valid K spans p ok valid = of (next_of K spans p) refl
  where
    of : (o : Option Position) → next_of K spans p ≡ o → IsValid K spans (or_start o)
    of None e = start_valid K spans 0 ok (omega (arith, valid.block))
    of (Some q) e = next_valid K spans p q ok valid e

take_nothing : (more X : List Piece) → take (length more) [] ≡ more → take (length more) X ≡ more
take_nothing [] X e = refl
take_nothing (p ∷ more) X e = cc

take_next : (K : ℕ) (spans : List Span) (p : Position) (more : List Piece) (o : Option Position) → next_of K spans p ≡ o
    → take (length more) (from_next K spans o) ≡ more → take (length more) (from_place K spans (or_start o)) ≡ more
take_next K spans p more None e f = take_nothing more _ f
take_next K spans p more (Some q) e f = f

-- the first of the next slices is the one at the position, and the others follow it
pub on_next : (K : ℕ) (spans : List Span) (p : Position) (L : List Piece) → AreSpans K spans → IsValid K spans p → take (length L) (from_place K spans p) ≡ L → 0 < length L
    → (L ≡ piece_at K spans p ∷ drop 1 L) × (take (length (drop 1 L)) (from_place K spans (or_start (next_of K spans p))) ≡ drop 1 L)
on_next K spans p [] ok valid e h = absurd (omega (arith, h))
on_next K spans p (x ∷ more) ok valid e h =
    let split : piece_at K spans p ∷ take (length more) (from_next K spans (next_of K spans p)) ≡ x ∷ more =
    sym (ap (take (suc (length more))) (from_step K spans p ok valid)) ∙ e in
    let one : x ≡ piece_at K spans p = cc in
    let rest : take (length more) (from_next K spans (next_of K spans p)) ≡ more = cc in
    (ap (λ (y : Piece). y ∷ more) one, take_next K spans p more (next_of K spans p) refl rest)

drop_one : {X : Type 0} (k : ℕ) (xs : List X) → drop 1 (drop k xs) ≡ drop (suc k) xs
drop_one zero xs = refl
drop_one (suc k) [] = refl
drop_one (suc k) (x ∷ xs) = drop_one k xs

pub drop_one_more : {X : Type 0} (k : ℕ) (xs : List X) → drop 1 (drop k xs) ≡ drop (k + 1) xs
drop_one_more k xs = drop_one k xs ∙ ap (λ (n : ℕ). drop n xs) (let e : suc k ≡ k + 1 = omega arith in e)

pub take_taken : (n : ℕ) (xs : List Piece) → take (length (take n xs)) xs ≡ take n xs
take_taken zero xs = refl
take_taken (suc n) [] = refl
take_taken (suc n) (x ∷ xs) = ap (λ (l : List Piece). x ∷ l) (take_taken n xs)

pub group_len-le : (words : ℕ) (L : List Piece) → group_len words L ≤ length L
group_len-le words [] = omega arith
group_len-le words (p ∷ more) = of (leb p.slice.n words) (group_len-le (words - p.slice.n) more)
  where
    of : (b : Bool) → group_len (words - p.slice.n) more ≤ length more → cond b (suc (group_len (words - p.slice.n) more)) 0 ≤ suc (length more)
    of true less = omega (arith, less)
    of false less = omega arith

-- the slice at a position, and then the slices from the next position on
pub test_split : (whole : Bool) (K : ℕ) (spans : List Span) (p : Position) → AreSpans K spans → IsValid K spans p
    → test_from whole K spans p ≡ piece_at K spans p ∷ test_rest whole K spans (next_in whole K spans p)
test_split true K spans p ok valid = from_step K spans p ok valid ∙ of (next_of K spans p)
  where
    of : (o : Option Position) → piece_at K spans p ∷ from_next K spans o ≡ piece_at K spans p ∷ test_rest true K spans o
    of None = refl
    of (Some q) = refl
test_split false K spans p ok valid = of (leb_tells (span_len (span_at spans p.block) - p.offset) K)
  where
    of : ((leb (span_len (span_at spans p.block) - p.offset) K ≡ true) × (span_len (span_at spans p.block) - p.offset ≤ K))
        ⊎ ((leb (span_len (span_at spans p.block) - p.offset) K ≡ false) × (K < span_len (span_at spans p.block) - p.offset))
        → test_from false K spans p ≡ piece_at K spans p ∷ test_rest false K spans (next_in false K spans p)
    of (inl h) =
        block_end K spans p ok valid h.1
        ∙ ap (λ (b : Bool). piece_at K spans p ∷ test_rest false K spans (cond b None (next_of K spans p))) (sym h.0)
    of (inr h) =
        block_step K spans p ok valid h.1
        ∙ ap (λ (b : Bool). piece_at K spans p ∷ test_rest false K spans (cond b (Some (record { block = p.block; offset = p.offset + K }))
        (cond (ltb (p.block + 1) (length spans)) (Some (record { block = p.block + 1; offset = 0 })) None)))
        (sym (lt-ltb K (span_len (span_at spans p.block) - p.offset) h.1))
        ∙ ap (λ (b : Bool). piece_at K spans p ∷ test_rest false K spans (cond b None (next_of K spans p))) (sym h.0)

pub next_in-valid : (whole : Bool) (K : ℕ) (spans : List Span) (p q : Position) → AreSpans K spans → IsValid K spans p → next_in whole K spans p ≡ Some q → IsValid K spans q
next_in-valid whole K spans p q ok valid = of (not whole && ends_block K (span_at spans p.block) p.offset)
  where
    of : (b : Bool) → cond b None (next_of K spans p) ≡ Some q → IsValid K spans q
    of true e = cc
    of false e = next_valid K spans p q ok valid e

-- a pass and a test from a position on
pub goes_on : PassesGoOn
goes_on K spans p ok valid = record {
  pass = from_step K spans p ok valid;
  test = λ whole. test_split whole K spans p ok valid;
  next = λ whole q. next_in-valid whole K spans p q ok valid;
  again = or_start-valid K spans p ok valid;
}

-- where they begin
pub pass_begins : PassesBegin
pass_begins K spans ok =
    let few = word_count-pass K 0 spans ok.some ok.ordered ok.limit in
    (from_first K spans 0 ok.some, omega (arith, few, ok.few))

pub block_begins : BlocksBegin
block_begins K spans i ok inside =
    let whole = word_count-block K i (span_at spans i) ok.some (ok.ordered i inside) in
    record {
      valid = start_valid K spans i ok inside;
      block = block_first K spans i ok.some;
      few = omega (arith, whole, ok.limit i inside);
    }
