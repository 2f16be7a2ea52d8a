-- Where the slices of a pass stand.
use Rattle.std.proofs.Common.{ℕ, zero, suc, ◌+◌, ◌-◌, ◌*◌, ◌/◌, ◌<◌, ◌≤◌, ◌≡◌, List, [], ◌∷◌, drop, length, All, refl, sym, ap, ◌∙◌, subst, arith}
use Rattle.std.proofs.Math.Nat.{mul-div_cancel, le-div_iff_mul-le, add-mul}
use Rattle.std.proofs.lemmas.List.{length-drop, length-map, get_or-drop}
use Rattle.std.proofs.lemmas.List.Elements.{All-nil, All-append, All-drop, All-from_get_or}
use Rattle.std.proofs.lemmas.List.FromFn.{length-map-range_with_len, get_or-map-range_with_len}
use Rattle.mt_blocks.specs.declared.span.Span.{Span}
use Rattle.mt_blocks.specs.declared.pass.Position.{Position}
use Rattle.mt_blocks.specs.declared.config.Block.{Block}
use Rattle.mt_blocks.specs.declared.config.ParamSet.{ParamSet}
use Rattle.mt_blocks.specs.Slices.{Piece, piece, piece_at, pieces, pieces_from, pass, from_place, span_at, span_len, no_span, slice_count, start, IsValid}
use Rattle.mt_blocks.specs.Accepted.{spans_of}

-- A slice of some blocks: the one at its place.
pub record IsOf (K : ℕ) (spans : List Span) (x : Piece) : Type 0 where
  pub valid : IsValid K spans x.place
  pub is : x ≡ piece_at K spans x.place

-- the block of a slice is there
pub block_there : (set : ParamSet) (at : Position) → IsValid set.atomic (spans_of set.blocks) at → at.block < length set.blocks
block_there set at valid = omega (arith, length-map set.blocks (λ (b : Block). b.span), valid.block)

count_inside : (K len k : ℕ) → 1 ≤ K → k < (len + K - 1) / K → k * K < len
count_inside K len k some h =
    let up : (k + 1) * K ≤ len + K - 1 = (le-div_iff_mul-le {k = K} {x = k + 1} {y = len + K - 1} (omega (arith, some))).0 (omega (arith, h)) in
    omega (arith, up, add-mul k 1 K, some)

within_block : (K : ℕ) (spans : List Span) (i k : ℕ) → 1 ≤ K → i < length spans → k < slice_count K (span_at spans i) → IsOf K spans (piece K i (span_at spans i) (k * K))
within_block K spans i k some there below = record {
  valid = record {
    block = there;
    offset = count_inside K (span_len (span_at spans i)) k some below;
    multiple = ap (λ (n : ℕ). n * K) (sym (mul-div_cancel k {n = K} (omega (arith, some))));
  };
  is = refl;
}

-- the slices of a block
pub pieces-of : (K : ℕ) (spans : List Span) (i : ℕ) → 1 ≤ K → i < length spans → All (IsOf K spans) (pieces K i (span_at spans i))
pieces-of K spans i some there =
    let s = span_at spans i in
    let f : ℕ → Piece = λ k. piece K i s (k * K) in
    let count = slice_count K s in
    let long = length-map-range_with_len f 0 count in
    All-from_get_or (IsOf K spans) (pieces K i s) (f 0)
    (λ k h.
    let below : k < count = omega (arith, h, long) in
    subst (IsOf K spans) (sym (get_or-map-range_with_len f 0 count k k (f 0) below (omega arith))) (within_block K spans i k some there below))

drop-plus : (i : ℕ) (l : List Span) → drop (i + 1) l ≡ drop 1 (drop i l)
drop-plus zero l = ap (λ (n : ℕ). drop n l) (let e : 0 + 1 ≡ 1 = omega arith in e)
drop-plus (suc i) [] = ap (λ (n : ℕ). drop n []) (let e : suc i + 1 ≡ suc (i + 1) = omega arith in e)
drop-plus (suc i) (x ∷ l) = ap (λ (n : ℕ). drop n (x ∷ l)) (let e : suc i + 1 ≡ suc (i + 1) = omega arith in e) ∙ drop-plus i l

drop-next : (i : ℕ) (l : List Span) (x : Span) (rest : List Span) → drop i l ≡ x ∷ rest → drop (i + 1) l ≡ rest
drop-next i l x rest e = drop-plus i l ∙ ap (λ (l : List Span). drop 1 l) e

-- and of the later blocks
later-of : (K : ℕ) (spans : List Span) (i : ℕ) (rest : List Span) → 1 ≤ K → drop i spans ≡ rest → All (IsOf K spans) (pieces_from K i rest)
later-of K spans i [] some e = All-nil (IsOf K spans)
later-of K spans i (s ∷ more) some e =
    let long : length (drop i spans) ≡ suc (length more) = ap (λ (l : List Span). length l) e in
    let there : i < length spans = omega (arith, length-drop i spans, long) in
    let same : span_at spans i ≡ s = ap (λ (n : ℕ). span_at spans n) (let z : i ≡ i + 0 = omega arith in z) ∙ sym (get_or-drop i spans 0 no_span) ∙ ap (λ (l : List Span). span_at l 0) e in
    All-append (IsOf K spans) (pieces K i s) (pieces_from K (i + 1) more)
    (subst (λ (x : Span). All (IsOf K spans) (pieces K i x)) same (pieces-of K spans i some there))
    (later-of K spans (i + 1) more some (drop-next i spans s more e))

-- those of a pass from a position on, also where no slice stands there
pub from-of : (K : ℕ) (spans : List Span) (x : Position) → 1 ≤ K → All (IsOf K spans) (from_place K spans x)
unfolding from_place
from-of K spans x some = All-drop (IsOf K spans) (x.offset / K) (pieces_from K x.block (drop x.block spans)) (later-of K spans x.block (drop x.block spans) some refl)

pub pass-of : (K : ℕ) (spans : List Span) → 1 ≤ K → All (IsOf K spans) (pass K spans)
pass-of K spans some = later-of K spans 0 spans some refl

-- where no slice is, there is no block
pub start-valid : (K : ℕ) (spans : List Span) → 1 ≤ K → 0 < length spans → IsValid K spans start
start-valid K spans some h = record {
  block = h;
  offset = omega arith;
  multiple = let e : 0 ≡ 0 * K = omega arith in e ∙ ap (λ (n : ℕ). n * K) (sym (mul-div_cancel 0 {n = K} (omega (arith, some))) ∙ ap (λ (n : ℕ). n / K) (sym e));
}
