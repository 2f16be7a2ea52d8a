-- The slices of a pass from a position on.
use Rattle.std.proofs.Common.{ℕ, suc, ◌+◌, ◌-◌, ◌*◌, ◌/◌, ◌<◌, ◌≤◌, ◌≡◌, Bool, true, false, cond, ltb, List, [], ◌∷◌, ◌++◌, drop, length, get_or, Option, Some, None, refl, sym, ap, ◌∙◌, subst, arith}
use Rattle.std.specs.Prelude.{IfSome}
use Rattle.std.proofs.Math.Nat.{mul-div_cancel, div-lt_iff_lt-mul, le-div_iff_mul-le, add-mul, div-eq_of_lt}
use Rattle.std.proofs.lemmas.Bool.Decides.{nat_tests}
use Rattle.std.proofs.lemmas.Bool.{le-leb, lt-leb}
use Rattle.std.proofs.lemmas.List.{drop_more, drop_all, drop-append-le}
use Rattle.std.proofs.lemmas.List.FromFn.{length-map-range_with_len, get_or-map-range_with_len}
use Rattle.mt_blocks.specs.declared.span.Span.{Span}
use Rattle.mt_blocks.specs.declared.pass.Position.{Position}
use Rattle.mt_blocks.specs.Slices.{span_len, span_at, no_span, slice_count, Piece, piece, pieces, pieces_from, from_place, from_next, block_from, piece_at, next_of, start, start_of, AreSpans, IsValid}
use Rattle.mt_blocks.specs.Groups.{group_len}

count_above : (K len k : ℕ) → 1 ≤ K → k * K < len → k < (len + K - 1) / K
count_above K len k some h =
    let split = add-mul k 1 K in
    let up : k + 1 ≤ (len + K - 1) / K = (le-div_iff_mul-le {k = K} {x = k + 1} {y = len + K - 1} (omega arith)).1 (omega (arith, split)) in
    omega arith

count_below : (K len k : ℕ) → 1 ≤ K → len ≤ (k + 1) * K → (len + K - 1) / K ≤ k + 1
count_below K len k some h =
    let split = add-mul (k + 1) 1 K in
    let up : (len + K - 1) / K < (k + 1) + 1 = (div-lt_iff_lt-mul {k = K} {x = len + K - 1} {y = (k + 1) + 1} (omega arith)).1 (omega (arith, split)) in
    omega arith

-- that many multiples are enough, and not one too many
pub count_all : (K len : ℕ) → 1 ≤ K → len ≤ (len + K - 1) / K * K
count_all K len some =
    let c = (len + K - 1) / K in
    let up : len + K - 1 < (c + 1) * K = (div-lt_iff_lt-mul {k = K} {x = len + K - 1} {y = c + 1} (omega (arith, some))).0 (omega arith) in
    omega (arith, up, add-mul c 1 K)

pub count_inside : (K len k : ℕ) → 1 ≤ K → k < (len + K - 1) / K → k * K < len
count_inside K len k some h =
    let up : (k + 1) * K ≤ len + K - 1 = (le-div_iff_mul-le {k = K} {x = k + 1} {y = len + K - 1} (omega (arith, some))).0 (omega (arith, h)) in
    omega (arith, up, add-mul k 1 K, some)

-- the slices of the later blocks, and what is left of a block after a slice
abbrev later : ℕ → List Span → ℕ → List Piece
later K spans i = pieces_from K (i + 1) (drop (i + 1) spans)

-- the slices from a position: its own, then those of the rest of its block and of the later spans
from_split : (K : ℕ) (spans : List Span) (p : Position) → AreSpans K spans → IsValid K spans p
    → from_place K spans p ≡ piece_at K spans p ∷ (drop (p.offset / K + 1) (pieces K p.block (span_at spans p.block)) ++ later K spans p.block)
unfolding from_place
from_split K spans p ok valid =
    let i = p.block in
    let k = p.offset / K in
    let b = span_at spans i in
    let f : ℕ → Piece = λ k. piece K i b (k * K) in
    let count = slice_count K b in
    let long = length-map-range_with_len f 0 count in
    let inside : k < count = count_above K (span_len b) k ok.some (omega (arith, valid.multiple, valid.offset)) in
    let own : get_or (pieces K i b) k (piece_at K spans p) ≡ piece_at K spans p =
    get_or-map-range_with_len f 0 count k k (piece_at K spans p) inside (omega arith) ∙ ap (λ (o : ℕ). piece K i b o) (sym valid.multiple) in
    ap (λ (l : List Span). drop k (pieces_from K i l)) (drop_more spans i no_span valid.block)
    ∙ drop-append-le k (pieces K i b) (later K spans i) (omega (arith, long))
    ∙ ap (λ (l : List Piece). l ++ later K spans i) (drop_more (pieces K i b) k (piece_at K spans p) (omega (arith, long)))
    ∙ ap (λ (x : Piece). x ∷ (drop (k + 1) (pieces K i b) ++ later K spans i)) own

-- the slices from the next offset of a block
from_within : (K : ℕ) (spans : List Span) (p : Position) → AreSpans K spans → IsValid K spans p → p.offset + K < span_len (span_at spans p.block)
    → from_place K spans (record { block = p.block; offset = p.offset + K }) ≡ drop (p.offset / K + 1) (pieces K p.block (span_at spans p.block)) ++ later K spans p.block
unfolding from_place
from_within K spans p ok valid more =
    let i = p.block in
    let k = p.offset / K in
    let b = span_at spans i in
    let f : ℕ → Piece = λ k. piece K i b (k * K) in
    let count = slice_count K b in
    let long = length-map-range_with_len f 0 count in
    let same : (p.offset + K) / K ≡ k + 1 =
    ap (λ (o : ℕ). o / K) (let e : p.offset + K ≡ (k + 1) * K = omega (arith, valid.multiple, add-mul k 1 K) in e) ∙ mul-div_cancel (k + 1) {n = K} (omega (arith, ok.some)) in
    let inside : k + 1 < count = count_above K (span_len b) (k + 1) ok.some (omega (arith, valid.multiple, add-mul k 1 K)) in
    ap (λ (n : ℕ). drop n (pieces_from K i (drop i spans))) same
    ∙ ap (λ (l : List Span). drop (k + 1) (pieces_from K i l)) (drop_more spans i no_span valid.block)
    ∙ drop-append-le (k + 1) (pieces K i b) (later K spans i) (omega (arith, long))

-- nothing is left of a block after its last slice
after_last : (K : ℕ) (spans : List Span) (p : Position) → AreSpans K spans → IsValid K spans p → span_len (span_at spans p.block) ≤ p.offset + K
    → drop (p.offset / K + 1) (pieces K p.block (span_at spans p.block)) ≡ []
after_last K spans p ok valid last =
    let i = p.block in
    let k = p.offset / K in
    let b = span_at spans i in
    let f : ℕ → Piece = λ k. piece K i b (k * K) in
    let long = length-map-range_with_len f 0 (slice_count K b) in
    let few : slice_count K b ≤ k + 1 = count_below K (span_len b) k ok.some (omega (arith, valid.multiple, add-mul k 1 K)) in
    drop_all (k + 1) (pieces K i b) (omega (arith, long))

pub from_first : (K : ℕ) (spans : List Span) (i : ℕ) → 1 ≤ K → from_place K spans (record { block = i; offset = 0 }) ≡ pieces_from K i (drop i spans)
unfolding from_place
from_first K spans i some = ap (λ (n : ℕ). drop n (pieces_from K i (drop i spans))) (div-eq_of_lt {n = 0} {m = K} (omega arith))

pub from_step : (K : ℕ) (spans : List Span) (p : Position) → AreSpans K spans → IsValid K spans p
    → from_place K spans p ≡ piece_at K spans p ∷ from_next K spans (next_of K spans p)
from_step K spans p ok valid =
    from_split K spans p ok valid
    ∙ ap (λ (l : List Piece). piece_at K spans p ∷ l) (of (ltb K (span_len (span_at spans p.block) - p.offset)) (ltb (p.block + 1) (length spans)) refl refl)
  where
    of : (x y : Bool) → ltb K (span_len (span_at spans p.block) - p.offset) ≡ x → ltb (p.block + 1) (length spans) ≡ y
        → drop (p.offset / K + 1) (pieces K p.block (span_at spans p.block)) ++ later K spans p.block
        ≡ from_next K spans (cond x (Some (record { block = p.block; offset = p.offset + K })) (cond y (Some (record { block = p.block + 1; offset = 0 })) None))
    of true y e f = sym (from_within K spans p ok valid (grind (arith, nat_tests)))
    of false true e f =
        ap (λ (l : List Piece). l ++ later K spans p.block) (after_last K spans p ok valid (grind (arith, nat_tests)))
        ∙ sym (from_first K spans (p.block + 1) ok.some)
    of false false e f =
        ap (λ (l : List Piece). l ++ later K spans p.block) (after_last K spans p ok valid (grind (arith, nat_tests)))
        ∙ ap (pieces_from K (p.block + 1)) (drop_all (p.block + 1) spans (grind (arith, nat_tests)))

-- the next position is that of a slice
pub next_valid : (K : ℕ) (spans : List Span) (p q : Position) → AreSpans K spans → IsValid K spans p → next_of K spans p ≡ Some q → IsValid K spans q
next_valid K spans p q ok valid = of (ltb K (span_len (span_at spans p.block) - p.offset)) (ltb (p.block + 1) (length spans)) refl refl
  where
    of : (x y : Bool) → ltb K (span_len (span_at spans p.block) - p.offset) ≡ x → ltb (p.block + 1) (length spans) ≡ y
        → cond x (Some (record { block = p.block; offset = p.offset + K })) (cond y (Some (record { block = p.block + 1; offset = 0 })) None) ≡ Some q → IsValid K spans q
    of true y e f g =
        let same : ◌≡◌ {A = Position} (record { block = p.block; offset = p.offset + K }) q = cc in
        let k = p.offset / K in
        let whole : p.offset + K ≡ (k + 1) * K = omega (arith, valid.multiple, add-mul k 1 K) in
        let div : (p.offset + K) / K ≡ k + 1 = ap (λ (o : ℕ). o / K) whole ∙ mul-div_cancel (k + 1) {n = K} (omega (arith, ok.some)) in
        let v : IsValid K spans (record { block = p.block; offset = p.offset + K }) = record { block = valid.block; offset = grind (arith, nat_tests); multiple = whole ∙ ap (λ (n : ℕ). n * K) (sym div) } in
        subst (IsValid K spans) same v
    of false true e f g =
        let same : ◌≡◌ {A = Position} (record { block = p.block + 1; offset = 0 }) q = cc in
        let v : IsValid K spans (record { block = p.block + 1; offset = 0 }) =
        record { block = grind (arith, nat_tests); offset = omega arith; multiple = (let z : 0 ≡ 0 * K = omega arith in z) ∙ ap (λ (n : ℕ). n * K) (sym (div-eq_of_lt {n = 0} {m = K} (omega (arith, ok.some)))) } in
        subst (IsValid K spans) same v
    of false false e f g = cc

-- one more slice of a group
pub group_len-fits : (K : ℕ) (spans : List Span) (p : Position) (words : ℕ) → AreSpans K spans → IsValid K spans p → (piece_at K spans p).slice.n ≤ words
    → group_len words (from_place K spans p) ≡ suc (group_len (words - (piece_at K spans p).slice.n) (from_next K spans (next_of K spans p)))
group_len-fits K spans p words ok valid fits =
    let more = from_next K spans (next_of K spans p) in
    let n = (piece_at K spans p).slice.n in
    ap (group_len words) (from_step K spans p ok valid) ∙ ap (λ (b : Bool). cond b (suc (group_len (words - n) more)) 0) (le-leb n words fits)

pub group_len-full : (K : ℕ) (spans : List Span) (p : Position) (words : ℕ) → AreSpans K spans → IsValid K spans p → words < (piece_at K spans p).slice.n
    → group_len words (from_place K spans p) ≡ 0
group_len-full K spans p words ok valid full =
    let more = from_next K spans (next_of K spans p) in
    let n = (piece_at K spans p).slice.n in
    ap (group_len words) (from_step K spans p ok valid) ∙ ap (λ (b : Bool). cond b (suc (group_len (words - n) more)) 0) (lt-leb n words full)

-- a group has a slice
pub group_len-some : (K : ℕ) (spans : List Span) (p : Position) (N : ℕ) → AreSpans K spans → IsValid K spans p → K ≤ N → 1 ≤ group_len N (from_place K spans p)
group_len-some K spans p N ok valid low = let e = group_len-fits K spans p N ok valid (omega (arith, low)) in omega (arith, e)

-- a pass begins at its start
pub pass-start : (K : ℕ) (spans : List Span) → 1 ≤ K → from_next K spans (start_of spans) ≡ pieces_from K 0 spans
pass-start K [] some = refl
pass-start K (s ∷ more) some = from_first K (s ∷ more) 0 some

Some-inj : {p q : Position} → Some p ≡ Some q → p ≡ q
Some-inj e = cc

pub start_of-valid : (K : ℕ) (spans : List Span) (p : Position) → AreSpans K spans → start_of spans ≡ Some p → IsValid K spans p
start_of-valid K [] p ok e = cc
start_of-valid K (s ∷ more) p ok e =
    let same : ◌≡◌ {A = Position} start p = Some-inj e in
    let v : IsValid K (s ∷ more) start = record { block = omega arith; offset = omega arith; multiple = (let z : 0 ≡ 0 * K = omega arith in z) ∙ ap (λ (n : ℕ). n * K) (sym (div-eq_of_lt {n = 0} {m = K} (omega (arith, ok.some)))) } in
    subst (IsValid K (s ∷ more)) same v

-- a block's slices from a position on
pub block_step : (K : ℕ) (spans : List Span) (p : Position) → AreSpans K spans → IsValid K spans p → K < span_len (span_at spans p.block) - p.offset
    → block_from K spans p ≡ piece_at K spans p ∷ block_from K spans (record { block = p.block; offset = p.offset + K })
unfolding block_from
block_step K spans p ok valid more =
    let i = p.block in
    let k = p.offset / K in
    let s = span_at spans i in
    let f : ℕ → Piece = λ k. piece K i s (k * K) in
    let count = slice_count K s in
    let long = length-map-range_with_len f 0 count in
    let inside : k < count = count_above K (span_len s) k ok.some (omega (arith, valid.multiple, valid.offset)) in
    let own : get_or (pieces K i s) k (piece_at K spans p) ≡ piece_at K spans p =
    get_or-map-range_with_len f 0 count k k (piece_at K spans p) inside (omega arith) ∙ ap (λ (o : ℕ). piece K i s o) (sym valid.multiple) in
    let same : (p.offset + K) / K ≡ k + 1 =
    ap (λ (o : ℕ). o / K) (let e : p.offset + K ≡ (k + 1) * K = omega (arith, valid.multiple, add-mul k 1 K) in e) ∙ mul-div_cancel (k + 1) {n = K} (omega (arith, ok.some)) in
    drop_more (pieces K i s) k (piece_at K spans p) (omega (arith, long))
    ∙ ap (λ (x : Piece). x ∷ drop (k + 1) (pieces K i s)) own
    ∙ ap (λ (n : ℕ). piece_at K spans p ∷ drop n (pieces K i s)) (sym same)

pub block_end : (K : ℕ) (spans : List Span) (p : Position) → AreSpans K spans → IsValid K spans p → span_len (span_at spans p.block) - p.offset ≤ K
    → block_from K spans p ≡ piece_at K spans p ∷ []
unfolding block_from
block_end K spans p ok valid last =
    let i = p.block in
    let k = p.offset / K in
    let s = span_at spans i in
    let f : ℕ → Piece = λ k. piece K i s (k * K) in
    let count = slice_count K s in
    let long = length-map-range_with_len f 0 count in
    let inside : k < count = count_above K (span_len s) k ok.some (omega (arith, valid.multiple, valid.offset)) in
    let own : get_or (pieces K i s) k (piece_at K spans p) ≡ piece_at K spans p =
    get_or-map-range_with_len f 0 count k k (piece_at K spans p) inside (omega arith) ∙ ap (λ (o : ℕ). piece K i s o) (sym valid.multiple) in
    drop_more (pieces K i s) k (piece_at K spans p) (omega (arith, long))
    ∙ ap (λ (x : Piece). x ∷ drop (k + 1) (pieces K i s)) own
    ∙ ap (λ (l : List Piece). piece_at K spans p ∷ l) (after_last K spans p ok valid (omega (arith, last)))

pub block_first : (K : ℕ) (spans : List Span) (i : ℕ) → 1 ≤ K → block_from K spans (record { block = i; offset = 0 }) ≡ pieces K i (span_at spans i)
unfolding block_from
block_first K spans i some = ap (λ (n : ℕ). drop n (pieces K i (span_at spans i))) (div-eq_of_lt {n = 0} {m = K} (omega (arith, some)))

-- so it is where there is one
pub next-is_valid : (K : ℕ) (spans : List Span) (p : Position) → AreSpans K spans → IsValid K spans p → IfSome (next_of K spans p) (IsValid K spans)
next-is_valid K spans p ok valid = of (next_of K spans p) refl
  where
    of : (o : Option Position) → next_of K spans p ≡ o → IfSome o (IsValid K spans)
    of None e = tt
    of (Some q) e = next_valid K spans p q ok valid e
