-- The words of slices.
use Rattle.std.proofs.Common.{ℕ, suc, zero, ◌+◌, ◌-◌, ◌*◌, ◌<◌, ◌≤◌, ◌≡◌, Bool, true, false, cond, leb, List, [], ◌∷◌, ◌++◌, take, map, length, get_or, min, refl, sym, ap, ◌∙◌, subst, arith, inl, inr, append-nil, length-append}
use Rattle.std.specs.Prelude.{◌⊎◌}
use Rattle.std.specs.List.{range_with_len}
use Rattle.std.proofs.Math.Nat.{add-mul}
use Rattle.std.proofs.lemmas.Bool.Decides.{leb_tells}
use Rattle.std.proofs.lemmas.List.FromFn.{length-map-range_with_len, get_or-map-range_with_len, length-range_with_len}
use Rattle.mt_blocks.specs.declared.span.Span.{Span}
use Rattle.mt_blocks.specs.Slices.{Piece, span_len, span_at, slice_count, piece, pieces, pieces_from}
use Rattle.mt_blocks.specs.Groups.{group_len}
use Rattle.mt_blocks.specs.Laws.{addresses, addresses_of, word_count, IsWhole, SlicesAreTheBlock, OnlyTheLastIsShorter, GroupsFit, GroupsAreLongest}
use Rattle.mt_blocks.proofs.Passes.{count_all, count_inside}

range_append : (a m n : ℕ) → range_with_len a (m + n) ≡ range_with_len a m ++ range_with_len (a + m) n
range_append a zero n = ap (λ (x : ℕ). range_with_len a x) (let e : zero + n ≡ n = omega arith in e) ∙ ap (λ (x : ℕ). range_with_len x n) (let e : a ≡ a + zero = omega arith in e)
range_append a (suc m) n =
    ap (λ (x : ℕ). range_with_len a x) (let e : suc m + n ≡ suc (m + n) = omega arith in e)
    ∙ ap (λ (l : List ℕ). a ∷ l) (range_append (a + 1) m n ∙ ap (λ (x : ℕ). range_with_len (a + 1) m ++ range_with_len x n) (let e : (a + 1) + m ≡ a + suc m = omega arith in e))

-- one slice's words, and those that are left
split_words : (K first len o o' : ℕ) → o' ≡ o + K
    → range_with_len (first + o) (min (len - o) K) ++ range_with_len (first + o') (len - o') ≡ range_with_len (first + o) (len - o)
split_words K first len o o' next = of (leb_tells K (len - o))
  where
    of : ((leb K (len - o) ≡ true) × (K ≤ len - o)) ⊎ ((leb K (len - o) ≡ false) × (len - o < K))
        → range_with_len (first + o) (min (len - o) K) ++ range_with_len (first + o') (len - o') ≡ range_with_len (first + o) (len - o)
    of (inl h) =
        let from : first + o' ≡ (first + o) + min (len - o) K = omega (arith, next, h.1) in
        ap (λ (x : ℕ). range_with_len (first + o) (min (len - o) K) ++ range_with_len x (len - o')) from
        ∙ sym (range_append (first + o) (min (len - o) K) (len - o'))
        ∙ ap (λ (x : ℕ). range_with_len (first + o) x) (let e : min (len - o) K + (len - o') ≡ len - o = omega (arith, next, h.1) in e)
    of (inr h) =
        let none : len - o' ≡ 0 = omega (arith, next, h.1) in
        let n : min (len - o) K ≡ len - o = omega (arith, h.1) in
        ap (λ (x : ℕ). range_with_len (first + o) (min (len - o) K) ++ range_with_len (first + o') x) none
        ∙ append-nil (range_with_len (first + o) (min (len - o) K))
        ∙ ap (λ (x : ℕ). range_with_len (first + o) x) n

-- the slices from the one with the number k on, so many of them, are the words that are left
pieces_words : (K i : ℕ) (s : Span) (c k : ℕ) → span_len s ≤ (k + c) * K
    → addresses_of (map (λ k. piece K i s (k * K)) (range_with_len k c)) ≡ range_with_len (s.first + k * K) (span_len s - k * K)
pieces_words K i s zero k all =
    let e : 0 ≡ span_len s - k * K = let same = ap (λ (x : ℕ). x * K) (let q : k + zero ≡ k = omega arith in q) in omega (arith, all, same) in
    ap (λ (n : ℕ). range_with_len (s.first + k * K) n) e
pieces_words K i s (suc c) k all =
    let same = ap (λ (x : ℕ). x * K) (let q : k + suc c ≡ (k + 1) + c = omega arith in q) in
    ap (λ (l : List ℕ). range_with_len (s.first + k * K) (min (span_len s - k * K) K) ++ l) (pieces_words K i s c (k + 1) (omega (arith, all, same)))
    ∙ split_words K s.first (span_len s) (k * K) ((k + 1) * K) (omega (arith, add-mul k 1 K))

pub slices_are_the_block : SlicesAreTheBlock
slices_are_the_block K i s some ordered =
    let all : span_len s ≤ (0 + slice_count K s) * K =
    let c = count_all K (span_len s) some in
    let e = ap (λ (x : ℕ). x * K) (let q : 0 + slice_count K s ≡ slice_count K s = omega arith in q) in
    omega (arith, c, e) in
    let zeros : 0 * K ≡ 0 = omega arith in
    pieces_words K i s (slice_count K s) 0 all
    ∙ ap (λ (x : ℕ). range_with_len (s.first + x) (span_len s - x)) zeros
    ∙ ap (λ (x : ℕ). range_with_len x (span_len s - 0)) (let e : s.first + 0 ≡ s.first = omega arith in e)
    ∙ ap (λ (x : ℕ). range_with_len s.first x) (let e : span_len s - 0 ≡ span_len s = omega arith in e)

pub only_the_last_is_shorter : OnlyTheLastIsShorter
only_the_last_is_shorter K i s some ordered k d h =
    let f : ℕ → Piece = λ k. piece K i s (k * K) in
    let count = slice_count K s in
    let long = length-map-range_with_len f 0 count in
    let inside : k < count = omega (arith, h, long) in
    let own : get_or (pieces K i s) k d ≡ f k = get_or-map-range_with_len f 0 count k k d inside (omega arith) in
    let below = count_inside K (span_len s) k some inside in
    let whole : IsWhole K (f k) = record {
      some = omega (arith, below, some);
      small = omega arith;
      whole = λ last. full (leb_tells (span_len s - k * K) K) last;
    } in
    subst (IsWhole K) (sym own) whole
  where
    full : ((leb (span_len s - k * K) K ≡ true) × (span_len s - k * K ≤ K)) ⊎ ((leb (span_len s - k * K) K ≡ false) × (K < span_len s - k * K))
        → leb (span_len s - k * K) K ≡ false → min (span_len s - k * K) K ≡ K
    full (inl h) last = cc
    full (inr h) last = omega (arith, h.1)

pub groups_fit : GroupsFit
groups_fit N [] = (omega arith, omega arith)
groups_fit N (p ∷ more) = of (leb_tells p.slice.n N) (groups_fit (N - p.slice.n) more)
  where
    of : ((leb p.slice.n N ≡ true) × (p.slice.n ≤ N)) ⊎ ((leb p.slice.n N ≡ false) × (N < p.slice.n))
        → (group_len (N - p.slice.n) more ≤ length more) × (word_count (take (group_len (N - p.slice.n) more) more) ≤ N - p.slice.n)
        → (group_len N (p ∷ more) ≤ length (p ∷ more)) × (word_count (take (group_len N (p ∷ more)) (p ∷ more)) ≤ N)
    of (inl h) next =
        subst (λ (b : Bool). (cond b (suc (group_len (N - p.slice.n) more)) 0 ≤ length (p ∷ more)) × (word_count (take (cond b (suc (group_len (N - p.slice.n) more)) 0) (p ∷ more)) ≤ N))
        (sym h.0) (omega (arith, next.0), omega (arith, next.1, h.1))
    of (inr h) next =
        subst (λ (b : Bool). (cond b (suc (group_len (N - p.slice.n) more)) 0 ≤ length (p ∷ more)) × (word_count (take (cond b (suc (group_len (N - p.slice.n) more)) 0) (p ∷ more)) ≤ N))
        (sym h.0) (omega arith, omega arith)

pub groups_are_longest : GroupsAreLongest
groups_are_longest N [] h = absurd (omega (arith, h))
groups_are_longest N (p ∷ more) h = of (leb_tells p.slice.n N) (λ l. groups_are_longest (N - p.slice.n) more l) h
  where
    of : ((leb p.slice.n N ≡ true) × (p.slice.n ≤ N)) ⊎ ((leb p.slice.n N ≡ false) × (N < p.slice.n))
        → (group_len (N - p.slice.n) more < length more → N - p.slice.n < word_count (take (suc (group_len (N - p.slice.n) more)) more))
        → group_len N (p ∷ more) < length (p ∷ more) → N < word_count (take (suc (group_len N (p ∷ more))) (p ∷ more))
    of (inl h) next =
        subst (λ (b : Bool). cond b (suc (group_len (N - p.slice.n) more)) 0 < length (p ∷ more) → N < word_count (take (suc (cond b (suc (group_len (N - p.slice.n) more)) 0)) (p ∷ more)))
        (sym h.0) (λ l. let n = next (omega (arith, l)) in omega (arith, n, h.1))
    of (inr h) next =
        subst (λ (b : Bool). cond b (suc (group_len (N - p.slice.n) more)) 0 < length (p ∷ more) → N < word_count (take (suc (cond b (suc (group_len (N - p.slice.n) more)) 0)) (p ∷ more)))
        (sym h.0) (λ l. omega (arith, h.1))

-- how many words slices have
word_count-addresses : (L : List Piece) → length (addresses_of L) ≡ word_count L
word_count-addresses [] = refl
word_count-addresses (p ∷ more) = omega (arith, length-append (addresses p.slice) (addresses_of more), length-range_with_len p.slice.first p.slice.n, word_count-addresses more)

word_count-append : (xs ys : List Piece) → word_count (xs ++ ys) ≡ word_count xs + word_count ys
word_count-append [] ys = omega arith
word_count-append (x ∷ xs) ys = omega (arith, word_count-append xs ys)

pub word_count-block : (K i : ℕ) (s : Span) → 1 ≤ K → s.first ≤ s.last → word_count (pieces K i s) ≡ span_len s
word_count-block K i s some ordered =
    sym (word_count-addresses (pieces K i s)) ∙ ap (λ (l : List ℕ). length l) (slices_are_the_block K i s some ordered) ∙ length-range_with_len s.first (span_len s)

pub word_count-pass : (K i : ℕ) (spans : List Span) → 1 ≤ K → ((j : ℕ) → j < length spans → (span_at spans j).first ≤ (span_at spans j).last)
    → ((j : ℕ) → j < length spans → (span_at spans j).last < 65536) → word_count (pieces_from K i spans) ≤ 65536 * length spans
word_count-pass K i [] some ordered low = omega arith
word_count-pass K i (s ∷ more) some ordered low =
    let one = word_count-block K i s some (ordered 0 (omega arith)) in
    let here : s.last < 65536 = low 0 (omega arith) in
    let rest = word_count-pass K (i + 1) more some (λ j h. ordered (suc j) (omega (arith, h))) (λ j h. low (suc j) (omega (arith, h))) in
    omega (arith, word_count-append (pieces K i s) (pieces_from K (i + 1) more), one, here, rest)
