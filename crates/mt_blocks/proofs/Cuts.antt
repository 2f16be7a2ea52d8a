-- Passes cut into groups.
use Rattle.std.proofs.Common.{ℕ, suc, zero, ◌+◌, ◌-◌, ◌*◌, ◌/◌, ◌<◌, ◌≤◌, ◌≡◌, Bool, true, false, cond, leb, List, [], ◌∷◌, ◌++◌, take, drop, map, length, Option, Some, refl, sym, ap, ◌∙◌, subst, arith, inl, inr, length-append}
use Rattle.std.specs.Prelude.{◌⊎◌}
use Rattle.std.specs.List.{range_with_len}
use Rattle.std.proofs.Math.Nat.{le-mul_of_pos_right, div-lt_iff_lt-mul, add-mul}
use Rattle.std.proofs.lemmas.Bool.Decides.{leb_tells}
use Rattle.std.proofs.lemmas.Bool.{le-leb, lt-leb}
use Rattle.std.proofs.lemmas.List.{length-drop, take-append-drop}
use Rattle.std.proofs.lemmas.List.FromFn.{length-map-range_with_len}
use Rattle.mt_blocks.specs.declared.span.Span.{Span}
use Rattle.mt_blocks.specs.declared.pass.Position.{Position}
use Rattle.mt_blocks.specs.Slices.{Piece, span_len, span_at, slice_count, piece, pieces, pieces_from, pass, from_place, from_next, piece_at, next_of, AreSpans, IsValid}
use Rattle.mt_blocks.specs.Groups.{group_len, groups_up_to, ticks}
use Rattle.mt_blocks.specs.Laws.{joined, GroupsAreThePass}
use Rattle.mt_blocks.specs.Inner.Ticks.{GroupsTakeATick}
use Rattle.mt_blocks.proofs.Passes.{count_inside, from_step}

-- no slice has more words than a tick may test
abbrev pub AreSmall : ℕ → List Piece → Type 0
AreSmall N [] = Unit {0}
AreSmall N (p ∷ more) = (p.slice.n ≤ N) × AreSmall N more

small-append : (N : ℕ) (xs ys : List Piece) → AreSmall N xs → AreSmall N ys → AreSmall N (xs ++ ys)
small-append N [] ys a b = b
small-append N (x ∷ xs) ys a b = (a.0, small-append N xs ys a.1 b)

small-drop : (N k : ℕ) (xs : List Piece) → AreSmall N xs → AreSmall N (drop k xs)
small-drop N zero xs a = a
small-drop N (suc k) [] a = tt
small-drop N (suc k) (x ∷ xs) a = small-drop N k xs a.1

small-map : (K N i : ℕ) (s : Span) → K ≤ N → (ks : List ℕ) → AreSmall N (map (λ k. piece K i s (k * K)) ks)
small-map K N i s low [] = tt
small-map K N i s low (k ∷ ks) = (omega (arith, low), small-map K N i s low ks)

pub small-pass : (K N i : ℕ) (spans : List Span) → K ≤ N → AreSmall N (pieces_from K i spans)
small-pass K N i [] low = tt
small-pass K N i (s ∷ more) low =
    small-append N (pieces K i s) (pieces_from K (i + 1) more) (small-map K N i s low (range_with_len 0 (slice_count K s))) (small-pass K N (i + 1) more low)

-- each slice has a word
abbrev pub AreSome : List Piece → Type 0
AreSome [] = Unit {0}
AreSome (p ∷ more) = (1 ≤ p.slice.n) × AreSome more

some-append : (xs ys : List Piece) → AreSome xs → AreSome ys → AreSome (xs ++ ys)
some-append [] ys a b = b
some-append (x ∷ xs) ys a b = (a.0, some-append xs ys a.1 b)

some-range : (K i : ℕ) (s : Span) (c k : ℕ) → 1 ≤ K → k + c ≤ slice_count K s → AreSome (map (λ k. piece K i s (k * K)) (range_with_len k c))
some-range K i s zero k some low = tt
some-range K i s (suc c) k some low =
    (let below = count_inside K (span_len s) k some (omega (arith, low)) in omega (arith, below, some), some-range K i s c (k + 1) some (omega (arith, low)))

pub some-pass : (K i : ℕ) (spans : List Span) → 1 ≤ K → AreSome (pieces_from K i spans)
some-pass K i [] some = tt
some-pass K i (s ∷ more) some =
    some-append (pieces K i s) (pieces_from K (i + 1) more) (some-range K i s (slice_count K s) 0 some (omega arith)) (some-pass K (i + 1) more some)

-- how many groups begin in these slices, where so many words are left in the group before
abbrev pub opened : ℕ → ℕ → List Piece → ℕ
opened N left [] = 0
opened N left (p ∷ more) = cond (leb p.slice.n left) (opened N (left - p.slice.n) more) (suc (opened N (N - p.slice.n) more))

none_up_to : (most N : ℕ) → 0 ≡ length (groups_up_to most N [])
none_up_to zero N = refl
none_up_to (suc most) N = refl

opened-groups : (N : ℕ) (L : List Piece) (most left : ℕ) → AreSmall N L → length L ≤ most
    → opened N left L ≡ length (groups_up_to most N (drop (group_len left L) L))
opened-groups N [] most left small long = none_up_to most N
opened-groups N (p ∷ more) zero left small long = absurd (omega (arith, long))
opened-groups N (p ∷ more) (suc most) left small long =
    of (leb_tells p.slice.n left)
    (opened-groups N more (suc most) (left - p.slice.n) small.1 (omega (arith, long)))
    (opened-groups N more most (N - p.slice.n) small.1 (omega (arith, long)))
    (leb_tells p.slice.n N)
  where
    of : ((leb p.slice.n left ≡ true) × (p.slice.n ≤ left)) ⊎ ((leb p.slice.n left ≡ false) × (left < p.slice.n))
        → opened N (left - p.slice.n) more ≡ length (groups_up_to (suc most) N (drop (group_len (left - p.slice.n) more) more))
        → opened N (N - p.slice.n) more ≡ length (groups_up_to most N (drop (group_len (N - p.slice.n) more) more))
        → ((leb p.slice.n N ≡ true) × (p.slice.n ≤ N)) ⊎ ((leb p.slice.n N ≡ false) × (N < p.slice.n))
        → cond (leb p.slice.n left) (opened N (left - p.slice.n) more) (suc (opened N (N - p.slice.n) more))
        ≡ length (groups_up_to (suc most) N (drop (cond (leb p.slice.n left) (suc (group_len (left - p.slice.n) more)) 0) (p ∷ more)))
    of (inl h) same next fits =
        subst (λ (b : Bool). cond b (opened N (left - p.slice.n) more) (suc (opened N (N - p.slice.n) more))
        ≡ length (groups_up_to (suc most) N (drop (cond b (suc (group_len (left - p.slice.n) more)) 0) (p ∷ more)))) (sym h.0) same
    of (inr h) same next (inl fits) =
        let new : suc (opened N (N - p.slice.n) more) ≡ suc (length (groups_up_to most N (drop (cond (leb p.slice.n N) (suc (group_len (N - p.slice.n) more)) 0) (p ∷ more)))) =
        subst (λ (b : Bool). suc (opened N (N - p.slice.n) more) ≡ suc (length (groups_up_to most N (drop (cond b (suc (group_len (N - p.slice.n) more)) 0) (p ∷ more))))) (sym fits.0) (ap suc next) in
        subst (λ (b : Bool). cond b (opened N (left - p.slice.n) more) (suc (opened N (N - p.slice.n) more))
        ≡ length (groups_up_to (suc most) N (drop (cond b (suc (group_len (left - p.slice.n) more)) 0) (p ∷ more)))) (sym h.0) new
    of (inr h) same next (inr wide) = absurd (omega (arith, small.0, wide.1))

-- a pass before which no group is open
pub opened-ticks : (N : ℕ) (L : List Piece) → AreSmall N L → AreSome L → opened N 0 L ≡ ticks N L
unfolding ticks
opened-ticks N L small some = opened-groups N L (length L) 0 small (omega arith) ∙ ap (λ (l : List Piece). length (groups_up_to (length L) N l)) (none-open L some)
  where
    none-open : (L : List Piece) → AreSome L → drop (group_len 0 L) L ≡ L
    none-open [] some = refl
    none-open (p ∷ more) some = ap (λ (b : Bool). drop (cond b (suc (group_len (0 - p.slice.n) more)) 0) (p ∷ more)) (lt-leb p.slice.n 0 (omega (arith, some.0)))

-- one slice more
pub opened-fits : (N left : ℕ) (p : Piece) (more L : List Piece) → L ≡ p ∷ more → p.slice.n ≤ left → opened N left L ≡ opened N (left - p.slice.n) more
opened-fits N left p more L e low = ap (opened N left) e ∙ ap (λ (b : Bool). cond b (opened N (left - p.slice.n) more) (suc (opened N (N - p.slice.n) more))) (le-leb p.slice.n left low)

pub opened-full : (N left : ℕ) (p : Piece) (more L : List Piece) → L ≡ p ∷ more → left < p.slice.n → opened N left L ≡ suc (opened N (N - p.slice.n) more)
opened-full N left p more L e low = ap (opened N left) e ∙ ap (λ (b : Bool). cond b (opened N (left - p.slice.n) more) (suc (opened N (N - p.slice.n) more))) (lt-leb p.slice.n left low)

-- the groups are the slices
joined-groups : (N most : ℕ) (L : List Piece) → AreSmall N L → length L ≤ most → joined (groups_up_to most N L) ≡ L
joined-groups N zero [] small long = refl
joined-groups N zero (p ∷ more) small long = absurd (omega (arith, long))
joined-groups N (suc most) [] small long = refl
joined-groups N (suc most) (p ∷ more) small long =
    let g = group_len N (p ∷ more) in
    let one : g ≡ suc (group_len (N - p.slice.n) more) = ap (λ (b : Bool). cond b (suc (group_len (N - p.slice.n) more)) 0) (le-leb p.slice.n N small.0) in
    let less : length (drop g (p ∷ more)) ≤ most = omega (arith, length-drop g (p ∷ more), one, long) in
    ap (λ (l : List Piece). take g (p ∷ more) ++ l) (joined-groups N most (drop g (p ∷ more)) (small-drop N g (p ∷ more) small) less) ∙ take-append-drop g (p ∷ more)

pub groups_are_the_pass : GroupsAreThePass
groups_are_the_pass K N spans low = joined-groups N (length (pass K spans)) (pass K spans) (small-pass K N 0 spans low) (omega arith)

-- ---- the ticks of what is left of a pass

small-from : (K N : ℕ) (spans : List Span) (x : Position) → K ≤ N → AreSmall N (from_place K spans x)
unfolding from_place
small-from K N spans x low = small-drop N (x.offset / K) (pieces_from K x.block (drop x.block spans)) (small-pass K N x.block (drop x.block spans) low)

-- a group has a slice
some_group : (N : ℕ) (p : Piece) (more : List Piece) → p.slice.n ≤ N → group_len N (p ∷ more) ≡ suc (group_len (N - p.slice.n) more)
some_group N p more fits = ap (λ (b : Bool). cond b (suc (group_len (N - p.slice.n) more)) 0) (le-leb p.slice.n N fits)

-- a longer bound leaves the groups
enough : (N most other : ℕ) (L : List Piece) → AreSmall N L → length L ≤ most → length L ≤ other → length (groups_up_to most N L) ≡ length (groups_up_to other N L)
enough N zero zero [] small a b = refl
enough N zero (suc other) [] small a b = refl
enough N (suc most) zero [] small a b = refl
enough N (suc most) (suc other) [] small a b = refl
enough N zero other (p ∷ more) small a b = absurd (omega (arith, a))
enough N (suc most) zero (p ∷ more) small a b = absurd (omega (arith, b))
enough N (suc most) (suc other) (p ∷ more) small a b =
    let g = group_len N (p ∷ more) in
    let one = some_group N p more small.0 in
    let less = length-drop g (p ∷ more) in
    ap suc (enough N most other (drop g (p ∷ more)) (small-drop N g (p ∷ more) small) (omega (arith, less, one, a)) (omega (arith, less, one, b)))

-- what is left behind the first group takes one tick less
ticks-group : (N : ℕ) (p : Piece) (more : List Piece) → AreSmall N (p ∷ more) → ticks N (p ∷ more) ≡ suc (ticks N (drop (group_len N (p ∷ more)) (p ∷ more)))
unfolding ticks
ticks-group N p more small =
    let g = group_len N (p ∷ more) in
    let one = some_group N p more small.0 in
    let less = length-drop g (p ∷ more) in
    ap suc (enough N (length more) (length (drop g (p ∷ more))) (drop g (p ∷ more)) (small-drop N g (p ∷ more) small) (omega (arith, less, one)) (omega arith))

pub groups_take_a_tick : GroupsTakeATick
groups_take_a_tick K N spans p ok valid low =
    let step = from_step K spans p ok valid in
    subst (λ (l : List Piece). ticks N l ≡ suc (ticks N (drop (group_len N l) l))) (sym step)
    (ticks-group N (piece_at K spans p) (from_next K spans (next_of K spans p)) (subst (AreSmall N) step (small-from K N spans p low)))

-- a pass has at most 65,536 slices a block
slices_few : (K : ℕ) (s : Span) → 1 ≤ K → slice_count K s ≤ span_len s
slices_few K s some =
    let m = le-mul_of_pos_right (span_len s) some in
    let up : slice_count K s < span_len s + 1 = (div-lt_iff_lt-mul {k = K} {x = span_len s + K - 1} {y = span_len s + 1} (omega (arith, some))).1 (omega (arith, m, add-mul (span_len s) 1 K, some)) in
    omega (arith, up)

pub pass_short : (K i : ℕ) (spans : List Span) → 1 ≤ K → ((j : ℕ) → j < length spans → (span_at spans j).last < 65536) → length (pieces_from K i spans) ≤ 65536 * length spans
pass_short K i [] some low = omega arith
pass_short K i (s ∷ more) some low =
    let few = slices_few K s some in
    let here : s.last < 65536 = low 0 (omega arith) in
    let rest = pass_short K (i + 1) more some (λ j h. low (suc j) (omega (arith, h))) in
    omega (arith, length-append (pieces K i s) (pieces_from K (i + 1) more), length-map-range_with_len (λ k. piece K i s (k * K)) 0 (slice_count K s), few, here, rest)

-- what follows a position, where the next one is known
pub next_step : (K : ℕ) (spans : List Span) (o : Option Position) (p : Position) (q : Option Position) → AreSpans K spans → IsValid K spans p → o ≡ Some p → q ≡ next_of K spans p
    → from_next K spans o ≡ piece_at K spans p ∷ from_next K spans q
next_step K spans o p q ok valid here next =
    ap (from_next K spans) here ∙ from_step K spans p ok valid ∙ ap (λ (x : Option Position). piece_at K spans p ∷ from_next K spans x) (sym next)

-- one turn of counting, where the slice fits into the group before
pub turn_fits : (N ticks left words ticks' left' : ℕ) (p : Piece) (more L : List Piece) (total : ℕ) → L ≡ p ∷ more → words ≡ p.slice.n → words ≤ left → ticks' ≡ ticks → left' ≡ left - words
    → ticks + opened N left L ≡ total → ticks' + opened N left' more ≡ total
turn_fits N ticks left words ticks' left' p more L total e n low t l same =
    let one = opened-fits N left p more L e (omega (arith, n, low)) in
    let two = ap (λ (x : ℕ). opened N x more) (let q : left' ≡ left - p.slice.n = omega (arith, l, n) in q) in
    omega (arith, one, two, same, t)

-- and where it begins one
pub turn_begins : (N ticks left words ticks' left' : ℕ) (p : Piece) (more L : List Piece) (total : ℕ) → L ≡ p ∷ more → words ≡ p.slice.n → left < words → ticks' ≡ ticks + 1 → left' ≡ N - words
    → ticks + opened N left L ≡ total → ticks' + opened N left' more ≡ total
turn_begins N ticks left words ticks' left' p more L total e n low t l same =
    let one = opened-full N left p more L e (omega (arith, n, low)) in
    let two = ap (λ (x : ℕ). opened N x more) (let q : left' ≡ N - p.slice.n = omega (arith, l, n) in q) in
    omega (arith, one, two, same, t)
