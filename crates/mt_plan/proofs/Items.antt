-- The item of a list at an index.
use Rattle.std.proofs.Common.{ℕ, ◌≡◌, ◌+◌, ◌*◌, ◌<◌, ◌≤◌, zero, suc, true, false, List, [], ◌∷◌, ◌++◌, map, length, length-append, refl, arith, ap, sym, ◌∙◌, ⊎_elim, inl, inr, Some, append-nil, add-one}
use Rattle.std.specs.Prelude.{◌==◌, not, nat_lt, if◌then◌else◌, slice_get}
use Rattle.std.specs.List.{flat_map}
use Rattle.std.proofs.lemmas.Bool.{eq-eqb, ne_eqb, cases_lt, lt-ltb, le-ltb}
use Rattle.std.proofs.lemmas.Option.{slice_get_within}
use Rattle.std.proofs.lemmas.List.Concat.{flat_map-append}
use Rattle.std.proofs.lemmas.List.{map-append}
use Rattle.std.proofs.lemmas.List.Elements.{filter-append}
use Rattle.mt_plan.specs.Lists.{cells, others}

pub in_front : {X : Type 0} (a b : List X) (i : ℕ) (t : X) → slice_get a i ≡ Some t → slice_get (a ++ b) i ≡ Some t
in_front [] b i t h = cc
in_front (x ∷ a) b zero t h = h
in_front (x ∷ a) b (suc i) t h = in_front a b i t h

pub behind : {X : Type 0} (a b : List X) (i j : ℕ) (t : X) → j ≡ length a + i → slice_get b i ≡ Some t → slice_get (a ++ b) j ≡ Some t
behind [] b i j t e h = let same : j ≡ i = omega arith in rw same h
behind (x ∷ a) b i zero t e h = absurd (omega arith)
behind (x ∷ a) b i (suc j) t e h = let less : j ≡ length a + i = omega arith in behind a b i j t less h

pub at_map : {X Y : Type 0} (f : X → Y) (xs : List X) (i : ℕ) (x : X) → slice_get xs i ≡ Some x → slice_get (map f xs) i ≡ Some (f x)
at_map f [] i x h = cc
at_map f (y ∷ xs) zero x h = let e : y ≡ x = cc in rw e
at_map f (y ∷ xs) (suc i) x h = at_map f xs i x h

-- the pieces before an element have one length
pub at_flat : {X Y : Type 0} (f : X → List Y) (len : ℕ) (xs : List X) (q r j : ℕ) (x : X) (t : Y) →
    ((p : ℕ) (y : X) → slice_get xs p ≡ Some y → length (f y) ≡ len) →
    slice_get xs q ≡ Some x → slice_get (f x) r ≡ Some t → j ≡ q * len + r → slice_get (flat_map f xs) j ≡ Some t
at_flat f len [] q r j x t all h g e = cc
at_flat f len (y ∷ xs) zero r j x t all h g e =
    let same : y ≡ x = cc in
    let at : j ≡ r = omega arith in
    in_front (f y) (flat_map f xs) j t (rw (same, at) g)
at_flat f len (y ∷ xs) (suc q) r j x t all h g e =
    let long : length (f y) ≡ len = all 0 y refl in
    let mult : suc q * len ≡ len + q * len = omega arith in
    behind (f y) (flat_map f xs) (q * len + r) j t (omega arith) (at_flat f len xs q r (q * len + r) x t (λ p z k. all (suc p) z k) h g refl)

pub length-cells : (n : ℕ) → length (cells n) ≡ n
length-cells zero = refl
length-cells (suc n) = length-append (cells n) (n ∷ []) ∙ (let e : length (cells n) ≡ n = length-cells n in omega arith)

pub at_cells : (n i : ℕ) → i < n → slice_get (cells n) i ≡ Some i
at_cells zero i h = absurd (omega arith)
at_cells (suc n) i h =
    ⊎_elim
    (λ below. in_front (cells n) (n ∷ []) i i (at_cells n i below))
    (λ above. let e : i ≡ n = omega arith in
    behind (cells n) (n ∷ []) 0 i i (omega (arith, length-cells n)) (rw e))
    (cases_lt i n)

-- an item of the cells is its index
pub cells_at : (n p x : ℕ) → slice_get (cells n) p ≡ Some x → (x ≡ p) × (p < n)
cells_at n p x h =
    let within : p < n = omega (arith, slice_get_within (cells n) p x h, length-cells n) in
    (cc (at_cells n p within), within)

-- all cells are others of one that is none of them
others_all : (i n : ℕ) → n ≤ i → others i (cells n) ≡ cells n
others_all i zero h = refl
others_all i (suc n) h =
    let e : (n == i) ≡ false = ne_eqb _ _ (λ x. omega arith) in
    filter-append (λ j. not (j == i)) (cells n) (n ∷ []) ∙ rw e (ap (λ (z : List ℕ). z ++ n ∷ []) (others_all i n (omega arith)))

others_more : (i n : ℕ) → i < n → others i (cells (suc n)) ≡ others i (cells n) ++ n ∷ []
others_more i n h =
    let e : (n == i) ≡ false = ne_eqb _ _ (λ x. omega arith) in
    filter-append (λ j. not (j == i)) (cells n) (n ∷ []) ∙ rw e

others_same : (i : ℕ) → others i (cells (suc i)) ≡ cells i
others_same i =
    let e : (i == i) ≡ true = eq-eqb _ _ refl in
    filter-append (λ j. not (j == i)) (cells i) (i ∷ []) ∙ rw (e, append-nil) (others_all i i (omega arith))

pub length-others : (i n : ℕ) → i < n → length (others i (cells n)) + 1 ≡ n
length-others i zero h = absurd (omega arith)
length-others i (suc n) h =
    ⊎_elim
    (λ below. rw (others_more i n below, length-append) (omega (arith, length-others i n below)))
    (λ above. let e : i ≡ n = omega arith in rw (← e, others_same i) (omega (arith, length-cells i)))
    (cases_lt i n)

pub at_others : (i n j : ℕ) → i < n → suc j < n → slice_get (others i (cells n)) j ≡ Some (if nat_lt j i then j else j + 1)
at_others i zero j h g = absurd (omega arith)
at_others i (suc n) j h g =
    ⊎_elim
    (λ below. ⊎_elim
    (λ inner. rw (others_more i n below) (in_front (others i (cells n)) (n ∷ []) j _ (at_others i n j below inner)))
    (λ outer. let e : j + 1 ≡ n = omega arith in
    let f : nat_lt j i ≡ false = le-ltb j i (omega arith) in
    rw (others_more i n below, f) (behind (others i (cells n)) (n ∷ []) 0 j (j + 1) (omega (arith, length-others i n below)) (rw e)))
    (cases_lt (suc j) n))
    (λ above. let e : i ≡ n = omega arith in
    let f : nat_lt j i ≡ true = lt-ltb j i (omega arith) in
    rw (f, ← e, others_same i) (at_cells i j (omega arith)))
    (cases_lt i n)

-- the item at a place of the others
pub others_at : (i n j cell : ℕ) → i < n → suc j < n → (j < i → cell ≡ j) → (i ≤ j → cell ≡ j + 1) → slice_get (others i (cells n)) j ≡ Some cell
others_at i n j cell h g before after =
    elim (cases_lt j i) [
      | inl lt ↦ (let f : nat_lt j i ≡ true = lt-ltb j i lt in let e : cell ≡ j = before lt in rw e (rw f at (at_others i n j h g)))
      | inr le ↦ (let f : nat_lt j i ≡ false = le-ltb j i le in let e : cell ≡ j + 1 = after le in rw e (rw f at (at_others i n j h g)))
    ]

-- pieces of one length
pub length-pieces : {X Y : Type 0} (f : X → List Y) (len : ℕ) (xs : List X) → ((x : X) → length (f x) ≡ len) → length (flat_map f xs) ≡ length xs * len
length-pieces f len [] all = omega arith
length-pieces f len (x ∷ xs) all =
    let m : suc (length xs) * len ≡ len + length xs * len = omega arith in
    omega (arith, length-append (f x) (flat_map f xs), length-pieces f len xs all, all x)

-- ---- pieces one behind another, one for each cell
pub one_more : {X : Type 0} (f : ℕ → List X) (k : ℕ) → flat_map f (cells (suc k)) ≡ flat_map f (cells k) ++ f k
one_more f k = flat_map-append f (cells k) (k ∷ []) ∙ ap (λ l. flat_map f (cells k) ++ l) (append-nil (f k))

pub length-one_more : {X : Type 0} (f : ℕ → List X) (k : ℕ) → length (flat_map f (cells (k + 1))) ≡ length (flat_map f (cells k)) + length (f k)
length-one_more f k = rw add-one (ap length (one_more f k) ∙ length-append (flat_map f (cells k)) (f k))

pub in_piece : {X : Type 0} (f : ℕ → List X) (k m i j : ℕ) (t : X) → m < k → slice_get (f m) i ≡ Some t → j ≡ length (flat_map f (cells m)) + i → slice_get (flat_map f (cells k)) j ≡ Some t
in_piece f zero m i j t h at e = absurd (omega arith)
in_piece f (suc k) m i j t h at e =
    rw (one_more f k)
    (elim (cases_lt m k) [
      | inl lt ↦ in_front (flat_map f (cells k)) (f k) j t (in_piece f k m i j t lt at e)
      | inr le ↦ (let same : k ≡ m = omega arith in behind (flat_map f (cells k)) (f k) i j t (rw same e) (rw same at))
    ])

-- what is inside a piece is inside the whole
pub within_piece : {X : Type 0} (f : ℕ → List X) (k m i : ℕ) → m < k → i < length (f m) → length (flat_map f (cells m)) + i < length (flat_map f (cells k))
within_piece f zero m i h at = absurd (omega arith)
within_piece f (suc k) m i h at =
    let more : length (flat_map f (cells (suc k))) ≡ length (flat_map f (cells k)) + length (f k) = ap length (one_more f k) ∙ length-append (flat_map f (cells k)) (f k) in
    elim (cases_lt m k) [
      | inl lt ↦ omega (arith, within_piece f k m i lt at)
      | inr le ↦ (let same : k ≡ m = omega arith in (let now : i < length (f k) = rw same at in rw (← same) (omega (arith, more, now))))
    ]

-- pieces of one length, one for each cell
pub length-even : {X : Type 0} (f : ℕ → List X) (len k : ℕ) → ((m : ℕ) → m < k → length (f m) ≡ len) → length (flat_map f (cells k)) ≡ k * len
length-even f len zero all = omega arith
length-even f len (suc k) all =
    let m : suc k * len ≡ k * len + len = omega arith in
    omega (arith, ap length (one_more f k), length-append (flat_map f (cells k)) (f k), length-even f len k (λ p h. all p (omega arith)), all k (omega arith))

-- the cells from the front
pub cells_front : (n : ℕ) → cells (suc n) ≡ 0 ∷ map suc (cells n)
cells_front zero = refl
cells_front (suc n) = ap (λ l. l ++ suc n ∷ []) (cells_front n) ∙ ap (λ l. 0 ∷ l) (sym (map-append suc (cells n) (n ∷ [])))
