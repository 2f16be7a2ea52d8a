-- The faults of a kind, place after place.
use Rattle.std.proofs.Common.{◌≡◌, ℕ, zero, suc, ◌+◌, ◌*◌, ◌/◌, ◌%◌, ◌<◌, ◌≤◌, List, [], ◌∷◌, ◌++◌, refl, sym, ap, ◌∙◌, arith, append-nil}
use Rattle.std.specs.List.{flat_map, range_with_len}
use Rattle.std.proofs.Math.Nat.{mod-eq-sub-div-mul}
use Rattle.std.proofs.lemmas.Nat.{div-mul-add}
use Rattle.std.proofs.lemmas.List.Folds.{flat_map-map}
use Rattle.std.proofs.lemmas.Grind.{flat_map-append}
use Rattle.mt_word.specs.declared.Width.{Width}
use Rattle.mt_fault.specs.declared.fault.Spot.{Spot}
use Rattle.mt_locate.specs.declared.kinds.Kind.{Kind}
use Rattle.mt_locate.specs.declared.kinds.Kind.TheVariants as kind
use Rattle.mt_locate.specs.Listed.{spot_at, spots, on_bit, coupled, crossed, all_seen, of_kind}
use Rattle.mt_locate.specs.Inner.Places.{bits_of, places, faults_at}

-- ---- lists of lists

-- what is the same for each number of a range, and of the same range further up
shifted : {X : Type 0} (f g : ℕ → List X) (by s k : ℕ) → ((j : ℕ) → s ≤ j → j < s + k → f (by + j) ≡ g j)
    → flat_map f (range_with_len (by + s) k) ≡ flat_map g (range_with_len s k)
shifted f g by s zero same = refl
shifted f g by s (suc k) same =
    let up : by + s + 1 ≡ by + (s + 1) = omega arith in
    ap (λ (l : List _). l ++ flat_map f (range_with_len (by + s + 1) k)) (same s (omega arith) (omega arith))
    ∙ ap (λ (a : ℕ). g s ++ flat_map f (range_with_len a k)) up
    ∙ ap (λ (l : List _). g s ++ l) (shifted f g by (s + 1) k (λ j h l. same j (omega (arith, h)) (omega (arith, l))))

alike : {X : Type 0} (f g : ℕ → List X) (s k : ℕ) → ((j : ℕ) → s ≤ j → j < s + k → f j ≡ g j) → flat_map f (range_with_len s k) ≡ flat_map g (range_with_len s k)
alike f g s zero same = refl
alike f g s (suc k) same =
    ap (λ (l : List _). l ++ flat_map f (range_with_len (s + 1) k)) (same s (omega arith) (omega arith))
    ∙ ap (λ (l : List _). g s ++ l) (alike f g (s + 1) k (λ j h l. same j (omega (arith, h)) (omega (arith, l))))

range_more : (s m k : ℕ) → range_with_len s (m + k) ≡ range_with_len s m ++ range_with_len (s + m) k
range_more s zero k = (let e : 0 + k ≡ k = omega arith in ap (range_with_len s) e) ∙ (let f : s ≡ s + 0 = omega arith in ap (λ (a : ℕ). range_with_len a k) f)
range_more s (suc m) k =
    (let e : suc m + k ≡ suc (m + k) = omega arith in ap (range_with_len s) e)
    ∙ ap (λ (l : List ℕ). s ∷ l) (range_more (s + 1) m k ∙ (let f : s + 1 + m ≡ s + suc m = omega arith in ap (λ (a : ℕ). range_with_len (s + 1) m ++ range_with_len a k) f))

pub rest_of : (m c j : ℕ) → j < c → (m * c + j) % c ≡ j
rest_of m c j l =
    let e : (m * c + j) / c * c ≡ m * c = ap (λ (q : ℕ). q * c) (div-mul-add m c j l) in
    mod-eq-sub-div-mul (m * c + j) c ∙ omega (arith, e)

-- two numbers of a row as one
pub pairs : {X : Type 0} (f : ℕ → ℕ → List X) (c m : ℕ)
    → flat_map (λ a. flat_map (f a) (range_with_len 0 c)) (range_with_len 0 m) ≡ flat_map (λ k. f (k / c) (k % c)) (range_with_len 0 (m * c))
pairs f c zero = let e : 0 * c ≡ 0 = omega arith in ap (λ (k : ℕ). flat_map (λ k. f (k / c) (k % c)) (range_with_len 0 k)) (sym e)
pairs f c (suc m) =
    let one : suc m ≡ m + 1 = omega arith in
    let all : suc m * c ≡ m * c + c = omega arith in
    let row : List ℕ = range_with_len 0 c in
    let at : ℕ → List _ = λ k. f (k / c) (k % c) in
    ap (λ (k : ℕ). flat_map (λ a. flat_map (f a) row) (range_with_len 0 k)) one
    ∙ ap (flat_map (λ a. flat_map (f a) row)) (range_more 0 m 1)
    ∙ flat_map-append (λ a. flat_map (f a) row) (range_with_len 0 m) (range_with_len (0 + m) 1)
    ∙ ap (λ (l : List _). l ++ (flat_map (f (0 + m)) row ++ [])) (pairs f c m)
    ∙ ap (λ (l : List _). flat_map at (range_with_len 0 (m * c)) ++ l) (append-nil (flat_map (f (0 + m)) row) ∙ last m)
    ∙ sym (flat_map-append at (range_with_len 0 (m * c)) (range_with_len (0 + m * c) c))
    ∙ ap (flat_map at) (sym (range_more 0 (m * c) c))
    ∙ ap (λ (k : ℕ). flat_map at (range_with_len 0 k)) (sym all)
  where
    last : (m : ℕ) → flat_map (f (0 + m)) (range_with_len 0 c) ≡ flat_map (λ k. f (k / c) (k % c)) (range_with_len (0 + m * c) c)
    last m =
        (let e : 0 + m ≡ m = omega arith in ap (λ (a : ℕ). flat_map (f a) (range_with_len 0 c)) e)
        ∙ sym (shifted (λ k. f (k / c) (k % c)) (f m) (m * c) 0 c (λ j h l. let j_in : j < c = omega (arith, l) in
        ap (λ (q : ℕ). f q ((m * c + j) % c)) (div-mul-add m c j j_in) ∙ ap (f m) (rest_of m c j j_in)))
        ∙ (let g : m * c + 0 ≡ 0 + m * c = omega arith in ap (λ (a : ℕ). flat_map (λ k. f (k / c) (k % c)) (range_with_len a c)) g)

-- numbers from another one on
from_zero : {X : Type 0} (f : ℕ → List X) (first n : ℕ) → flat_map f (range_with_len first n) ≡ flat_map (λ i. f (first + i)) (range_with_len 0 n)
from_zero f first n =
    (let e : first ≡ first + 0 = omega arith in ap (λ (a : ℕ). flat_map f (range_with_len a n)) e)
    ∙ shifted f (λ i. f (first + i)) first 0 n (λ j h l. refl)

-- ---- the kinds

of_spots : {X : Type 0} (f : Spot → List X) (width : Width) (first n : ℕ) → flat_map f (spots width first n) ≡ flat_map (λ k. f (spot_at width first k)) (range_with_len 0 (bits_of width n))
of_spots f width first n = flat_map-map f (spot_at width first) (range_with_len 0 (bits_of width n))

pub row : (width : Width) (first n : ℕ) (k : Kind) → of_kind width first n k ≡ flat_map (faults_at width first n k) (range_with_len 0 (places width n k))
unfolding of_kind
row width first n (kind.OfBit k) = of_spots (on_bit k) width first n
row width first n (kind.Coupling k) =
    let bits : ℕ = bits_of width n in
    of_spots (λ agg. flat_map (coupled k agg) (spots width first n)) width first n
    ∙ alike _ (λ a. flat_map (λ v. coupled k (spot_at width first a) (spot_at width first v)) (range_with_len 0 bits)) 0 bits (λ a h l. of_spots (coupled k (spot_at width first a)) width first n)
    ∙ pairs (λ a v. coupled k (spot_at width first a) (spot_at width first v)) bits bits
row width first n kind.NoCell = from_zero (all_seen width) first n
row width first n (kind.OfCells k) =
    from_zero (λ addr. flat_map (crossed k addr) (range_with_len first n)) first n
    ∙ alike _ (λ a. flat_map (λ b. crossed k (first + a) (first + b)) (range_with_len 0 n)) 0 n (λ a h l. from_zero (crossed k (first + a)) first n)
    ∙ pairs (λ a b. crossed k (first + a) (first + b)) n n
