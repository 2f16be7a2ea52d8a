-- Lists that rise.
use Rattle.std.proofs.Common.{ℕ, zero, suc, ◌+◌, ◌<◌, List, [], ◌∷◌, ◌++◌, map, length, get_or, refl, subst, arith, inl, inr}
use Rattle.std.specs.Prelude.{AllPairs}
use Rattle.std.specs.List.{flat_map, range_with_len}
use Rattle.mt_locate.proofs.CellReads.{Has}
use Rattle.mt_locate.proofs.Members.{split, of_map, of_flat_map, of_range}

-- ---- lists that rise

abbrev pub Rises : {X : Type 0} → (X → X → Type 0) → List X → Type 0
Rises R [] = Unit {0}
Rises R (x ∷ xs) = ((y : _) → Has xs y → R x y) × Rises R xs

append : {X : Type 0} (R : X → X → Type 0) (xs ys : List X) → Rises R xs → Rises R ys → ((x y : X) → Has xs x → Has ys y → R x y) → Rises R (xs ++ ys)
append R [] ys p q less = q
append R (x ∷ xs) ys p q less = (λ y h. elim (split xs ys y h) [ inl a ↦ p.0 y a | inr b ↦ less x y (inl refl) b ], append R xs ys p.1 q (λ a b g h. less a b (inr g) h))

pub mapped : {X Y : Type 0} (R : X → X → Type 0) (S : Y → Y → Type 0) (f : X → Y) (xs : List X) → ((x y : X) → R x y → S (f x) (f y)) → Rises R xs → Rises S (map f xs)
mapped R S f [] less p = tt
mapped R S f (x ∷ xs) less p = (
  λ y h. let r = of_map f xs y h in subst (S (f x)) r.2 (less x r.0 (p.0 r.0 r.1)),
  mapped R S f xs less p.1,
)

pub flattened : {X Y : Type 0} (R : X → X → Type 0) (S : Y → Y → Type 0) (f : X → List Y) (xs : List X) → ((x : X) → Rises S (f x)) → ((x y : X) → R x y → (a b : Y) → Has (f x) a → Has (f y) b → S a b)
    → Rises R xs → Rises S (flat_map f xs)
flattened R S f [] each less p = tt
flattened R S f (x ∷ xs) each less p =
    append S (f x) (flat_map f xs) (each x) (flattened R S f xs each less p.1)
    (λ a b g h. let r = of_flat_map f xs b h in less x r.0 (p.0 r.0 r.1) a b g r.2)

has_get : {X : Type 0} (xs : List X) (k : ℕ) (d : X) → k < length xs → Has xs (get_or xs k d)
has_get [] k d l = absurd (omega (arith, l))
has_get (x ∷ xs) zero d l = inl refl
has_get (x ∷ xs) (suc k) d l = inr (has_get xs k d (omega (arith, l)))

pub pairs : {X : Type 0} (R : X → X → Type 0) (xs : List X) → Rises R xs → AllPairs R xs
pairs R [] p i j d less l = absurd (omega (arith, l))
pairs R (x ∷ xs) p i zero d less l = absurd (omega (arith, less))
pairs R (x ∷ xs) p zero (suc j) d less l = p.0 (get_or xs j d) (has_get xs j d (omega (arith, l)))
pairs R (x ∷ xs) p (suc i) (suc j) d less l = pairs R xs p.1 i j d (omega (arith, less)) (omega (arith, l))

abbrev pub Less : ℕ → ℕ → Type 0
Less a b = a < b

pub range_rises : (a n : ℕ) → Rises Less (range_with_len a n)
range_rises a zero = tt
range_rises a (suc n) = (λ y h. let r = of_range (a + 1) n y h in let l = r.0 in omega (arith, l), range_rises (a + 1) n)
