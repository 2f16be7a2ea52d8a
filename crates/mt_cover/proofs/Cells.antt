-- The cells of a fault among those of a slice.
use Rattle.std.proofs.Common.{ℕ, ◌≡◌, ◌≢◌, ◌<◌, true, false, List, [], ◌∷◌, ◌++◌, refl, ◌∙◌, inl, inr, ⊎_elim}
use mathlib.Core.Path.{ap₂}
use Rattle.std.specs.Prelude.{◌==◌}
use Rattle.std.specs.List.{flat_map}
use Rattle.std.proofs.lemmas.Bool.{eq-eqb, ne_eqb, cases_eq}
use Rattle.mt_march.specs.declared.march.Element.{Element}
use Rattle.mt_plan.specs.Lists.{cells, march_on}
use Rattle.mt_plan.specs.Kept.{Names}
use Rattle.mt_decoder.specs.BitModel.{part, project}
use Rattle.mt_cover.proofs.Below.{Laws}

pub at_v : (a v n : ℕ) → n ≡ v → part a v n ≡ 1 ∷ []
at_v a v n h = let p : (n == v) ≡ true = eq-eqb _ _ h in rw p

pub at_a : (a v n : ℕ) → n ≢ v → n ≡ a → part a v n ≡ 0 ∷ []
at_a a v n g h = let p : (n == v) ≡ false = ne_eqb _ _ g in let q : (n == a) ≡ true = eq-eqb _ _ h in rw (p, q)

pub off : (a v n : ℕ) → n ≢ v → n ≢ a → part a v n ≡ []
off a v n g h = let p : (n == v) ≡ false = ne_eqb _ _ g in let q : (n == a) ≡ false = ne_eqb _ _ h in rw (p, q)

-- a cell is left out, or has one part
pub part_cases : (a v : ℕ) → Names (part a v)
part_cases a v c =
    ⊎_elim
    (λ is_v. inr (1, at_v a v c is_v))
    (λ not_v. ⊎_elim (λ is_a. inr (0, at_a a v c not_v is_a)) (λ not_a. inl (off a v c not_v not_a)) (cases_eq c a))
    (cases_eq c v)

module _ (laws : Laws) where
  pub project-march : (a v : ℕ) (js : List ℕ) (m : List Element) → project a v (march_on js m) ≡ march_on (flat_map (part a v) js) m
  project-march a v js m = laws.march (part a v) m js (part_cases a v)

  pub one_cell : (v n : ℕ) → v < n → flat_map (part v v) (cells n) ≡ 1 ∷ []
  one_cell v n h = (laws.cells (part v v) n).one v h (λ c ne. off v v c ne ne) ∙ at_v v v v refl

  pub rising : (a v n : ℕ) → a < v → v < n → a ≢ v → flat_map (part a v) (cells n) ≡ 0 ∷ 1 ∷ []
  rising a v n g h ne =
      (laws.cells (part a v) n).two a v g h (λ c not_a not_v. off a v c not_v not_a)
      ∙ ap₂ (λ (x y : List ℕ). x ++ y) (at_a a v a ne refl) (at_v a v v refl)

  pub falling : (a v n : ℕ) → v < a → a < n → a ≢ v → flat_map (part a v) (cells n) ≡ 1 ∷ 0 ∷ []
  falling a v n g h ne =
      (laws.cells (part a v) n).two v a g h (λ c not_v not_a. off a v c not_v not_a)
      ∙ ap₂ (λ (x y : List ℕ). x ++ y) (at_v a v v refl) (at_a a v a ne refl)
