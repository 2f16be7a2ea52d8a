-- The steps at a base of walk path and of Galpat.
use Rattle.std.proofs.Common.{ℕ, ◌≡◌, ◌+◌, ◌-◌, ◌*◌, ◌/◌, ◌%◌, ◌<◌, ◌≤◌, zero, suc, Bool, List, [], ◌∷◌, ◌++◌, map, length, length-append, refl, arith, ap, ◌∙◌, Some, inl, inr}
use Rattle.std.specs.Prelude.{not, slice_get}
use Rattle.std.specs.List.{flat_map}
use Rattle.std.proofs.lemmas.Bool.{cases_lt}
use Rattle.std.proofs.lemmas.List.{length-map}
use Rattle.mt_plan.specs.declared.algorithm.Step.{Step}
use Rattle.mt_plan.specs.Lists.{cells, others, step, read_act, write_act, walk_base, galpat_base}
use Rattle.mt_plan.specs.Rows.{round_row}
use Rattle.mt_plan.proofs.Items.{in_front, behind, at_map, at_flat, at_cells, length-cells, length-others, others_at, length-pieces}

-- the rows of a round
pub first_row : (v : Bool) (base : ℕ → List Step) (n row : ℕ) → row ≡ 0 → round_row v base n row ≡ map (λ j. step j (write_act v)) (cells n)
first_row v base n row e = rw e

pub later_row : (v : Bool) (base : ℕ → List Step) (n row : ℕ) → 1 ≤ row → round_row v base n row ≡ base (row - 1)
later_row v base n zero h = absurd (omega arith)
later_row v base n (suc i) h = let e : suc i - 1 ≡ i = omega arith in rw e

pub length-writes : (v : Bool) (n : ℕ) → length (map (λ j. step j (write_act v)) (cells n)) ≡ n
length-writes v n = length-map (cells n) (λ (j : ℕ). step j (write_act v)) ∙ length-cells n

pub write_at : (v : Bool) (n i : ℕ) → i < n → slice_get (map (λ j. step j (write_act v)) (cells n)) i ≡ Some (step i (write_act v))
write_at v n i h = at_map (λ j. step j (write_act v)) (cells n) i i (at_cells n i h)

-- ---- walk path

pub length-walk_base : (v : Bool) (n i : ℕ) → i < n → length (walk_base v (cells n) i) ≡ n + 2
length-walk_base v n i h = simp (length-append, length-map) (omega (arith, length-others i n h))

abbrev walk_front : Bool → ℕ → ℕ → List Step
walk_front v n i = (step i (write_act (not v)) ∷ []) ++ map (λ j. step j (read_act v)) (others i (cells n))

length-walk_front : (v : Bool) (n i : ℕ) → i < n → length (walk_front v n i) ≡ n
length-walk_front v n i h = simp (length-map) (omega (arith, length-others i n h))

pub walk_read : (v : Bool) (n base at cell : ℕ) → base < n → 1 ≤ at → at < n → (at - 1 < base → cell ≡ at - 1) → (base ≤ at - 1 → cell ≡ at - 1 + 1) → slice_get (walk_base v (cells n) base) at ≡ Some (step cell (read_act v))
walk_read v n base zero cell h some g before after = absurd (omega arith)
walk_read v n base (suc j) cell h some g before after =
    let e : suc j - 1 ≡ j = omega arith in
    in_front (walk_front v n base) _ (suc j) _
    (at_map (λ k. step k (read_act v)) (others base (cells n)) j cell (others_at base n j cell h g (rw e at before) (rw e at after)))

pub walk_own : (v : Bool) (n base at : ℕ) → base < n → at ≡ n → slice_get (walk_base v (cells n) base) at ≡ Some (step base (read_act (not v)))
walk_own v n base at h e = behind (walk_front v n base) _ 0 at _ (omega (arith, length-walk_front v n base h)) refl

pub walk_back : (v : Bool) (n base at : ℕ) → base < n → at ≡ n + 1 → slice_get (walk_base v (cells n) base) at ≡ Some (step base (write_act v))
walk_back v n base at h e = behind (walk_front v n base) _ 1 at _ (omega (arith, length-walk_front v n base h)) refl

-- ---- Galpat

abbrev pair_on : Bool → ℕ → ℕ → List Step
pair_on v i j = step j (read_act v) ∷ step i (read_act (not v)) ∷ []

abbrev galpat_front : Bool → ℕ → ℕ → List Step
galpat_front v n i = (step i (write_act (not v)) ∷ step i (read_act (not v)) ∷ []) ++ flat_map (pair_on v i) (others i (cells n))

length-pairs : (v : Bool) (i : ℕ) (js : List ℕ) → length (flat_map (pair_on v i) js) ≡ length js * 2
length-pairs v i js = length-pieces (pair_on v i) 2 js (λ j. refl)

length-galpat_front : (v : Bool) (n i : ℕ) → i < n → length (galpat_front v n i) ≡ 2 * n
length-galpat_front v n i h = omega (arith, length-others i n h, length-pairs v i (others i (cells n)))

pub length-galpat_base : (v : Bool) (n i : ℕ) → i < n → length (galpat_base v (cells n) i) ≡ 2 * n + 1
length-galpat_base v n i h = omega (arith, length-append (galpat_front v n i) (step i (write_act v) ∷ []), length-galpat_front v n i h)

-- a place among the pairs
pair_at : (v : Bool) (n base k r at cell : ℕ) (t : Step) → base < n → suc k < n → (k < base → cell ≡ k) → (base ≤ k → cell ≡ k + 1) → slice_get (pair_on v base cell) r ≡ Some t → at ≡ 2 + (k * 2 + r) → slice_get (galpat_base v (cells n) base) at ≡ Some t
pair_at v n base k r at cell t h g before after is e =
    in_front (galpat_front v n base) _ at t
    (behind (step base (write_act (not v)) ∷ step base (read_act (not v)) ∷ []) (flat_map (pair_on v base) (others base (cells n))) (k * 2 + r) at t e
    (at_flat (pair_on v base) 2 (others base (cells n)) k r (k * 2 + r) cell t (λ p y q. refl) (others_at base n k cell h g before after) is refl))

pub galpat_read : (v : Bool) (n base at cell : ℕ) → base < n → 1 ≤ at → at < 2 * n → at % 2 ≡ 0 → (at / 2 - 1 < base → cell ≡ at / 2 - 1) → (base ≤ at / 2 - 1 → cell ≡ at / 2 - 1 + 1) → slice_get (galpat_base v (cells n) base) at ≡ Some (step cell (read_act v))
galpat_read v n base at cell h some g even before after =
    pair_at v n base (at / 2 - 1) 0 at cell (step cell (read_act v)) h (omega arith) before after refl (omega arith)

pub galpat_own : (v : Bool) (n base at : ℕ) → base < n → at < 2 * n → at % 2 ≡ 1 → slice_get (galpat_base v (cells n) base) at ≡ Some (step base (read_act (not v)))
galpat_own v n base at h g odd =
    elim (cases_lt at 2) [
      | inl lt ↦ (let e : at ≡ 1 = omega arith in rw e)
      | inr le ↦ (
          let k : ℕ = at / 2 - 1 in
          let is : at ≡ 2 + (k * 2 + 1) = omega arith in
          elim (cases_lt k base) [
            | inl lt ↦ pair_at v n base k 1 at k (step base (read_act (not v))) h (omega arith) (λ a. refl) (λ a. absurd (omega arith)) refl is
            | inr le ↦ pair_at v n base k 1 at (k + 1) (step base (read_act (not v))) h (omega arith) (λ a. absurd (omega arith)) (λ a. refl) refl is
          ])
    ]

pub galpat_back : (v : Bool) (n base at : ℕ) → base < n → at ≡ 2 * n → slice_get (galpat_base v (cells n) base) at ≡ Some (step base (write_act v))
galpat_back v n base at h e = behind (galpat_front v n base) _ 0 at _ (omega (arith, length-galpat_front v n base h)) refl

-- ---- the rows of a round by their lengths
pub first_len : (v : Bool) (base : ℕ → List Step) (n row : ℕ) → row ≡ 0 → length (round_row v base n row) ≡ n
first_len v base n row e = ap length (first_row v base n row e) ∙ length-writes v n

pub walk_len : (v : Bool) (n row : ℕ) → 1 ≤ row → row < n + 1 → length (round_row v (walk_base v (cells n)) n row) ≡ n + 2
walk_len v n row some h = ap length (later_row v (walk_base v (cells n)) n row some) ∙ length-walk_base v n (row - 1) (omega arith)

pub galpat_len : (v : Bool) (n row : ℕ) → 1 ≤ row → row < n + 1 → length (round_row v (galpat_base v (cells n)) n row) ≡ 2 * n + 1
galpat_len v n row some h = ap length (later_row v (galpat_base v (cells n)) n row some) ∙ length-galpat_base v n (row - 1) (omega arith)
