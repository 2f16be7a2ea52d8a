-- Numbers in a row, filtered.
use Rattle.std.proofs.Common.{ℕ, zero, suc, ◌≡◌, ◌+◌, ◌-◌, ◌≤◌, ◌<◌, Bool, List, [], ◌∷◌, ◌++◌, arith, ap, sym, ◌∙◌}
use Rattle.std.specs.Prelude.{All, filter}
use Rattle.mt_blocks.specs.declared.config.ParamSet.{ParamSet}
use Rattle.mt_unit.specs.Tables.{is_needed, lengths_of}
use Rattle.std.specs.List.{range_with_len}
use Rattle.std.proofs.lemmas.List.Elements.{All-cons, All-filter, All-nil, filter-append}
use Rattle.mt_unit.proofs.Carrying.{in_parts}

-- one number more
pub filter_more : (p : ℕ → Bool) (n : ℕ) → 1 ≤ n → filter p (range_with_len 1 (n - 1)) ++ filter p (n ∷ []) ≡ filter p (range_with_len 1 (n + 1 - 1))
filter_more p n some =
    let next : n - 1 + 1 ≡ n + 1 - 1 = omega (arith, some) in
    let here : 1 + (n - 1) ≡ n = omega (arith, some) in
    ap (λ (k : ℕ). filter p (range_with_len 1 (n - 1)) ++ filter p (k ∷ [])) (sym here)
    ∙ sym (filter-append p (range_with_len 1 (n - 1)) ((1 + (n - 1)) ∷ []))
    ∙ ap (λ (l : List ℕ). filter p l) (sym (in_parts 1 (n - 1) 1))
    ∙ ap (λ (k : ℕ). filter p (range_with_len 1 k)) next

-- numbers in a row are in their range
range_within : (low high a n : ℕ) → low ≤ a → a + n ≤ high → All (λ (k : ℕ). (low ≤ k) × (k < high)) (range_with_len a n)
range_within low high a zero from to = All-nil (λ (k : ℕ). (low ≤ k) × (k < high))
range_within low high a (suc n) from to =
    All-cons (λ (k : ℕ). (low ≤ k) × (k < high)) a (range_with_len (a + 1) n) (omega (arith, from, to), omega (arith, from, to))
    (range_within low high (a + 1) n (omega (arith, from)) (omega (arith, to)))

-- a set's lengths are those of slices
pub lengths_within : (set : ParamSet) → All (λ (n : ℕ). (1 ≤ n) × (n ≤ 64)) (lengths_of set)
lengths_within set = All-filter (is_needed set) (λ (n : ℕ). (1 ≤ n) × (n ≤ 64)) (range_with_len 1 64) (within64 (range_within 1 65 1 64 (omega arith) (omega arith)))
  where
    within64 : All (λ (k : ℕ). (1 ≤ k) × (k < 65)) (range_with_len 1 64) → All (λ (n : ℕ). (1 ≤ n) × (n ≤ 64)) (range_with_len 1 64)
    within64 all k d less = ((all k d less).0, omega (arith, (all k d less).1))
