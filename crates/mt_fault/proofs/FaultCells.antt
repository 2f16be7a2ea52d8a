-- The cells of a slice that a fault names.
use Rattle.std.proofs.Common.{ℕ, zero, suc, ◌+◌, ◌-◌, ◌<◌, ◌≤◌, ◌≡◌, ◌≢◌, Bool, true, false, eqb, List, [], ◌∷◌, ◌++◌, None, Some, refl, sym, ap, ◌∙◌, arith, inl, inr}
use mathlib.Core.Bool.{◌||◌}
use Rattle.std.specs.Prelude.{◌⊎◌, nat_le, nat_lt}
use Rattle.std.specs.List.{filter, list_any, range_with_len}
use Rattle.std.proofs.lemmas.Bool.{or_left, or_right, cases_eq, cases_lt, eq-eqb, ne_eqb, lt-ltb, le-ltb, le-leb, lt-leb}
use Rattle.mt_fault.specs.Placement.{addresses}
use Rattle.mt_fault.specs.Projection.{cell_at, cells_of_fault, one_or_two}
use Rattle.mt_fault.specs.declared.fault.Fault.{Fault}

-- no cell passes
miss : (p : ℕ → Bool) (s n : ℕ) → ((c : ℕ) → s ≤ c → c < s + n → p c ≡ false) → filter p (range_with_len s n) ≡ []
miss p s zero out = refl
miss p s (suc n) out = rw (out s (omega arith) (omega arith)) (miss p (s + 1) n (λ c g h. out c (omega arith) (omega arith)))

-- the first cell that passes, and those after it
hit : (p : ℕ → Bool) (s n t : ℕ) (rest : List ℕ) → s ≤ t → t < s + n → ((c : ℕ) → s ≤ c → c < t → p c ≡ false) → p t ≡ true
    → filter p (range_with_len (t + 1) (s + n - (t + 1))) ≡ rest → filter p (range_with_len s n) ≡ t ∷ rest
hit p s zero t rest from to out here e = absurd (omega arith)
hit p s (suc n) t rest from to out here e = elim (cases_eq s t) [
  | inl at ↦ (let left : s + suc n - (t + 1) ≡ n = omega arith in
      let now : p s ≡ true = ap p at ∙ here in
      let after : filter p (range_with_len (s + 1) n) ≡ rest = ap (λ (k : ℕ). filter p (range_with_len (s + 1) k)) (sym left) ∙ ap (λ (k : ℕ). filter p (range_with_len (k + 1) (s + suc n - (t + 1)))) at ∙ e in
      rw now (ap (λ (l : List ℕ). s ∷ l) after ∙ ap (λ (k : ℕ). k ∷ rest) at))
  | inr ne ↦ (let left : s + suc n - (t + 1) ≡ s + 1 + n - (t + 1) = omega arith in
      rw (out s (omega arith) (omega arith))
      (hit p (s + 1) n t rest (omega arith) (omega arith) (λ c g h. out c (omega arith) h) here (ap (λ (k : ℕ). filter p (range_with_len (t + 1) k)) (sym left) ∙ e)))
]

-- A test passes just the cells at two addresses, which may be one.
record Marks (p : ℕ → Bool) (first low high : ℕ) : Type 0 where
  low' : (c : ℕ) → first + c ≡ low → p c ≡ true
  high' : (c : ℕ) → first + c ≡ high → p c ≡ true
  off : (c : ℕ) → first + c ≢ low → first + c ≢ high → p c ≡ false

-- the cell at an address that is one of the slice, or not
inside : (first n a : ℕ) → first ≤ a → a - first < n → cell_at first n a ≡ (a - first) ∷ []
inside first n a from to = let e : nat_le first a ≡ true = le-leb _ _ from in let f : nat_lt (a - first) n ≡ true = lt-ltb _ _ to in rw (e, f) refl

below : (first n a : ℕ) → a < first → cell_at first n a ≡ []
below first n a h = let e : nat_le first a ≡ false = lt-leb _ _ h in rw e refl

above : (first n a : ℕ) → first ≤ a → n ≤ a - first → cell_at first n a ≡ []
above first n a from h = let e : nat_le first a ≡ true = le-leb _ _ from in let f : nat_lt (a - first) n ≡ false = le-ltb _ _ h in rw (e, f) refl

-- from a cell on, where the lower address is passed
upper : (p : ℕ → Bool) (first n s low high : ℕ) → Marks p first low high → s ≤ n → low < high → (low < first + s) → (first + s ≤ high ⊎ high < first)
    → filter p (range_with_len s (n - s)) ≡ cell_at first n high
upper p first n s low high m le lt passed (inr under) =
    miss p s (n - s) (λ c g h. m.off c (λ e. omega arith) (λ e. omega arith)) ∙ sym (below first n high under)
upper p first n s low high m le lt passed (inl from) = elim (cases_lt (high - first) n) [
  | inl to ↦ hit p s (n - s) (high - first) [] (omega arith) (omega arith) (λ c g h. m.off c (λ e. omega arith) (λ e. omega arith)) (m.high' (high - first) (omega arith))
      (miss p (high - first + 1) (s + (n - s) - (high - first + 1)) (λ c g h. m.off c (λ e. omega arith) (λ e. omega arith)))
      ∙ sym (inside first n high (omega arith) to)
  | inr out ↦ miss p s (n - s) (λ c g h. m.off c (λ e. omega arith) (λ e. omega arith)) ∙ sym (above first n high (omega arith) out)
]

from_zero : (p : ℕ → Bool) (n : ℕ) → filter p (range_with_len 0 n) ≡ filter p (range_with_len 0 (n - 0))
from_zero p n = ap (λ (k : ℕ). filter p (range_with_len 0 k)) (let e : n ≡ n - 0 = omega arith in e)

two : (p : ℕ → Bool) (first n low high : ℕ) → low < high → Marks p first low high → filter p (range_with_len 0 n) ≡ cell_at first n low ++ cell_at first n high
two p first n low high lt m = elim (cases_lt low first) [
  | inl under ↦ from_zero p n ∙ upper p first n 0 low high m (omega arith) lt (omega arith) (side first high)
      ∙ ap (λ (l : List ℕ). l ++ cell_at first n high) (sym (below first n low under))
  | inr from ↦ elim (cases_lt (low - first) n) [
    | inl to ↦ hit p 0 n (low - first) (cell_at first n high) (omega arith) (omega arith) (λ c g h. m.off c (λ e. omega arith) (λ e. omega arith)) (m.low' (low - first) (omega arith))
        (ap (λ (k : ℕ). filter p (range_with_len (low - first + 1) k)) (let e : 0 + n - (low - first + 1) ≡ n - (low - first + 1) = omega arith in e)
        ∙ upper p first n (low - first + 1) low high m (omega arith) lt (omega arith) (inl (omega arith)))
        ∙ ap (λ (l : List ℕ). l ++ cell_at first n high) (sym (inside first n low from to))
    | inr out ↦ miss p 0 n (λ c g h. m.off c (λ e. omega arith) (λ e. omega arith))
        ∙ sym (above first n high (omega arith) (omega arith))
        ∙ ap (λ (l : List ℕ). l ++ cell_at first n high) (sym (above first n low from out))
  ]
]
  where
    side : (f h : ℕ) → (f + 0 ≤ h) ⊎ (h < f)
    side f h = elim (cases_lt h f) [ inl x ↦ inr x | inr y ↦ inl (omega arith) ]

one : (p : ℕ → Bool) (first n a : ℕ) → Marks p first a a → filter p (range_with_len 0 n) ≡ cell_at first n a
one p first n a m = elim (cases_lt a first) [
  | inl under ↦ miss p 0 n (λ c g h. m.off c (λ e. omega arith) (λ e. omega arith)) ∙ sym (below first n a under)
  | inr from ↦ elim (cases_lt (a - first) n) [
    | inl to ↦ hit p 0 n (a - first) [] (omega arith) (omega arith) (λ c g h. m.off c (λ e. omega arith) (λ e. omega arith)) (m.low' (a - first) (omega arith))
        (miss p (a - first + 1) (0 + n - (a - first + 1)) (λ c g h. m.off c (λ e. omega arith) (λ e. omega arith)))
        ∙ sym (inside first n a from to)
    | inr out ↦ miss p 0 n (λ c g h. m.off c (λ e. omega arith) (λ e. omega arith)) ∙ sym (above first n a from out)
  ]
]

-- the tests of one address, and of two
marks_one : (first a : ℕ) → Marks (λ c. eqb (first + c) a || false) first a a
marks_one first a = record {
  low' = λ c e. or_left _ _ (eq-eqb _ _ e);
  high' = λ c e. or_left _ _ (eq-eqb _ _ e);
  off = λ c e f. rw (ne_eqb _ _ e) refl;
}

marks_two : (first a b : ℕ) → Marks (λ c. eqb (first + c) a || (eqb (first + c) b || false)) first a b
marks_two first a b = record {
  low' = λ c e. or_left _ _ (eq-eqb _ _ e);
  high' = λ c e. or_right _ _ (or_left _ _ (eq-eqb _ _ e));
  off = λ c e f. rw (ne_eqb _ _ e, ne_eqb _ _ f) refl;
}

turned : (p : ℕ → Bool) (first a b : ℕ) → Marks p first a b → Marks p first b a
turned p first a b m = record { low' = m.high'; high' = m.low'; off = λ c e f. m.off c f e }

-- ---- the cells of a fault, if its addresses are one or two

named : (fault : Fault) (first n : ℕ) (l : List ℕ) → addresses fault ≡ l → cells_of_fault (Some fault) first n ≡ filter (λ c. list_any (λ b. eqb (first + c) b) l) (range_with_len 0 n)
named fault first n l e = ap (λ (k : List ℕ). filter (λ c. list_any (λ b. eqb (first + c) b) k) (range_with_len 0 n)) e

pub cell_of_one : (fault : Fault) (first n a : ℕ) → addresses fault ≡ one_or_two a None → cells_of_fault (Some fault) first n ≡ cell_at first n a
cell_of_one fault first n a e = named fault first n (a ∷ []) e ∙ one (λ c. eqb (first + c) a || false) first n a (marks_one first a)

pub cells_of_two : (fault : Fault) (first n a b : ℕ) → addresses fault ≡ one_or_two a (Some b) → a < b → cells_of_fault (Some fault) first n ≡ cell_at first n a ++ cell_at first n b
cells_of_two fault first n a b e lt = named fault first n (a ∷ b ∷ []) e ∙ two (λ c. eqb (first + c) a || (eqb (first + c) b || false)) first n a b lt (marks_two first a b)

pub cells_of_turned : (fault : Fault) (first n a b : ℕ) → addresses fault ≡ one_or_two a (Some b) → b < a → cells_of_fault (Some fault) first n ≡ cell_at first n b ++ cell_at first n a
cells_of_turned fault first n a b e lt = named fault first n (a ∷ b ∷ []) e ∙ two (λ c. eqb (first + c) a || (eqb (first + c) b || false)) first n b a lt (turned _ first a b (marks_two first a b))

pub cell_of_same : (fault : Fault) (first n a b : ℕ) → addresses fault ≡ one_or_two a (Some b) → b ≡ a → cells_of_fault (Some fault) first n ≡ cell_at first n a
cell_of_same fault first n a b e same =
    named fault first n (a ∷ b ∷ []) e
    ∙ one (λ c. eqb (first + c) a || (eqb (first + c) b || false)) first n a
    (let m = marks_two first a b in record { low' = m.low'; high' = m.low'; off = λ c f g. m.off c f (λ h. f (h ∙ same)) })

pub no_cells : (first n : ℕ) → cells_of_fault None first n ≡ []
no_cells first n = miss (λ c. false) 0 n (λ c g h. refl)
