-- The first moment at which a condition holds.
use Rattle.std.proofs.Common.{ℕ, zero, suc, ◌≡◌, ◌+◌, ◌-◌, ◌<◌, ◌≤◌, Bool, true, false, List, [], ◌∷◌, refl, arith, ap, sym, ◌∙◌, Option, Some, None, inl, inr, ◌⊎◌}
use Rattle.std.specs.Prelude.{find, if◌then◌else◌}
use Rattle.std.specs.List.{range_with_len}
use Rattle.std.proofs.lemmas.Bool.{cases_eq, le-leb, lt-leb}
use Rattle.mt_port.specs.Board.{is_due}

pub find_same : {X : Type 0} (p q : X → Bool) (xs : List X) → ((x : X) → p x ≡ q x) → find p xs ≡ find q xs
find_same p q [] same = refl
find_same p q (x ∷ xs) same = ap (λ (b : Bool). if b then Some x else find p xs) (same x) ∙ ap (λ (o : Option _). if q x then Some x else o) (find_same p q xs same)

pub find_none : (p : ℕ → Bool) (a m : ℕ) → ((j : ℕ) → a ≤ j → j < a + m → p j ≡ false) → find p (range_with_len a m) ≡ None
find_none p a zero out = refl
find_none p a (suc m) out =
    let here : p a ≡ false = out a (omega arith) (omega arith) in
    rw here (find_none p (a + 1) m (λ j f t. out j (omega arith) (omega arith)))

pub find_first : (p : ℕ → Bool) (a m i : ℕ) → a ≤ i → i < a + m → ((j : ℕ) → a ≤ j → j < i → p j ≡ false) → p i ≡ true → find p (range_with_len a m) ≡ Some i
find_first p a zero i from to out is = absurd (omega arith)
find_first p a (suc m) i from to out is =
    elim (cases_eq a i) [
      | inl e ↦ (let here : p a ≡ true = ap p e ∙ is in rw here (ap Some e))
      | inr ne ↦ (let here : p a ≡ false = out a (omega arith) (omega arith) in
          rw here (find_first p (a + 1) m i (omega arith) (omega arith) (λ j f t. out j (omega arith) t) is))
    ]

-- What is found in a range.
pub record IsFirst (p : ℕ → Bool) (a m i : ℕ) : Type 0 where
  pub from : a ≤ i
  pub to : i < a + m
  pub before : (j : ℕ) → a ≤ j → j < i → p j ≡ false
  pub here : p i ≡ true

either : (b : Bool) → (b ≡ true) ⊎ (b ≡ false)
either true = inl refl
either false = inr refl

pub found : (p : ℕ → Bool) (a m i : ℕ) → find p (range_with_len a m) ≡ Some i → IsFirst p a m i
found p a zero i e = cc
found p a (suc m) i e =
    elim (either (p a)) [
      | inl yes' ↦ (let same : a ≡ i = cc (rw yes' at e) in record { from = omega arith; to = omega arith; before = λ j f t. absurd (omega arith); here = ap p (sym same) ∙ yes' })
      | inr not' ↦ (let more : IsFirst p (a + 1) m i = found p (a + 1) m i (rw not' at e) in record {
        from = omega (arith, more.from);
        to = omega (arith, more.to);
        before = λ j f t. elim (cases_eq a j) [ inl same ↦ ap p (sym same) ∙ not' | inr other ↦ more.before j (omega arith) t ];
        here = more.here;
      })
    ]

pub not_found : (p : ℕ → Bool) (a m : ℕ) → find p (range_with_len a m) ≡ None → (j : ℕ) → a ≤ j → j < a + m → p j ≡ false
not_found p a zero e j from to = absurd (omega arith)
not_found p a (suc m) e j from to =
    elim (either (p a)) [
      | inl yes' ↦ (let no' : Some a ≡ None = rw yes' at e in cc)
      | inr not' ↦ elim (cases_eq a j) [ inl same ↦ ap p (sym same) ∙ not' | inr other ↦ not_found p (a + 1) m (rw not' at e) j (omega arith) (omega arith) ]
    ]

-- ---- the first moment at which an offset is reached

abbrev pub reached : ℕ → Option ℕ → ℕ → Bool
reached count offset i = is_due (count + i) offset

pub moment_none : (count end : ℕ) (offset : Option ℕ) → offset ≡ None → find (reached count offset) (range_with_len 1 (end - 1)) ≡ None
moment_none count end offset e = find_none (reached count offset) 1 (end - 1) (λ j f t. ap (λ (o : Option ℕ). reached count o j) e)

early : (count offset moment j : ℕ) (o : Option ℕ) → o ≡ Some offset → (count + moment ≤ offset) ⊎ (moment ≤ 1) → 1 ≤ j → j < moment → reached count o j ≡ false
early count offset moment j o e least from to =
    ap (λ (x : Option ℕ). reached count x j) e ∙ elim least [ inl far ↦ lt-leb offset (count + j) (omega arith) | inr near ↦ absurd (omega arith) ]

pub moment_some : (count offset end moment : ℕ) (o : Option ℕ) → o ≡ Some offset → 1 ≤ moment → moment < end → offset ≤ count + moment → (count + moment ≤ offset) ⊎ (moment ≤ 1)
    → find (reached count o) (range_with_len 1 (end - 1)) ≡ Some moment
moment_some count offset end moment o e some within due least =
    find_first (reached count o) 1 (end - 1) moment some (omega arith) (λ j f t. early count offset moment j o e least f t)
    (ap (λ (x : Option ℕ). reached count x moment) e ∙ le-leb offset (count + moment) due)

pub moment_late : (count offset end moment : ℕ) (o : Option ℕ) → o ≡ Some offset → 1 ≤ moment → end ≤ moment → 1 ≤ end → (count + moment ≤ offset) ⊎ (moment ≤ 1)
    → find (reached count o) (range_with_len 1 (end - 1)) ≡ None
moment_late count offset end moment o e some late one least =
    find_none (reached count o) 1 (end - 1) (λ j f t. early count offset moment j o e least f (omega arith))
