-- The first other line is the least place at which two lists of lines differ.
use Rattle.std.proofs.Common.{ℕ, zero, suc, ◌+◌, ◌<◌, ◌≡◌, ◌≢◌, inl, inr, List, [], ◌∷◌, Option, Some, None, option_map, bytes_eq, slice_get, is_some, unwrap_or, refl, sym, ap, ap₂, ◌∙◌, subst, arith}
use Rattle.std.proofs.lemmas.Bool.{false≢true, true≢false, both_ways, cases_Bool}
use Rattle.std.proofs.lemmas.Slice.Eq.{bytes_eq-Decides}
use Rattle.mt_verify.specs.Lines.{first_other}
use Rattle.mt_verify.specs.Laws.{AgreeUpTo, FirstOtherIsLeast, NoOtherWhereEqual}
use Rattle.mt_verify.proofs.Lines.{next, other-none, other-more, other-fewer, other-same, other-here}

none≢some : {X : Type 0} (x : X) → None ≡ Some x → ⊥
none≢some x e = false≢true (ap is_some e)

some≢none : {X : Type 0} (x : X) → Some x ≡ None → ⊥
some≢none x e = true≢false (ap is_some e)

some_is : (i j : ℕ) → Some i ≡ Some j → i ≡ j
some_is i j e = ap (λ (o : Option ℕ). unwrap_or o 0) e

-- a number that is one more
record Next (o : Option ℕ) (i : ℕ) : Type 0 where
  before : ℕ
  is : o ≡ Some before
  more : i ≡ before + 1

next_of : (o : Option ℕ) (i : ℕ) → option_map next o ≡ Some i → Next o i
next_of None i e = absurd (none≢some i e)
next_of (Some j) i e = record { before = j; is = refl; more = sym (some_is (j + 1) i e) }

none_of : (o : Option ℕ) → option_map next o ≡ None → o ≡ None
none_of None e = refl
none_of (Some j) e = absurd (some≢none (j + 1) e)

at_once : (xs ys : List (List ℕ)) (i : ℕ) → Some 1 ≡ Some i → slice_get xs 0 ≢ slice_get ys 0 → (k : ℕ) × (i ≡ k + 1) × AgreeUpTo k xs ys
at_once xs ys i e differ = (0, sym (some_is 1 i e), ((λ k below. absurd (omega (arith, below))), differ))

later : (x y : List ℕ) (xs ys : List (List ℕ)) (k : ℕ) → x ≡ y → AgreeUpTo k xs ys → AgreeUpTo (suc k) (x ∷ xs) (y ∷ ys)
later x y xs ys k same agree = (below, agree.1)
  where
    below : (n : ℕ) → n < suc k → slice_get (x ∷ xs) n ≡ slice_get (y ∷ ys) n
    below zero h = ap (λ (l : List ℕ). Some l) same
    below (suc n) h = agree.0 n (omega (arith, h))

pub least : FirstOtherIsLeast
least [] [] i e = absurd (none≢some i (sym other-none ∙ e))
least [] (y ∷ ys) i e = at_once [] (y ∷ ys) i (sym (other-more y ys) ∙ e) (λ f. none≢some y f)
least (x ∷ xs) [] i e = at_once (x ∷ xs) [] i (sym (other-fewer x xs) ∙ e) (λ f. some≢none x f)
least (x ∷ xs) (y ∷ ys) i e = elim (cases_Bool (bytes_eq x y)) [
  | inl t ↦
      let same = (bytes_eq-Decides x y).0 t in
      let n = next_of (first_other xs ys) i (sym (other-same x xs ys) ∙ ap (λ (l : List ℕ). first_other (x ∷ xs) (l ∷ ys)) same ∙ e) in
      let found = least xs ys n.before n.is in
      (suc found.0, omega (arith, n.more, found.1), later x y xs ys found.0 same found.2)
  | inr f ↦ at_once (x ∷ xs) (y ∷ ys) i (sym (other-here x y xs ys f) ∙ e)
      (λ g. both_ways (bytes_eq x y) f ((bytes_eq-Decides x y).1 (ap (λ (o : Option (List ℕ)). unwrap_or o []) g)))
]

pub other-refl : (xs : List (List ℕ)) → first_other xs xs ≡ None
other-refl [] = other-none
other-refl (x ∷ xs) = other-same x xs xs ∙ ap (option_map next) (other-refl xs)

equal : (xs ys : List (List ℕ)) → first_other xs ys ≡ None → xs ≡ ys
equal [] [] e = refl
equal [] (y ∷ ys) e = absurd (some≢none 1 (sym (other-more y ys) ∙ e))
equal (x ∷ xs) [] e = absurd (some≢none 1 (sym (other-fewer x xs) ∙ e))
equal (x ∷ xs) (y ∷ ys) e = elim (cases_Bool (bytes_eq x y)) [
  | inl t ↦
      let same = (bytes_eq-Decides x y).0 t in
      let rest = none_of (first_other xs ys) (sym (other-same x xs ys) ∙ ap (λ (l : List ℕ). first_other (x ∷ xs) (l ∷ ys)) same ∙ e) in
      ap₂ (λ (l : List ℕ) (ls : List (List ℕ)). l ∷ ls) same (equal xs ys rest)
  | inr f ↦ absurd (some≢none 1 (sym (other-here x y xs ys f) ∙ e))
]

pub none_where_equal : NoOtherWhereEqual
none_where_equal xs ys = (equal xs ys, λ e. subst (λ (zs : List (List ℕ)). first_other xs zs ≡ None) e (other-refl xs))
