-- A march on some of the cells.
use Rattle.std.proofs.Common.{ℕ, ◌≡◌, ◌<◌, zero, suc, List, [], ◌∷◌, ◌++◌, map, refl, arith, ap, sym, ◌∙◌, ⊎_elim}
use mathlib.Core.List.{reverse, reverse-cons, reverse-append, append-nil}
use Rattle.std.specs.Prelude.{◌≢◌}
use Rattle.std.specs.List.{flat_map}
use Rattle.std.proofs.lemmas.List.Concat.{flat_map-append}
use Rattle.std.proofs.lemmas.Bool.{cases_eq}
use Rattle.mt_march.specs.declared.march.Order.{Order}
use Rattle.mt_march.specs.declared.march.Order.TheVariants.{Up, Down, Either}
use Rattle.mt_march.specs.declared.march.Op.{Op}
use Rattle.mt_march.specs.declared.march.Element.{Element}
use Rattle.mt_plan.specs.Lists.{step, act_of, cells, in_order, element_on, march_on}
use Rattle.mt_plan.specs.Kept.{Names, kept, MarchOnKeptCells, KeptCells}

flat_map-flat_map : {X Y Z : Type 0} (f : Y → List Z) (g : X → List Y) (xs : List X) → flat_map f (flat_map g xs) ≡ flat_map (λ x. flat_map f (g x)) xs
flat_map-flat_map f g [] = refl
flat_map-flat_map f g (x ∷ xs) = flat_map-append f (g x) (flat_map g xs) ∙ ap (λ z. flat_map f (g x) ++ z) (flat_map-flat_map f g xs)

flat_map-same : {X Y : Type 0} (f g : X → List Y) (xs : List X) → ((x : X) → f x ≡ g x) → flat_map f xs ≡ flat_map g xs
flat_map-same f g [] h = refl
flat_map-same f g (x ∷ xs) h = ap (λ z. z ++ flat_map f xs) (h x) ∙ ap (λ z. g x ++ z) (flat_map-same f g xs h)

module _ (pk : ℕ → List ℕ) (cases : Names pk) where
  none_ops : (c : ℕ) (ops : List Op) → pk c ≡ [] → kept pk (map (λ o. step c (act_of o)) ops) ≡ []
  none_ops c [] p = refl
  none_ops c (o ∷ ops) p = rw p (none_ops c ops p)

  one_ops : (c d : ℕ) (ops : List Op) → pk c ≡ d ∷ [] → kept pk (map (λ o. step c (act_of o)) ops) ≡ map (λ o. step d (act_of o)) ops
  one_ops c d [] p = refl
  one_ops c d (o ∷ ops) p = rw p (ap (λ l. step d (act_of o) ∷ l) (one_ops c d ops p))

  kept-ops : (c : ℕ) (ops : List Op) → kept pk (map (λ o. step c (act_of o)) ops) ≡ flat_map (λ d. map (λ o. step d (act_of o)) ops) (pk c)
  kept-ops c ops =
      ⊎_elim
      (λ p. rw p (none_ops c ops p))
      (λ q. rw q.1 (one_ops c q.0 ops q.1 ∙ sym (append-nil _)))
      (cases c)

  reverse_pk : (c : ℕ) → reverse (pk c) ≡ pk c
  reverse_pk c = ⊎_elim (λ p. rw p) (λ q. rw q.1) (cases c)

  pk-reverse : (js : List ℕ) → flat_map pk (reverse js) ≡ reverse (flat_map pk js)
  pk-reverse [] = refl
  pk-reverse (j ∷ js) =
      rw reverse-cons (flat_map-append pk (reverse js) (j ∷ [])
      ∙ ap (λ z. z ++ (pk j ++ [])) (pk-reverse js)
      ∙ ap (λ z. reverse (flat_map pk js) ++ z) (append-nil _ ∙ sym (reverse_pk j))
      ∙ sym (reverse-append (pk j) (flat_map pk js)))

  pk-in_order : (o : Order) (js : List ℕ) → flat_map pk (in_order o js) ≡ in_order o (flat_map pk js)
  pk-in_order Up js = refl
  pk-in_order Down js = pk-reverse js
  pk-in_order Either js = refl

  kept-element : (js : List ℕ) (e : Element) → kept pk (element_on js e) ≡ element_on (flat_map pk js) e
  kept-element js e =
      flat_map-flat_map _ _ (in_order e.order js)
      ∙ flat_map-same _ _ (in_order e.order js) (λ c. kept-ops c e.ops.items)
      ∙ sym (flat_map-flat_map (λ d. map (λ o. step d (act_of o)) e.ops.items) pk (in_order e.order js))
      ∙ ap (λ ds. flat_map (λ d. map (λ o. step d (act_of o)) e.ops.items) ds) (pk-in_order e.order js)

  kept-march : (js : List ℕ) (m : List Element) → kept pk (march_on js m) ≡ march_on (flat_map pk js) m
  kept-march js m = flat_map-flat_map _ (element_on js) m ∙ flat_map-same _ _ m (kept-element js)

pub march_on_kept : MarchOnKeptCells
march_on_kept names march js are = kept-march names are js march

-- ---- one cell or two

module _ (names : ℕ → List ℕ) where
  -- one more cell
  last : (n : ℕ) (l r : List ℕ) → flat_map names (cells n) ≡ l → names n ≡ r → flat_map names (cells (suc n)) ≡ l ++ r
  last n l r p q = flat_map-append names (cells n) (n ∷ []) ∙ rw (p, q, append-nil)

  none_kept : (n : ℕ) → ((c : ℕ) → c < n → names c ≡ []) → flat_map names (cells n) ≡ []
  none_kept zero out = refl
  none_kept (suc n) out = last n [] [] (none_kept n (λ c h. out c (omega arith))) (out n (omega arith))

  -- a kept cell, and none behind it
  kept_last : (a n : ℕ) (l : List ℕ) → flat_map names (cells a) ≡ l → a < n → ((c : ℕ) → a < c → c < n → names c ≡ []) → flat_map names (cells n) ≡ l ++ names a
  kept_last a zero l p h out = absurd (omega arith)
  kept_last a (suc n) l p h out =
      ⊎_elim
      (λ at. let e : n ≡ a = at in rw e (last a l (names a) p refl))
      (λ off. last n (l ++ names a) [] (kept_last a n l p (omega arith) (λ c g k. out c g (omega arith))) (out n (omega arith) (omega arith)) ∙ append-nil (l ++ names a))
      (cases_eq n a)

  one_kept : (a n : ℕ) → a < n → ((c : ℕ) → c ≢ a → names c ≡ []) → flat_map names (cells n) ≡ names a
  one_kept a n h out = kept_last a n [] (none_kept a (λ c g. out c (λ e. omega arith))) h (λ c g k. out c (λ e. omega arith))

  two_kept : (a b n : ℕ) → a < b → b < n → ((c : ℕ) → c ≢ a → c ≢ b → names c ≡ []) → flat_map names (cells n) ≡ names a ++ names b
  two_kept a b n g h out =
      kept_last b n (names a)
      (kept_last a b [] (none_kept a (λ c k. out c (λ e. omega arith) (λ e. omega arith))) g (λ c k m. out c (λ e. omega arith) (λ e. omega arith)))
      h (λ c k m. out c (λ e. omega arith) (λ e. omega arith))

pub kept_cells : KeptCells
kept_cells names n = record { one = λ a. one_kept names a n; two = λ a b. two_kept names a b n }
