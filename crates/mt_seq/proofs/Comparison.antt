-- Flash words compared with their copies, one word more at a time.
use Rattle.std.proofs.Common.{ℕ, zero, suc, add-one, ◌+◌, ◌*◌, ◌<◌, ◌^◌, ◌≡◌, ◌==◌, Bool, true, false, not, List, [], ◌∷◌, ◌++◌, map, length, Option, Some, None, inl, inr, refl, sym, ap, ◌∙◌, arith, length-append}
use Rattle.std.specs.Prelude.{slice_index}
use Rattle.std.specs.Bool.{then_some}
use Rattle.std.specs.Option.{option_or}
use Rattle.std.specs.List.{flat_map, filter, slice_get}
use Rattle.std.proofs.lemmas.Bool.{cases_eq, eq-eqb, ne_eqb}
use Rattle.std.proofs.lemmas.Grind.{flat_map-append}
use Rattle.std.proofs.lemmas.List.{map-append}
use Rattle.std.proofs.lemmas.List.Elements.{filter-append}
use Rattle.mt_plan.specs.Lists.{cells}
use Rattle.mt_port.specs.declared.board.Touch.{Touch}
use Rattle.mt_port.specs.declared.board.Touch.TheVariants as touches
use Rattle.mt_port.specs.Board.{Board, Logs}
use Rattle.mt_port.specs.Inner.Streams.{Logs-nil, Logs-append}
use Rattle.mt_seq.specs.Laws.{EqualsCopy, ComparisonsArePairs, NothingIsFoundWhereAllEqual}
use Rattle.mt_seq.specs.Compare.{comparison, compare_touches, compare_hold}

-- whether the word of a cell differs from its copy
abbrev pub differ : List ℕ → (first copy k : ℕ) → Bool
differ flash first copy k = not (slice_index flash (first + k) == slice_index flash (copy + k))

first-append : {X : Type 0} (xs ys : List X) → slice_get (xs ++ ys) 0 ≡ option_or (slice_get xs 0) (slice_get ys 0)
first-append [] ys = refl
first-append (x ∷ xs) ys = refl

one_cell : (first k : ℕ) (p : ℕ → Bool) (b : Bool) → p k ≡ b → slice_get (map (λ (j : ℕ). first + j) (filter p (k ∷ []))) 0 ≡ then_some b (first + k)
one_cell first k p true e = rw e refl
one_cell first k p false e = rw e refl

-- a comparison of n words on a board that was `a`: the board now, and what the tape has told
pub record Compares (first copy n : ℕ) (a b : Board) (told now : Option (List Touch)) : Type 0 where
  pub state : b ≡ record a { count = a.count + compare_hold n }
  pub tape : Logs told now (compare_touches first copy n)

pub Compares-none : (first copy : ℕ) (a : Board) (told : Option (List Touch)) → Compares first copy 0 a a told told
unfolding compare_hold compare_touches
Compares-none first copy a told = record {
  state = ap (λ (n : ℕ). record a { count = n }) (let e : a.count ≡ a.count + 2 * 0 = omega arith in e);
  tape = Logs-nil told;
}

pub comparison-none : (flash : List ℕ) (first copy : ℕ) → comparison flash first copy 0 ≡ None
unfolding comparison
comparison-none flash first copy = refl

comparison-suc : (flash : List ℕ) (first copy n : ℕ) → comparison flash first copy (suc n) ≡ option_or (comparison flash first copy n) (then_some (differ flash first copy n) (first + n))
unfolding comparison
comparison-suc flash first copy n =
    let p : ℕ → Bool = differ flash first copy in
    let f : ℕ → ℕ = λ k. first + k in
    ap (λ (l : List ℕ). slice_get (map f l) 0) (filter-append p (cells n) (n ∷ []))
    ∙ ap (λ (l : List ℕ). slice_get l 0) (map-append f (filter p (cells n)) (filter p (n ∷ [])))
    ∙ first-append (map f (filter p (cells n))) (map f (filter p (n ∷ [])))
    ∙ ap (option_or (slice_get (map f (filter p (cells n))) 0)) (one_cell first n p (p n) refl)

-- what is found after one cell more
pub found_more : (flash : List ℕ) (first copy n : ℕ) {found here now : Option ℕ} {differs : Bool} → found ≡ comparison flash first copy n → differs ≡ differ flash first copy n
    → here ≡ then_some differs (first + n) → now ≡ option_or found here → now ≡ comparison flash first copy (n + 1)
found_more flash first copy n {found} {here} {now} {differs} e f g h =
    let more = comparison-suc flash first copy n in
    let next : comparison flash first copy (n + 1) ≡ comparison flash first copy (suc n) = ap (comparison flash first copy) (add-one n) in
    cc

touches_more : (first copy n : ℕ) → compare_touches first copy (n + 1) ≡ compare_touches first copy n ++ touches.Flash (first + n) ∷ touches.Flash (copy + n) ∷ []
unfolding compare_touches
touches_more first copy n =
    let f : ℕ → List Touch = λ k. touches.Flash (first + k) ∷ touches.Flash (copy + k) ∷ [] in
    ap (λ (m : ℕ). flat_map f (cells m)) (add-one n) ∙ flat_map-append f (cells n) (n ∷ [])

pub Compares-more : (first copy n : ℕ) {a b c : Board} {ta tb tc : Option (List Touch)} → Compares first copy n a b ta tb
    → c ≡ record b { count = b.count + 2 } → Logs tb tc (touches.Flash (first + n) ∷ touches.Flash (copy + n) ∷ []) → Compares first copy (n + 1) a c ta tc
unfolding compare_hold
Compares-more first copy n {a} {b} {c} {ta} {tb} {tc} done e logs = record {
  state = e ∙ ap (λ (x : Board). record x { count = x.count + 2 }) done.state
      ∙ ap (λ (k : ℕ). record a { count = k }) (let f : a.count + 2 * n + 2 ≡ a.count + 2 * (n + 1) = omega arith in f);
  tape = rw touches_more (Logs-append ta tb tc _ _ done.tape logs);
}

-- there is room for the pair of cell n, where there is room for more
pub pair_fits : (first copy n m : ℕ) {a b : Board} {ta tb : Option (List Touch)} → Compares first copy n a b ta tb → n < m → a.count + compare_hold m < 2 ^ 32 → b.count + 2 < 2 ^ 32
unfolding compare_hold
pair_fits first copy n m {a} {b} done lt room = omega (arith, ap (λ (x : Board). x.count) done.state)

-- ---- laws

pub comparisons_are_pairs : ComparisonsArePairs
unfolding compare_touches compare_hold
comparisons_are_pairs first copy zero = refl
comparisons_are_pairs first copy (suc n) =
    ap length (flat_map-append (pair first copy) (cells n) (n ∷ []))
    ∙ length-append (flat_map (pair first copy) (cells n)) (pair first copy n)
    ∙ (let e : length (flat_map (pair first copy) (cells n)) ≡ 2 * n = comparisons_are_pairs first copy n in omega arith)
  where
    pair : (first copy k : ℕ) → List Touch
    pair first copy k = touches.Flash (first + k) ∷ touches.Flash (copy + k) ∷ []

neither : {X : Type 0} (o p : Option X) → option_or o p ≡ None → (o ≡ None) × (p ≡ None)
neither None p e = (refl, e)
neither (Some x) p e = cc

equal_where : (x y z : ℕ) → then_some (not (x == y)) z ≡ None → x ≡ y
equal_where x y z e =
    elim (cases_eq x y) [
      | inl same ↦ same
      | inr other ↦ (let f : (x == y) ≡ false = ne_eqb _ _ other in let g : Some z ≡ None = rw f at e in cc)
    ]

none_equal : (flash : List ℕ) (first copy n : ℕ) → comparison flash first copy n ≡ None → EqualsCopy flash first copy n
none_equal flash first copy zero e k lt = absurd (omega arith)
none_equal flash first copy (suc n) e k lt =
    let more : (comparison flash first copy n ≡ None) × (then_some (differ flash first copy n) (first + n) ≡ None) =
    neither _ _ (sym (comparison-suc flash first copy n) ∙ e) in
    elim (cases_eq k n) [
      | inl last ↦ rw last (equal_where _ _ _ more.1)
      | inr other ↦ none_equal flash first copy n more.0 k (omega arith)
    ]

equal_none : (flash : List ℕ) (first copy n : ℕ) → EqualsCopy flash first copy n → comparison flash first copy n ≡ None
unfolding comparison
equal_none flash first copy zero all = refl
equal_none flash first copy (suc n) all =
    let before : comparison flash first copy n ≡ None = equal_none flash first copy n (λ k lt. all k (omega arith)) in
    let here : (slice_index flash (first + n) == slice_index flash (copy + n)) ≡ true = eq-eqb _ _ (all n (omega arith)) in
    comparison-suc flash first copy n ∙ ap (λ (o : Option ℕ). option_or o (then_some (differ flash first copy n) (first + n))) before ∙ rw here refl

pub nothing_is_found : NothingIsFoundWhereAllEqual
nothing_is_found flash first copy n = (none_equal flash first copy n, equal_none flash first copy n)
