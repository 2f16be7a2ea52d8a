-- Where an attempt is dropped, and what a comparison tells.
use Rattle.std.proofs.Common.{ℕ, zero, suc, ◌+◌, ◌<◌, ◌≤◌, ◌≡◌, ◌≢◌, ◌==◌, Bool, true, false, List, [], ◌∷◌, map, Option, Some, None, refl, ap, sym, ◌∙◌, arith, inl, inr}
use Rattle.std.specs.Prelude.{not, slice_get, slice_index, if◌then◌else◌}
use mathlib.Core.Bool.{◌&&◌}
use Rattle.std.specs.List.{filter, range_with_len}
use Rattle.std.proofs.lemmas.Bool.{cases_Bool, cases_eq, eq-eqb, eqb-true, ltb-true, lt-ltb}
use Rattle.mt_plan.specs.declared.algorithm.Policy.{Policy}
use Rattle.mt_plan.specs.declared.algorithm.Policy.TheVariants.{NonDestructive, Destructive}
use Rattle.mt_plan.specs.Lists.{cells}
use Rattle.mt_port.specs.Board.{Board}
use Rattle.mt_seq.specs.declared.sequence.Job.{Job}
use Rattle.mt_seq.specs.Attempts.{dropped_at, keeps_words}
use Rattle.mt_seq.specs.Compare.{comparison}
use Rattle.mt_seq.specs.Laws.{AttemptsEndAtTheFirstMoment, ComparisonsFindTheFirst}
use Rattle.mt_seq.proofs.Attempts.{dropped, urgent}
use Rattle.mt_seq.proofs.Moments.{find_first}
use Rattle.mt_seq.proofs.NamedLists.{cells_are}

-- ---- attempts

both_true : (p q : Bool) → p ≡ true → q ≡ true → (p && q) ≡ true
both_true true q e f = f
both_true false q e f = cc

parts : (p q : Bool) → (p && q) ≡ true → (p ≡ true) × (q ≡ true)
parts true q e = (refl, e)
parts false q e = cc

keeping : (policy : Policy) → policy ≡ NonDestructive → keeps_words policy ≡ true
keeping NonDestructive e = refl
keeping Destructive e = cc

moment : (may : Bool) (b : Board) (job : Job) (n i : ℕ) (o : Option ℕ) → may ≡ true → keeps_words job.policy ≡ true → o ≡ Some i → (if may && keeps_words job.policy then o else None) ≡ Some i
moment may b job n i o e f g = ap (λ (t : Bool). if t then o else None) (both_true may (keeps_words job.policy) e f) ∙ g

pub attempts_end : AttemptsEndAtTheFirstMoment
unfolding dropped_at
attempts_end may b job slice i = (
  λ e. (let is = dropped may b job slice i e in record {
    may' = is.may';
    early = both_true (keeps_words job.policy) _ (keeping job.policy is.keeps) (lt-ltb _ _ (omega (arith, is.first.from, is.first.to)));
    some = is.first.from;
    due = is.first.here;
    first = is.first.before;
  }),
  λ is. (let early = parts (keeps_words job.policy) _ is.early in
      moment may b job slice.n i _ is.may' early.0
      (find_first (urgent b) 1 _ i is.some (omega (arith, is.some, ltb-true i _ early.1)) is.first is.due)),
)

-- ---- comparisons

-- the first of a range that passes a test
record IsHead (p : ℕ → Bool) (s n a : ℕ) : Type 0 where
  from : s ≤ a
  to : a < s + n
  here : p a ≡ true
  before : (j : ℕ) → s ≤ j → j < a → p j ≡ false

head_of : (p : ℕ → Bool) (s n a : ℕ) → slice_get (filter p (range_with_len s n)) 0 ≡ Some a → IsHead p s n a
head_of p s zero a e = cc
head_of p s (suc n) a e = elim (cases_Bool (p s)) [
  | inl t ↦ (let now : Some s ≡ Some a = rw t at e in let same : s ≡ a = cc in record { from = omega arith; to = omega arith; here = ap p (sym same) ∙ t; before = λ j g h. absurd (omega arith) })
  | inr f ↦ (let more : IsHead p (s + 1) n a = head_of p (s + 1) n a (rw f at e) in record {
    from = omega (arith, more.from);
    to = omega (arith, more.to);
    here = more.here;
    before = λ j g h. elim (cases_eq s j) [ inl same ↦ ap p (sym same) ∙ f | inr other ↦ more.before j (omega arith) h ];
  })
]

head_map : (f : ℕ → ℕ) (xs : List ℕ) (y : ℕ) → slice_get (map f xs) 0 ≡ Some y → (x : ℕ) × (slice_get xs 0 ≡ Some x) × (f x ≡ y)
head_map f [] y e = cc
head_map f (x ∷ xs) y e = (x, refl, (let same : f x ≡ y = cc in same))

not_equal : (x y : ℕ) → not (x == y) ≡ true → x ≢ y
not_equal x y t e = cc (eq-eqb x y e)

equal : (x y : ℕ) → not (x == y) ≡ false → x ≡ y
equal x y t = eqb-true x y (turn (x == y) t)
  where
    turn : (b : Bool) → not b ≡ false → b ≡ true
    turn true e = refl
    turn false e = cc

pub comparisons_find : ComparisonsFindTheFirst
unfolding comparison
comparisons_find flash first copy n a e =
    let p : ℕ → Bool = λ k. not (slice_index flash (first + k) == slice_index flash (copy + k)) in
    let found = head_map (λ k. first + k) (filter p (cells n)) a e in
    let head : IsHead p 0 n found.0 = head_of p 0 n found.0 (ap (λ (l : List ℕ). slice_get (filter p l) 0) (sym (cells_are n)) ∙ found.1) in
    record {
      cell = found.0;
      here = sym found.2;
      within = omega (arith, head.to);
      differs = not_equal _ _ head.here;
      before = λ k h. equal _ _ (head.before k (omega arith) h);
    }
