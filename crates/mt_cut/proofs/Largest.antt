-- The greatest slice for a wait.
use Rattle.std.proofs.Common.{ℕ, suc, zero, ◌-◌, ◌<◌, ◌≤◌, ◌≡◌, Bool, true, false, cond, leb, List, [], ◌∷◌, Some, None, refl, sym, ap, ◌∙◌, subst, arith, inl, inr}
use Rattle.std.specs.Prelude.{◌⊎◌, All, nat_le}
use Rattle.std.specs.List.{list_all}
use Rattle.std.proofs.lemmas.Bool.Decides.{leb_tells}
use Rattle.std.proofs.lemmas.List.Elements.{All-nil, All-cons, All-head, All-tail}
use Rattle.mt_plan.specs.Plan.{hold_of}
use Rattle.mt_blocks.specs.declared.config.Block.{Block}
use Rattle.mt_blocks.specs.declared.config.ParamSet.{ParamSet}
use Rattle.mt_cut.specs.Atomic.{WaitsAtMost, waits_at_most, IsLargest, HasNoLargest, largest_up_to, largest}

-- ---- the test

abbrev AreLow : (Block → ℕ) → ℕ → List Block → Type 0
AreLow f wait blocks = All (λ b. f b ≤ wait) blocks

low-tells : (f : Block → ℕ) (wait : ℕ) (blocks : List Block)
    → ((list_all (λ b. nat_le (f b) wait) blocks ≡ true) × AreLow f wait blocks) ⊎ ((list_all (λ b. nat_le (f b) wait) blocks ≡ false) × (AreLow f wait blocks → ⊥))
low-tells f wait [] = inl (refl, All-nil (λ (b : Block). f b ≤ wait))
low-tells f wait (x ∷ more) = of (leb_tells (f x) wait) (low-tells f wait more)
  where
    of : ((leb (f x) wait ≡ true) × (f x ≤ wait)) ⊎ ((leb (f x) wait ≡ false) × (wait < f x))
        → ((list_all (λ b. nat_le (f b) wait) more ≡ true) × AreLow f wait more) ⊎ ((list_all (λ b. nat_le (f b) wait) more ≡ false) × (AreLow f wait more → ⊥))
        → ((list_all (λ b. nat_le (f b) wait) (x ∷ more) ≡ true) × AreLow f wait (x ∷ more)) ⊎ ((list_all (λ b. nat_le (f b) wait) (x ∷ more) ≡ false) × (AreLow f wait (x ∷ more) → ⊥))
    of (inl e) (inl r) = inl (rw (e.0, r.0) refl, All-cons (λ (b : Block). f b ≤ wait) x more e.1 r.1)
    of (inl e) (inr r) = inr (rw (e.0, r.0) refl, λ all. r.1 (All-tail (λ (b : Block). f b ≤ wait) x more all))
    of (inr e) r = inr (rw e.0 refl, λ all. let first = All-head (λ (b : Block). f b ≤ wait) x more all in omega (arith, first, e.1))

waits-tell : (set : ParamSet) (wait words : ℕ) → ((waits_at_most set wait words ≡ true) × WaitsAtMost set wait words) ⊎ ((waits_at_most set wait words ≡ false) × (WaitsAtMost set wait words → ⊥))
waits-tell set wait words = low-tells (λ (b : Block). hold_of set.alg b.policy words - 1) wait set.blocks

-- ---- the search

pub largest-yes : (set : ParamSet) (wait words : ℕ) → 1 ≤ words → waits_at_most set wait words ≡ true → largest_up_to words set wait ≡ Some words
unfolding largest_up_to
largest-yes set wait zero some e = absurd (omega (arith, some))
largest-yes set wait (suc words) some e = ap (λ (b : Bool). cond b (Some (suc words)) (largest_up_to words set wait)) e

pub largest-no : (set : ParamSet) (wait words : ℕ) → 1 ≤ words → waits_at_most set wait words ≡ false → largest_up_to words set wait ≡ largest_up_to (words - 1) set wait
unfolding largest_up_to
largest-no set wait zero some e = absurd (omega (arith, some))
largest-no set wait (suc words) some e =
    ap (λ (b : Bool). cond b (Some (suc words)) (largest_up_to words set wait)) e
    ∙ ap (λ (n : ℕ). largest_up_to n set wait) (let q : words ≡ suc words - 1 = omega arith in q)

pub largest-end : (set : ParamSet) (wait : ℕ) → largest_up_to 0 set wait ≡ None
unfolding largest_up_to
largest-end set wait = refl

pub largest-start : (set : ParamSet) (wait : ℕ) → largest set wait ≡ largest_up_to 64 set wait
unfolding largest
largest-start set wait = refl

-- what it finds is the greatest up to there
record IsLargestUpTo (most : ℕ) (set : ParamSet) (wait words : ℕ) : Type 0 where
  some : 1 ≤ words
  small : words ≤ most
  waits : WaitsAtMost set wait words
  most_waits : (more : ℕ) → words < more → more ≤ most → WaitsAtMost set wait more → ⊥

Some-inj : {m n : ℕ} → Some m ≡ Some n → m ≡ n
Some-inj e = cc

pub no-largest : {n : ℕ} → Some n ≡ None → ⊥
no-largest e = cc

found : (most : ℕ) (set : ParamSet) (wait words : ℕ) → largest_up_to most set wait ≡ Some words → IsLargestUpTo most set wait words
unfolding largest_up_to
found zero set wait words e = absurd (no-largest (sym e))
found (suc most) set wait words e = of (waits-tell set wait (suc most)) (found most set wait words) e
  where
    of : ((waits_at_most set wait (suc most) ≡ true) × WaitsAtMost set wait (suc most)) ⊎ ((waits_at_most set wait (suc most) ≡ false) × (WaitsAtMost set wait (suc most) → ⊥))
        → (largest_up_to most set wait ≡ Some words → IsLargestUpTo most set wait words)
        → cond (waits_at_most set wait (suc most)) (Some (suc most)) (largest_up_to most set wait) ≡ Some words → IsLargestUpTo (suc most) set wait words
    of (inl h) next e =
        let is : suc most ≡ words = Some-inj (sym (ap (λ (b : Bool). cond b (Some (suc most)) (largest_up_to most set wait)) h.0) ∙ e) in
        subst (IsLargestUpTo (suc most) set wait) is (record { some = omega arith; small = omega arith; waits = h.1; most_waits = λ more above below w. omega (arith, above, below) })
    of (inr h) next e =
        let r = next (sym (ap (λ (b : Bool). cond b (Some (suc most)) (largest_up_to most set wait)) h.0) ∙ e) in
        record {
          some = r.some;
          small = omega (arith, r.small);
          waits = r.waits;
          most_waits = λ more above below w. elim (leb_tells more most) [
            | inl l ↦ r.most_waits more above l.1 w
            | inr l ↦ h.1 (subst (WaitsAtMost set wait) (let q : more ≡ suc most = omega (arith, l.1, below) in q) w)
          ];
        }

pub largest-is : (set : ParamSet) (wait words : ℕ) → largest set wait ≡ Some words → IsLargest set wait words
largest-is set wait words e =
    let r = found 64 set wait words (sym (largest-start set wait) ∙ e) in
    record { some = r.some; small = r.small; waits = r.waits; largest = r.most_waits }

not-found : (most : ℕ) (set : ParamSet) (wait : ℕ) → largest_up_to most set wait ≡ None → (words : ℕ) → 1 ≤ words → words ≤ most → WaitsAtMost set wait words → ⊥
unfolding largest_up_to
not-found zero set wait e words some small w = omega (arith, some, small)
not-found (suc most) set wait e words some small w = of (waits-tell set wait (suc most)) (not-found most set wait) e
  where
    of : ((waits_at_most set wait (suc most) ≡ true) × WaitsAtMost set wait (suc most)) ⊎ ((waits_at_most set wait (suc most) ≡ false) × (WaitsAtMost set wait (suc most) → ⊥))
        → (largest_up_to most set wait ≡ None → (words : ℕ) → 1 ≤ words → words ≤ most → WaitsAtMost set wait words → ⊥)
        → cond (waits_at_most set wait (suc most)) (Some (suc most)) (largest_up_to most set wait) ≡ None → ⊥
    of (inl h) next e = no-largest (sym (ap (λ (b : Bool). cond b (Some (suc most)) (largest_up_to most set wait)) h.0) ∙ e)
    of (inr h) next e = elim (leb_tells words most) [
      | inl l ↦ next (sym (ap (λ (b : Bool). cond b (Some (suc most)) (largest_up_to most set wait)) h.0) ∙ e) words some l.1 w
      | inr l ↦ h.1 (subst (WaitsAtMost set wait) (let q : words ≡ suc most = omega (arith, l.1, small) in q) w)
    ]

pub largest-none : (set : ParamSet) (wait : ℕ) → largest set wait ≡ None → HasNoLargest set wait
largest-none set wait e = not-found 64 set wait (sym (largest-start set wait) ∙ e)
