-- The longest runs stay ahead of every cut: after as many runs they have covered at least as many slices.
use Rattle.std.proofs.Common.{ℕ, suc, zero, ◌+◌, ◌-◌, ◌≤◌, ◌≡◌, List, [], ◌∷◌, take, drop, length, refl, sym, ap, ◌∙◌, subst, arith, inl, inr}
use Rattle.std.specs.Prelude.{◌⊎◌, sum, All}
use Rattle.std.proofs.lemmas.Bool.Decides.{leb_tells}
use Rattle.std.proofs.lemmas.List.{length-drop}
use Rattle.mt_cut.specs.Cuts.{longest, longest_runs_up_to, longest_runs, IsLeast}
use Rattle.mt_cut.proofs.Greedy.{sum-cons, longest-fits, longest-full, longest-covers, Under, under-all, longest_runs-under}

drop-drop : (a b : ℕ) (xs : List ℕ) → drop a (drop b xs) ≡ drop (a + b) xs
drop-drop a zero xs = ap (λ (n : ℕ). drop n xs) (let e : a ≡ a + zero = omega arith in e)
drop-drop a (suc b) [] = none a ∙ sym (none (a + suc b))
  where
    none : (n : ℕ) → ◌≡◌ {A = List ℕ} (drop n []) []
    none zero = refl
    none (suc n) = refl
drop-drop a (suc b) (x ∷ xs) = drop-drop a b xs ∙ ap (λ (n : ℕ). drop n (x ∷ xs)) (let e : suc (a + b) ≡ a + suc b = omega arith in e)

-- a part of a run has no more accesses than the run
sum-part : (k m : ℕ) (xs : List ℕ) → sum (take m (drop k xs)) ≤ sum (take (k + m) xs)
sum-part zero m xs = let e = ap (λ (n : ℕ). sum (take n xs)) (let q : m ≡ zero + m = omega arith in q) in omega (arith, e)
sum-part (suc k) zero [] = omega arith
sum-part (suc k) (suc m) [] = omega arith
sum-part (suc k) m (x ∷ xs) =
    let next = sum-part k m xs in
    let e = ap (λ (n : ℕ). sum (take n (x ∷ xs))) (let q : suc k + m ≡ suc (k + m) = omega arith in q) in
    omega (arith, next, e, sum-cons x (take (k + m) xs))

-- where a cut's first run ends, the longest run from behind k slices has ended or goes on
reaches : (budget n k : ℕ) (holds : List ℕ) → n ≤ length holds → sum (take n holds) ≤ budget → n ≤ longest budget (drop k holds) + k
reaches budget n k holds there within = of (later n k)
  where
    later : (n k : ℕ) → (n ≤ k) ⊎ ((m : ℕ) × (k + m ≡ n))
    later n zero = inr (n, omega arith)
    later zero (suc k) = inl (omega arith)
    later (suc n) (suc k) = elim (later n k) [ inl h ↦ inl (omega (arith, h)) | inr h ↦ inr (h.0, omega (arith, h.1)) ]

    of : (n ≤ k) ⊎ ((m : ℕ) × (k + m ≡ n)) → n ≤ longest budget (drop k holds) + k
    of (inl h) = omega (arith, h)
    of (inr h) =
        let part = sum-part k h.0 holds in
        let same = ap (λ (x : ℕ). sum (take x holds)) h.1 in
        let more = longest-covers budget (drop k holds) h.0 (omega (arith, length-drop k holds, there, h.1)) (omega (arith, part, same, within)) in
        omega (arith, more, h.1)

longest-most : (budget hold : ℕ) (more : List ℕ) → longest budget (hold ∷ more) ≤ suc (longest (budget - hold) more)
longest-most budget hold more = elim (leb_tells hold budget) [
  | inl h ↦ omega (arith, longest-fits budget hold more h.1)
  | inr h ↦ omega (arith, longest-full budget hold more h.1)
]

-- no cut under the budget has fewer runs than the longest runs from k slices further on
ahead : (budget : ℕ) (cut : List ℕ) (most : ℕ) (holds : List ℕ) (k : ℕ) → sum cut ≡ length holds → Under budget cut holds
    → length (longest_runs_up_to most budget (drop k holds)) ≤ length cut
ahead budget [] most [] k whole under =
    let none = ap (λ (l : List ℕ). length (longest_runs_up_to most budget l)) (drop-none k) in
    omega (arith, none, nothing most)
  where
    nothing : (most : ℕ) → length (longest_runs_up_to most budget []) ≡ 0
    nothing zero = refl
    nothing (suc most) = refl

    drop-none : (k : ℕ) → ◌≡◌ {A = List ℕ} (drop k []) []
    drop-none zero = refl
    drop-none (suc k) = refl
ahead budget [] most (hold ∷ more) k whole under = absurd (omega (arith, whole))
ahead budget (n ∷ cut) zero holds k whole under = omega arith
ahead budget (n ∷ cut) (suc most) holds k whole under = of (λ j w. ahead budget cut most (drop n holds) j w under.1) (drop k holds) refl
  where
    of : ((j : ℕ) → sum cut ≡ length (drop n holds) → length (longest_runs_up_to most budget (drop j (drop n holds))) ≤ length cut)
        → (rest : List ℕ) → drop k holds ≡ rest → length (longest_runs_up_to (suc most) budget rest) ≤ length (n ∷ cut)
    of after [] e = omega arith
    of after (hold ∷ more) e =
        let run = suc (longest (budget - hold) more) in
        let all = sum-cons n cut in
        let there : n ≤ length holds = omega (arith, all, whole) in
        let reached : n ≤ longest budget (hold ∷ more) + k = subst (λ (l : List ℕ). n ≤ longest budget l + k) e (reaches budget n k holds there under.0) in
        let far : n ≤ run + k = omega (arith, reached, longest-most budget hold more) in
        let next = after (run + k - n) (omega (arith, length-drop n holds, all, whole)) in
        let here : drop run (hold ∷ more) ≡ drop (run + k - n) (drop n holds) =
        ap (λ (l : List ℕ). drop run l) (sym e) ∙ drop-drop run k holds ∙ ap (λ (x : ℕ). drop x holds) (let q : run + k ≡ (run + k - n) + n = omega (arith, far) in q) ∙ sym (drop-drop (run + k - n) n holds) in
        let same = ap (λ (l : List ℕ). length (longest_runs_up_to most budget l)) here in
        omega (arith, next, same)

-- the longest runs are the fewest ticks
pub longest_runs-least : (budget : ℕ) (holds : List ℕ) → All (λ hold. hold ≤ budget) holds → IsLeast budget holds (length (longest_runs budget holds))
unfolding longest_runs
longest_runs-least budget holds low = record {
  cut = longest_runs budget holds;
  under = longest_runs-under budget holds low;
  many = refl;
  least = λ other is. ahead budget other (length holds) holds 0 is.cuts.whole (under-all budget other holds is.under);
}
