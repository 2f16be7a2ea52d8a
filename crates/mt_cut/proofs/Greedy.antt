-- The longest runs are a cut.
use Rattle.std.proofs.Common.{ℕ, suc, zero, ◌+◌, ◌-◌, ◌<◌, ◌≤◌, ◌≡◌, Bool, true, false, cond, leb, List, [], ◌∷◌, take, drop, length, refl, sym, ap, ◌∙◌, subst, arith, inl, inr}
use Rattle.std.specs.Prelude.{◌⊎◌, sum, All}
use Rattle.std.proofs.lemmas.Bool.Decides.{leb_tells}
use Rattle.std.proofs.lemmas.Bool.{le-leb, lt-leb}
use Rattle.std.proofs.lemmas.List.{length-drop}
use Rattle.std.proofs.lemmas.List.Sums.{sum_by-cons}
use Rattle.std.proofs.lemmas.List.Elements.{All-nil, All-cons, All-head, All-tail, All-drop}
use Rattle.mt_cut.specs.Cuts.{runs, IsCutUnder, IsLongest, longest, longest_runs_up_to, longest_runs}

pub sum-cons : (x : ℕ) (xs : List ℕ) → sum (x ∷ xs) ≡ x + sum xs
sum-cons x xs = sum_by-cons (λ (n : ℕ). n) x xs

-- ---- one run

pub longest-fits : (budget hold : ℕ) (more : List ℕ) → hold ≤ budget → longest budget (hold ∷ more) ≡ suc (longest (budget - hold) more)
longest-fits budget hold more low = ap (λ (b : Bool). cond b (suc (longest (budget - hold) more)) 0) (le-leb hold budget low)

pub longest-full : (budget hold : ℕ) (more : List ℕ) → budget < hold → longest budget (hold ∷ more) ≡ 0
longest-full budget hold more high = ap (λ (b : Bool). cond b (suc (longest (budget - hold) more)) 0) (lt-leb hold budget high)

pub longest-is : (budget : ℕ) (holds : List ℕ) → IsLongest budget holds (longest budget holds)
longest-is budget [] = record { there = omega arith; within = omega arith; longest = λ h. absurd (omega (arith, h)) }
longest-is budget (hold ∷ more) = of (leb_tells hold budget) (longest-is (budget - hold) more)
  where
    rest : ℕ
    rest = longest (budget - hold) more

    of : ((leb hold budget ≡ true) × (hold ≤ budget)) ⊎ ((leb hold budget ≡ false) × (budget < hold)) → IsLongest (budget - hold) more (longest (budget - hold) more)
        → IsLongest budget (hold ∷ more) (longest budget (hold ∷ more))
    of (inl e) next =
        let n = longest (budget - hold) more in
        let fits : IsLongest budget (hold ∷ more) (suc n) = record {
          there = omega (arith, next.there);
          within = omega (arith, sum-cons hold (take n more), next.within, e.1);
          longest = λ h.
              let one : suc n + 1 ≡ suc (n + 1) = omega arith in
              let all = ap (λ (k : ℕ). sum (take k (hold ∷ more))) one in
              let beyond = next.longest (omega (arith, h)) in
              omega (arith, all, sum-cons hold (take (n + 1) more), beyond, e.1);
        } in
        subst (IsLongest budget (hold ∷ more)) (sym (longest-fits budget hold more e.1)) fits
    of (inr e) next =
        let full : IsLongest budget (hold ∷ more) 0 = record {
          there = omega arith;
          within = omega arith;
          longest = λ h. omega (arith, sum-cons hold [], e.1);
        } in
        subst (IsLongest budget (hold ∷ more)) (sym (longest-full budget hold more e.1)) full

-- no run within the budget has more slices
pub longest-covers : (budget : ℕ) (holds : List ℕ) (n : ℕ) → n ≤ length holds → sum (take n holds) ≤ budget → n ≤ longest budget holds
longest-covers budget holds zero there within = omega arith
longest-covers budget [] (suc n) there within = absurd (omega (arith, there))
longest-covers budget (hold ∷ more) (suc n) there within =
    let all = sum-cons hold (take n more) in
    let fits = longest-fits budget hold more (omega (arith, all, within)) in
    let next = longest-covers (budget - hold) more n (omega (arith, there)) (omega (arith, all, within)) in
    omega (arith, fits, next)

-- ---- a cut

-- no run of a cut is above the budget
abbrev pub Under : ℕ → List ℕ → List ℕ → Type 0
Under budget [] holds = Unit {0}
Under budget (n ∷ cut) holds = (sum (take n holds) ≤ budget) × Under budget cut (drop n holds)

abbrev IsWithin : ℕ → List ℕ → Type 0
IsWithin budget run = sum run ≤ budget

pub under-all : (budget : ℕ) (cut holds : List ℕ) → All (λ run. sum run ≤ budget) (runs cut holds) → Under budget cut holds
under-all budget [] holds all = tt
under-all budget (n ∷ cut) holds all =
    (All-head (IsWithin budget) (take n holds) (runs cut (drop n holds)) all, under-all budget cut (drop n holds) (All-tail (IsWithin budget) (take n holds) (runs cut (drop n holds)) all))

all-under : (budget : ℕ) (cut holds : List ℕ) → Under budget cut holds → All (λ run. sum run ≤ budget) (runs cut holds)
all-under budget [] holds under = All-nil (IsWithin budget)
all-under budget (n ∷ cut) holds under = All-cons (IsWithin budget) (take n holds) (runs cut (drop n holds)) under.0 (all-under budget cut (drop n holds) under.1)

-- what a cut of the rest is
record Cuts (budget : ℕ) (holds cut : List ℕ) : Type 0 where
  positive : All (λ n. 1 ≤ n) cut
  whole : sum cut ≡ length holds
  under : Under budget cut holds

abbrev IsPositive : ℕ → Type 0
IsPositive n = 1 ≤ n

longest_runs-cut : (budget most : ℕ) (holds : List ℕ) → All (λ hold. hold ≤ budget) holds → length holds ≤ most → Cuts budget holds (longest_runs_up_to most budget holds)
longest_runs-cut budget zero [] low few = record { positive = All-nil IsPositive; whole = refl; under = tt }
longest_runs-cut budget zero (hold ∷ more) low few = absurd (omega (arith, few))
longest_runs-cut budget (suc most) [] low few = record { positive = All-nil IsPositive; whole = refl; under = tt }
longest_runs-cut budget (suc most) (hold ∷ more) low few =
    let n = longest (budget - hold) more in
    let cut = longest_runs_up_to most budget (drop n more) in
    let first = All-head (λ (h : ℕ). h ≤ budget) hold more low in
    let is = longest-is (budget - hold) more in
    let shorter = length-drop n more in
    let rest = longest_runs-cut budget most (drop n more) (All-drop (λ (h : ℕ). h ≤ budget) n more (All-tail (λ (h : ℕ). h ≤ budget) hold more low)) (omega (arith, shorter, few)) in
    record {
      positive = All-cons IsPositive (suc n) cut (omega arith) rest.positive;
      whole = omega (arith, sum-cons (suc n) cut, rest.whole, shorter, is.there);
      under = (omega (arith, sum-cons hold (take n more), is.within, first), rest.under);
    }

pub longest_runs-under : (budget : ℕ) (holds : List ℕ) → All (λ hold. hold ≤ budget) holds → IsCutUnder budget holds (longest_runs budget holds)
unfolding longest_runs
longest_runs-under budget holds low =
    let cut = longest_runs_up_to (length holds) budget holds in
    let all = longest_runs-cut budget (length holds) holds low (omega arith) in
    record { cuts = record { positive = all.positive; whole = all.whole }; under = all-under budget cut holds all.under }

-- ---- one run, and then the others

longest_runs-enough : (budget most most' : ℕ) (holds : List ℕ) → length holds ≤ most → length holds ≤ most' → longest_runs_up_to most budget holds ≡ longest_runs_up_to most' budget holds
longest_runs-enough budget zero zero [] few few' = refl
longest_runs-enough budget zero (suc most') [] few few' = refl
longest_runs-enough budget (suc most) zero [] few few' = refl
longest_runs-enough budget (suc most) (suc most') [] few few' = refl
longest_runs-enough budget zero most' (hold ∷ more) few few' = absurd (omega (arith, few))
longest_runs-enough budget (suc most) zero (hold ∷ more) few few' = absurd (omega (arith, few'))
longest_runs-enough budget (suc most) (suc most') (hold ∷ more) few few' =
    let n = longest (budget - hold) more in
    let shorter = length-drop n more in
    ap (λ (l : List ℕ). suc n ∷ l) (longest_runs-enough budget most most' (drop n more) (omega (arith, shorter, few)) (omega (arith, shorter, few')))

pub longest_runs-next : (budget n : ℕ) (holds : List ℕ) → n ≡ longest budget holds → 1 ≤ n → longest_runs budget holds ≡ n ∷ longest_runs budget (drop n holds)
unfolding longest_runs
longest_runs-next budget n [] e some = absurd (omega (arith, e, some))
longest_runs-next budget n (hold ∷ more) e some = of (leb_tells hold budget)
  where
    of : ((leb hold budget ≡ true) × (hold ≤ budget)) ⊎ ((leb hold budget ≡ false) × (budget < hold))
        → longest_runs_up_to (length (hold ∷ more)) budget (hold ∷ more) ≡ n ∷ longest_runs_up_to (length (drop n (hold ∷ more))) budget (drop n (hold ∷ more))
    of (inr h) = absurd (omega (arith, e, some, longest-full budget hold more h.1))
    of (inl h) =
        let k = longest (budget - hold) more in
        let is : suc k ≡ n = sym (e ∙ longest-fits budget hold more h.1) in
        let shorter = length-drop k more in
        let one : longest_runs_up_to (length (hold ∷ more)) budget (hold ∷ more) ≡ longest_runs_up_to (suc (length more)) budget (hold ∷ more) =
        longest_runs-enough budget (length (hold ∷ more)) (suc (length more)) (hold ∷ more) (omega arith) (omega arith) in
        let two : longest_runs_up_to (length more) budget (drop k more) ≡ longest_runs_up_to (length (drop k more)) budget (drop k more) =
        longest_runs-enough budget (length more) (length (drop k more)) (drop k more) (omega (arith, shorter)) (omega arith) in
        one ∙ ap (λ (l : List ℕ). suc k ∷ l) two ∙ ap (λ (m : ℕ). m ∷ longest_runs_up_to (length (drop m (hold ∷ more))) budget (drop m (hold ∷ more))) is

pub longest_runs-none : (budget : ℕ) → longest_runs budget [] ≡ []
unfolding longest_runs
longest_runs-none budget = refl

-- they are not more than the slices
few-runs : (budget most : ℕ) (holds : List ℕ) → length (longest_runs_up_to most budget holds) ≤ length holds
few-runs budget zero holds = omega arith
few-runs budget (suc most) [] = omega arith
few-runs budget (suc most) (hold ∷ more) =
    let n = longest (budget - hold) more in
    let next = few-runs budget most (drop n more) in
    omega (arith, next, length-drop n more)

pub longest_runs-few : (budget : ℕ) (holds : List ℕ) → length (longest_runs budget holds) ≤ length holds
unfolding longest_runs
longest_runs-few budget holds = few-runs budget (length holds) holds
