-- Runs over the slices of a pass.
use Rattle.std.proofs.Common.{ℕ, suc, zero, leb, inl, inr, ◌+◌, ◌-◌, ◌<◌, ◌≤◌, ◌≡◌, List, [], ◌∷◌, ◌++◌, take, drop, length, get_or, Option, Some, None, refl, sym, ap, ◌∙◌, subst, arith}
use Rattle.std.specs.Prelude.{◌⊎◌, Bool, true, false, cond, not, nat_lt, sum, All, slice_index}
use Rattle.std.specs.List.{position_or_len}
use Rattle.std.proofs.lemmas.Bool.{lt-ltb, le-ltb}
use Rattle.std.proofs.lemmas.Bool.Decides.{leb_tells, nat_tests}
use Rattle.std.proofs.lemmas.List.Sums.{fails_before_first}
use Rattle.std.proofs.lemmas.List.{length-drop, length-map, get_or-drop, take-append-drop}
use Rattle.std.proofs.lemmas.List.Elements.{All-nil, All-cons, All-append, All-get_or}
use Rattle.mt_blocks.specs.declared.pass.Position.{Position}
use Rattle.mt_blocks.specs.declared.config.ParamSet.{ParamSet}
use Rattle.mt_blocks.specs.Slices.{pass, from_place, from_next, piece_at}
use Rattle.mt_blocks.specs.Accepted.{spans_of}
use Rattle.mt_cut.specs.Holds.{hold_in, holds, pass_holds, holds_from, holds_next}
use Rattle.mt_cut.specs.Cuts.{Exceeds, longest, longest_runs, first_above}
use Rattle.mt_cut.proofs.Greedy.{sum-cons, longest-fits, longest-full, longest-is, longest_runs-none}

-- ---- the accesses from a position on

holds-next : (set : ParamSet) (next : Option Position) → holds set (from_next set.atomic (spans_of set.blocks) next) ≡ holds_next set next
unfolding holds_from
holds-next set None = refl
holds-next set (Some at) = refl

-- those of its own slice, and then those of the next
pub holds-step : (set : ParamSet) (at : Position) (next : Option Position) (hold : ℕ)
    → from_place set.atomic (spans_of set.blocks) at ≡ piece_at set.atomic (spans_of set.blocks) at ∷ from_next set.atomic (spans_of set.blocks) next
    → hold ≡ hold_in set (piece_at set.atomic (spans_of set.blocks) at) → holds_from set at ≡ hold ∷ holds_next set next
unfolding holds_from
holds-step set at next hold rest is =
    ap (holds set) rest
    ∙ ap (λ (l : List ℕ). hold_in set (piece_at set.atomic (spans_of set.blocks) at) ∷ l) (holds-next set next)
    ∙ ap (λ (n : ℕ). n ∷ holds_next set next) (sym is)

-- a pass begins at its first slice
pub holds-start : (set : ParamSet) (next : Option Position) → from_next set.atomic (spans_of set.blocks) next ≡ pass set.atomic (spans_of set.blocks) → holds_next set next ≡ pass_holds set
unfolding pass_holds
holds-start set next all = sym (holds-next set next) ∙ ap (holds set) all

pub length-holds : (set : ParamSet) → length (pass_holds set) ≡ length (pass set.atomic (spans_of set.blocks))
unfolding pass_holds
length-holds set = length-map (pass set.atomic (spans_of set.blocks)) (hold_in set)

-- ---- one slice more

pub drop-next : (k : ℕ) (x : ℕ) (xs rest : List ℕ) → drop k xs ≡ x ∷ rest → drop (k + 1) xs ≡ rest
drop-next zero x [] rest e = cc
drop-next zero x (y ∷ xs) rest e = (let f : xs ≡ rest = cc in f)
drop-next (suc k) x [] rest e = cc
drop-next (suc k) x (y ∷ xs) rest e = ap (λ (n : ℕ). drop n (y ∷ xs)) (let q : suc k + 1 ≡ suc (k + 1) = omega arith in q) ∙ drop-next k x xs rest e

pub sum_take-next : (k : ℕ) (x : ℕ) (xs rest : List ℕ) → drop k xs ≡ x ∷ rest → sum (take (k + 1) xs) ≡ sum (take k xs) + x
sum_take-next zero x [] rest e = cc
sum_take-next zero x (y ∷ xs) rest e = let f : y ≡ x = cc in omega (arith, sum-cons y [], f)
sum_take-next (suc k) x [] rest e = cc
sum_take-next (suc k) x (y ∷ xs) rest e =
    let one = ap (λ (n : ℕ). sum (take n (y ∷ xs))) (let q : suc k + 1 ≡ suc (k + 1) = omega arith in q) in
    let next = sum_take-next k x xs rest e in
    omega (arith, one, next, sum-cons y (take (k + 1) xs), sum-cons y (take k xs))

pub length-next : (k x : ℕ) (xs rest : List ℕ) → drop k xs ≡ x ∷ rest → k + (length rest + 1) ≡ length xs
length-next k x xs rest e =
    let all = ap (λ (l : List ℕ). length l) e in
    omega (arith, length-drop k xs, all)

-- a slice that stays within what is left of the budget, and one that does not
pub run-fits : (total k left hold left' : ℕ) (more rest : List ℕ) → rest ≡ hold ∷ more → hold ≤ left → left' ≡ left - hold → total ≡ k + longest left rest → total ≡ (k + 1) + longest left' more
run-fits total k left hold left' more rest e low less same =
    let one = ap (longest left) e ∙ longest-fits left hold more low in
    let two = ap (λ (n : ℕ). longest n more) less in
    omega (arith, one, two, same)

pub run-full : (total k left hold : ℕ) (more rest : List ℕ) → rest ≡ hold ∷ more → left < hold → total ≡ k + longest left rest → k ≡ total
run-full total k left hold more rest e high same =
    let one = ap (longest left) e ∙ longest-full left hold more high in
    omega (arith, one, same)

-- ---- the fewest ticks, as far as they are counted

-- one run more
pub ticks-next : (budget : ℕ) (rest more : List ℕ) (ticks n total : ℕ) → longest_runs budget rest ≡ n ∷ longest_runs budget more → ticks + length (longest_runs budget rest) ≡ total
    → (ticks + 1) + length (longest_runs budget more) ≡ total
ticks-next budget rest more ticks n total next same = let one = ap (λ (l : List ℕ). length l) next in omega (arith, one, same)

pub ticks-less : (budget : ℕ) (rest more : List ℕ) (n : ℕ) → n ≡ longest budget rest → 1 ≤ n → more ≡ drop n rest → length more < length rest
ticks-less budget rest more n is some behind =
    let there = (longest-is budget rest).there in
    let all' = ap (λ (l : List ℕ). length l) behind in
    omega (arith, there, is, some, all', length-drop n rest)

-- a run within the budget has no slice that is above it
low-run : (budget : ℕ) (run : List ℕ) → sum run ≤ budget → All (λ hold. hold ≤ budget) run
low-run budget [] within = All-nil (λ (h : ℕ). h ≤ budget)
low-run budget (hold ∷ more) within =
    let all = sum-cons hold more in
    All-cons (λ (h : ℕ). h ≤ budget) hold more (omega (arith, all, within)) (low-run budget more (omega (arith, all, within)))

pub low-before : (budget : ℕ) (rest more : List ℕ) (n : ℕ) → n ≡ longest budget rest → more ≡ drop n rest → All (λ hold. hold ≤ budget) more → All (λ hold. hold ≤ budget) rest
low-before budget rest more n is behind low =
    let within = (longest-is budget rest).within in
    let front : sum (take n rest) ≤ budget = omega (arith, within, ap (λ (k : ℕ). sum (take k rest)) is) in
    subst (All (λ (h : ℕ). h ≤ budget)) (ap (λ (l : List ℕ). take n rest ++ l) behind ∙ take-append-drop n rest)
    (All-append (λ (h : ℕ). h ≤ budget) (take n rest) more (low-run budget (take n rest) front) low)

pub high-before : (budget : ℕ) (rest more : List ℕ) (n : ℕ) → more ≡ drop n rest → Exceeds budget more → Exceeds budget rest
high-before budget rest more n behind high =
    let there = ap (λ (l : List ℕ). length l) behind in
    let same = ap (λ (l : List ℕ). get_or l high.index 0) behind ∙ get_or-drop n rest high.index 0 in
    record { index = n + high.index; there = omega (arith, high.there, there, length-drop n rest); above = omega (arith, high.above, same) }

pub exceeds-first : (budget : ℕ) (rest : List ℕ) → budget < slice_index rest 0 → Exceeds budget rest
exceeds-first budget [] high = absurd (omega (arith, high))
exceeds-first budget (hold ∷ more) high = record { index = 0; there = omega arith; above = high }

pub low-high : (budget : ℕ) (all : List ℕ) → All (λ hold. hold ≤ budget) all → Exceeds budget all → ⊥
low-high budget all low high = let is = All-get_or (λ (h : ℕ). h ≤ budget) all high.index 0 high.there low in omega (arith, is, high.above)

-- no slice is left
pub ticks-all : (budget : ℕ) (rest : List ℕ) (ticks total : ℕ) → rest ≡ [] → ticks + length (longest_runs budget rest) ≡ total → total ≡ ticks
ticks-all budget rest ticks total none same =
    let one = ap (λ (l : List ℕ). length (longest_runs budget l)) none in
    let two = ap (λ (l : List ℕ). length l) (longest_runs-none budget) in
    omega (arith, one, two, same)

-- ---- the first slice above the budget

abbrev first_place : ℕ → List ℕ → ℕ
first_place budget holds = position_or_len (λ hold. nat_lt budget hold) holds

first_place-low : (budget hold : ℕ) (more : List ℕ) → hold ≤ budget → first_place budget (hold ∷ more) ≡ suc (first_place budget more)
first_place-low budget hold more low = ap (λ (b : Bool). cond (not b) (1 + first_place budget more) 0) (le-ltb budget hold low) ∙ (let q : 1 + first_place budget more ≡ suc (first_place budget more) = omega arith in q)

first_place-high : (budget hold : ℕ) (more : List ℕ) → budget < hold → first_place budget (hold ∷ more) ≡ 0
first_place-high budget hold more high = ap (λ (b : Bool). cond (not b) (1 + first_place budget more) 0) (lt-ltb budget hold high)

-- a slice that is not above it
pub above-next : (budget hold k : ℕ) (all rest more : List ℕ) → rest ≡ hold ∷ more → hold ≤ budget → first_place budget all ≡ k + first_place budget rest
    → first_place budget all ≡ (k + 1) + first_place budget more
above-next budget hold k all rest more e low same =
    let one = ap (first_place budget) e ∙ first_place-low budget hold more low in
    omega (arith, one, same)

-- the first that is
pub above-here : (budget hold k : ℕ) (all rest more : List ℕ) → rest ≡ hold ∷ more → budget < hold → rest ≡ drop k all → first_place budget all ≡ k + first_place budget rest
    → (first_above budget all ≡ Some k) × (hold ≡ slice_index all k)
above-here budget hold k all rest more e high behind same =
    let one = ap (first_place budget) e ∙ first_place-high budget hold more high in
    let is : first_place budget all ≡ k = omega (arith, one, same) in
    let there = length-next k hold all more (sym behind ∙ e) in
    let inside : k < length all = omega (arith, there) in
    let value = get_or-drop k all 0 0 in
    let first = ap (λ (l : List ℕ). get_or l 0 0) (sym e ∙ behind) in (
      ap (λ (n : ℕ). cond (nat_lt n (length all)) (Some n) None) is ∙ ap (λ (b : Bool). cond b (Some k) None) (lt-ltb k (length all) inside),
      first ∙ value ∙ ap (λ (n : ℕ). get_or all n 0) (let q : k + 0 ≡ k = omega arith in q),
    )

-- there is none
pub above-none : (budget k : ℕ) (all rest : List ℕ) → rest ≡ [] → rest ≡ drop k all → k ≤ length all → first_place budget all ≡ k + first_place budget rest → first_above budget all ≡ None
above-none budget k all rest e behind there same =
    let one = ap (first_place budget) e in
    let end = ap (λ (l : List ℕ). length l) (sym behind ∙ e) in
    let beyond : length all ≤ first_place budget all = omega (arith, one, same, end, length-drop k all) in
    ap (λ (b : Bool). cond b (Some (first_place budget all)) None) (le-ltb (first_place budget all) (length all) beyond)

pub above-room : (hold k : ℕ) (all rest more : List ℕ) → rest ≡ hold ∷ more → rest ≡ drop k all → k + 1 ≤ length all
above-room hold k all rest more e behind = omega (arith, length-next k hold all more (sym behind ∙ e))

-- where there is none, no slice is above the budget
pub above-low : (budget : ℕ) (all : List ℕ) → first_above budget all ≡ None → All (λ hold. hold ≤ budget) all
above-low budget all none k d inside = of (leb_tells (length all) (first_place budget all))
  where
    of : ((leb (length all) (first_place budget all) ≡ true) × (length all ≤ first_place budget all)) ⊎ ((leb (length all) (first_place budget all) ≡ false) × (first_place budget all < length all))
        → get_or all k d ≤ budget
    of (inl h) =
        let fails = fails_before_first (λ (hold : ℕ). nat_lt budget hold) all k d (omega (arith, inside, h.1)) in
        grind (arith, nat_tests)
    of (inr h) =
        let some : first_above budget all ≡ Some (first_place budget all) =
        ap (λ (b : Bool). cond b (Some (first_place budget all)) None) (lt-ltb (first_place budget all) (length all) h.1) in
        cc
