use Rattle.std.proofs.Common.{ℕ, ◌≡◌, ◌≤◌, List, drop, length, subst, sym, ap, ◌∙◌, refl, arith}
use Rattle.std.specs.Prelude.{All, Some, None}
use Rattle.std.proofs.lemmas.List.Elements.{All-nil}
use Rattle.mt_cut.specs.Holds.{holds_from, holds_next, pass_holds}
use Rattle.mt_cut.specs.Cuts.{Exceeds, IsLeast, longest, longest_runs}
use Rattle.mt_cut.proofs.Ahead.{longest_runs-least}
use Rattle.mt_cut.proofs.Places.{ticks-next, ticks-less, low-before, high-before, exceeds-first, low-high, ticks-all}
use Rattle.mt_cut.proofs.run.least_ticks.Goals as goal

pub loop-next-init : goal.loop-next-init
loop-next-init c =
    let set = c.args.set.now in
    let L = pass_holds set in
    let all = c.pass_start-next.ensures.all in
    record {
      valid = c.pass_start-next.ensures.valid;
      same = (let one = ap (λ (l : List ℕ). length (longest_runs c.args.budget l)) all in omega (arith, one));
      few = c.pass_start-next.ensures.short c.args.budget;
      low = λ h. subst (All (λ hold. hold ≤ c.args.budget)) all h;
      high = λ h. subst (Exceeds c.args.budget) all h;
    }

pub loop-next-preserved : goal.loop-next-preserved
loop-next-preserved c =
    let set = c.args.set.now in
    let L = pass_holds set in
    let inv = c.loop-next.invariant in
    let run = c.in-Some-run_from.run' in
    let is = c.in-Some-run_from.ensures.run in
    let all = holds_next set c.loop-next.next in
    let more = holds_next set run.next in
    let here = ap (holds_next set) c.in-Some.is in
    let longest : run.slices ≡ longest c.args.budget all = is.slices ∙ ap (longest c.args.budget) (sym here) in
    let behind : more ≡ drop run.slices all = is.rest ∙ ap (λ (l : List ℕ). drop run.slices l) (sym here) in
    record {
      valid = is.valid;
      same = ticks-next c.args.budget all more c.loop-next.ticks run.slices (length (longest_runs c.args.budget L))
          (ap (longest_runs c.args.budget) here ∙ c.in-Some-run_from.ensures.cut) inv.same;
      few = inv.few;
      low = λ h. inv.low (low-before c.args.budget all more run.slices longest behind h);
      high = λ h. inv.high (high-before c.args.budget all more run.slices behind h);
    }

pub loop-next-smaller : goal.loop-next-smaller
loop-next-smaller c =
    let set = c.args.set.now in
    let run = c.in-Some-run_from.run' in
    let is = c.in-Some-run_from.ensures.run in
    let all = holds_next set c.loop-next.next in
    let here = ap (holds_next set) c.in-Some.is in
    ticks-less c.args.budget all (holds_next set run.next) run.slices (is.slices ∙ ap (longest c.args.budget) (sym here)) c.in-Some-run_from.ensures.some
    (is.rest ∙ ap (λ (l : List ℕ). drop run.slices l) (sym here))

-- the first slice that is left is above the budget
pub returns-in-None-clause-none : goal.returns-in-None-clause-none
returns-in-None-clause-none c =
    let set = c.args.set.now in
    let first = exceeds-first c.args.budget (holds_from set c.in-Some.at) (c.in-None.ensures.none.0 refl) in
    (λ _. c.loop-next.invariant.high (subst (Exceeds c.args.budget) (sym (ap (holds_next set) c.in-Some.is)) first), λ _. refl)

pub returns-clause-least : goal.returns-clause-least
returns-clause-least c =
    let set = c.args.set.now in
    let L = pass_holds set in
    let inv = c.loop-next.invariant in
    let none = ap (holds_next set) c.in_default.is in
    let low = inv.low (subst (All (λ (hold : ℕ). hold ≤ c.args.budget)) (sym none) (All-nil (λ (hold : ℕ). hold ≤ c.args.budget))) in
    subst (IsLeast c.args.budget L) (ticks-all c.args.budget (holds_next set c.loop-next.next) c.loop-next.ticks (length (longest_runs c.args.budget L)) none inv.same)
    (longest_runs-least c.args.budget L low)

pub returns-clause-none : goal.returns-clause-none
returns-clause-none c =
    let set = c.args.set.now in
    let none = ap (holds_next set) c.in_default.is in
    let low = c.loop-next.invariant.low (subst (All (λ (hold : ℕ). hold ≤ c.args.budget)) (sym none) (All-nil (λ (hold : ℕ). hold ≤ c.args.budget))) in
    (λ e. absurd (no-tick c.loop-next.ticks e), λ h. absurd (low-high c.args.budget (pass_holds set) low h))
  where
    no-tick : (n : ℕ) → Some n ≡ None → ⊥
    no-tick n e = cc
