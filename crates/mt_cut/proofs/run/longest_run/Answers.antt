use Rattle.std.proofs.Common.{◌≡◌, ◌+◌, ◌-◌, ◌∷◌, drop, sym, ap, ◌∙◌, arith}
use Rattle.mt_cut.specs.Holds.{holds_from, holds_next}
use Rattle.mt_cut.specs.Cuts.{longest}
use Rattle.mt_cut.proofs.Places.{drop-next, sum_take-next, run-fits, run-full}
use Rattle.mt_cut.proofs.run.longest_run.Goals as goal

pub loop-run-preserved : goal.loop-run-preserved
loop-run-preserved c =
    let set = c.args.set.now in
    let inv = c.loop-run.invariant in
    let run = c.loop-run.run in
    let hold = c.step_at-step.result.hold in
    let all = holds_from set c.args.at in
    let more = holds_next set c.step_at-step.result.next in
    let here : holds_next set run.next ≡ hold ∷ more = ap (holds_next set) c.in-Some.is ∙ c.step_at-step.ensures.rest in
    let split : drop run.slices all ≡ hold ∷ more = sym inv.rest ∙ here in
    let sum = sum_take-next run.slices hold all more split in
    record {
      valid = c.step_at-step.ensures.valid;
      rest = sym (drop-next run.slices hold all more split);
      accesses = omega (arith, sum, inv.accesses);
      longest = run-fits (longest c.args.budget all) run.slices (c.args.budget - run.accesses) hold (c.args.budget - (run.accesses + hold)) more (holds_next set run.next)
          here c.if-step-budget.false (omega arith) inv.longest;
      within = omega (arith, c.if-step-budget.false, inv.within);
      room = omega (arith, inv.room, c.step_at-step.ensures.some);
    }

pub returns-then-step-budget : goal.returns-then-step-budget
returns-then-step-budget c =
    let set = c.args.set.now in
    let inv = c.loop-run.invariant in
    let run = c.loop-run.run in
    let here : holds_next set run.next ≡ c.step_at-step.result.hold ∷ holds_next set c.step_at-step.result.next = ap (holds_next set) c.in-Some.is ∙ c.step_at-step.ensures.rest in
    record {
      slices = run-full (longest c.args.budget (holds_from set c.args.at)) run.slices (c.args.budget - run.accesses) c.step_at-step.result.hold
          (holds_next set c.step_at-step.result.next) (holds_next set run.next) here c.if-step-budget.true inv.longest;
      accesses = inv.accesses;
      valid = inv.valid;
      rest = inv.rest;
    }
