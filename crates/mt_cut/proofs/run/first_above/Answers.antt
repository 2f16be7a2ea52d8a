use Rattle.std.proofs.Common.{◌≡◌, ◌∷◌, sym, ap, ◌∙◌}
use Rattle.mt_cut.specs.Holds.{holds_next, pass_holds}
use Rattle.mt_cut.proofs.Places.{drop-next, above-next, above-here, above-none, above-room, above-low}
use Rattle.mt_cut.proofs.run.first_above.Goals as goal

pub loop-next-preserved : goal.loop-next-preserved
loop-next-preserved c =
    let set = c.args.set.now in
    let all = pass_holds set in
    let inv = c.loop-next.invariant in
    let hold = c.step_at-step.result.hold in
    let rest = holds_next set c.loop-next.next in
    let more = holds_next set c.step_at-step.result.next in
    let here : rest ≡ hold ∷ more = ap (holds_next set) c.in-Some.is ∙ c.step_at-step.ensures.rest in
    record {
      valid = c.step_at-step.ensures.valid;
      rest = sym (drop-next c.loop-next.slice hold all more (sym inv.rest ∙ here));
      there = above-room hold c.loop-next.slice all rest more here inv.rest;
      ahead = above-next c.args.budget hold c.loop-next.slice all rest more here c.if-step-budget.false inv.ahead;
      few = inv.few;
    }

pub returns-then-step-budget-clause-above : goal.returns-then-step-budget-clause-above
returns-then-step-budget-clause-above c =
    let set = c.args.set.now in
    let inv = c.loop-next.invariant in
    let here : holds_next set c.loop-next.next ≡ c.step_at-step.result.hold ∷ holds_next set c.step_at-step.result.next = ap (holds_next set) c.in-Some.is ∙ c.step_at-step.ensures.rest in
    above-here c.args.budget c.step_at-step.result.hold c.loop-next.slice (pass_holds set) (holds_next set c.loop-next.next) (holds_next set c.step_at-step.result.next) here
    c.if-step-budget.true inv.rest inv.ahead

none : goal.returns-clause-above
none c =
    let set = c.args.set.now in
    let inv = c.loop-next.invariant in
    above-none c.args.budget c.loop-next.slice (pass_holds set) (holds_next set c.loop-next.next) (ap (holds_next set) c.in_default.is) inv.rest inv.there inv.ahead

pub returns-clause-above : goal.returns-clause-above
returns-clause-above c = none c

pub returns-clause-low : goal.returns-clause-low
returns-clause-low c = above-low c.args.budget (pass_holds c.args.set.now) (none c)
