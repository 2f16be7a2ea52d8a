use Rattle.std.proofs.Common.{ap, sym, ◌∙◌, inl, inr}
use Rattle.mt_plan.specs.declared.algorithm.Algorithm.{Algorithm}
use Rattle.mt_plan.specs.Plan.{step_count}
use Rattle.mt_plan.proofs.Counts.{length-steps}
use Rattle.mt_plan.proofs.counting.steps.Goals as goal

pub returns-in-Checkerboard-clause-length : goal.returns-in-Checkerboard-clause-length
unfolding step_count
returns-in-Checkerboard-clause-length c = sym (length-steps c.args.algorithm.now c.args.n ∙ ap (λ (a : Algorithm). step_count a c.args.n) c.in-Checkerboard.is)

pub returns-in-March-clause-length : goal.returns-in-March-clause-length
unfolding step_count
returns-in-March-clause-length c = sym (length-steps c.args.algorithm.now c.args.n ∙ ap (λ (a : Algorithm). step_count a c.args.n) c.in-March.is ∙ rw c.op_count.ensures.count)

pub returns-in-WalkPath-clause-length : goal.returns-in-WalkPath-clause-length
unfolding step_count
returns-in-WalkPath-clause-length c = sym (length-steps c.args.algorithm.now c.args.n ∙ ap (λ (a : Algorithm). step_count a c.args.n) c.in-WalkPath.is)

pub returns-in-Galpat-clause-length : goal.returns-in-Galpat-clause-length
unfolding step_count
returns-in-Galpat-clause-length c =
    let closed = length-steps c.args.algorithm.now c.args.n in
    elim c.in-Galpat.is [
      | inl is ↦ sym (closed ∙ ap (λ (a : Algorithm). step_count a c.args.n) is)
      | inr is ↦ sym (closed ∙ ap (λ (a : Algorithm). step_count a c.args.n) is)
    ]
