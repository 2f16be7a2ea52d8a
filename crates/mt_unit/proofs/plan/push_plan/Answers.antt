use Rattle.std.proofs.Common.{◌≡◌, ◌++◌, ◌∷◌, [], List, ℕ, map, take, ap, sym, ◌∙◌, arith, append_assoc}
use Rattle.std.proofs.lemmas.List.{take_all, map-append}
use Rattle.mt_plan.specs.Plan.{steps_of}
use Rattle.mt_plan.specs.declared.algorithm.Step.{Step}
use Rattle.mt_unit.specs.Plans.{byte_of, plan_of}
use Rattle.mt_unit.proofs.Bytes.{one_more}
use Rattle.mt_unit.proofs.plan.push_plan.Goals as goal

pub loop-index-preserved : goal.loop-index-preserved
loop-index-preserved c =
    let steps : List Step = steps_of c.args.algorithm.now c.args.n in
    let out : List ℕ = c.args.out.now.items in
    let taken : List Step = take c.loop-index.index steps in
    let byte : ℕ = c.from.result in
    c.in_ok-push.ensures.items
    ∙ ap (λ (l : List ℕ). l ++ byte ∷ []) c.loop-index.invariant
    ∙ append_assoc out (map byte_of taken) (byte ∷ [])
    ∙ ap (λ (b : ℕ). out ++ (map byte_of taken ++ b ∷ [])) (c.from.ensures ∙ c.step_byte.ensures)
    ∙ ap (λ (l : List ℕ). out ++ l) (sym (map-append byte_of taken (c.step_at.result ∷ [])))
    ∙ ap (λ (l : List Step). out ++ map byte_of l) (sym (one_more steps c.loop-index.index c.step_at.result c.step_at.ensures.step))

pub returns : goal.returns
unfolding plan_of
returns c =
    let steps : List Step = steps_of c.args.algorithm.now c.args.n in
    let all : take c.loop-index.index steps ≡ steps = take_all c.loop-index.index steps (omega (arith, c.loop-index-test.false, c.steps-index-end.ensures.length)) in
    c.loop-index.invariant ∙ ap (λ (l : List Step). c.args.out.now.items ++ map byte_of l) all
