use Rattle.std.proofs.Common.{◌≡◌, ℕ, length, ap, sym, ◌∙◌, arith}
use Rattle.mt_plan.specs.Plan.{steps_of}
use Rattle.mt_plan.specs.Accesses.{act_on}
use Rattle.mt_locate.specs.Suspects.{checked}
use Rattle.mt_locate.proofs.Spans.{access_at}
use Rattle.mt_locate.proofs.Suspicion.{checked_past}
use Rattle.mt_locate.proofs.evidence.checked_at.Goals as goal

pub returns-then-steps-index-clause-read : goal.returns-then-steps-index-clause-read
returns-then-steps-index-clause-read c =
    let probe = c.args.probe.now in
    let n : c.from-n.result ≡ probe.n = c.from-n.ensures in
    let count : c.steps.result ≡ length (steps_of probe.alg probe.n) = rw n at c.steps.ensures.length in
    checked_past probe c.args.index (omega (arith, count, c.if-steps-index.true))

pub returns-clause-read : goal.returns-clause-read
returns-clause-read c =
    let probe = c.args.probe.now in
    let n : c.from-n.result ≡ probe.n = c.from-n.ensures in
    let step = c.step_at-step.result in
    c.checked.ensures.read
    ∙ ap (λ (a : ℕ). checked (act_on probe.width a probe.background step.act)) c.from.ensures
    ∙ ap checked (sym (access_at probe c.args.index step (rw n at c.step_at-step.ensures.step)))
