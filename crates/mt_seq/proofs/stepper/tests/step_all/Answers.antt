use Rattle.std.proofs.Common.{◌≡◌, ◌+◌, ◌-◌, ◌≤◌, ℕ, arith, ap, sym, subst, ◌∙◌}
use Rattle.mt_seq.specs.Sequence.{sequence_hold}
use Rattle.mt_seq.specs.Stepping.{Stepping, IsReady}
use Rattle.mt_seq.proofs.Runs.{ready_less}
use Rattle.mt_seq.proofs.stepper.tests.step_all.Goals as goal

pub step-last-requires-clause-ready : goal.step-last-requires-clause-ready
step-last-requires-clause-ready g c = ready_less _ c.loop-left.stepper c.loop-left.left 1 c.loop-left.invariant.ready (omega (arith, c.loop-left-test.true))

pub step-last-requires-clause-left : goal.step-last-requires-clause-left
step-last-requires-clause-left g c = omega (arith, c.loop-left.invariant.left, c.loop-left-test.true)

pub loop-left-preserved : goal.loop-left-preserved
loop-left-preserved g c =
    let known = c.step-last.ensures.step.known in
    let more : ℕ = c.loop-left.left - 1 in
    let back : more + 1 ≡ c.loop-left.left = omega (arith, c.loop-left-test.true) in
    let made = ap (λ (s : Stepping). s.made) known in
    let hold = ap (λ (s : Stepping). sequence_hold s.job s.slice.n) known in
    record {
      ready = c.step-last.ensures.ready more (subst (λ (k : ℕ). IsReady (g.P.Port.state c.loop-left.port) c.loop-left.stepper k) (sym back) c.loop-left.invariant.ready);
      left = omega (arith, made, hold, c.loop-left.invariant.left, c.loop-left-test.true);
    }
