use Rattle.std.proofs.Common.{ℕ, ◌+◌, arith, ap, subst}
use Rattle.std.specs.Prelude.{not}
use mathlib.Core.Bool.{◌||◌}
use Rattle.mt_plan.specs.Cursor.{Continues, made_by, span_of}
use Rattle.mt_plan.specs.Plan.{steps_of}
use Rattle.mt_seq.specs.Stepping.{job_of, view_of}
use Rattle.mt_seq.proofs.SpanRuns.{runs_span}
use Rattle.mt_seq.proofs.course.Course.test_span.Goals as goal

pub returns-clause-runs : goal.returns-clause-runs
returns-clause-runs g c =
    let job = job_of c.args.alg.now c.args.frame in
    let s = c.args.self.now in
    let is = c.requires.course in
    let differs = s.differs || not c.make_span-good.result in
    runs_span job s (record s { steps = c.pass_span.new.self; differs = differs; made = s.made + c.span_len-count.result }) (span_of s.steps) c.args.width (g.P.Port.state c.args.port.now) (g.P.Port.state c.make_span-good.new.port) (g.P.Port.tape c.args.port.now) (g.P.Port.tape c.make_span-good.new.port) c.make_span-good.result
    is c.requires.from (omega (arith, c.requires.to)) c.requires.width
    (subst (λ (n : ℕ). Continues (steps_of c.args.alg.now n) (made_by s.steps) (span_of s.steps)) is.cells c.requires.next) c.make_span-good.ensures
    (ap (λ (k : ℕ). record (view_of job s) { made = s.made + k; differs = differs }) c.span_len-count.ensures.len)
