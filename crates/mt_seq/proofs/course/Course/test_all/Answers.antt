use Rattle.std.proofs.Common.{◌-◌, arith, refl}
use Rattle.mt_seq.specs.Stepping.{job_of, view_of}
use Rattle.mt_seq.proofs.Runs.{runs_none, runs_on, ready_after}
use Rattle.mt_seq.proofs.course.Course.test_all.Goals as goal

pub loop-frame-init : goal.loop-frame-init
loop-frame-init g c = record {
  course = c.requires.course;
  runs = runs_none (view_of (job_of c.args.alg.now c.args.frame) c.args.self.now) (g.P.Port.state c.args.port.now) (g.P.Port.tape c.args.port.now);
  to = λ h. h;
  none = λ h. refl;
}

pub test_some-requires-clause-course : goal.test_some-requires-clause-course
test_some-requires-clause-course g c = c.loop-frame.invariant.course

pub test_some-requires-clause-ready : goal.test_some-requires-clause-ready
test_some-requires-clause-ready g c =
    ready_after (view_of (job_of c.args.alg.now c.args.frame) c.args.self.now) (view_of (job_of c.args.alg.now c.args.frame) c.loop-frame.self) (g.P.Port.state c.args.port.now) (g.P.Port.state c.loop-frame.port) _ _ (c.args.until - c.args.self.now.made) (c.args.until - c.loop-frame.self.made)
    c.loop-frame.invariant.runs c.requires.ready (omega (arith, c.loop-frame.invariant.runs.ahead, c.made.ensures, c.loop-frame-test.true))

pub loop-frame-preserved : goal.loop-frame-preserved
loop-frame-preserved g c =
    let job = job_of c.args.alg.now c.args.frame in
    record {
      course = c.test_some.ensures.course;
      runs = runs_on (view_of job c.args.self.now) (view_of job c.loop-frame.self) (view_of job c.test_some.new.self) _ _ _ _ _ _ c.loop-frame.invariant.runs c.test_some.ensures.runs;
      to = λ h. c.test_some.ensures.to;
      none = λ h. absurd (omega (arith, c.loop-frame.invariant.runs.ahead, c.made.ensures, c.loop-frame-test.true));
    }

pub loop-frame-smaller : goal.loop-frame-smaller
loop-frame-smaller g c = omega (arith, c.test_some.ensures.more, c.test_some.ensures.to)
