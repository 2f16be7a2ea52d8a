use Rattle.mt_seq.specs.Stepping.{job_of, view_of}
use Rattle.mt_seq.proofs.Runs.{runs_none, runs_more}
use Rattle.mt_seq.proofs.course.Course.test_some.Goals as goal

pub returns-else-fits_span-clause-runs : goal.returns-else-fits_span-clause-runs
returns-else-fits_span-clause-runs g c =
    let s = view_of (job_of c.args.alg.now c.args.frame) c.args.self.now in
    runs_more s s (view_of (job_of c.args.alg.now c.args.frame) c.test_one.new.self) _ _ _ _ _ _ (runs_none s (g.P.Port.state c.args.port.now) (g.P.Port.tape c.args.port.now)) c.test_one.ensures.step
