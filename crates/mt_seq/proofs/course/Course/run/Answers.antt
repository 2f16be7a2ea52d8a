use Rattle.mt_seq.specs.Stepping.{job_of, view_of}
use Rattle.mt_seq.proofs.Runs.{runs_on}
use Rattle.mt_seq.proofs.course.Course.run.Goals as goal

pub returns-clause-runs : goal.returns-clause-runs
returns-clause-runs g c =
    let job = job_of c.args.alg.now c.args.frame in
    runs_on (view_of job c.args.self.now) (view_of job c.test_all.new.self) (view_of job c.end.new.self) _ _ _ _ _ _
    (runs_on (view_of job c.args.self.now) (view_of job c.save.new.self) (view_of job c.test_all.new.self) _ _ _ _ _ _ c.save.ensures.runs c.test_all.ensures.runs) c.end.ensures.runs
