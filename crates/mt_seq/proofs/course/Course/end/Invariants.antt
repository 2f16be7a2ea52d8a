use Rattle.std.proofs.Common.{◌≤◌, ◌-◌, ◌≡◌}
use Rattle.mt_seq.specs.Stepping.{job_of, IsCourse, RunsOf}
use Rattle.mt_seq.proofs.course.Course.end.Given as goal

abbrev pub invariant-loop-frame : goal.invariant-loop-frame
invariant-loop-frame g l = record {
  course : IsCourse (job_of l.alg l.frame) l.self;
  runs : RunsOf (job_of l.alg l.frame) l.initial.self (g.P.Port.state l.initial.port) (g.P.Port.tape l.initial.port) l.self (g.P.Port.state l.port) (g.P.Port.tape l.port);
  to : l.initial.self.made ≤ l.until → l.self.made ≤ l.until;
  none : l.until ≤ l.initial.self.made → l.self.made ≡ l.initial.self.made;
}

abbrev pub decreases-loop-frame : goal.decreases-loop-frame
decreases-loop-frame g l = l.until - l.self.made
