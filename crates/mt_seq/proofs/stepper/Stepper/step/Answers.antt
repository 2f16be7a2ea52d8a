use Rattle.mt_seq.specs.Stepping.{job_of}
use Rattle.mt_seq.proofs.Endings.{left_in}
use Rattle.mt_seq.proofs.Runs.{ready_step}
use Rattle.mt_seq.proofs.stepper.Stepper.step.Goals as goal

pub step-requires-clause-left : goal.step-requires-clause-left
step-requires-clause-left g c = left_in c.args.self.now c.self.inside.job c.self.inside.course c.self.invariant c.self.view_is c.requires.left

pub returns-clause-ready : goal.returns-clause-ready
returns-clause-ready g c =
    ready_step c.args.self.now c.self.inside.job (job_of c.self.inside.job.alg c.frame-frame.result) c.self.inside.course c.step.new.self _ _ _ _ c.self.view_is c.frame-frame.ensures c.step.ensures.step
