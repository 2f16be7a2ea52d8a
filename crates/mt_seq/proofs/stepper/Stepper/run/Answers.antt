use Rattle.mt_seq.proofs.Endings.{to_in}
use Rattle.mt_seq.proofs.stepper.Stepper.run.Goals as goal

pub run-requires-clause-to : goal.run-requires-clause-to
run-requires-clause-to g c = to_in c.args.self.now c.self.inside.job c.self.inside.course c.args.until c.self.invariant c.self.view_is c.requires.to
