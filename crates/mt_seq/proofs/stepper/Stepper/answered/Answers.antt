use Rattle.mt_seq.proofs.Endings.{left_in}
use Rattle.mt_seq.proofs.stepper.Stepper.answered.Goals as goal

pub answered-requires-clause-left : goal.answered-requires-clause-left
answered-requires-clause-left c = left_in c.args.self.now c.self.inside.job c.self.inside.course c.self.invariant c.self.view_is c.requires.left
