use Rattle.mt_seq.proofs.Endings.{left_in}
use Rattle.mt_seq.proofs.stepper.Stepper.next.Goals as goal

pub next-requires-clause-left : goal.next-requires-clause-left
next-requires-clause-left c = left_in c.args.self.now c.self.inside.job c.self.inside.course c.self.invariant c.self.view_is c.requires.left
