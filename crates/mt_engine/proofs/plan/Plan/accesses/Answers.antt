use Rattle.mt_seq.specs.Sequence.{sequence_hold}
use Rattle.mt_engine.proofs.plan.Plan.accesses.Goals as goal

pub returns : goal.returns
unfolding sequence_hold
returns c = rw c.from.ensures at c.hold_of.ensures.hold
