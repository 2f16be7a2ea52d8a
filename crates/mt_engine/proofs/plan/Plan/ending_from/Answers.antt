use Rattle.std.proofs.Common.{◌≡◌, ◌*◌, arith, ap}
use Rattle.mt_plan.specs.declared.algorithm.Policy.{Policy}
use Rattle.mt_plan.specs.Plan.{frame_of}
use Rattle.mt_seq.specs.Sequence.{sequence_hold}
use Rattle.mt_engine.proofs.plan.Plan.ending_from.Goals as goal

pub returns-clause-hold : goal.returns-clause-hold
unfolding sequence_hold
returns-clause-hold c = λ keeps.
    let n = c.args.self.now.slice.n in
    let frame : frame_of c.args.self.now.job.policy n ≡ 2 * n = ap (λ (p : Policy). frame_of p n) keeps in
    omega (arith, frame, rw c.from-n.ensures at c.steps.ensures.count, c.from-n.ensures)
