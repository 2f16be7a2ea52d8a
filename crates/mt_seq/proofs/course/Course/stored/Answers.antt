use Rattle.mt_seq.proofs.Moves.{moved_store}
use Rattle.mt_seq.proofs.course.Course.stored.Goals as goal

pub returns : goal.returns
returns c = λ job addr word answer is from to. moved_store job c.args.self.now addr word answer is from to
