use Rattle.mt_seq.proofs.Moves.{moved_look}
use Rattle.mt_seq.proofs.course.Course.looked.Goals as goal

pub returns : goal.returns
returns c = λ job addr is h. moved_look job c.args.self.now c.args.answer addr (record c.args.self.now { saved = c.push.new.self }) is h c.push.ensures.items
