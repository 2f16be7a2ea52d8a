use Rattle.std.proofs.Common.{subst, sym}
use Rattle.mt_plan.specs.declared.algorithm.Algorithm.{Algorithm}
use Rattle.mt_plan.specs.Cursor.{IsCursor}
use Rattle.mt_seq.specs.Stepping.{item_of_access}
use Rattle.mt_seq.proofs.Moves.{moved_test}
use Rattle.mt_seq.proofs.course.Course.tested.Goals as goal

pub returns : goal.returns
returns c = λ job same is from to.
    moved_test job c.args.self.now (item_of_access c.args.access) c.args.answer c.agrees.result c.advance.new.self is from to c.requires.kind
    (subst (λ (a : Algorithm). IsCursor a c.advance.new.self) (sym same) c.advance.ensures.cursor) c.advance.ensures.cells c.advance.ensures.made c.agrees.ensures
