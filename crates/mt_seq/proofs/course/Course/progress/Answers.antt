use Rattle.std.proofs.Common.{arith}
use Rattle.mt_seq.proofs.Endings.{more_left, none_left}
use Rattle.mt_seq.proofs.course.Course.progress.Goals as goal

pub returns-then-self : goal.returns-then-self
returns-then-self c = λ job is. more_left job c.args.self.now is (omega (arith, c.if-self.true))

pub returns-then-ended-from : goal.returns-then-ended-from
returns-then-ended-from c = λ job is. more_left job c.args.self.now is (omega (arith, c.if-self.false, c.from.ensures, c.if-ended-from.true))

pub returns-else-ended-from : goal.returns-else-ended-from
returns-else-ended-from c = λ job is.
    none_left job c.args.self.now c.verdict_from.result is (omega (arith, c.if-self.false, c.from.ensures, c.if-ended-from.false)) c.verdict_from.ensures
