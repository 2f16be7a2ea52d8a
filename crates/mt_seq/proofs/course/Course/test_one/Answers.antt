use Rattle.std.proofs.Common.{arith, refl}
use Rattle.mt_seq.specs.Stepping.{job_of, item_of_access}
use Rattle.mt_seq.proofs.Moves.{course_few}
use Rattle.mt_seq.proofs.course.Course.test_one.Goals as goal

pub tested-requires-clause-few : goal.tested-requires-clause-few
tested-requires-clause-few g c = omega (arith, course_few (job_of c.args.alg.now c.args.frame) c.args.self.now c.requires.course, c.requires.course.made)

pub returns-clause-course : goal.returns-clause-course
returns-clause-course g c = (c.tested.ensures (job_of c.args.alg.now c.args.frame) refl c.requires.course c.requires.from c.requires.to).course

pub returns-clause-step : goal.returns-clause-step
returns-clause-step g c = record {
  item = item_of_access c.test-access.result;
  answer = c.make-answer.result;
  next = rw (← c.requires.width) c.test-access.ensures.item;
  makes = c.make-answer.ensures.made;
  look = c.make-answer.ensures.looked;
  known = (c.tested.ensures (job_of c.args.alg.now c.args.frame) refl c.requires.course c.requires.from c.requires.to).view;
}
