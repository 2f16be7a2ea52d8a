use Rattle.std.proofs.Common.{arith, ap, sym, subst, ◌∙◌, ◌+◌, Some}
use Rattle.mt_seq.specs.declared.access.Access.{Access}
use Rattle.mt_seq.specs.Stepping.{job_of, item_of_access, IsMoved}
use Rattle.mt_seq.proofs.Moves.{item_saving, look_inside, part_few, course_few}
use Rattle.mt_seq.proofs.course.Course.save_one.Goals as goal

pub look-access-requires : goal.look-access-requires
look-access-requires g c =
    omega (arith, look_inside (job_of c.args.alg.now c.args.frame) c.args.self.now c.requires.course c.requires.phase, c.requires.ready.inside, (g.met.P.Port.sound c.args.port.now).limit)

pub make-answer-requires-clause-inside : goal.make-answer-requires-clause-inside
make-answer-requires-clause-inside g c =
    rw c.look-access.ensures (omega (arith, look_inside (job_of c.args.alg.now c.args.frame) c.args.self.now c.requires.course c.requires.phase, c.requires.ready.inside))

pub looked-requires-clause-room : goal.looked-requires-clause-room
looked-requires-clause-room g c = part_few (job_of c.args.alg.now c.args.frame) c.args.self.now c.requires.course c.requires.phase

pub looked-requires-clause-few : goal.looked-requires-clause-few
looked-requires-clause-few g c = omega (arith, course_few (job_of c.args.alg.now c.args.frame) c.args.self.now c.requires.course, c.requires.course.made)

pub returns-clause-course : goal.returns-clause-course
returns-clause-course g c = (c.looked.ensures (job_of c.args.alg.now c.args.frame) 0 c.requires.course c.requires.phase).course

pub returns-clause-step : goal.returns-clause-step
returns-clause-step g c =
    let job = job_of c.args.alg.now c.args.frame in
    let s = c.args.self.now in
    let e = c.look-access.ensures in
    record {
      item = item_of_access c.look-access.result;
      answer = c.make-answer.result;
      next = item_saving _ job s c.requires.course c.requires.phase ∙ ap (λ (a : Access). Some (item_of_access a)) (sym e);
      makes = c.make-answer.ensures.made;
      look = c.make-answer.ensures.looked;
      known = (subst (λ (a : Access). IsMoved job s (item_of_access a) c.make-answer.result c.looked.new.self) (sym e) (c.looked.ensures job (s.slice.first + s.made) c.requires.course c.requires.phase)).view;
    }
