use Rattle.std.proofs.Common.{arith, ap, sym, subst, ◌∙◌, ◌+◌, ◌-◌, Some}
use Rattle.mt_seq.specs.declared.access.Access.{Access}
use Rattle.mt_seq.specs.Sequence.{last_of}
use Rattle.mt_seq.specs.Stepping.{job_of, item_of_access, IsMoved}
use Rattle.mt_seq.proofs.Moves.{item_ending, kept_whole, course_few}
use Rattle.mt_seq.proofs.course.Course.end_one.Goals as goal

pub store-access-requires-clause-saved : goal.store-access-requires-clause-saved
store-access-requires-clause-saved g c = λ keeps.
    let is = c.requires.course in
    is.whole (omega (arith, is.to, c.requires.from)) ∙ kept_whole (job_of c.args.alg.now c.args.frame) c.args.self.now is keeps

pub stored-requires : goal.stored-requires
stored-requires g c = record { few = omega (arith, course_few (job_of c.args.alg.now c.args.frame) c.args.self.now c.requires.course, c.requires.course.made) }

pub returns-clause-course : goal.returns-clause-course
returns-clause-course g c = (c.stored.ensures (job_of c.args.alg.now c.args.frame) 0 0 0 c.requires.course c.requires.from c.requires.to).course

pub returns-clause-step : goal.returns-clause-step
returns-clause-step g c =
    let job = job_of c.args.alg.now c.args.frame in
    let s = c.args.self.now in
    let e = c.store-access.ensures in
    let cell = s.made - s.ending_from in
    record {
      item = item_of_access c.store-access.result;
      answer = c.make.result;
      next = item_ending _ job s c.requires.course c.requires.from c.requires.to ∙ ap (λ (a : Access). Some (item_of_access a)) (sym e);
      makes = c.make.ensures.made;
      look = c.make.ensures.looked;
      known = (subst (λ (a : Access). IsMoved job s (item_of_access a) c.make.result c.stored.new.self) (sym e)
          (c.stored.ensures job (s.slice.first + cell) (last_of c.args.frame.policy c.args.frame.fill s.saved.items cell) c.make.result c.requires.course c.requires.from c.requires.to)).view;
    }
