use Rattle.std.proofs.Common.{arith, refl, ◌+◌, ◌-◌}
use Rattle.mt_fault.specs.Items.{Look, Store}
use Rattle.mt_seq.specs.Sequence.{last_of}
use Rattle.mt_seq.specs.Stepping.{job_of, item_of_access}
use Rattle.mt_seq.proofs.Moves.{item_saving, item_ending, moved_view, part_few, course_few}
use Rattle.mt_seq.proofs.course.Course.answered.Goals as goal

pub looked-requires-clause-room : goal.looked-requires-clause-room
looked-requires-clause-room c = part_few (job_of c.args.alg.now c.args.frame) c.args.self.now c.requires.course c.if-self.true

pub looked-requires-clause-few : goal.looked-requires-clause-few
looked-requires-clause-few c = omega (arith, course_few (job_of c.args.alg.now c.args.frame) c.args.self.now c.requires.course, c.requires.course.made)

pub tested-requires-clause-few : goal.tested-requires-clause-few
tested-requires-clause-few c = omega (arith, course_few (job_of c.args.alg.now c.args.frame) c.args.self.now c.requires.course, c.requires.course.made)

pub stored-requires : goal.stored-requires
stored-requires c = record { few = omega (arith, course_few (job_of c.args.alg.now c.args.frame) c.args.self.now c.requires.course, c.requires.course.made) }

pub returns-then-self-clause-course : goal.returns-then-self-clause-course
returns-then-self-clause-course c = (c.looked.ensures (job_of c.args.alg.now c.args.frame) 0 c.requires.course c.if-self.true).course

pub returns-then-self-clause-view : goal.returns-then-self-clause-view
returns-then-self-clause-view c = λ item at.
    let job = job_of c.args.alg.now c.args.frame in
    let s = c.args.self.now in
    moved_view c.args.width job s c.looked.new.self (Look (s.slice.first + s.made)) item c.args.answer (item_saving c.args.width job s c.requires.course c.if-self.true) at
    (c.looked.ensures job (s.slice.first + s.made) c.requires.course c.if-self.true)

pub returns-then-self-2-clause-course : goal.returns-then-self-2-clause-course
returns-then-self-2-clause-course c = (c.tested.ensures (job_of c.args.alg.now c.args.frame) refl c.requires.course c.if-self.false c.if-self-2.true).course

pub returns-then-self-2-clause-view : goal.returns-then-self-2-clause-view
returns-then-self-2-clause-view c = λ item at.
    let job = job_of c.args.alg.now c.args.frame in
    moved_view c.args.width job c.args.self.now c.tested.new.self (item_of_access c.test-access.result) item c.args.answer c.test-access.ensures.item at
    (c.tested.ensures job refl c.requires.course c.if-self.false c.if-self-2.true)

pub returns-else-self-2-clause-course : goal.returns-else-self-2-clause-course
returns-else-self-2-clause-course c = (c.stored.ensures (job_of c.args.alg.now c.args.frame) 0 0 0 c.requires.course c.if-self-2.false c.requires.left).course

pub returns-else-self-2-clause-view : goal.returns-else-self-2-clause-view
returns-else-self-2-clause-view c = λ item at.
    let job = job_of c.args.alg.now c.args.frame in
    let s = c.args.self.now in
    let cell = s.made - s.ending_from in
    let word = last_of c.args.frame.policy c.args.frame.fill s.saved.items cell in
    moved_view c.args.width job s c.stored.new.self (Store (s.slice.first + cell) word) item c.args.answer (item_ending c.args.width job s c.requires.course c.if-self-2.false c.requires.left) at
    (c.stored.ensures job (s.slice.first + cell) word c.args.answer c.requires.course c.if-self-2.false c.requires.left)
