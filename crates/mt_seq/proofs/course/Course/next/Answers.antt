use Rattle.std.proofs.Common.{arith, ap, sym, ◌∙◌, Some}
use Rattle.mt_seq.specs.declared.access.Access.{Access}
use Rattle.mt_seq.specs.Stepping.{job_of, item_of_access}
use Rattle.mt_seq.proofs.Moves.{item_saving, item_ending, look_inside, kept_whole}
use Rattle.mt_seq.proofs.course.Course.next.Goals as goal

pub look-requires : goal.look-requires
look-requires c = omega (arith, look_inside (job_of c.args.alg.now c.args.frame) c.args.self.now c.requires.course c.if-self.true, c.requires.inside)

pub store-requires-clause-saved : goal.store-requires-clause-saved
store-requires-clause-saved c = λ keeps.
    let is = c.requires.course in
    is.whole (omega (arith, c.if-self.false)) ∙ kept_whole (job_of c.args.alg.now c.args.frame) c.args.self.now is keeps

pub returns-then-self-clause-item : goal.returns-then-self-clause-item
returns-then-self-clause-item c =
    item_saving c.args.width (job_of c.args.alg.now c.args.frame) c.args.self.now c.requires.course c.if-self.true ∙ ap (λ (a : Access). Some (item_of_access a)) (sym c.look.ensures)

pub returns-then-self-clause-inside : goal.returns-then-self-clause-inside
returns-then-self-clause-inside c = rw c.look.ensures (omega (arith, look_inside (job_of c.args.alg.now c.args.frame) c.args.self.now c.requires.course c.if-self.true))

pub returns-else-self-2-clause-item : goal.returns-else-self-2-clause-item
returns-else-self-2-clause-item c =
    item_ending c.args.width (job_of c.args.alg.now c.args.frame) c.args.self.now c.requires.course c.if-self-2.false c.requires.left ∙ ap (λ (a : Access). Some (item_of_access a)) (sym c.store.ensures)
