use Rattle.std.proofs.Common.{ℕ, ◌≡◌, Some, subst, ◌∙◌, ap, arith, length}
use Rattle.std.specs.Prelude.{slice_get}
use Rattle.mt_plan.specs.Plan.{steps_of}
use Rattle.mt_plan.specs.Rows.{row_of}
use Rattle.mt_plan.specs.Cursor.{line_steps}
use Rattle.mt_plan.proofs.Lines.{line_is, row_on}
use Rattle.mt_plan.proofs.Standing.{step_at_place}
use Rattle.mt_plan.proofs.indexing.step_at.Goals as goal

pub step-requires-clause-on : goal.step-requires-clause-on
step-requires-clause-on c = rw c.line_at.ensures.line (row_on c.args.algorithm.now c.args.n c.place_of-part.result.part c.place_of-part.result.row c.element_at-element.result c.place_of-part.ensures.place.row c.element_at-element.ensures)

pub step-requires-clause-at : goal.step-requires-clause-at
step-requires-clause-at c =
    let place = c.place_of-part.result in
    let is : line_steps c.element_at-element.result c.args.n c.line_at.result ≡ row_of c.args.algorithm.now c.args.n place.part place.row =
    ap (line_steps c.element_at-element.result c.args.n) c.line_at.ensures.line ∙ line_is c.args.algorithm.now c.args.n place.part place.row c.element_at-element.result c.element_at-element.ensures in
    omega (arith, c.place_of-part.ensures.place.at, ap length is)

pub returns-clause-step : goal.returns-clause-step
returns-clause-step c =
    let place = c.place_of-part.result in
    let is : line_steps c.element_at-element.result c.args.n c.line_at.result ≡ row_of c.args.algorithm.now c.args.n place.part place.row =
    ap (line_steps c.element_at-element.result c.args.n) c.line_at.ensures.line ∙ line_is c.args.algorithm.now c.args.n place.part place.row c.element_at-element.result c.element_at-element.ensures in
    subst (λ (i : ℕ). slice_get (steps_of c.args.algorithm.now c.args.n) i ≡ Some c.step.result) c.place_of-part.ensures.index
    (step_at_place c.args.algorithm.now c.args.n place c.step.result c.place_of-part.ensures.place (rw is at c.step.ensures.step))
