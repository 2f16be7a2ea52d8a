use Rattle.std.proofs.Common.{◌≡◌, ◌+◌, ℕ, Bool, Some, refl, arith, ap, sym, ◌∙◌, subst}
use Rattle.std.specs.Prelude.{slice_get, if◌then◌else◌, slice_index}
use Rattle.mt_word.specs.Word.{complement_of}
use Rattle.mt_plan.specs.declared.algorithm.Step.{Step}
use Rattle.mt_plan.specs.Accesses.{act_on, item_of}
use Rattle.mt_plan.specs.Plan.{steps_of}
use Rattle.mt_plan.specs.Cursor.{made_by}
use Rattle.mt_seq.specs.Inner.Ground.{access_for}
use Rattle.mt_seq.specs.Sequence.{back_of}
use Rattle.mt_seq.specs.Stepping.{job_of}
use Rattle.mt_seq.proofs.Moves.{item_testing, kept_whole}
use Rattle.mt_seq.proofs.Spans.{act_same}
use Rattle.mt_seq.proofs.course.Course.test.Goals as goal

pub back-back-requires : goal.back-back-requires
back-back-requires c = λ t.
    let is = c.requires.course in
    omega (arith, is.whole c.requires.from, kept_whole (job_of c.args.alg.now c.args.frame) c.args.self.now is (is.kept (sym is.transparent ∙ t)), c.peek-step.ensures.inside, is.cells)

pub returns-clause-item : goal.returns-clause-item
returns-clause-item c =
    let is = c.requires.course in
    let s = c.args.self.now in
    let step : Step = c.peek-step.result in
    let at : slice_get (steps_of c.args.alg.now s.slice.n) (made_by s.steps) ≡ Some step =
    subst (λ (n : ℕ). slice_get (steps_of c.args.alg.now n) (made_by s.steps) ≡ Some step) is.cells c.peek-step.ensures.step in
    let back : c.back-back.result ≡ back_of (job_of c.args.alg.now c.args.frame) s.saved.items step.cell =
    c.back-back.ensures ∙ ap (λ (t : Bool). if t then slice_index s.saved.items step.cell else c.args.frame.background) is.transparent in
    let here : act_on c.args.width (s.slice.first + c.from.result) c.back-back.result step.act ≡ item_of c.args.width s.slice.first (back_of (job_of c.args.alg.now c.args.frame) s.saved.items) step =
    ap (λ (j : ℕ). act_on c.args.width (s.slice.first + j) c.back-back.result step.act) c.from.ensures
    ∙ ap (λ (w : ℕ). act_on c.args.width (s.slice.first + step.cell) w step.act) back in
    item_testing c.args.width (job_of c.args.alg.now c.args.frame) s step is c.requires.from c.requires.to at ∙ ap Some (sym (c.access_of.ensures.item
    ∙ ap (λ (w : ℕ). access_for (s.slice.first + c.from.result) w step.act) c.word_of.ensures.word
    ∙ act_same c.args.width (s.slice.first + c.from.result) c.back-back.result (complement_of c.args.width c.back-back.result) step.act refl
    ∙ here))
