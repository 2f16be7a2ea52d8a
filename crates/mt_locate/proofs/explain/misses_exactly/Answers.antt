use Rattle.std.proofs.Common.{◌≡◌, ◌+◌, ◌<◌, ℕ, List, Bool, length, get_or, Some, ap, ◌∙◌, sym, subst, arith}
use Rattle.std.specs.Prelude.{if◌then◌else◌, slice_get}
use Rattle.std.proofs.lemmas.Option.{slice_get-get_or}
use Rattle.std.proofs.lemmas.Bool.{eq-eqb, eqb-true}
use Rattle.mt_fault.specs.declared.fault.Fault.{Fault}
use Rattle.mt_fault.specs.Items.{Item, place}
use Rattle.mt_fault.specs.Projection.{names}
use Rattle.mt_fault.specs.Memory.{Memory}
use Rattle.mt_plan.specs.Accesses.{act_on}
use Rattle.mt_plan.specs.declared.algorithm.Act.TheVariants.{ReadPlain}
use Rattle.mt_plan.specs.declared.algorithm.Step.{Step}
use Rattle.mt_plan.specs.Plan.{steps_of}
use Rattle.mt_locate.specs.Explanations.{accesses_of}
use Rattle.mt_locate.proofs.Culprits.{step_answered}
use Rattle.mt_locate.proofs.MissLists.{counted}
use Rattle.mt_locate.proofs.Spans.{Met, Met-none, Met-more, Met-differs, Met-all, Answered, Moves, no_difference, difference, length-accesses, place_of}
use Rattle.mt_locate.proofs.explain.misses_exactly.Goals as goal
use Rattle.mt_locate.proofs.explain.misses_exactly.Goals.{then-is_some, else-is_some}

abbrev none : Step
none = record { cell = 0; act = ReadPlain }

pub own_answer-wrong-requires-clause-cell : goal.own_answer-wrong-requires-clause-cell
own_answer-wrong-requires-clause-cell c =
    let probe = c.args.probe.now in
    let i : ℕ = c.loop-index.index in
    let steps : List Step = steps_of probe.alg probe.n in
    let within : i < length steps = subst (λ (l : List Step). i < length l) c.requires.steps c.loop-index-test.true in
    let inside : (get_or c.args.steps.now i none).cell < probe.n =
    subst (λ (l : List Step). (get_or l i none).cell < probe.n) (sym c.requires.steps) ((c.plans_are_steady.ensures probe.alg probe.n c.requires.accepted.march).inside i none within) in
    omega (arith, inside, c.loop-index.invariant.size, c.requires.size)

pub loop-index-init : goal.loop-index-init
loop-index-init c = Met-none c.args.cells.now c.args.fault (accesses_of c.args.probe.now) c.args.misses.now c.requires.fault c.width-width.ensures.sound

pub returns-then-ne-clause-exact : goal.returns-then-ne-clause-exact
returns-then-ne-clause-exact c =
    let m : Memory = c.args.cells.now in
    let probe = c.args.probe.now in
    let f : Fault = c.args.fault in
    let items : List Item = accesses_of probe in
    let i : ℕ = c.loop-index.index in
    let steps : List Step = steps_of probe.alg probe.n in
    let step : Step = get_or c.args.steps.now i none in
    let steps_is : c.args.steps.now ≡ steps = c.requires.steps in
    let within : i < length steps = subst (λ (l : List Step). i < length l) steps_is c.loop-index-test.true in
    let step_is : step ≡ get_or steps i none = ap (λ (l : List Step). get_or l i none) steps_is in
    let at : slice_get steps i ≡ Some step = slice_get-get_or steps i none within ∙ ap Some (sym step_is) in
    let inside : step.cell < probe.n = subst (λ (t : Step). t.cell < probe.n) (sym step_is) ((c.plans_are_steady.ensures probe.alg probe.n c.requires.accepted.march).inside i none within) in
    let width : c.width-width.result ≡ probe.width = c.width-width.ensures.width ∙ c.requires.width in
    let item : Item = act_on probe.width step.cell probe.background step.act in
    let named = c.own_words-own.ensures step.cell in
    let own = rw width at c.own_answer-wrong.ensures.own in
    let other = c.own_answer-wrong.ensures.other in
    let answered : Answered m f items i c.loop-index.cells item c.own_answer-wrong.result =
    step_answered c.plans_are_steady.ensures probe m f i step c.requires.accepted.march c.requires.size within at inside (λ e. (own (sym named ∙ e)).1) (λ e. (other (sym named ∙ e)).1) in
    let apart = difference c.own_answer-wrong.result c.told.result (sym c.ne.ensures ∙ c.if-ne.true) in (
      λ e. absurd (cc),
      λ e. absurd (Met-differs c.span_may_be_cut.ensures.answers c.other_words_do_not_matter.ensures.answers m f items c.args.misses.now i c.loop-index.made item
          c.requires.fault c.width-width.ensures.sound c.loop-index.invariant answered (λ same. apart (same ∙ sym c.told.ensures.told)) e),
    )

pub loop-index-preserved : goal.loop-index-preserved
loop-index-preserved c =
    let m : Memory = c.args.cells.now in
    let probe = c.args.probe.now in
    let f : Fault = c.args.fault in
    let items : List Item = accesses_of probe in
    let i : ℕ = c.loop-index.index in
    let steps : List Step = steps_of probe.alg probe.n in
    let step : Step = get_or c.args.steps.now i none in
    let steps_is : c.args.steps.now ≡ steps = c.requires.steps in
    let within : i < length steps = subst (λ (l : List Step). i < length l) steps_is c.loop-index-test.true in
    let step_is : step ≡ get_or steps i none = ap (λ (l : List Step). get_or l i none) steps_is in
    let at : slice_get steps i ≡ Some step = slice_get-get_or steps i none within ∙ ap Some (sym step_is) in
    let inside : step.cell < probe.n = subst (λ (t : Step). t.cell < probe.n) (sym step_is) ((c.plans_are_steady.ensures probe.alg probe.n c.requires.accepted.march).inside i none within) in
    let width : c.width-width.result ≡ probe.width = c.width-width.ensures.width ∙ c.requires.width in
    let item : Item = act_on probe.width step.cell probe.background step.act in
    let named = c.own_words-own.ensures step.cell in
    let own = rw width at c.own_answer-wrong.ensures.own in
    let other = c.own_answer-wrong.ensures.other in
    let answered : Answered m f items i c.loop-index.cells item c.own_answer-wrong.result =
    step_answered c.plans_are_steady.ensures probe m f i step c.requires.accepted.march c.requires.size within at inside (λ e. (own (sym named ∙ e)).1) (λ e. (other (sym named ∙ e)).1) in
    let addr : place item ≡ step.cell = place_of probe.width step.cell probe.background step.act in
    let moves : Moves f item c.loop-index.cells c.own_answer-wrong.new.cells = record {
      own = λ e. (own (sym named ∙ ap (names f) (sym addr) ∙ e)).0;
      other = λ e. (other (sym named ∙ ap (names f) (sym addr) ∙ e)).0;
      size = c.own_answer-wrong.ensures.size;
    } in
    let told = no_difference c.own_answer-wrong.result c.told.result (sym c.ne.ensures ∙ c.if-ne.false) ∙ c.told.ensures.told in
    let count : counted c.loop-index.made c.own_answer-wrong.result ≡ c.if-is_some.made =
    elim c.if-is_some.branch [
      | then-is_some w ↦ ap (λ (b : Bool). if b then c.loop-index.made + 1 else c.loop-index.made) (sym c.is_some.ensures ∙ w.if-is_some.true) ∙ sym w.made-is
      | else-is_some w ↦ ap (λ (b : Bool). if b then c.loop-index.made + 1 else c.loop-index.made) (sym c.is_some.ensures ∙ w.if-is_some.false) ∙ sym w.made-is
    ] in
    subst (λ (k : ℕ). Met m f items c.args.misses.now (i + 1) k c.own_answer-wrong.new.cells) count
    (Met-more c.span_may_be_cut.ensures.words c.span_may_be_cut.ensures.answers c.other_words_do_not_matter.ensures.answers m f items c.args.misses.now i c.loop-index.made item
    c.requires.fault c.width-width.ensures.sound c.loop-index.invariant answered moves told)

pub returns-clause-exact : goal.returns-clause-exact
returns-clause-exact c =
    let m : Memory = c.args.cells.now in
    let items : List Item = accesses_of c.args.probe.now in
    let long : length c.args.steps.now ≡ length items = ap length c.requires.steps ∙ sym (length-accesses c.args.probe.now) in
    let all : c.loop-index.index ≡ length items = omega (arith, long, c.loop-index.auto.index-end, c.loop-index-test.false) in
    let whole = Met-all m c.args.fault items c.args.misses.now c.loop-index.made (subst (λ (i : ℕ). Met m c.args.fault items c.args.misses.now i c.loop-index.made c.loop-index.cells) all c.loop-index.invariant) in
    (λ e. whole.0 (eqb-true _ _ e), λ e. eq-eqb _ _ (whole.1 e))
