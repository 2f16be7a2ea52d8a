use Rattle.std.proofs.Common.{◌≡◌, ◌<◌, ◌+◌, ℕ, length, arith, ap, ◌∙◌, subst}
use Rattle.std.specs.Option.{option_or}
use Rattle.mt_fault.specs.Items.{Item, place}
use Rattle.mt_fault.specs.Memory.{Memory}
use Rattle.mt_plan.specs.Accesses.{act_on}
use Rattle.mt_decoder.specs.Misses.{accesses}
use Rattle.mt_decoder.proofs.Steps.{Made, Made-none, Made-more, Made-all, length-accesses, access_at, place_of}
use Rattle.mt_decoder.proofs.caught.caught_at.Goals as goal

pub overflow_add-first : goal.overflow_add-first
overflow_add-first c =
    let at : c.from.result ≡ c.step_at-step.result.cell = c.from.ensures in
    omega (arith, c.step_at-step.ensures.inside)

pub misses-missed-requires-clause-addr : goal.misses-missed-requires-clause-addr
misses-missed-requires-clause-addr c =
    let at : c.from.result ≡ c.step_at-step.result.cell = c.from.ensures in
    omega (arith, c.step_at-step.ensures.inside, c.loop-index.invariant.size)

pub loop-index-init : goal.loop-index-init
loop-index-init c = Made-none c.args.cells.now (accesses c.args.cells.now.width c.args.alg.now c.args.background c.args.first c.args.n) c.width-width.ensures.sound

pub loop-index-preserved : goal.loop-index-preserved
loop-index-preserved c =
    let m : Memory = c.args.cells.now in
    let items = accesses m.width c.args.alg.now c.args.background c.args.first c.args.n in
    let i : ℕ = c.loop-index.index in
    let step = c.step_at-step.result in
    let at : c.from.result ≡ step.cell = c.from.ensures in
    let item : Item = act_on m.width (c.args.first + step.cell) c.args.background step.act in
    let within : i < length items = omega (arith, c.steps-index-end.ensures.length, length-accesses m.width c.args.alg.now c.args.background c.args.first c.args.n) in
    let inside : place item < length m.words = omega (arith, c.step_at-step.ensures.inside, place_of m.width (c.args.first + step.cell) c.args.background step.act) in
    let width : c.width-width.result ≡ m.width = c.width-width.ensures.width in
    Made-more c.test_accesses_may_be_cut.ensures.words c.test_accesses_may_be_cut.ensures.checks m items i item
    c.width-width.ensures.sound c.loop-index.invariant within
    (access_at m.width c.args.alg.now c.args.background c.args.first c.args.n i step c.step_at-step.ensures.step)
    inside (rw (width, at) at c.misses-missed.ensures.after) c.misses-missed.ensures.size (rw (width, at) at c.misses-missed.ensures.miss)
    (c.or-found.ensures ∙ ap (option_or c.loop-index.found) c.then_some.ensures)

whole : (c : goal.After-loop-index) → Made c.args.cells.now (accesses c.args.cells.now.width c.args.alg.now c.args.background c.args.first c.args.n) (length (accesses c.args.cells.now.width c.args.alg.now c.args.background c.args.first c.args.n)) c.loop-index.cells c.loop-index.found
whole c =
    let items = accesses c.args.cells.now.width c.args.alg.now c.args.background c.args.first c.args.n in
    let all : c.loop-index.index ≡ length items = omega (arith, c.steps-index-end.ensures.length, length-accesses c.args.cells.now.width c.args.alg.now c.args.background c.args.first c.args.n, c.loop-index.auto.index-end) in
    subst (λ (i : ℕ). Made c.args.cells.now items i c.loop-index.cells c.loop-index.found) all c.loop-index.invariant

pub returns-clause-index : goal.returns-clause-index
returns-clause-index c = (Made-all _ _ (whole c)).0

pub returns-clause-after : goal.returns-clause-after
returns-clause-after c = (Made-all _ _ (whole c)).1
