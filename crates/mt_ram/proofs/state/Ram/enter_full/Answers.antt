use Rattle.std.proofs.Common.{◌∙◌, ◌<◌, sym, ap, subst, arith, length}
use Rattle.std.proofs.lemmas.List.{length-map}
use Rattle.mt_blocks.specs.declared.config.Block.{Block}
use Rattle.mt_blocks.specs.Accepted.{IsAcceptedSet}
use Rattle.mt_blocks.specs.Slices.{pass}
use Rattle.mt_ram.specs.declared.state.State.{State}
use Rattle.mt_ram.specs.declared.state.State.TheVariants.{Full, Stopped}
use Rattle.mt_ram.specs.declared.test_walk.Test.TheVariants as tests
use Rattle.mt_ram.specs.State.{RamTst, IsFailureOfPass, set_of, spans_in}
use Rattle.mt_ram.specs.Table.{RunFullTest, cell}
use Rattle.mt_ram.specs.TestWalks.{full_cell, Enters}
use Rattle.mt_ram.proofs.Sets.{accepted_spans}
use Rattle.mt_ram.proofs.Walks.{enters_refused, enters_begun}
use Rattle.mt_ram.proofs.state.Ram.enter_full.Goals as goal

pub returns-in-Some : goal.returns-in-Some
returns-in-Some c =
    let r = c.args.self.now in
    let accepted : IsAcceptedSet r.setting.shape (set_of r) = subst (IsAcceptedSet r.setting.shape) c.set-set.ensures.set c.set-set.ensures.accepted in
    subst (Enters tests.Full r r) (sym c.refused.ensures) (enters_refused tests.Full r c.in-Some.why c.set-set.ensures.limits accepted
    (ap (cell r RunFullTest) (sym c.state.ensures.state) ∙ c.refusal_of_full.ensures.cell r ∙ ap (full_cell r) c.in-Some.is))

pub returns : goal.returns
returns c =
    let r = c.args.self.now in
    let K = (set_of r).atomic in
    let spans = spans_in r in
    let accepted : IsAcceptedSet r.setting.shape (set_of r) = subst (IsAcceptedSet r.setting.shape) c.set-set.ensures.set c.set-set.ensures.accepted in
    let ok = accepted_spans r.setting.shape (set_of r) c.set-set.ensures.limits accepted in
    let some : 0 < length spans = omega (arith, length-map (set_of r).blocks (λ (b : Block). b.span), accepted.some) in
    let begins = c.passes_begin.ensures.block K spans 0 ok some in
    let all = c.passes_begin.ensures.pass K spans ok in
    let failure = subst (λ (x : State). IsFailureOfPass x r.failed) (c.refusal_of_full.ensures.stopped c.in_default.is) c.state.ensures.failure in
    subst (λ (z : RamTst). Enters tests.Full r z c.begun.result) (sym c.set_state.ensures)
    (subst (Enters tests.Full r (record r { state = Full })) (sym c.begun.ensures)
    (enters_begun tests.Full r (record { block = 0; offset = 0 }) Full Stopped (pass K spans) c.set-set.ensures.limits accepted
    (ap (cell r RunFullTest) (sym c.state.ensures.state) ∙ c.refusal_of_full.ensures.cell r ∙ ap (full_cell r) c.in_default.is) begins.valid all.0 all.1 (record { inside = tt; place = tt; failure = failure })))

pub set_state-requires-clause-failure : goal.set_state-requires-clause-failure
set_state-requires-clause-failure c =
    subst (λ (x : State). IsFailureOfPass x c.args.self.now.failed) (c.refusal_of_full.ensures.stopped c.in_default.is) c.state.ensures.failure
