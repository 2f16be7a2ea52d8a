use Rattle.std.proofs.Common.{◌∙◌, ◌<◌, Bool, cond, sym, ap, subst, arith, length}
use Rattle.std.proofs.lemmas.List.{length-map}
use Rattle.std.proofs.lemmas.Bool.{ltb-true}
use Rattle.mt_window.specs.declared.reply.Refusal.TheVariants as refusal
use Rattle.mt_window.specs.Rows.{Runs, Refuses}
use Rattle.mt_blocks.specs.declared.config.Block.{Block}
use Rattle.mt_blocks.specs.Accepted.{IsAcceptedSet}
use Rattle.mt_blocks.specs.Slices.{pieces, span_at}
use Rattle.mt_ram.specs.declared.state.State.{State}
use Rattle.mt_ram.specs.declared.state.State.TheVariants.{Partial}
use Rattle.mt_ram.specs.declared.test_walk.Test.TheVariants as tests
use Rattle.mt_ram.specs.State.{RamTst, set_of, spans_in}
use Rattle.mt_ram.specs.Table.{in_state}
use Rattle.mt_ram.specs.TestWalks.{Enters, begun_walk, state_behind}
use Rattle.mt_ram.proofs.Sets.{accepted_spans}
use Rattle.mt_ram.proofs.Walks.{enters_refused, enters_begun, place_behind, failure_behind}
use Rattle.mt_ram.proofs.state.Ram.enter_way.Goals as goal

pub returns-then-not-has_block : goal.returns-then-not-has_block
returns-then-not-has_block c =
    let r = c.args.self.now in
    let i = c.args.block in
    let accepted : IsAcceptedSet r.setting.shape (set_of r) = subst (IsAcceptedSet r.setting.shape) c.set-set.ensures.set c.set-set.ensures.accepted in
    let L = pieces (set_of r).atomic i (span_at (spans_in r) i) in
    subst (Enters (tests.Block i) r r) (sym c.refused.ensures) (enters_refused (tests.Block i) r refusal.Range c.set-set.ensures.limits accepted
    (c.requires.cell ∙ ap (λ (b : Bool). cond b (Runs L (in_state (Partial c.args.back)) (in_state (state_behind c.args.back))) (Refuses refusal.Range)) (sym c.has_block.ensures ∙ c.if-not-has_block.true)))

pub returns : goal.returns
returns c =
    let r = c.args.self.now in
    let K = (set_of r).atomic in
    let spans = spans_in r in
    let i = c.args.block in
    let back = c.args.back in
    let accepted : IsAcceptedSet r.setting.shape (set_of r) = subst (IsAcceptedSet r.setting.shape) c.set-set.ensures.set c.set-set.ensures.accepted in
    let ok = accepted_spans r.setting.shape (set_of r) c.set-set.ensures.limits accepted in
    let L = pieces K i (span_at spans i) in
    let there = sym c.has_block.ensures ∙ c.if-not-has_block.false in
    let inside : i < length spans = omega (arith, length-map (set_of r).blocks (λ (b : Block). b.span), ltb-true i (length (set_of r).blocks) there) in
    let begins = c.passes_begin.ensures.block K spans i ok inside in
    subst (λ (z : RamTst). Enters (tests.Block i) r z c.begun.result) (sym c.set_state.ensures)
    (subst (Enters (tests.Block i) r (record r { state = Partial back }))
    (sym (c.begun.ensures ∙ ap (λ (s : State). begun_walk (tests.Block i) (record { block = i; offset = 0 }) s) c.state_behind.ensures))
    (enters_begun (tests.Block i) r (record { block = i; offset = 0 }) (Partial back) (state_behind back) L c.set-set.ensures.limits accepted
    (c.requires.cell ∙ ap (λ (b : Bool). cond b (Runs L (in_state (Partial back)) (in_state (state_behind back))) (Refuses refusal.Range)) there)
    begins.valid begins.block (omega (arith, begins.few)) (record { inside = tt; place = place_behind (set_of r) back c.requires.place; failure = failure_behind back r.failed c.requires.failure })))
