use Rattle.std.proofs.Common.{Bool, ap, sym, ◌∙◌}
use Rattle.std.specs.Prelude.{if◌then◌else◌}
use Rattle.mt_engine.specs.declared.test.Due.TheVariants.{Ended}
use Rattle.mt_seq.specs.Stepping.{item_at}
use Rattle.mt_engine.specs.Testing.{asked, due, ending_of, testing, Testing}
use Rattle.mt_engine.proofs.plan.Plan.due.Goals as goal

pub next-requires-clause-left : goal.next-requires-clause-left
next-requires-clause-left c = sym (c.is_over.ensures c.args.places.now) ∙ c.if-is_over.false

pub returns-then-is_over : goal.returns-then-is_over
unfolding due
returns-then-is_over c =
    let t : Testing = testing c.args.self.now c.args.at c.args.places.now in
    ap Ended (c.ending.ensures c.args.self.now c.args.places.now)
    ∙ sym (ap (λ (b : Bool). if b then Ended (ending_of t) else asked (item_at t.width t.known)) (sym (c.is_over.ensures c.args.places.now) ∙ c.if-is_over.true))

pub returns-else-is_over : goal.returns-else-is_over
unfolding due
returns-else-is_over c =
    let t : Testing = testing c.args.self.now c.args.at c.args.places.now in
    c.asked_for.ensures ∙ ap asked (sym c.next.ensures.item)
    ∙ sym (ap (λ (b : Bool). if b then Ended (ending_of t) else asked (item_at t.width t.known)) (sym (c.is_over.ensures c.args.places.now) ∙ c.if-is_over.false))
