use Rattle.std.proofs.Common.{◌≡◌, ◌+◌, true, false, Bool, refl, arith, ap, sym, ◌∙◌}
use Rattle.std.specs.Prelude.{not}
use Rattle.mt_seq.specs.Stepping.{item_of_access}
use Rattle.mt_engine.specs.declared.test.Due.{Due}
use Rattle.mt_engine.specs.Testing.{testing, Testing, is_no_answer, is_over}
use Rattle.mt_engine.proofs.Answering.{over_due, left_due, over_answered, left_answered, moment_next, test_next, IsKind}
use Rattle.mt_engine.proofs.plan.Plan.answer.Goals as goal

not_false : (b : Bool) → true ≡ not b → b ≡ false
not_false true e = cc
not_false false e = refl

not_true : (b : Bool) → false ≡ not b → b ≡ true
not_true true e = refl
not_true false e = cc

pub returns-then-is_over-clause-ok : goal.returns-then-is_over-clause-ok
returns-then-is_over-clause-ok c = over_answered (testing c.args.self.now c.args.at c.args.places.now) c.args.word (sym (c.is_over.ensures c.args.places.now) ∙ c.if-is_over.true)

pub returns-then-is_over-clause-word : goal.returns-then-is_over-clause-word
returns-then-is_over-clause-word c =
    ap (λ (d : Due). is_no_answer d c.args.self.now.width c.args.word)
    (over_due (testing c.args.self.now c.args.at c.args.places.now) (sym (c.is_over.ensures c.args.places.now) ∙ c.if-is_over.true))

pub next-access-requires-clause-left : goal.next-access-requires-clause-left
next-access-requires-clause-left c = sym (c.is_over.ensures c.args.places.now) ∙ c.if-is_over.false

pub returns-then-not-is_answer-clause-err : goal.returns-then-not-is_answer-clause-err
returns-then-not-is_answer-clause-err c =
    ap (λ (d : Due). is_no_answer d c.args.self.now.width c.args.word)
    (left_due (testing c.args.self.now c.args.at c.args.places.now) _ (sym (c.is_over.ensures c.args.places.now) ∙ c.if-is_over.false) c.next-access.ensures.item)
    ∙ not_true _ (sym c.if-not-is_answer.true ∙ c.is_answer.ensures)

pub overflow_add-result : goal.overflow_add-result
overflow_add-result c =
    let is = c.requires.test in
    omega (arith, is.made, is.slice.small, c.sequences_are_short.ensures c.args.self.now.job c.args.self.now.slice.n is.job.accepted is.slice.small)

pub returns-clause-ok : goal.returns-clause-ok
returns-clause-ok c =
    let plan = c.args.self.now in
    let t : Testing = testing plan c.args.at c.args.places.now in
    let left : is_over t ≡ false = sym (c.is_over.ensures c.args.places.now) ∙ c.if-is_over.false in
    let kind : IsKind plan.job.policy plan.slice.n c.args.at.made (plan.slice.first + c.args.at.made) (item_of_access c.next-access.result) =
    record { saving = λ k h. ap item_of_access (c.next-access.ensures.saving k h); behind = c.next-access.ensures.behind; filling = c.next-access.ensures.filling } in
    rw c.save.ensures (moment_next plan c.args.at c.args.places.now c.args.word _ _ c.agrees.result (omega (arith, c.requires.places, c.requires.test.slice.small)) kind c.agrees.ensures
    ∙ sym (left_answered t _ c.args.word left c.next-access.ensures.item))

pub returns-clause-test : goal.returns-clause-test
returns-clause-test c =
    let plan = c.args.self.now in
    let t : Testing = testing plan c.args.at c.args.places.now in
    let left : is_over t ≡ false = sym (c.is_over.ensures c.args.places.now) ∙ c.if-is_over.false in
    let kind : IsKind plan.job.policy plan.slice.n c.args.at.made (plan.slice.first + c.args.at.made) (item_of_access c.next-access.result) =
    record { saving = λ k h. ap item_of_access (c.next-access.ensures.saving k h); behind = c.next-access.ensures.behind; filling = c.next-access.ensures.filling } in
    rw c.save.ensures (test_next plan c.args.at c.args.places.now c.args.word _ _ c.agrees.result (omega (arith, c.requires.places, c.requires.test.slice.small)) kind
    (not_false _ (sym c.if-not-is_answer.false ∙ c.is_answer.ensures)) c.requires.test left)

pub returns-clause-word : goal.returns-clause-word
returns-clause-word c =
    ap (λ (d : Due). is_no_answer d c.args.self.now.width c.args.word)
    (left_due (testing c.args.self.now c.args.at c.args.places.now) _ (sym (c.is_over.ensures c.args.places.now) ∙ c.if-is_over.false) c.next-access.ensures.item)
    ∙ not_false _ (sym c.if-not-is_answer.false ∙ c.is_answer.ensures)
