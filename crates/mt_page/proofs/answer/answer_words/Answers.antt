use Rattle.std.proofs.Common.{◌∙◌, ap, sym, subst}
use Rattle.mt_page.specs.Answers.{Gives}
use Rattle.mt_page.proofs.Replayed.{gives}
use Rattle.mt_page.proofs.answer.answer_words.Goals as goal

pub returns-in-Some-clause-gives : goal.returns-in-Some-clause-gives
returns-in-Some-clause-gives c =
    subst (Gives c.replay-status.result _) (sym (c.in-Some.ensures.front ∙ c.bytes.ensures))
    (gives _ _ _ _ _ _ _ _ _ _ _ _ _ _
    (ap (λ b. b.defect) c.new-3.ensures.state) c.new-source.ensures c.in-Ok.ensures.bytes
    c.replay-status.ensures.gives c.replay-status.ensures.cause)
