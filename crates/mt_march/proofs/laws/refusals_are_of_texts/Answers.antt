use Rattle.mt_march.proofs.Refusals.{refusal_is_of_text, unrefused_is_march}
use Rattle.mt_march.proofs.laws.refusals_are_of_texts.Goals as goal

pub returns-clause-refused : goal.returns-clause-refused
returns-clause-refused c = refusal_is_of_text

pub returns-clause-unrefused : goal.returns-clause-unrefused
returns-clause-unrefused c = unrefused_is_march
