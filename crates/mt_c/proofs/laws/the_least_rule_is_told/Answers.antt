use Rattle.mt_c.proofs.LeastRule.{told_are_broken, least_are_told}
use Rattle.mt_c.proofs.laws.the_least_rule_is_told.Goals as goal

pub returns-clause-broken : goal.returns-clause-broken
returns-clause-broken c =
    told_are_broken c.canonical_spells.ensures.one c.refusals_are_of_texts.ensures.refused c.refusals_are_of_texts.ensures.unrefused c.the_least_rule_refuses.ensures

pub returns-clause-least : goal.returns-clause-least
returns-clause-least c =
    least_are_told c.canonical_spells.ensures.one c.refusals_are_of_texts.ensures.refused c.refusals_are_of_texts.ensures.unrefused c.the_least_rule_refuses.ensures
