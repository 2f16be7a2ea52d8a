use Rattle.std.proofs.Common.{sym, ◌∙◌}
use Rattle.mt_conf.proofs.Checks.{before_march, at_march, after_march, few_sets}
use Rattle.mt_conf.proofs.reading.check.Goals as goal

pub returns-in-Some-clause-err : goal.returns-in-Some-clause-err
returns-in-Some-clause-err c = before_march _ _ (sym c.broken_before_march.ensures ∙ c.in-Some.is)

pub refused_march-requires : goal.refused_march-requires
refused_march-requires c = few_sets _ (sym c.broken_before_march.ensures ∙ c.in_default.is)

pub returns-in-Some-refused_march-clause-err : goal.returns-in-Some-refused_march-clause-err
returns-in-Some-refused_march-clause-err c = at_march _ _ (sym c.broken_before_march.ensures ∙ c.in_default.is) (sym c.refused_march.ensures ∙ c.in-Some-refused_march.is)

pub returns-in-Some-broken_after_march-clause-err : goal.returns-in-Some-broken_after_march-clause-err
returns-in-Some-broken_after_march-clause-err c =
    after_march _ _ (sym c.broken_before_march.ensures ∙ c.in_default.is) (sym c.refused_march.ensures ∙ c.in_default-refused_march.is) (sym c.broken_after_march.ensures ∙ c.in-Some-broken_after_march.is)

pub returns-in-None-clause-ok : goal.returns-in-None-clause-ok
returns-in-None-clause-ok c =
    after_march _ _ (sym c.broken_before_march.ensures ∙ c.in_default.is) (sym c.refused_march.ensures ∙ c.in_default-refused_march.is) (sym c.broken_after_march.ensures ∙ c.in-None.is)
