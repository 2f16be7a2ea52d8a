use Rattle.std.proofs.Common.{refl, inl, sym, subst, ◌∙◌}
use Rattle.mt_march.specs.Grammar.{SpellsMarch}
use Rattle.mt_march.specs.Scan.{rule_found}
use Rattle.mt_march.specs.Value.{march_of}
use Rattle.mt_march.specs.Accepted.{IsAcceptedMarch}
use Rattle.mt_march.proofs.Places.{place_from_fault, march_from_none}
use Rattle.mt_march.proofs.Room.{or_else_none}
use Rattle.mt_march.proofs.Agreement.{accepted_has_no_rule}
use Rattle.mt_march.proofs.Refusals.{rule_refuses, spelling_refusal, rule_refusal}
use Rattle.mt_march.proofs.reading.read_march.Goals as goal

pub returns-in-Some-clause-err : goal.returns-in-Some-clause-err
returns-in-Some-clause-err c = inl (refl, place_from_fault c.args.text.now c.in-Some.place (sym c.in-Some.ensures))

pub returns-in-Some-clause-refused : goal.returns-in-Some-clause-refused
returns-in-Some-clause-refused c = spelling_refusal c.args.text.now c.in-Some.place (sym c.in-Some.ensures)

pub returns-in-Some-rule_broken-clause-err : goal.returns-in-Some-rule_broken-clause-err
returns-in-Some-rule_broken-clause-err c =
    rule_refuses c.args.text.now _ (sym c.spelling_fault.ensures ∙ c.in_default.is) (sym c.rule_broken.ensures ∙ c.in-Some-rule_broken.is)

pub returns-in-Some-rule_broken-clause-refused : goal.returns-in-Some-rule_broken-clause-refused
returns-in-Some-rule_broken-clause-refused c =
    rule_refusal c.args.text.now _ (sym c.spelling_fault.ensures ∙ c.in_default.is) (sym c.rule_broken.ensures ∙ c.in-Some-rule_broken.is)

pub build-requires : goal.build-requires
unfolding rule_found
build-requires c = or_else_none _ _ _ (sym c.rule_broken.ensures ∙ c.in_default-rule_broken.is)

pub returns-clause-ok : goal.returns-clause-ok
returns-clause-ok c = subst (SpellsMarch c.args.text.now) (sym c.build.ensures) (march_from_none c.args.text.now (sym c.spelling_fault.ensures ∙ c.in_default.is))

pub returns-clause-accepted : goal.returns-clause-accepted
returns-clause-accepted c =
    let spelled = march_from_none c.args.text.now (sym c.spelling_fault.ensures ∙ c.in_default.is) in
    subst IsAcceptedMarch (sym c.build.ensures) ((accepted_has_no_rule c.args.text.now (march_of c.args.text.now) spelled).0 (sym c.rule_broken.ensures ∙ c.in_default-rule_broken.is))

pub returns-clause-unrefused : goal.returns-clause-unrefused
returns-clause-unrefused c =
    rule_refusal c.args.text.now _ (sym c.spelling_fault.ensures ∙ c.in_default.is) (sym c.rule_broken.ensures ∙ c.in_default-rule_broken.is)
