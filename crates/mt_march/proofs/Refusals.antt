-- What refuses a text.
use Rattle.std.proofs.Common.{◌≡◌, ℕ, ◌<◌, List, Option, Some, None, refl, sym, ap, subst, ◌∙◌, arith, inl, inr}
use Rattle.mt_march.specs.Grammar.{IsSpellingPlace}
use Rattle.mt_march.specs.Placed.{MarchAt, SpellsMarchAt, elements_of}
use Rattle.mt_march.specs.Rules.{or_else, rule_broken}
use Rattle.mt_march.specs.Machine.{fault}
use Rattle.mt_march.specs.Scan.{rule_found}
use Rattle.mt_march.specs.Reading.{Refuses, march_refusal}
use Rattle.mt_march.specs.Value.{march_of}
use Rattle.mt_march.specs.Grammar.{SpellsMarch}
use Rattle.mt_march.specs.Accepted.{IsAcceptedMarch}
use Rattle.mt_march.specs.Laws.{AcceptedBreaksNoRule, RefusalIsOfText, UnrefusedIsMarch}
use Rattle.mt_march.specs.declared.spelling.Expects.TheVariants.{Brace}
use Rattle.mt_march.specs.declared.march.MarchKind.TheVariants.{Spelling}
use Rattle.mt_march.specs.declared.march.MarchRefusal.{MarchRefusal}
use Rattle.mt_march.proofs.Places.{place_from_fault, march_from_none}
use Rattle.mt_march.proofs.Agreement.{accepted_has_no_rule}
use Rattle.mt_march.proofs.PlacedLemmas.{placed_is_spelled, spelled_has_places, found_is_broken}

pub accepted_breaks_no_rule : AcceptedBreaksNoRule
accepted_breaks_no_rule text m h =
    let same = found_is_broken text m h in
    let of_text = accepted_has_no_rule text (elements_of m) (placed_is_spelled text m h) in
    (λ none. of_text.0 (same ∙ none), λ a. sym same ∙ of_text.1 a)

none_before : (text : List ℕ) (p q : ℕ) → IsSpellingPlace text p → IsSpellingPlace text q → p < q → ⊥
none_before text p q at_p at_q less =
    elim at_p.there [
      | inl here ↦ here.1 (at_q.before p less)
      | inr ends ↦ elim at_q.there [ inl there ↦ absurd (omega (arith, ends, there.0)) | inr later ↦ absurd (omega (arith, ends, later)) ]
    ]

-- the place of a fault of spelling is one
same_place : (text : List ℕ) (p q : ℕ) → IsSpellingPlace text p → IsSpellingPlace text q → p ≡ q
same_place text p q at_p at_q =
    let low : ¬ (p < q) = none_before text p q at_p at_q in
    let high : ¬ (q < p) = none_before text q p at_q at_p in
    omega (arith, low, high)

spelling_found : (text : List ℕ) (r : MarchRefusal) (o : Option ℕ) → fault Brace 1 text ≡ o → r.kind ≡ Spelling → IsSpellingPlace text r.place → or_else o Spelling (rule_found text) ≡ Some r
spelling_found text r None is kind place = absurd (place.refused (march_of text, march_from_none text is))
spelling_found text r (Some p) is kind place =
    let same : p ≡ r.place = same_place text p r.place (place_from_fault text p is) place in
    rw (same, ← kind) refl

rule_is_found : (text : List ℕ) (r : MarchRefusal) (m : MarchAt) (o : Option ℕ) → fault Brace 1 text ≡ o → SpellsMarchAt text m → rule_broken m ≡ Some r → or_else o Spelling (rule_found text) ≡ Some r
rule_is_found text r m None is spelled broken = found_is_broken text m spelled ∙ broken
rule_is_found text r m (Some p) is spelled broken = absurd ((place_from_fault text p is).refused (elements_of m, placed_is_spelled text m spelled))

pub refusal_found : (text : List ℕ) (r : MarchRefusal) → Refuses text r → march_refusal text ≡ Some r
unfolding march_refusal
refusal_found text r (inl spelling) = spelling_found text r (fault Brace 1 text) refl spelling.0 spelling.1
refusal_found text r (inr broken) = rule_is_found text r broken.0 (fault Brace 1 text) refl broken.1 broken.2

-- a text of the grammar in which a rule is found to be broken is refused by it
pub rule_refuses : (text : List ℕ) (r : MarchRefusal) → fault Brace 1 text ≡ None → rule_found text ≡ Some r → Refuses text r
rule_refuses text r is found =
    let m = spelled_has_places text (march_of text) (march_from_none text is) in
    inr (m.0, m.1, sym (found_is_broken text m.0 m.1) ∙ found)

refuses_by : (text : List ℕ) (r : MarchRefusal) (o : Option ℕ) → fault Brace 1 text ≡ o → or_else o Spelling (rule_found text) ≡ Some r → Refuses text r
refuses_by text r None is h = rule_refuses text r is h
refuses_by text r (Some p) is h =
    let same : record { kind = Spelling; place = p } ≡ r = cc in
    subst (λ (x : MarchRefusal). Refuses text x) same (inl (refl, place_from_fault text p is))

pub refusal_is_of_text : RefusalIsOfText
unfolding march_refusal
refusal_is_of_text text r = (refusal_found text r, refuses_by text r (fault Brace 1 text) refl)

unrefused_by : (text : List ℕ) (o : Option ℕ) → fault Brace 1 text ≡ o → or_else o Spelling (rule_found text) ≡ None → SpellsMarch text (march_of text) × IsAcceptedMarch (march_of text)
unrefused_by text None is h = let spelled = march_from_none text is in (spelled, (accepted_has_no_rule text (march_of text) spelled).0 h)
unrefused_by text (Some p) is h = absurd cc

pub unrefused_is_march : UnrefusedIsMarch
unfolding march_refusal
unrefused_is_march text h = unrefused_by text (fault Brace 1 text) refl h

-- ---- as the reader comes to it

pub spelling_refusal : (text : List ℕ) (place : ℕ) → fault Brace 1 text ≡ Some place → march_refusal text ≡ Some (record { kind = Spelling; place = place })
unfolding march_refusal
spelling_refusal text place is = ap (λ (o : Option ℕ). or_else o Spelling (rule_found text)) is

pub rule_refusal : (text : List ℕ) (o : Option MarchRefusal) → fault Brace 1 text ≡ None → rule_found text ≡ o → march_refusal text ≡ o
unfolding march_refusal
rule_refusal text o is found = ap (λ (x : Option ℕ). or_else x Spelling (rule_found text)) is ∙ found
