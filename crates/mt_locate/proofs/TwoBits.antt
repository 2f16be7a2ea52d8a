-- A coupling fault by the bits of its aggressor and its victim.
use Rattle.std.proofs.Common.{ℕ, ◌≡◌, ◌≢◌, ◌+◌, ◌==◌, eqb, Bool, true, false, not, ◌&&◌, ◌||◌, List, [], ◌∷◌, Some, refl, sym, ap, ◌∙◌, arith, inl, inr}
use Rattle.std.specs.Prelude.{if◌then◌else◌}
use Rattle.std.proofs.lemmas.Bool.{eq-eqb, ne_eqb, or_left, cases_Bool}
use Rattle.std.proofs.lemmas.Bool.Decides.{nat_tests}
use Rattle.mt_word.specs.Word.{has_bit, put_bit}
use Rattle.mt_fault.specs.declared.fault.Spot.{Spot}
use Rattle.mt_fault.specs.History.{History, Read, Write, plain}
use Rattle.mt_fault.specs.Faulty.{same, asked, named_changes, is_odd, was_held, inverted, forced, coupled, answer, answer_under, stored_under}
use Rattle.mt_decoder.specs.BitModel.{Rule, vic_own, agg_own, vic_other, shows}
use Rattle.mt_locate.specs.declared.lanes.Means.{Means}
use Rattle.mt_locate.specs.declared.lanes.Means.TheVariants.{Invert, Force, State}
use Rattle.mt_locate.specs.declared.disturbance.Disturbance.{Disturbance}
use Rattle.mt_locate.specs.Lanes.{fault_by, rule_of}

-- the victim's bit after a history
abbrev pub vic_now : Means → Disturbance → List ℕ → History → Bool
vic_now Invert d words h = inverted words d.agg d.side d.vic h
vic_now Force d words h = forced words d.agg d.side d.vic d.value h
vic_now State d words h = coupled words d.agg d.side d.vic d.value h

abbrev pub rule : Means → Disturbance → Rule
rule means d = rule_of means d.side d.value

-- ---- bits

or_none : (b : Bool) → (b || false) ≡ b
or_none true = refl
or_none false = refl

odd_more : (n : ℕ) → is_odd (n + 1) ≡ not (is_odd n)
odd_more n = grind (arith, nat_tests)

inverted_more : (hit bit : Bool) (n : ℕ)
    → same bit (not (is_odd (if hit then n + 1 else n))) ≡ (if hit then not (same bit (not (is_odd n))) else same bit (not (is_odd n)))
inverted_more false bit n = refl
inverted_more true bit n = ap (λ (odd : Bool). same bit (not odd)) (odd_more n) ∙ of bit (is_odd n)
  where
    of : (b odd : Bool) → same b (not (not odd)) ≡ not (same b (not odd))
    of true true = refl
    of true false = refl
    of false true = refl
    of false false = refl

forced_more : (hit bit value : Bool) (n : ℕ)
    → (if (if hit then n + 1 else n) == 0 then bit else value) ≡ (if hit then value else (if n == 0 then bit else value))
forced_more false bit value n = refl
forced_more true bit value n = ap (λ (b : Bool). if b then bit else value) (ne_eqb (n + 1) 0 (λ e. omega (arith, e)))

held_more : (here before bit value : Bool) → (if here || before then value else bit) ≡ (if here then value else (if before then value else bit))
held_more true before bit value = refl
held_more false before bit value = refl

held_now : (words : List ℕ) (agg : Spot) (side : Bool) (vic : Spot) (h : History) → same (asked words h agg) side ≡ true → was_held words agg side vic h ≡ true
held_now words agg side vic [] e = e
held_now words agg side vic (Read a ∷ h) e = or_left _ _ e
held_now words agg side vic (Write a x ∷ h) e = or_left _ _ e

-- an access that leaves the aggressor's bit leaves what it disturbs
held_still : (words : List ℕ) (agg : Spot) (side : Bool) (vic : Spot) (h : History) → (same (asked words h agg) side || was_held words agg side vic h) ≡ was_held words agg side vic h
held_still words agg side vic h = elim (cases_Bool (same (asked words h agg) side)) [
  | inl e ↦ or_left _ _ e ∙ sym (held_now words agg side vic h e)
  | inr e ↦ ap (λ (b : Bool). b || was_held words agg side vic h) e
]

at : (a b : ℕ) → b ≡ a → eqb a b ≡ true
at a b e = eq-eqb a b (sym e)

off : (a b : ℕ) → b ≢ a → eqb a b ≡ false
off a b n = ne_eqb a b (λ e. n (sym e))

-- ---- one access

-- the rule says nothing of the aggressor's own bit, and a read shows the victim's
pub own_agg : (means : Means) (d : Disturbance) (c a : Bool) → agg_own (rule means d) c a ≡ a
own_agg Invert d c a = refl
own_agg Force d c a = refl
own_agg State d c a = refl

pub shown : (means : Means) (d : Disturbance) (a v : Bool) → shows (rule means d) a v ≡ v
shown Invert d a v = refl
shown Force d a v = refl
shown State d a v = refl

pub after_read : (means : Means) (d : Disturbance) (words : List ℕ) (h : History) (a : ℕ) → vic_now means d words (Read a ∷ h) ≡ vic_now means d words h
after_read Invert d words h a = refl
after_read Force d words h a = refl
after_read State d words h a = ap (λ (b : Bool). if b then d.value else asked words h d.vic) (held_still words d.agg d.side d.vic h)

pub after_own : (means : Means) (d : Disturbance) (words : List ℕ) (h : History) (a x : ℕ) → a ≡ d.vic.word → a ≢ d.agg.word
    → vic_now means d words (Write a x ∷ h) ≡ vic_own (rule means d) (has_bit x d.vic.bit) (asked words h d.agg) (vic_now means d words h)
after_own Invert d words h a x here apart = rw (at d.vic.word a here)
after_own Force d words h a x here apart = rw (at d.vic.word a here)
after_own State d words h a x here apart =
    rw (at d.vic.word a here, off d.agg.word a apart)
    (ap (λ (b : Bool). if b then d.value else has_bit x d.vic.bit) (or_none (same (asked words h d.agg) d.side)))

pub after_other : (means : Means) (d : Disturbance) (words : List ℕ) (h : History) (a x : ℕ) → a ≡ d.agg.word → a ≢ d.vic.word
    → vic_now means d words (Write a x ∷ h) ≡ vic_other (rule means d) (has_bit x d.agg.bit) (asked words h d.agg) (vic_now means d words h)
after_other Invert d words h a x there apart =
    rw (off d.vic.word a apart, at d.agg.word a there)
    (inverted_more (same (asked words h d.agg) (not d.side) && same (has_bit x d.agg.bit) d.side) (asked words h d.vic) (named_changes words d.agg d.side d.vic h))
after_other Force d words h a x there apart =
    rw (off d.vic.word a apart, at d.agg.word a there)
    (forced_more (same (asked words h d.agg) (not d.side) && same (has_bit x d.agg.bit) d.side) (asked words h d.vic) d.value (named_changes words d.agg d.side d.vic h))
after_other State d words h a x there apart =
    rw (off d.vic.word a apart, at d.agg.word a there)
    (held_more (same (has_bit x d.agg.bit) d.side) (was_held words d.agg d.side d.vic h) (asked words h d.vic) d.value)

pub after_far : (means : Means) (d : Disturbance) (words : List ℕ) (h : History) (a x : ℕ) → a ≢ d.agg.word → a ≢ d.vic.word
    → vic_now means d words (Write a x ∷ h) ≡ vic_now means d words h
after_far Invert d words h a x not_agg not_vic = rw (off d.vic.word a not_vic, off d.agg.word a not_agg)
after_far Force d words h a x not_agg not_vic = rw (off d.vic.word a not_vic, off d.agg.word a not_agg)
after_far State d words h a x not_agg not_vic =
    rw (off d.vic.word a not_vic, off d.agg.word a not_agg)
    (ap (λ (b : Bool). if b then d.value else asked words h d.vic) (held_still words d.agg d.side d.vic h))

pub agg_set : (d : Disturbance) (words : List ℕ) (h : History) (a x : ℕ) → a ≡ d.agg.word → asked words (Write a x ∷ h) d.agg ≡ has_bit x d.agg.bit
agg_set d words h a x there = rw (at d.agg.word a there)

pub agg_kept : (d : Disturbance) (words : List ℕ) (h : History) (a x : ℕ) → a ≢ d.agg.word → asked words (Write a x ∷ h) d.agg ≡ asked words h d.agg
agg_kept d words h a x apart = rw (off d.agg.word a apart)

-- a read of the victim's word answers what plain memory has, with the victim's bit
pub answers : (means : Means) (d : Disturbance) (words : List ℕ) (h : History)
    → answer (Some (fault_by d means)) words h d.vic.word ≡ put_bit (plain words h d.vic.word) d.vic.bit (vic_now means d words h)
unfolding answer_under stored_under
answers Invert d words h = rw (eq-eqb d.vic.word d.vic.word refl)
answers Force d words h = rw (eq-eqb d.vic.word d.vic.word refl)
answers State d words h = rw (eq-eqb d.vic.word d.vic.word refl)
