-- Each fault does what its class says.
use Rattle.std.proofs.Common.{ℕ, ◌≡◌, ◌≢◌, Bool, true, false, List, [], ◌∷◌, refl, ap, sym, ◌∙◌, eqb, cond, inl, inr, get_or}
use Rattle.std.specs.Prelude.{◌&&◌, ◌||◌, ◌⊎◌, not, IsTrue}
use Rattle.std.proofs.lemmas.Bool.{ne_eqb}
use Rattle.mt_word.specs.Word.{has_bit, put_bit}
use Rattle.mt_fault.specs.declared.fault.Spot.{Spot}
use Rattle.mt_fault.specs.declared.fault.Fault.{Fault}
use Rattle.mt_fault.specs.declared.fault.Fault.TheVariants.{StuckAt, CannotRise, CannotFall, Invert, Force, State, NoCell, Also, Instead}
use Rattle.mt_fault.specs.History.{Access, History, Read, Write, plain}
use Rattle.mt_fault.specs.Faulty.{same, asked, with_victim, stored_under}
use Rattle.mt_fault.specs.Rules.{agg_of, vic_of, is_of_bit, vic_after}
use Rattle.mt_cover.specs.Behaviour.{bit_after, IsStuck, NeverLeaves, IsCoupled, IsHeld, ReachesNoCell, FaultsBehaveAsTheirClass}
use Rattle.mt_cover.proofs.Below.{itself}
use Rattle.mt_cover.proofs.Models.{held_now}

-- what the law of bits that are put says
abbrev pub LastDecides : Type 0
LastDecides =
    (fault : Fault) (first : List ℕ) (h : History) (a x : ℕ) → IsTrue (is_of_bit fault)
    → has_bit (stored_under fault first (Write a x ∷ h) ((vic_of fault).word)) ((vic_of fault).bit)
    ≡ vic_after fault (asked first h (agg_of fault)) (has_bit (stored_under fault first h ((vic_of fault).word)) ((vic_of fault).bit)) a x

abbrev pub PutIsThere : Type 0
PutIsThere = (word i : ℕ) (value : Bool) → has_bit (put_bit word i value) i ≡ value

-- the change that a write makes, by its bits
becomes_changed : (rise was x v w : Bool) → was ≡ not rise → x ≡ rise → cond (same was (not rise) && same x rise) w v ≡ w
becomes_changed true true x v w e f = cc
becomes_changed true false true v w e f = refl
becomes_changed true false false v w e f = cc
becomes_changed false true true v w e f = cc
becomes_changed false true false v w e f = refl
becomes_changed false false x v w e f = cc

stays_unchanged : (rise was x v w : Bool) → (was ≡ rise) ⊎ (x ≡ not rise) → cond (same was (not rise) && same x rise) w v ≡ v
stays_unchanged true true true v w e = refl
stays_unchanged true true false v w e = refl
stays_unchanged true false true v w e = elim e [ inl h ↦ cc | inr h ↦ cc ]
stays_unchanged true false false v w e = refl
stays_unchanged false true true v w e = refl
stays_unchanged false true false v w e = elim e [ inl h ↦ cc | inr h ↦ cc ]
stays_unchanged false false true v w e = refl
stays_unchanged false false false v w e = refl

not_not : (b : Bool) → not (not b) ≡ b
not_not true = refl
not_not false = refl

same_bits : (b : Bool) → same b b ≡ true
same_bits true = refl
same_bits false = refl

not_same : (b : Bool) → same (not b) b ≡ false
not_same true = refl
not_same false = refl

no_change : (stored was x rise : Bool) → stored ≡ was → (stored ≡ rise) ⊎ (x ≡ not rise) → (was ≡ rise) ⊎ (x ≡ not rise)
no_change stored was x rise e (inl h) = inl (sym e ∙ h)
no_change stored was x rise e (inr h) = inr h

-- ---- the address decoder

no_cell : (addr seen : ℕ) → ReachesNoCell (NoCell addr seen) addr
unfolding stored_under
no_cell addr seen words h x = rw (itself addr)

also_other : (addr other : ℕ) (wired : Bool) → addr ≢ other → (words : List ℕ) (h : History) (x : ℕ) → stored_under (Also addr other wired) words (Write addr x ∷ h) other ≡ x
unfolding stored_under
also_other addr other wired ne words h x = let apart : eqb other addr ≡ false = ne_eqb other addr (λ e. ne (sym e)) in rw (itself addr, apart, itself other)

instead_other : (addr other : ℕ) (words : List ℕ) (h : History) (x : ℕ) → stored_under (Instead addr other) words (Write addr x ∷ h) other ≡ x
unfolding stored_under
instead_other addr other words h x = rw (itself addr, itself other)

module _ (put_is_there : PutIsThere) (last : LastDecides) where
  -- the victim's bit is the one that it is given
  given : (vic : Spot) (b : Bool) (f : ℕ → ℕ) → has_bit (with_victim vic b f vic.word) vic.bit ≡ b
  given vic b f = rw (itself vic.word) (put_is_there (f vic.word) vic.bit b)

  -- the aggressor's stored bit is the one that was asked
  invert_agg : (agg vic : Spot) (rise : Bool) (words : List ℕ) (h : History) → agg.word ≢ vic.word → bit_after (Invert agg rise vic) words h agg ≡ asked words h agg
  unfolding stored_under
  invert_agg agg vic rise words h ne = rw (ne_eqb agg.word vic.word ne)

  force_agg : (agg vic : Spot) (rise value : Bool) (words : List ℕ) (h : History) → agg.word ≢ vic.word → bit_after (Force agg rise vic value) words h agg ≡ asked words h agg
  unfolding stored_under
  force_agg agg vic rise value words h ne = rw (ne_eqb agg.word vic.word ne)

  state_agg : (agg vic : Spot) (holds value : Bool) (words : List ℕ) (h : History) → agg.word ≢ vic.word → bit_after (State agg holds vic value) words h agg ≡ asked words h agg
  unfolding stored_under
  state_agg agg vic holds value words h ne = rw (ne_eqb agg.word vic.word ne)

  stuck : (vic : Spot) (value : Bool) → IsStuck (StuckAt vic value) vic value
  unfolding stored_under
  stuck vic value = record { stuck = λ words h. given vic value (plain words h) }

  and_kept : (x v : Bool) → v ≡ false → (x && v) ≡ false
  and_kept true v e = e
  and_kept false v e = refl

  cannot_rise : (vic : Spot) → NeverLeaves (CannotRise vic) vic false
  unfolding stored_under
  cannot_rise vic = record {
    begins = λ words. given vic _ (plain words []);
    takes = λ words h x asks. last (CannotRise vic) words h vic.word x refl ∙ rw (itself vic.word, asks);
    keeps = λ words h access.
        elim access as (λ (a : Access). bit_after (CannotRise vic) words h vic ≡ false → bit_after (CannotRise vic) words (a ∷ h) vic ≡ false) [
          | Read a ↦ λ e. e
          | Write a x ↦ λ e. last (CannotRise vic) words h a x refl ∙
              elim (eqb vic.word a) as (λ (t : Bool). cond t (has_bit x vic.bit && bit_after (CannotRise vic) words h vic) (bit_after (CannotRise vic) words h vic) ≡ false)
              [ true ↦ and_kept (has_bit x vic.bit) _ e | false ↦ e ]
        ];
  }

  or_kept : (x v : Bool) → v ≡ true → (x || v) ≡ true
  or_kept true v e = refl
  or_kept false v e = e

  cannot_fall : (vic : Spot) → NeverLeaves (CannotFall vic) vic true
  unfolding stored_under
  cannot_fall vic = record {
    begins = λ words. given vic _ (plain words []) ∙ not_not (has_bit (get_or words vic.word 0) vic.bit);
    takes = λ words h x asks. last (CannotFall vic) words h vic.word x refl ∙ rw (itself vic.word, asks);
    keeps = λ words h access.
        elim access as (λ (a : Access). bit_after (CannotFall vic) words h vic ≡ true → bit_after (CannotFall vic) words (a ∷ h) vic ≡ true) [
          | Read a ↦ λ e. e
          | Write a x ↦ λ e. last (CannotFall vic) words h a x refl ∙
              elim (eqb vic.word a) as (λ (t : Bool). cond t (has_bit x vic.bit || bit_after (CannotFall vic) words h vic) (bit_after (CannotFall vic) words h vic) ≡ true)
              [ true ↦ or_kept (has_bit x vic.bit) _ e | false ↦ e ]
        ];
  }

  invert : (agg vic : Spot) (rise : Bool) → agg.word ≢ vic.word → IsCoupled (Invert agg rise vic) agg vic rise not
  invert agg vic rise apart =
      let away : eqb vic.word agg.word ≡ false = ne_eqb vic.word agg.word (λ e. apart (sym e)) in
      record {
        apart = apart;
        changed = λ words h x change. last (Invert agg rise vic) words h agg.word x refl
            ∙ rw (away, itself agg.word) (becomes_changed rise (asked words h agg) (has_bit x agg.bit) _ _ (sym (invert_agg agg vic rise words h apart) ∙ change.was) change.«is»);
        left = λ words h x same. last (Invert agg rise vic) words h agg.word x refl
            ∙ rw (away, itself agg.word) (stays_unchanged rise (asked words h agg) (has_bit x agg.bit) _ _ (no_change _ _ _ _ (invert_agg agg vic rise words h apart) same));
        stores = λ words h x. last (Invert agg rise vic) words h vic.word x refl ∙ rw (itself vic.word);
      }

  force : (agg vic : Spot) (rise value : Bool) → agg.word ≢ vic.word → IsCoupled (Force agg rise vic value) agg vic rise (λ b. value)
  force agg vic rise value apart =
      let away : eqb vic.word agg.word ≡ false = ne_eqb vic.word agg.word (λ e. apart (sym e)) in
      record {
        apart = apart;
        changed = λ words h x change. last (Force agg rise vic value) words h agg.word x refl
            ∙ rw (away, itself agg.word) (becomes_changed rise (asked words h agg) (has_bit x agg.bit) _ _ (sym (force_agg agg vic rise value words h apart) ∙ change.was) change.«is»);
        left = λ words h x same. last (Force agg rise vic value) words h agg.word x refl
            ∙ rw (away, itself agg.word) (stays_unchanged rise (asked words h agg) (has_bit x agg.bit) _ _ (no_change _ _ _ _ (force_agg agg vic rise value words h apart) same));
        stores = λ words h x. last (Force agg rise vic value) words h vic.word x refl ∙ rw (itself vic.word);
      }

  held : (agg vic : Spot) (bit value : Bool) (words : List ℕ) (h : History) → agg.word ≢ vic.word → asked words h agg ≡ bit → bit_after (State agg bit vic value) words h vic ≡ value
  unfolding stored_under
  held agg vic bit value words h apart e =
      given vic _ (plain words h) ∙ rw (held_now words agg bit vic h (ap (λ (b : Bool). same b bit) e ∙ same_bits bit))

  state : (agg vic : Spot) (bit value : Bool) → agg.word ≢ vic.word → IsHeld (State agg bit vic value) agg vic bit value
  state agg vic bit value apart =
      let away : eqb agg.word vic.word ≡ false = ne_eqb agg.word vic.word apart in
      record {
        apart = apart;
        held = λ words h e. held agg vic bit value words h apart (sym (state_agg agg vic bit value words h apart) ∙ e);
        stores = λ words h x e. last (State agg bit vic value) words h vic.word x refl
            ∙ rw (away, itself vic.word, sym (state_agg agg vic bit value words h apart) ∙ e, not_same bit);
      }

  pub faults_behave : FaultsBehaveAsTheirClass
  faults_behave (StuckAt vic value) apart = (vic, (value, stuck vic value))
  faults_behave (CannotRise vic) apart = (vic, (false, cannot_rise vic))
  faults_behave (CannotFall vic) apart = (vic, (true, cannot_fall vic))
  faults_behave (Invert agg rise vic) apart = (agg, (vic, (rise, invert agg vic rise apart)))
  faults_behave (Force agg rise vic value) apart = (agg, (vic, (rise, (value, force agg vic rise value apart))))
  faults_behave (State agg bit vic value) apart = (agg, (vic, (bit, (value, state agg vic bit value apart))))
  faults_behave (NoCell addr seen) apart = (addr, inl (no_cell addr seen))
  faults_behave (Also addr other wired) apart = (addr, inr (other, (apart, also_other addr other wired apart)))
  faults_behave (Instead addr other) apart = (addr, inr (other, (apart, instead_other addr other)))
