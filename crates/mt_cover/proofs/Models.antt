-- Each fault goes by its rule.
use Rattle.std.proofs.Common.{ℕ, ◌≡◌, ◌≢◌, ◌<◌, suc, Bool, true, false, List, [], ◌∷◌, ◌++◌, map, refl, ap, sym, ◌∙◌, eqb, cond, arith, inl, inr}
use Rattle.std.specs.Prelude.{◌==◌, ◌&&◌, ◌||◌, min, max, bit_and, bit_or}
use Rattle.std.proofs.lemmas.Bool.{eq-eqb, ne_eqb, or_left, cases_Bool}
use Rattle.std.proofs.lemmas.Bool.Decides.{nat_tests}
use Rattle.std.proofs.lemmas.Nat.Bits.{bit_at_and, bit_at_or, bit_at-lt}
use Rattle.mt_word.specs.Word.{has_bit}
use Rattle.mt_fault.specs.declared.fault.Spot.{Spot}
use Rattle.mt_fault.specs.declared.fault.Fault.{Fault}
use Rattle.mt_fault.specs.declared.fault.Fault.TheVariants.{StuckAt, CannotRise, CannotFall, Invert, Force, State, NoCell, Also, Instead}
use Rattle.mt_fault.specs.History.{History, Read, Write, plain}
use Rattle.mt_fault.specs.Faulty.{same, asked, was_held, with_victim, moved, cells_of, rerouted, stored_under, answer_under}
use Rattle.mt_fault.specs.Rules.{vic_of}
use Rattle.mt_decoder.specs.BitModel.{stuck, no_rise, no_fall, inverts, forces, holds, shared, doubled, shows, IsModel}
use Rattle.mt_cover.proofs.Below.{Laws}

at : (a b : ℕ) → b ≡ a → eqb a b ≡ true
at a b e = eq-eqb a b (sym e)

off : (a b : ℕ) → b ≢ a → eqb a b ≡ false
off a b n = ne_eqb a b (λ e. n (sym e))

-- ---- the victim's bit after a read

-- the victim's stored bit
abbrev pub bit_after : Fault → List ℕ → History → Bool
bit_after f words h = has_bit (stored_under f words h ((vic_of f).word)) ((vic_of f).bit)

pub held_now : (words : List ℕ) (agg : Spot) (hold : Bool) (vic : Spot) (h : History) → same (asked words h agg) hold ≡ true → was_held words agg hold vic h ≡ true
held_now words agg hold vic [] e = e
held_now words agg hold vic (Read a ∷ h) e = or_left _ _ e
held_now words agg hold vic (Write a x ∷ h) e = or_left _ _ e

held_read : (words : List ℕ) (agg : Spot) (hold : Bool) (vic : Spot) (a : ℕ) (h : History) → was_held words agg hold vic (Read a ∷ h) ≡ was_held words agg hold vic h
held_read words agg hold vic a h =
    elim (cases_Bool (same (asked words h agg) hold)) [
      | inl e ↦ or_left _ _ e ∙ sym (held_now words agg hold vic h e)
      | inr e ↦ rw e
    ]

state_read : (agg : Spot) (hold : Bool) (vic : Spot) (value : Bool) (words : List ℕ) (a : ℕ) (h : History) → bit_after (State agg hold vic value) words (Read a ∷ h) ≡ bit_after (State agg hold vic value) words h
unfolding stored_under
state_read agg hold vic value words a h =
    ap (λ (b : Bool). has_bit (with_victim vic (cond b value (asked words h vic)) (plain words h) vic.word) vic.bit) (held_read words agg hold vic a h)

-- reads change nothing, wherever they go
reads_leave : (words : List ℕ) (a : ℕ) (cells : List ℕ) (h : History) (b : ℕ) → plain words (map (moved (Read a)) cells ++ h) b ≡ plain words h b
reads_leave words a [] h b = refl
reads_leave words a (c ∷ cells) h b = reads_leave words a cells h b

-- ---- faults of one spot

-- no aggressor
abbrev pub none : History → Bool
none h = false

-- bit 0 of a word, at which decoder faults are looked at
abbrev pub spot : ℕ → Spot
spot a = record { word = a; bit = 0 }

pub none_model : (addr seen : ℕ) (words : List ℕ) → IsModel (NoCell addr seen) words (stuck (has_bit seen 0)) (spot addr) (spot addr) none (λ h. has_bit seen 0)
unfolding answer_under
none_model addr seen words = record {
  shown = λ h. rw (eq-eqb addr addr refl);
  shown_agg = λ h ne. absurd (ne refl);
  own_vic = λ h a x e. refl;
  own_agg = λ h a x e. refl;
  other_vic = λ h a x e n. refl;
  other_agg = λ h a x e n. absurd (n e);
  read_vic = λ h a. refl;
  read_agg = λ h a. refl;
}

module _ (laws : Laws) where
  -- a write of another word leaves the victim with the bit that the rule gives it
  stuck_bit : (vic : Spot) (value : Bool) (words : List ℕ) (h : History) → has_bit (stored_under (StuckAt vic value) words h vic.word) vic.bit ≡ value
  unfolding stored_under
  stuck_bit vic value words h =
      let away : eqb vic.word (suc vic.word) ≡ false = ne_eqb vic.word (suc vic.word) (λ e. omega arith) in
      rw away at (laws.last (StuckAt vic value) words h (suc vic.word) 0 refl)

  pub stuck_model : (vic : Spot) (value : Bool) (words : List ℕ) → IsModel (StuckAt vic value) words (stuck value) vic vic none (λ h. value)
  unfolding answer_under
  stuck_model vic value words = record {
    shown = λ h. stuck_bit vic value words h;
    shown_agg = λ h ne. absurd (ne refl);
    own_vic = λ h a x e. refl;
    own_agg = λ h a x e. refl;
    other_vic = λ h a x e n. refl;
    other_agg = λ h a x e n. absurd (n e);
    read_vic = λ h a. refl;
    read_agg = λ h a. refl;
  }

  pub rise_model : (vic : Spot) (words : List ℕ) → IsModel (CannotRise vic) words no_rise vic vic none (bit_after (CannotRise vic) words)
  unfolding stored_under answer_under
  rise_model vic words = record {
    shown = λ h. refl;
    shown_agg = λ h ne. absurd (ne refl);
    own_vic = λ h a x e. laws.last (CannotRise vic) words h a x refl ∙ rw (at vic.word a e);
    own_agg = λ h a x e. refl;
    other_vic = λ h a x e n. absurd (n e);
    other_agg = λ h a x e n. absurd (n e);
    read_vic = λ h a. refl;
    read_agg = λ h a. refl;
  }

  pub fall_model : (vic : Spot) (words : List ℕ) → IsModel (CannotFall vic) words no_fall vic vic none (bit_after (CannotFall vic) words)
  unfolding stored_under answer_under
  fall_model vic words = record {
    shown = λ h. refl;
    shown_agg = λ h ne. absurd (ne refl);
    own_vic = λ h a x e. laws.last (CannotFall vic) words h a x refl ∙ rw (at vic.word a e);
    own_agg = λ h a x e. refl;
    other_vic = λ h a x e n. absurd (n e);
    other_agg = λ h a x e n. absurd (n e);
    read_vic = λ h a. refl;
    read_agg = λ h a. refl;
  }

  -- ---- faults of two spots

  -- an aggressor's bit after a write
  agg_set : (agg : Spot) (words : List ℕ) (h : History) (a x : ℕ) → a ≡ agg.word → asked words (Write a x ∷ h) agg ≡ has_bit x agg.bit
  agg_set agg words h a x e = rw (at agg.word a e)

  agg_kept : (agg vic : Spot) (words : List ℕ) (h : History) (a x : ℕ) → agg.word ≢ vic.word → a ≡ vic.word → asked words (Write a x ∷ h) agg ≡ asked words h agg
  agg_kept agg vic words h a x ne e = rw (off agg.word a (λ same. ne (sym same ∙ e)))

  pub invert_model : (agg vic : Spot) (rise : Bool) (words : List ℕ) → agg.word ≢ vic.word → IsModel (Invert agg rise vic) words (inverts rise) agg vic (λ h. asked words h agg) (bit_after (Invert agg rise vic) words)
  unfolding stored_under answer_under
  invert_model agg vic rise words ne = record {
    shown = λ h. refl;
    shown_agg = λ h apart. rw (ne_eqb agg.word vic.word apart);
    own_vic = λ h a x e. laws.last (Invert agg rise vic) words h a x refl ∙ rw (at vic.word a e);
    own_agg = λ h a x e. agg_kept agg vic words h a x ne e;
    other_vic = λ h a x e n. laws.last (Invert agg rise vic) words h a x refl ∙ rw (off vic.word a n, at agg.word a e);
    other_agg = λ h a x e n. agg_set agg words h a x e;
    read_vic = λ h a. refl;
    read_agg = λ h a. refl;
  }

  pub force_model : (agg vic : Spot) (rise value : Bool) (words : List ℕ) → agg.word ≢ vic.word → IsModel (Force agg rise vic value) words (forces rise value) agg vic (λ h. asked words h agg) (bit_after (Force agg rise vic value) words)
  unfolding stored_under answer_under
  force_model agg vic rise value words ne = record {
    shown = λ h. refl;
    shown_agg = λ h apart. rw (ne_eqb agg.word vic.word apart);
    own_vic = λ h a x e. laws.last (Force agg rise vic value) words h a x refl ∙ rw (at vic.word a e);
    own_agg = λ h a x e. agg_kept agg vic words h a x ne e;
    other_vic = λ h a x e n. laws.last (Force agg rise vic value) words h a x refl ∙ rw (off vic.word a n, at agg.word a e);
    other_agg = λ h a x e n. agg_set agg words h a x e;
    read_vic = λ h a. refl;
    read_agg = λ h a. refl;
  }

  pub state_model : (agg vic : Spot) (hold value : Bool) (words : List ℕ) → agg.word ≢ vic.word → IsModel (State agg hold vic value) words (holds hold value) agg vic (λ h. asked words h agg) (bit_after (State agg hold vic value) words)
  unfolding stored_under answer_under
  state_model agg vic hold value words ne = record {
    shown = λ h. refl;
    shown_agg = λ h apart. rw (ne_eqb agg.word vic.word apart);
    own_vic = λ h a x e. laws.last (State agg hold vic value) words h a x refl ∙ rw (at vic.word a e, off agg.word a (λ same. ne (sym same ∙ e)));
    own_agg = λ h a x e. agg_kept agg vic words h a x ne e;
    other_vic = λ h a x e n. laws.last (State agg hold vic value) words h a x refl ∙ rw (off vic.word a n, at agg.word a e);
    other_agg = λ h a x e n. agg_set agg words h a x e;
    read_vic = λ h a. state_read agg hold vic value words a h;
    read_agg = λ h a. refl;
  }

-- ---- decoder faults: the words of both cells by bit 0

-- the stored bit of a word
abbrev pub stored_bit : Fault → List ℕ → ℕ → History → Bool
stored_bit f words a h = has_bit (stored_under f words h a) 0

min_one : (x y : ℕ) → x < 2 → y < 2 → (min x y == 1) ≡ ((x == 1) && (y == 1))
min_one x y h g = grind (arith, nat_tests)

max_one : (x y : ℕ) → x < 2 → y < 2 → (max x y == 1) ≡ ((x == 1) || (y == 1))
max_one x y h g = grind (arith, nat_tests)

and_bit : (x y : ℕ) → has_bit (bit_and x y) 0 ≡ (has_bit x 0 && has_bit y 0)
unfolding has_bit
and_bit x y = ap (λ (t : ℕ). t == 1) (bit_at_and x y 0) ∙ min_one _ _ (bit_at-lt x 0) (bit_at-lt y 0)

or_bit : (x y : ℕ) → has_bit (bit_or x y) 0 ≡ (has_bit x 0 || has_bit y 0)
unfolding has_bit
or_bit x y = ap (λ (t : ℕ). t == 1) (bit_at_or x y 0) ∙ max_one _ _ (bit_at-lt x 0) (bit_at-lt y 0)

wired_bit : (wired_and : Bool) (x y : ℕ) → has_bit (cond wired_and (bit_and x y) (bit_or x y)) 0 ≡ shows (doubled wired_and) (has_bit y 0) (has_bit x 0)
wired_bit true x y = and_bit x y
wired_bit false x y = or_bit x y

pub instead_model : (addr other : ℕ) (words : List ℕ) → addr ≢ other → IsModel (Instead addr other) words shared (spot other) (spot addr) (stored_bit (Instead addr other) words other) none
unfolding stored_under answer_under
instead_model addr other words ne = record {
  shown = λ h. rw (eq-eqb addr addr refl);
  shown_agg = λ h apart. rw (ne_eqb other addr apart);
  own_vic = λ h a x e. refl;
  own_agg = λ h a x e. let here : eqb a addr ≡ true = eq-eqb a addr e in let there : eqb other other ≡ true = eq-eqb other other refl in rw (here, there);
  other_vic = λ h a x e n. refl;
  other_agg = λ h a x e n. let away : eqb a addr ≡ false = ne_eqb a addr n in let there : eqb other a ≡ true = at other a e in rw (away, there);
  read_vic = λ h a. refl;
  read_agg = λ h a. ap (λ (y : ℕ). has_bit y 0) (reads_leave words a (cells_of (Instead addr other) a) (rerouted (Instead addr other) h) other);
}

pub also_model : (addr other : ℕ) (wired_and : Bool) (words : List ℕ) → addr ≢ other → IsModel (Also addr other wired_and) words (doubled wired_and) (spot other) (spot addr) (stored_bit (Also addr other wired_and) words other) (stored_bit (Also addr other wired_and) words addr)
unfolding stored_under answer_under
also_model addr other wired_and words ne = record {
  shown = λ h. let here : eqb addr addr ≡ true = eq-eqb addr addr refl in rw here (wired_bit wired_and _ _);
  shown_agg = λ h apart. rw (ne_eqb other addr apart);
  own_vic = λ h a x e. let here : eqb a addr ≡ true = eq-eqb a addr e in let self : eqb addr addr ≡ true = eq-eqb addr addr refl in rw (here, self);
  own_agg = λ h a x e.
      let here : eqb a addr ≡ true = eq-eqb a addr e in
      let apart : eqb other addr ≡ false = ne_eqb other addr (λ same. ne (sym same)) in
      let self : eqb other other ≡ true = eq-eqb other other refl in
      rw (here, apart, self);
  other_vic = λ h a x e n. let away : eqb a addr ≡ false = ne_eqb a addr n in let elsewhere : eqb addr a ≡ false = off addr a n in rw (away, elsewhere);
  other_agg = λ h a x e n. let away : eqb a addr ≡ false = ne_eqb a addr n in let there : eqb other a ≡ true = at other a e in rw (away, there);
  read_vic = λ h a. ap (λ (y : ℕ). has_bit y 0) (reads_leave words a (cells_of (Also addr other wired_and) a) (rerouted (Also addr other wired_and) h) addr);
  read_agg = λ h a. ap (λ (y : ℕ). has_bit y 0) (reads_leave words a (cells_of (Also addr other wired_and) a) (rerouted (Also addr other wired_and) h) other);
}
