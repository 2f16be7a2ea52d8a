-- The laws of the crates below on which coverage stands, as their public functions state them.
use Rattle.std.proofs.Common.{ℕ, ◌≡◌, ◌≢◌, ◌∷◌, Bool, true, false, List, Some, refl}
use Rattle.std.specs.Prelude.{IsTrue, ◌==◌, ◌||◌}
use Rattle.std.proofs.lemmas.Bool.{eq-eqb, ne_eqb}
use Rattle.mt_word.specs.Word.{has_bit}
use Rattle.mt_fault.specs.declared.fault.Fault.{Fault}
use Rattle.mt_fault.specs.declared.fault.Fault.TheVariants.{StuckAt, CannotRise, CannotFall, Invert, Force, State, NoCell, Also, Instead}
use Rattle.mt_fault.specs.declared.fault.Spot.{Spot}
use Rattle.mt_fault.specs.History.{History, Write}
use Rattle.mt_fault.specs.Faulty.{asked, answer, stored_under}
use Rattle.mt_fault.specs.Projection.{names, own}
use Rattle.mt_fault.specs.Rules.{agg_of, vic_of, is_of_bit, vic_after}
use Rattle.mt_plan.specs.Kept.{MarchOnKeptCells, KeptCells}

-- The laws that leave out other words and other cells, and that of the last access.
pub record Laws : Type 0 where
  pub own_words : (fault : Fault) (first : List ℕ) (h : History) (a : ℕ) → IsTrue (names fault a) → answer (Some fault) first (own fault h) a ≡ answer (Some fault) first h a
  pub last : (fault : Fault) (first : List ℕ) (h : History) (a x : ℕ) → IsTrue (is_of_bit fault)
      → has_bit (stored_under fault first (Write a x ∷ h) ((vic_of fault).word)) ((vic_of fault).bit)
      ≡ vic_after fault (asked first h (agg_of fault)) (has_bit (stored_under fault first h ((vic_of fault).word)) ((vic_of fault).bit)) a x
  pub march : MarchOnKeptCells
  pub cells : KeptCells

-- The words of a fault are those of its two spots.
pub record HasSpots (f : Fault) (a v : ℕ) : Type 0 where
  pub agg : names f a ≡ true
  pub vic : names f v ≡ true
  pub far : (x : ℕ) → x ≢ a → x ≢ v → names f x ≡ false

pub itself : (a : ℕ) → (a == a) ≡ true
itself a = eq-eqb a a refl

or_true : (b : Bool) → (b || true) ≡ true
or_true true = refl
or_true false = refl

pub stuck_spots : (vic : Spot) (value : Bool) → HasSpots (StuckAt vic value) vic.word vic.word
stuck_spots vic value = record { agg = rw (itself vic.word); vic = rw (itself vic.word); far = λ x n m. rw (ne_eqb x vic.word n) }

pub rise_spots : (vic : Spot) → HasSpots (CannotRise vic) vic.word vic.word
rise_spots vic = record { agg = rw (itself vic.word); vic = rw (itself vic.word); far = λ x n m. rw (ne_eqb x vic.word n) }

pub fall_spots : (vic : Spot) → HasSpots (CannotFall vic) vic.word vic.word
fall_spots vic = record { agg = rw (itself vic.word); vic = rw (itself vic.word); far = λ x n m. rw (ne_eqb x vic.word n) }

pub none_spots : (addr seen : ℕ) → HasSpots (NoCell addr seen) addr addr
none_spots addr seen = record { agg = rw (itself addr); vic = rw (itself addr); far = λ x n m. rw (ne_eqb x addr n) }

pub invert_spots : (agg vic : Spot) (rise : Bool) → HasSpots (Invert agg rise vic) agg.word vic.word
invert_spots agg vic rise = record {
  agg = rw (itself agg.word);
  vic = simp (itself vic.word, or_true);
  far = λ x n m. rw (ne_eqb x agg.word n, ne_eqb x vic.word m);
}

pub force_spots : (agg vic : Spot) (rise value : Bool) → HasSpots (Force agg rise vic value) agg.word vic.word
force_spots agg vic rise value = record {
  agg = rw (itself agg.word);
  vic = simp (itself vic.word, or_true);
  far = λ x n m. rw (ne_eqb x agg.word n, ne_eqb x vic.word m);
}

pub state_spots : (agg vic : Spot) (hold value : Bool) → HasSpots (State agg hold vic value) agg.word vic.word
state_spots agg vic hold value = record {
  agg = rw (itself agg.word);
  vic = simp (itself vic.word, or_true);
  far = λ x n m. rw (ne_eqb x agg.word n, ne_eqb x vic.word m);
}

-- of a decoder fault the word at the wrong address is the victim's
pub also_spots : (addr other : ℕ) (wired_and : Bool) → HasSpots (Also addr other wired_and) other addr
also_spots addr other wired_and = record {
  agg = simp (itself other, or_true);
  vic = rw (itself addr);
  far = λ x n m. rw (ne_eqb x addr m, ne_eqb x other n);
}

pub instead_spots : (addr other : ℕ) → HasSpots (Instead addr other) other addr
instead_spots addr other = record {
  agg = simp (itself other, or_true);
  vic = rw (itself addr);
  far = λ x n m. rw (ne_eqb x addr m, ne_eqb x other n);
}
