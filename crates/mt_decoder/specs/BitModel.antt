-- A fault by the bits at its two spots: cell 1 is the victim's, and cell 0 the aggressor's.
use Rattle.std.specs.Prelude.{ℕ, ◌≡◌, ◌≢◌, Bool, true, false, List, [], ◌∷◌, Some, ◌==◌, ◌&&◌, ◌||◌, not, if◌then◌else◌}
use mathlib.Core.Bool.{beq}
use Rattle.mt_word.specs.Word.{has_bit}
use Rattle.mt_fault.specs.declared.fault.Spot.{Spot}
use Rattle.mt_fault.specs.declared.fault.Fault.{Fault}
use Rattle.mt_fault.specs.History.{History, Read, Write}
use Rattle.mt_fault.specs.Faulty.{same, answer}
use Rattle.mt_plan.specs.declared.algorithm.Step.{Step}
use Rattle.mt_plan.specs.Lists.{is_write, is_flipped}
use Rattle.mt_plan.specs.Kept.{kept}

-- what a fault does to the bit of its victim; under `shared` a read of the victim's word answers the aggressor's,
-- and under `doubled` both words are written and read as one
pub data Rule : Type 0 where
  stuck : Bool → Rule
  no_rise : Rule
  no_fall : Rule
  inverts : Bool → Rule
  forces : Bool → Bool → Rule
  holds : Bool → Bool → Rule
  shared : Rule
  doubled : Bool → Rule

-- the victim's bit after a write of c to its word, from the bits of aggressor and victim before it
abbrev pub vic_own : Rule → Bool → Bool → Bool → Bool
vic_own (stuck b) c a v = b
vic_own no_rise c a v = c && v
vic_own no_fall c a v = c || v
vic_own (inverts b) c a v = c
vic_own (forces b d) c a v = c
vic_own (holds b d) c a v = if same a b then d else c
vic_own shared c a v = v
vic_own (doubled w) c a v = c

-- the aggressor's bit after such a write
abbrev pub agg_own : Rule → Bool → Bool → Bool
agg_own (stuck b) c a = a
agg_own no_rise c a = a
agg_own no_fall c a = a
agg_own (inverts b) c a = a
agg_own (forces b d) c a = a
agg_own (holds b d) c a = a
agg_own shared c a = c
agg_own (doubled w) c a = c

-- the victim's bit after a write of c to the aggressor's word
abbrev pub vic_other : Rule → Bool → Bool → Bool → Bool
vic_other (stuck b) c a v = b
vic_other no_rise c a v = v
vic_other no_fall c a v = v
vic_other (inverts b) c a v = if same a (not b) && same c b then not v else v
vic_other (forces b d) c a v = if same a (not b) && same c b then d else v
vic_other (holds b d) c a v = if same c b then d else v
vic_other shared c a v = v
vic_other (doubled w) c a v = v

-- the bit that a read of the victim's word shows
abbrev pub shows : Rule → Bool → Bool → Bool
shows (stuck b) a v = b
shows no_rise a v = v
shows no_fall a v = v
shows (inverts b) a v = v
shows (forces b d) a v = v
shows (holds b d) a v = v
shows shared a v = a
shows (doubled w) a v = if w then v && a else v || a

abbrev pub flipped_if : Bool → Bool → Bool
flipped_if true b = not b
flipped_if false b = b

-- the bit that a step writes or expects at the spot of its cell
abbrev pub wanted : Bool → Bool → Step → Bool
wanted ba bv t = flipped_if (is_flipped t.act) (if t.cell == 1 then bv else ba)

-- the aggressor's bit after a step
abbrev pub agg_after : Rule → Bool → Bool → Bool → Step → Bool
agg_after r ba bv a t = if is_write t.act then (if t.cell == 1 then agg_own r (wanted ba bv t) a else wanted ba bv t) else a

-- the victim's bit after a step
abbrev pub vic_after : Rule → Bool → Bool → Bool → Bool → Step → Bool
vic_after r ba bv a v t =
    if is_write t.act then (if t.cell == 1 then vic_own r (wanted ba bv t) a v else vic_other r (wanted ba bv t) a v) else v

-- whether a step is a read that shows another bit than it expects
abbrev pub misses : Rule → Bool → Bool → Bool → Bool → Step → Bool
misses r ba bv a v t = not (is_write t.act) && not (beq (if t.cell == 1 then shows r a v else a) (wanted ba bv t))

-- whether some step misses, from the bits of aggressor and victim
abbrev pub caught : Rule → Bool → Bool → Bool → Bool → List Step → Bool
caught r ba bv a v [] = false
caught r ba bv a v (t ∷ l) = misses r ba bv a v t || caught r ba bv (agg_after r ba bv a t) (vic_after r ba bv a v t) l

-- caught whatever the stored bits are, where these are the bits of the backgrounds
abbrev pub IsCaughtOn : Rule → Bool → Bool → List Step → Type 0
IsCaughtOn r ba bv l = (a v : Bool) → caught r ba bv a v l ≡ true

-- a cell by its part in the fault
abbrev pub part : ℕ → ℕ → ℕ → List ℕ
part a v c = if c == v then (1 ∷ []) else (if c == a then (0 ∷ []) else [])

-- the steps on the cells of the fault alone
abbrev pub project : ℕ → ℕ → List Step → List Step
project a v l = kept (part a v) l

-- The bits of aggressor and victim go by the rule at each access, and reads of their words show them.
pub record IsModel (f : Fault) (words : List ℕ) (r : Rule) (agg vic : Spot) (agg_bit vic_bit : History → Bool) : Type 0 where
  pub shown : (h : History) → has_bit (answer (Some f) words h vic.word) vic.bit ≡ shows r (agg_bit h) (vic_bit h)
  pub shown_agg : (h : History) → agg.word ≢ vic.word → has_bit (answer (Some f) words h agg.word) agg.bit ≡ agg_bit h
  pub own_vic : (h : History) (a x : ℕ) → a ≡ vic.word → vic_bit (Write a x ∷ h) ≡ vic_own r (has_bit x vic.bit) (agg_bit h) (vic_bit h)
  pub own_agg : (h : History) (a x : ℕ) → a ≡ vic.word → agg_bit (Write a x ∷ h) ≡ agg_own r (has_bit x vic.bit) (agg_bit h)
  pub other_vic : (h : History) (a x : ℕ) → a ≡ agg.word → a ≢ vic.word → vic_bit (Write a x ∷ h) ≡ vic_other r (has_bit x agg.bit) (agg_bit h) (vic_bit h)
  pub other_agg : (h : History) (a x : ℕ) → a ≡ agg.word → a ≢ vic.word → agg_bit (Write a x ∷ h) ≡ has_bit x agg.bit
  pub read_vic : (h : History) (a : ℕ) → vic_bit (Read a ∷ h) ≡ vic_bit h
  pub read_agg : (h : History) (a : ℕ) → agg_bit (Read a ∷ h) ≡ agg_bit h
