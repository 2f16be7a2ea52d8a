-- The test whether a fault explains the misses.
use Rattle.std.proofs.Common.{◌≡◌, ℕ, ◌==◌, Bool, true, false, ◌&&◌, List, refl, sym, ap, ◌∙◌}
use Rattle.std.specs.Prelude.{◌↔◌, IsTrue}
use Rattle.std.specs.Bool.{Decides}
use Rattle.std.proofs.lemmas.Slice.Eq.{slice_eq-Decides}
use Rattle.std.proofs.lemmas.Bool.{eq-eqb, eqb-true}
use Rattle.std.proofs.lemmas.Bool.Decides.{same_from_decides}
use Rattle.mt_fault.specs.declared.fault.Fault.{Fault}
use Rattle.mt_locate.specs.declared.probe.Probe.{Probe}
use Rattle.mt_locate.specs.declared.probe.Miss.{Miss}
use Rattle.mt_locate.specs.Explanations.{misses_under, Explains}
use Rattle.mt_locate.specs.Listed.{same_miss, explains, ExplainsIsTested}

miss_is : (a b : Miss) → a.index ≡ b.index → a.word ≡ b.word → a ≡ b
miss_is a b p q = ap (λ (i : ℕ). record { index = i; word = a.word }) p ∙ ap (λ (w : ℕ). record { index = b.index; word = w }) q

pub and_true : (a b : Bool) → (a && b) ≡ true → (a ≡ true) × (b ≡ true)
and_true true b e = (refl, e)
and_true false b e = absurd (cc)

same_miss-Decides : (a b : Miss) → Decides (same_miss a b) (a ≡ b)
same_miss-Decides a b = (
  λ e. let both = and_true (a.index == b.index) (a.word == b.word) e in miss_is a b (eqb-true a.index b.index both.0) (eqb-true a.word b.word both.1),
  λ e. ap (λ (t : Bool). t && (a.word == b.word)) (eq-eqb a.index b.index (ap (λ (m : Miss). m.index) e)) ∙ eq-eqb a.word b.word (ap (λ (m : Miss). m.word) e),
)

pub decided : (probe : Probe) (misses : List Miss) (f : Fault) → Decides (explains probe misses f) (Explains probe misses f)
unfolding explains
decided probe misses f = slice_eq-Decides same_miss-Decides (misses_under probe f) misses (explains probe misses f) refl

pub tested : ExplainsIsTested
tested probe misses f = decided probe misses f

-- a test with the same meaning has the same result
pub test_is : (probe : Probe) (misses : List Miss) (f : Fault) (r : Bool) → (IsTrue r ↔ Explains probe misses f) → r ≡ explains probe misses f
test_is probe misses f r same = same_from_decides r (explains probe misses f) same (decided probe misses f)

-- a fault that is no suspect explains nothing
pub innocent : (probe : Probe) (misses : List Miss) (f : Fault) {suspected : Bool} → (Explains probe misses f → suspected ≡ true) → suspected ≡ false → explains probe misses f ≡ false
innocent probe misses f {suspected} law no_suspect = of (explains probe misses f) refl
  where
    of : (b : Bool) → explains probe misses f ≡ b → explains probe misses f ≡ false
    of true e = let t : true ≡ false = sym (law ((decided probe misses f).0 e)) ∙ no_suspect in absurd (cc)
    of false e = e
