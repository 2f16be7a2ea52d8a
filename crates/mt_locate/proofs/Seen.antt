-- A word without a cell has one word to be seen.
use Rattle.std.proofs.Common.{◌≡◌, ℕ, zero, suc, ◌+◌, ◌^◌, ◌<◌, ◌≤◌, Bool, true, false, List, [], ◌∷◌, map, Option, Some, None, refl, sym, ap, ◌∙◌, arith, inl, inr}
use Rattle.std.specs.Prelude.{filter, if◌then◌else◌, ◌≢◌, slice_get, IsSomeAnd}
use Rattle.std.specs.List.{range_with_len}
use Rattle.std.proofs.lemmas.Bool.{cases_eq}
use Rattle.mt_word.specs.Word.{Fits, width_bits}
use Rattle.mt_fault.specs.declared.fault.Fault.{Fault}
use Rattle.mt_fault.specs.declared.fault.Fault.TheVariants.{NoCell}
use Rattle.mt_fault.specs.Placement.{IsWithin}
use Rattle.mt_locate.specs.declared.probe.Probe.{Probe}
use Rattle.mt_locate.specs.declared.probe.Miss.{Miss}
use Rattle.mt_locate.specs.Probes.{IsAcceptedProbe}
use Rattle.mt_locate.specs.Moved.{IsFaultOfSlice}
use Rattle.mt_locate.specs.Suspects.{FirstMissTellsWhatIsSeen}
use Rattle.mt_locate.specs.Listed.{explains, explaining, all_seen}
use Rattle.mt_locate.proofs.Tested.{decided}

-- ---- filtered numbers of a range

none_of : (test : Fault → Bool) (f : ℕ → Fault) (lo n : ℕ) → ((x : ℕ) → lo ≤ x → x < lo + n → test (f x) ≡ true → ⊥) → filter test (map f (range_with_len lo n)) ≡ []
none_of test f lo zero never = refl
none_of test f lo (suc n) never = of (none_of test f (lo + 1) n (λ x h l t. never x (omega (arith, h)) (omega (arith, l)) t)) (test (f lo)) refl
  where
    of : filter test (map f (range_with_len (lo + 1) n)) ≡ [] → (b : Bool) → test (f lo) ≡ b → filter test (map f (range_with_len lo (suc n))) ≡ []
    of rest true e = absurd (never lo (omega arith) (omega arith) e)
    of rest false e =
        ap (λ (b : Bool). if b then f lo ∷ filter test (map f (range_with_len (lo + 1) n)) else filter test (map f (range_with_len (lo + 1) n))) e
        ∙ rest

only_of : (test : Fault → Bool) (f : ℕ → Fault) (w lo n : ℕ) → ((x : ℕ) → lo ≤ x → x < lo + n → test (f x) ≡ true → x ≡ w) → lo ≤ w → w < lo + n
    → filter test (map f (range_with_len lo n)) ≡ filter test (f w ∷ [])
only_of test f w lo zero only h l = absurd (omega (arith, h, l))
only_of test f w lo (suc n) only h l = elim (cases_eq lo w) [
  | inl same ↦
      let rest : filter test (map f (range_with_len (lo + 1) n)) ≡ [] =
      none_of test f (lo + 1) n (λ x g k t. let e : x ≡ w = only x (omega (arith, g)) (omega (arith, k)) t in absurd (omega (arith, e, same, g))) in
      ap (λ (r : List Fault). if test (f lo) then f lo ∷ r else r) rest ∙ ap (λ (k : ℕ). filter test (f k ∷ [])) same
  | inr apart ↦
      let out : test (f lo) ≡ false = of (test (f lo)) (λ e. apart (only lo (omega arith) (omega arith) e)) in
      ap (λ (b : Bool). if b then f lo ∷ filter test (map f (range_with_len (lo + 1) n)) else filter test (map f (range_with_len (lo + 1) n))) out
      ∙ only_of test f w (lo + 1) n (λ x g k t. only x (omega (arith, g)) (omega (arith, k)) t) (past lo w h apart) (omega (arith, l))
]
  where
    of : (b : Bool) → (b ≡ true → ⊥) → b ≡ false
    of true never = absurd (never refl)
    of false never = refl

    past : (a b : ℕ) → a ≤ b → a ≢ b → a + 1 ≤ b
    past a b p q = omega (arith, p, q)

-- ---- the faults of one word

-- a word that is seen at an address of the slice
abbrev seen_at : Probe → ℕ → ℕ → Fault
seen_at probe addr x = NoCell addr x

of_slice : (probe : Probe) (addr x : ℕ) → IsWithin probe.first probe.n addr → Fits probe.width x → IsFaultOfSlice probe.width probe.first probe.n (NoCell addr x)
of_slice probe addr x within fits = record {
  placed = record { inside = ((within.below, tt), ((fits, tt), tt)); apart = tt };
  inside = (within, tt);
}

told : FirstMissTellsWhatIsSeen → (probe : Probe) (misses : List Miss) (addr x : ℕ) → IsAcceptedProbe probe → IsWithin probe.first probe.n addr → Fits probe.width x
    → explains probe misses (NoCell addr x) ≡ true → IsSomeAnd (slice_get misses 0) (λ m. m.word ≡ x)
told law probe misses addr x accepted within fits e = law probe misses addr x accepted (of_slice probe addr x within fits) ((decided probe misses (NoCell addr x)).0 e)

word_is : (o : Option Miss) (m : Miss) (x : ℕ) → o ≡ Some m → IsSomeAnd o (λ n. n.word ≡ x) → m.word ≡ x
word_is None m x e t = absurd t
word_is (Some n) m x e t = let f : n ≡ m = cc in ap (λ (k : Miss). k.word) (sym f) ∙ t

pub seen_alone : FirstMissTellsWhatIsSeen → (probe : Probe) (misses : List Miss) (addr : ℕ) (miss : Miss) → IsAcceptedProbe probe → IsWithin probe.first probe.n addr
    → slice_get misses 0 ≡ Some miss → Fits probe.width miss.word → explaining probe misses (NoCell addr miss.word ∷ []) ≡ explaining probe misses (all_seen probe.width addr)
unfolding explaining
seen_alone law probe misses addr miss accepted within first fits =
    sym (only_of (explains probe misses) (NoCell addr) miss.word 0 (2 ^ width_bits probe.width)
    (λ x h l e. sym (word_is (slice_get misses 0) miss x first (told law probe misses addr x accepted within (let f : x < 2 ^ width_bits probe.width = omega (arith, l) in f) e)))
    (omega arith) (omega (arith, fits)))

pub none_seen : FirstMissTellsWhatIsSeen → (probe : Probe) (misses : List Miss) (addr : ℕ) → IsAcceptedProbe probe → IsWithin probe.first probe.n addr
    → ((x : ℕ) → Fits probe.width x → IsSomeAnd (slice_get misses 0) (λ m. m.word ≡ x) → ⊥) → explaining probe misses (all_seen probe.width addr) ≡ []
unfolding explaining
none_seen law probe misses addr accepted within never =
    none_of (explains probe misses) (NoCell addr) 0 (2 ^ width_bits probe.width)
    (λ x h l e. let f : x < 2 ^ width_bits probe.width = omega (arith, l) in never x f (told law probe misses addr x accepted within f e))

-- no miss tells a word
pub unseen : (misses : List Miss) (x : ℕ) → slice_get misses 0 ≡ None → IsSomeAnd (slice_get misses 0) (λ m. m.word ≡ x) → ⊥
unseen [] x e t = t
unseen (m ∷ misses) x e t = absurd (cc)

-- the first miss's word does not fit
pub misfit : (misses : List Miss) (miss : Miss) (limit x : ℕ) → slice_get misses 0 ≡ Some miss → (miss.word < limit → ⊥) → x < limit → IsSomeAnd (slice_get misses 0) (λ m. m.word ≡ x) → ⊥
misfit misses miss limit x first wide fits t = let e : miss.word ≡ x = word_is (slice_get misses 0) miss x first t in wide (omega (arith, e, fits))

-- no fault, and none that explains
pub none_explain : (probe : Probe) (misses : List Miss) → explaining probe misses [] ≡ []
unfolding explaining
none_explain probe misses = refl
