-- One access of words in which the rule of the fault holds.
use Rattle.std.proofs.Common.{◌≡◌, ℕ, ◌<◌, ◌≤◌, Bool, true, false, cond, eqb, List, [], ◌∷◌, ◌++◌, length, get_or, map, set, refl, sym, ◌∙◌, ap, Option, None, Some, arith}
use Rattle.std.specs.List.{range_with_len}
use lib.Bits.{bit_and}
use Rattle.std.proofs.lemmas.Nat.{or_lt, and_le_l}
use Rattle.mt_word.specs.declared.Width.{Width}
use Rattle.mt_word.specs.Word.{Fits, has_bit, width_bits}
use Rattle.mt_fault.specs.History.{Access, Read, Write, History, plain}
use Rattle.mt_fault.specs.Placement.{IsWellPlaced, IsPlaced}
use Rattle.mt_fault.specs.Faulty.{with_victim, address, moved, stored_under, stored, words_after, answer, answer_under}
use Rattle.mt_fault.specs.Memory.{Memory, IsSound, FitAll, set_spot, after_access}
use Rattle.mt_fault.specs.Rules.{agg_of, vic_of, is_of_bit, vic_after, bit_of, written, stepped, read_of}
use Rattle.mt_fault.specs.declared.fault.Spot.{Spot}
use Rattle.mt_fault.specs.declared.fault.Fault.{Fault}
use Rattle.mt_fault.specs.declared.fault.Fault.TheVariants.{StuckAt, CannotRise, CannotFall, Invert, Force, State, NoCell, Also, Instead}
use Rattle.mt_fault.proofs.Bits.{victim_bit}
use Rattle.mt_fault.proofs.LastAccess.{bit_after, last_write}
use Rattle.mt_fault.proofs.Spans.{words_cut, answer_cut, answer_cong}
use Rattle.mt_fault.proofs.Steps.{plain_none, plain_set, plain_twice, victim_set_after, settled_under, words_read, size_after, sound_after}
use Rattle.mt_fault.proofs.PlainMemory.{plain_write}

-- the words after a write, by the victim's bit
by_bit : (vic : Spot) (b c : Bool) (words : List ℕ) (a x : ℕ) → a < length words → vic.word < length words → b ≡ c
    → map (with_victim vic b (plain words (Write a x ∷ []))) (range_with_len 0 (length words)) ≡ set_spot vic c (set words a x)
by_bit vic b c words a x l m e =
    sym (victim_set_after words vic b a x l m) ∙ ap (λ (v : Bool). set_spot vic v (set words a x)) e

-- the victim's bit after a write goes by its rule
decided : (fault : Fault) (b : Bool) (words : List ℕ) (a x : ℕ) → is_of_bit fault ≡ true → words_after (Some fault) words [] ≡ words → (vic_of fault).word < length words
    → bit_after fault words (Write a x ∷ []) ≡ b → b ≡ vic_after fault (bit_of words (agg_of fault)) (bit_of words (vic_of fault)) a x
decided fault b words a x t s l e =
    sym e ∙ last_write fault words [] a x t
    ∙ ap (λ (w : ℕ). vic_after fault (bit_of words (agg_of fault)) (has_bit w (vic_of fault).bit) a x) (sym (settled_under fault words s (vic_of fault).word l))

pub write_forward : (width : Width) (fault : Fault) (words : List ℕ) (a x : ℕ) → IsWellPlaced width (length words) fault → words_after (Some fault) words [] ≡ words → a < length words
    → words_after (Some fault) words (Write a x ∷ []) ≡ written fault words a x
unfolding words_after stored stored_under
write_forward width (StuckAt vic value) words a x p s l = by_bit vic value value words a x l p.inside.0.0 refl
write_forward width (CannotRise vic) words a x p s l =
    by_bit vic _ _ words a x l p.inside.0.0 (decided (CannotRise vic) _ words a x refl s p.inside.0.0 (victim_bit vic _ (plain words (Write a x ∷ []))))
write_forward width (CannotFall vic) words a x p s l =
    by_bit vic _ _ words a x l p.inside.0.0 (decided (CannotFall vic) _ words a x refl s p.inside.0.0 (victim_bit vic _ (plain words (Write a x ∷ []))))
write_forward width (Invert agg rise vic) words a x p s l =
    by_bit vic _ _ words a x l p.inside.1.0.0 (decided (Invert agg rise vic) _ words a x refl s p.inside.1.0.0 (victim_bit vic _ (plain words (Write a x ∷ []))))
write_forward width (Force agg rise vic value) words a x p s l =
    by_bit vic _ _ words a x l p.inside.1.0.0 (decided (Force agg rise vic value) _ words a x refl s p.inside.1.0.0 (victim_bit vic _ (plain words (Write a x ∷ []))))
write_forward width (State agg holds vic value) words a x p s l =
    by_bit vic _ _ words a x l p.inside.1.0.0 (decided (State agg holds vic value) _ words a x refl s p.inside.1.0.0 (victim_bit vic _ (plain words (Write a x ∷ []))))
write_forward width (NoCell addr seen) words a x p s l = none (eqb a addr)
  where
    none : (q : Bool) → map (plain words (map (moved (Write a x)) (cond q [] (a ∷ [])) ++ [])) (range_with_len 0 (length words)) ≡ cond q words (set words a x)
    none true = sym (plain_none words)
    none false = sym (plain_set words a x l)
write_forward width (Also addr other wired_and) words a x p s l = both (eqb a addr)
  where
    both : (q : Bool) → map (plain words (map (moved (Write a x)) (cond q (addr ∷ other ∷ []) (a ∷ [])) ++ [])) (range_with_len 0 (length words)) ≡ cond q (set (set words addr x) other x) (set words a x)
    both true = sym (plain_twice words addr other x p.inside.0.0 p.inside.1.0.0)
    both false = sym (plain_set words a x l)
write_forward width (Instead addr other) words a x p s l = else (eqb a addr)
  where
    else : (q : Bool) → map (plain words (map (moved (Write a x)) (cond q (other ∷ []) (a ∷ [])) ++ [])) (range_with_len 0 (length words)) ≡ cond q (set words other x) (set words a x)
    else true = sym (plain_set words other x p.inside.1.0.0)
    else false = sym (plain_set words a x l)

-- one access of words in which the rule holds
pub access_forward : (width : Width) (fault : Option Fault) (words : List ℕ) (access : Access) → IsPlaced width (length words) fault → words_after fault words [] ≡ words → address access < length words
    → words_after fault words (access ∷ []) ≡ stepped fault words access
access_forward width fault words (Read a) p s l = words_read fault words a [] ∙ s
access_forward width None words (Write a x) p s l = plain_write words a x l
access_forward width (Some fault) words (Write a x) p s l = write_forward width fault words a x p s l

-- what a read answers
pub read_forward : (width : Width) (fault : Option Fault) (words : List ℕ) → IsPlaced width (length words) fault → words_after fault words [] ≡ words → (a : ℕ) → a < length words → answer fault words [] a ≡ read_of fault words a
read_forward width None words p s a l = refl
read_forward width (Some fault) words p s a l =
    sym (answer_cong width (length words) fault p (λ k. get_or words k 0) (stored_under fault words []) (settled_under fault words s) a l)

-- ---- the last access of a history

-- the rule of the fault holds of the words after any history
pub settled_after : (width : Width) (fault : Option Fault) (first : List ℕ) (h : History) → IsPlaced width (length first) fault → words_after fault (words_after fault first h) [] ≡ words_after fault first h
settled_after width fault first h p = sym (words_cut width fault first [] h p)

pub last_forward : (width : Width) (fault : Option Fault) (first : List ℕ) (h : History) (access : Access) → IsPlaced width (length first) fault → address access < length first
    → words_after fault first (access ∷ h) ≡ stepped fault (words_after fault first h) access
last_forward width fault first h access p l =
    let placed : IsPlaced width (length (words_after fault first h)) fault = rw size_after p in
    let inside : address access < length (words_after fault first h) = rw size_after l in
    words_cut width fault first (access ∷ []) h p ∙ access_forward width fault (words_after fault first h) access placed (settled_after width fault first h p) inside

pub answer_forward : (width : Width) (fault : Option Fault) (first : List ℕ) (h : History) → IsPlaced width (length first) fault → (a : ℕ) → a < length first
    → answer fault first h a ≡ read_of fault (words_after fault first h) a
answer_forward width fault first h p a l =
    let placed : IsPlaced width (length (words_after fault first h)) fault = rw size_after p in
    let inside : a < length (words_after fault first h) = rw size_after l in
    answer_cut width fault first [] h p a l ∙ read_forward width fault (words_after fault first h) placed (settled_after width fault first h p) a inside

-- ---- a write leaves a sound memory

pub after_stepped : (m : Memory) (a x : ℕ) → IsSound m → a < length m.words → record m { words = stepped m.fault m.words (Write a x) } ≡ after_access m (Write a x)
after_stepped m a x s l =
    ap (λ (ws : List ℕ). record m { words = ws }) (sym (access_forward m.width m.fault m.words (Write a x) s.placed s.settled l))

pub sound_stepped : (m : Memory) (a x : ℕ) → IsSound m → a < length m.words → Fits m.width x → IsSound (record m { words = stepped m.fault m.words (Write a x) })
sound_stepped m a x s l f = rw (after_stepped m a x s l) (sound_after m (Write a x ∷ []) s (f, tt))

-- ---- a read answers a word that fits

by_test : (width : Width) (q : Bool) (x y : ℕ) → Fits width x → Fits width y → Fits width (cond q x y)
by_test width true x y f g = f
by_test width false x y f g = g

under_fits : (width : Width) (fault : Fault) (words : List ℕ) → IsWellPlaced width (length words) fault → FitAll width words → (k : ℕ) → k < length words → Fits width (answer_under fault (λ j. get_or words j 0) k)
unfolding answer_under
under_fits width (StuckAt vic value) words p f k i = f k i
under_fits width (CannotRise vic) words p f k i = f k i
under_fits width (CannotFall vic) words p f k i = f k i
under_fits width (Invert agg rise vic) words p f k i = f k i
under_fits width (Force agg rise vic value) words p f k i = f k i
under_fits width (State agg holds vic value) words p f k i = f k i
under_fits width (NoCell addr seen) words p f k i = by_test width (eqb k addr) _ _ p.inside.1.0.0 (f k i)
under_fits width (Also addr other wired_and) words p f k i =
    let one : Fits width (get_or words addr 0) = f addr p.inside.0.0 in
    let two : Fits width (get_or words other 0) = f other p.inside.1.0.0 in
    let low : bit_and (get_or words addr 0) (get_or words other 0) ≤ get_or words addr 0 = and_le_l _ _ in
    by_test width (eqb k addr) _ _
    (by_test width wired_and _ _ (omega arith) (or_lt (width_bits width) (get_or words addr 0) (get_or words other 0) one two))
    (f k i)
under_fits width (Instead addr other) words p f k i = by_test width (eqb k addr) _ _ (f other p.inside.1.0.0) (f k i)

pub read_fits : (width : Width) (fault : Option Fault) (words : List ℕ) → IsPlaced width (length words) fault → FitAll width words → (k : ℕ) → k < length words → Fits width (read_of fault words k)
read_fits width None words p f k i = f k i
read_fits width (Some fault) words p f k i = under_fits width fault words p f k i

pub answer_fits : (m : Memory) → IsSound m → (a : ℕ) → a < length m.words → Fits m.width (answer m.fault m.words [] a)
answer_fits m s a l = rw (read_forward m.width m.fault m.words s.placed s.settled a l) (read_fits m.width m.fault m.words s.placed s.fits a l)
