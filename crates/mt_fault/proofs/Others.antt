-- Words that are none of the fault's are those of plain memory.
use Rattle.std.proofs.Common.{◌≡◌, ◌≢◌, ℕ, Bool, true, false, cond, eqb, List, [], ◌∷◌, ◌++◌, map, refl, sym, ◌∙◌, ap, inl, inr}
use mathlib.Core.Bool.{◌||◌}
use Rattle.std.specs.Prelude.{◌⊎◌}
use Rattle.std.specs.List.{list_any}
use Rattle.std.proofs.lemmas.Bool.{eq-eqb, eqb-true, cases_Bool, both_ways}
use Rattle.mt_fault.specs.History.{Access, Read, Write, History, plain}
use Rattle.mt_fault.specs.Faulty.{address, cells_of, moved, rerouted, stored_under, answer_under}
use Rattle.mt_fault.specs.Projection.{names}
use Rattle.mt_fault.specs.declared.fault.Fault.{Fault}
use Rattle.mt_fault.specs.declared.fault.Fault.TheVariants.{StuckAt, CannotRise, CannotFall, Invert, Force, State, NoCell, Also, Instead}
use Rattle.mt_fault.proofs.Bits.{off_victim}

none_of : (p q : Bool) → (p || q) ≡ false → (p ≡ false) × (q ≡ false)
none_of false q h = (refl, h)
none_of true q h = cc

apart : (a b : ℕ) → eqb a b ≡ false → a ≢ b
apart a b h e = both_ways (eqb a b) h (eq-eqb a b e)

first_of_two : (a b c : ℕ) → (eqb a b || (eqb a c || false)) ≡ false → eqb a b ≡ false
first_of_two a b c h = (none_of (eqb a b) (eqb a c || false) h).0

second_of_two : (a b c : ℕ) → (eqb a b || (eqb a c || false)) ≡ false → eqb a c ≡ false
second_of_two a b c h = (none_of (eqb a c) false (none_of (eqb a b) (eqb a c || false) h).1).0

-- accesses of other cells leave the word
past : (first : List ℕ) (access : Access) (cells : List ℕ) (h : History) (a : ℕ) → list_any (λ b. eqb a b) cells ≡ false → plain first (map (moved access) cells ++ h) a ≡ plain first h a
past first access [] h a e = refl
past first (Read c) (b ∷ bs) h a e = past first (Read c) bs h a (none_of (eqb a b) _ e).1
past first (Write c x) (b ∷ bs) h a e = ap (λ q. cond q x (plain first (map (moved (Write c x)) bs ++ h) a)) (none_of (eqb a b) _ e).0 ∙ past first (Write c x) bs h a (none_of (eqb a b) _ e).1

-- an access of another word leaves it, and each other access stays where it is
one : (first : List ℕ) (fault : Fault) (access : Access) (h k : History) (a : ℕ)
    → (cells_of fault (address access) ≡ address access ∷ []) ⊎ ((list_any (λ b. eqb a b) (cells_of fault (address access)) ≡ false) × (eqb a (address access) ≡ false))
    → plain first k a ≡ plain first h a → plain first (map (moved access) (cells_of fault (address access)) ++ k) a ≡ plain first (access ∷ h) a
one first fault (Read b) h k a (inl same) e = rw same e
one first fault (Write b x) h k a (inl same) e = rw same (ap (cond (eqb a b) x) e)
one first fault (Read b) h k a (inr off) e = past first (Read b) (cells_of fault b) k a off.0 ∙ e
one first fault (Write b x) h k a (inr off) e = past first (Write b x) (cells_of fault b) k a off.0 ∙ e ∙ sym (ap (λ q. cond q x (plain first h a)) off.1)

rerouted_plain : (fault : Fault) (first : List ℕ) (h : History) (a : ℕ)
    → ((b : ℕ) → (cells_of fault b ≡ b ∷ []) ⊎ ((list_any (λ c. eqb a c) (cells_of fault b) ≡ false) × (eqb a b ≡ false)))
    → plain first (rerouted fault h) a ≡ plain first h a
rerouted_plain fault first [] a c = refl
rerouted_plain fault first (access ∷ h) a c = one first fault access h (rerouted fault h) a (c (address access)) (rerouted_plain fault first h a c)

-- which cells are reached: the address itself, or none that is `a`
reached : (a b addr : ℕ) (cells : List ℕ) → eqb a addr ≡ false → list_any (λ c. eqb a c) cells ≡ false
    → (cond (eqb b addr) cells (b ∷ []) ≡ b ∷ []) ⊎ ((list_any (λ c. eqb a c) (cond (eqb b addr) cells (b ∷ [])) ≡ false) × (eqb a b ≡ false))
reached a b addr cells off none = elim (cases_Bool (eqb b addr)) [
  | inl e ↦ inr (ap (λ q. list_any (λ c. eqb a c) (cond q cells (b ∷ []))) e ∙ none, ap (eqb a) (eqb-true b addr e) ∙ off)
  | inr e ↦ inl (ap (λ q. cond q cells (b ∷ [])) e)
]

-- the stored word
pub stored_plain : (fault : Fault) (first : List ℕ) (h : History) (a : ℕ) → names fault a ≡ false → stored_under fault first h a ≡ plain first h a
unfolding stored_under
stored_plain (StuckAt vic value) first h a n = off_victim vic _ (plain first h) a (apart a vic.word (none_of (eqb a vic.word) false n).0)
stored_plain (CannotRise vic) first h a n = off_victim vic _ (plain first h) a (apart a vic.word (none_of (eqb a vic.word) false n).0)
stored_plain (CannotFall vic) first h a n = off_victim vic _ (plain first h) a (apart a vic.word (none_of (eqb a vic.word) false n).0)
stored_plain (Invert agg rise vic) first h a n = off_victim vic _ (plain first h) a (apart a vic.word (second_of_two a agg.word vic.word n))
stored_plain (Force agg rise vic value) first h a n = off_victim vic _ (plain first h) a (apart a vic.word (second_of_two a agg.word vic.word n))
stored_plain (State agg holds vic value) first h a n = off_victim vic _ (plain first h) a (apart a vic.word (second_of_two a agg.word vic.word n))
stored_plain (NoCell addr seen) first h a n =
    let off = (none_of (eqb a addr) false n).0 in
    rerouted_plain (NoCell addr seen) first h a (λ b. reached a b addr [] off refl)
stored_plain (Also addr other wired_and) first h a n = rerouted_plain (Also addr other wired_and) first h a (λ b. reached a b addr (addr ∷ other ∷ []) (first_of_two a addr other n) n)
stored_plain (Instead addr other) first h a n =
    let alone : (eqb a other || false) ≡ false = (none_of (eqb a addr) (eqb a other || false) n).1 in
    rerouted_plain (Instead addr other) first h a (λ b. reached a b addr (other ∷ []) (first_of_two a addr other n) alone)

-- what a read answers
pub answer_plain : (fault : Fault) (first : List ℕ) (h : History) (a : ℕ) → names fault a ≡ false → answer_under fault (stored_under fault first h) a ≡ plain first h a
unfolding answer_under
answer_plain (StuckAt vic value) first h a n = stored_plain (StuckAt vic value) first h a n
answer_plain (CannotRise vic) first h a n = stored_plain (CannotRise vic) first h a n
answer_plain (CannotFall vic) first h a n = stored_plain (CannotFall vic) first h a n
answer_plain (Invert agg rise vic) first h a n = stored_plain (Invert agg rise vic) first h a n
answer_plain (Force agg rise vic value) first h a n = stored_plain (Force agg rise vic value) first h a n
answer_plain (State agg holds vic value) first h a n = stored_plain (State agg holds vic value) first h a n
answer_plain (NoCell addr seen) first h a n = ap (λ q. cond q seen (stored_under (NoCell addr seen) first h a)) (none_of (eqb a addr) false n).0 ∙ stored_plain (NoCell addr seen) first h a n
answer_plain (Also addr other wired_and) first h a n = rw (first_of_two a addr other n) (stored_plain (Also addr other wired_and) first h a n)
answer_plain (Instead addr other) first h a n = rw (first_of_two a addr other n) (stored_plain (Instead addr other) first h a n)
