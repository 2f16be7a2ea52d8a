-- Where a fault lies, as tests and as facts.
use Rattle.std.proofs.Common.{ℕ, ◌≡◌, ◌==◌, true, ◌&&◌, not, List, [], ◌∷◌, rules, ◌↔◌, subst, sym, inl, inr}
use Rattle.std.proofs.lemmas.Bool.{ne_eqb, cases_eq}
use Rattle.std.specs.Prelude.{IsTrue}
use Rattle.std.specs.List.{list_any, AllByRecursion}
use Rattle.mt_word.specs.declared.Width.{Width}
use Rattle.mt_fault.specs.Placement.{IsWithin, IsInside, is_inside, in_range, same_word, IsWellPlaced, addresses}
use Rattle.mt_fault.specs.Projection.{names}
use Rattle.mt_fault.specs.declared.fault.Fault.{Fault}
use Rattle.mt_fault.specs.declared.fault.Fault.TheVariants.{StuckAt, CannotRise, CannotFall, Invert, Force, State, NoCell, Also, Instead}

pub well_placed : (width : Width) (size : ℕ) (fault : Fault) → IsTrue (in_range width size fault && not (same_word fault)) ↔ IsWellPlaced width size fault
well_placed width size (StuckAt vic value) = search rules
well_placed width size (CannotRise vic) = search rules
well_placed width size (CannotFall vic) = search rules
well_placed width size (Invert agg rise vic) = search rules
well_placed width size (Force agg rise vic value) = search rules
well_placed width size (State agg holds vic value) = search rules
well_placed width size (NoCell addr seen) = search rules
well_placed width size (Also addr other wired_and) = search rules
well_placed width size (Instead addr other) = search rules

pub inside : (first n : ℕ) (fault : Fault) → IsTrue (is_inside fault first n) ↔ IsInside fault first n
inside first n (StuckAt vic value) = search rules
inside first n (CannotRise vic) = search rules
inside first n (CannotFall vic) = search rules
inside first n (Invert agg rise vic) = search rules
inside first n (Force agg rise vic value) = search rules
inside first n (State agg holds vic value) = search rules
inside first n (NoCell addr seen) = search rules
inside first n (Also addr other wired_and) = search rules
inside first n (Instead addr other) = search rules

-- an address that is one of a list
member_within : (first n : ℕ) (l : List ℕ) → AllByRecursion (IsWithin first n) l → (a : ℕ) → list_any (λ b. a == b) l ≡ true → IsWithin first n a
member_within first n [] w a e = cc
member_within first n (b ∷ l) w a e = elim (cases_eq a b) [
  | inl same ↦ subst (IsWithin first n) (sym same) w.0
  | inr other ↦ member_within first n l w.1 a (rw (ne_eqb a b other) at e)
]

pub address_within : (first n : ℕ) (fault : Fault) → IsInside fault first n → (a : ℕ) → names fault a ≡ true → IsWithin first n a
address_within first n fault w a e = member_within first n (addresses fault) w a e
