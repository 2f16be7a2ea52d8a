-- What a march has room for.
use Rattle.std.proofs.Common.{◌≡◌, ℕ, ◌+◌, ◌≤◌, Bool, true, false, cond, eqb, List, ◌∷◌, Option, Some, None, refl, arith}
use Rattle.std.proofs.lemmas.Bool.Decides.{nat_tests}
use Rattle.mt_march.specs.declared.march.MarchKind.{MarchKind}
use Rattle.mt_march.specs.declared.march.MarchRefusal.{MarchRefusal}
use Rattle.mt_march.specs.Scan.{too_long, is_order, is_letter}
use Rattle.mt_march.specs.Rules.{or_else}

pub or_else_none : (o : Option ℕ) (kind : MarchKind) (later : Option MarchRefusal) → or_else o kind later ≡ None → o ≡ None
or_else_none None kind later h = refl
or_else_none (Some place) kind later h = absurd cc

-- the numbers after a byte
abbrev pub elements_after : Bool → ℕ → ℕ
elements_after order e = cond order (e + 1) e

abbrev pub ops_after : Bool → Bool → ℕ → ℕ
ops_after order letter o = cond order 0 (cond letter (o + 1) o)

pub record Room (place e o : ℕ) (bs : List ℕ) : Type 0 where
  pub more : too_long place e o bs ≡ None
  pub elements : e ≤ 16
  pub ops : o ≤ 8

room_by : (order letter full_e full_o : Bool) (place e o : ℕ) (bs : List ℕ) → (full_e ≡ false → e ≤ 16 → e + 1 ≤ 16) → (full_o ≡ false → o ≤ 8 → o + 1 ≤ 8) → e ≤ 16 → o ≤ 8
    → cond order (cond full_e (Some place) (too_long (place + 1) (e + 1) 0 bs)) (cond letter (cond full_o (Some place) (too_long (place + 1) e (o + 1) bs)) (too_long (place + 1) e o bs)) ≡ None
    → Room (place + 1) (elements_after order e) (ops_after order letter o) bs
room_by true letter true full_o place e o bs fe fo he ho h = absurd cc
room_by true letter false full_o place e o bs fe fo he ho h = record { more = h; elements = fe refl he; ops = omega arith }
room_by false true full_e true place e o bs fe fo he ho h = absurd cc
room_by false true full_e false place e o bs fe fo he ho h = record { more = h; elements = he; ops = fo refl ho }
room_by false false full_e full_o place e o bs fe fo he ho h = record { more = h; elements = he; ops = ho }

pub room_more : (place e o b : ℕ) (bs : List ℕ) → too_long place e o (b ∷ bs) ≡ None → e ≤ 16 → o ≤ 8 → Room (place + 1) (elements_after (is_order b) e) (ops_after (is_order b) (is_letter b) o) bs
room_more place e o b bs h he ho =
    room_by (is_order b) (is_letter b) (eqb e 16) (eqb o 8) place e o bs (λ f le. grind (arith, nat_tests)) (λ f le. grind (arith, nat_tests)) he ho h
