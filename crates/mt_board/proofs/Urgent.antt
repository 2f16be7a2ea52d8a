-- The least offset of an urgent request, and whether one is due.
use Rattle.std.proofs.Common.{ℕ, ◌≡◌, Bool, true, false, ◌&&◌, ◌||◌, cond, List, [], ◌∷◌, reverse, Option, None, Some, refl, ap, ◌∙◌, arith, min, fold}
use Rattle.std.specs.Prelude.{nat_le}
use Rattle.std.proofs.lemmas.Bool.Decides.{nat_tests}
use Rattle.std.proofs.lemmas.List.Sorted.{list_any-IsPermutation, IsPermutation-reverse}
use Rattle.mt_port.specs.declared.request.Request.{Request}
use Rattle.mt_port.specs.Board.{is_urgent_due, is_due}
use Rattle.mt_board.specs.Requests.{lesser, with_request, least_urgent}

le_min : (m n count : ℕ) → nat_le (min m n) count ≡ (nat_le m count || nat_le n count)
le_min m n count = grind (arith, nat_tests)

is_due-lesser : (count n : ℕ) (o : Option ℕ) → is_due count (lesser o n) ≡ (is_due count o || nat_le n count)
is_due-lesser count n None = refl
is_due-lesser count n (Some m) = le_min m n count

or_assoc : (a b c : Bool) → ((a || b) || c) ≡ (a || (b || c))
or_assoc true b c = refl
or_assoc false b c = refl

due_from : (count : ℕ) (rs : List Request) (o : Option ℕ) → is_due count (fold with_request o rs) ≡ (is_due count o || is_urgent_due count rs)
due_from count [] o = or_false (is_due count o)
  where
    or_false : (b : Bool) → b ≡ (b || false)
    or_false true = refl
    or_false false = refl
due_from count (r ∷ rs) o = due_from count rs (with_request o r) ∙ by r.urgent
  where
    by : (u : Bool) → (is_due count (cond u (lesser o r.offset) o) || is_urgent_due count rs) ≡ (is_due count o || ((u && nat_le r.offset count) || is_urgent_due count rs))
    by true = ap (λ (b : Bool). b || is_urgent_due count rs) (is_due-lesser count r.offset o) ∙ or_assoc (is_due count o) (nat_le r.offset count) (is_urgent_due count rs)
    by false = refl

pub due_by_least : (count : ℕ) (rs : List Request) → is_due count (least_urgent rs) ≡ is_urgent_due count rs
due_by_least count rs = due_from count rs None

-- the order doesn't matter
pub due-reverse : (count : ℕ) (rs : List Request) → is_urgent_due count rs ≡ is_urgent_due count (reverse rs)
due-reverse count rs = list_any-IsPermutation _ rs (reverse rs) (IsPermutation-reverse rs)
