-- Places are in order, and inside their line.
use Rattle.std.proofs.Common.{◌≡◌, ◌≤◌, ◌<◌, ℕ, ◌+◌, ◌*◌, ◌/◌, arith}
use Rattle.std.specs.Prelude.{min, max}
use Rattle.std.proofs.Math.Nat.{div-le_of_le-mul, div-mul-le_self, mul-le-mul_right}
use Rattle.std.proofs.lemmas.Nat.{le-div}
use Rattle.mt_draw.specs.declared.scale.Scale.{Scale}
use Rattle.mt_draw.specs.Places.{on}
use Rattle.mt_draw.specs.Laws.{PlacesAreInside, PlacesKeepOrder}

quotients : (a b k : ℕ) → 0 < k → a ≤ b → a / k ≤ b / k
quotients a b k p h = le-div (a / k) b k p (omega (arith, div-mul-le_self a k, h))

products : (a b w : ℕ) → a ≤ b → a * w ≤ b * w
products a b w h = mul-le-mul_right w h

some : (n : ℕ) → 0 < max n 1
some n = omega arith

least : (m n l : ℕ) → m ≤ n → min m l ≤ min n l
least m n l h = omega arith

above : (a b c : ℕ) → b ≤ c → a + b ≤ a + c
above a b c h = omega arith

at_most : (n l w : ℕ) → min n l * w ≤ l * w
at_most n l w = products (min n l) l w (omega arith)

pub in_order : PlacesKeepOrder
unfolding on
in_order s m n h =
    above s.start _ _ (quotients (min m (max s.last 1) * s.length) (min n (max s.last 1) * s.length) (max s.last 1) (some s.last)
    (products (min m (max s.last 1)) (min n (max s.last 1)) s.length (least m n (max s.last 1) h)))

pub inside : PlacesAreInside
unfolding on
inside s n =
    (omega arith, above s.start _ _ (div-le_of_le-mul (max s.last 1) (at_most n (max s.last 1) s.length)))
