-- The march that a text of the grammar spells.
use Rattle.std.specs.Prelude.{ℕ, ◌==◌, if◌then◌else◌, List, [], ◌∷◌}
use Rattle.mt_march.specs.declared.march.Order.{Order}
use Rattle.mt_march.specs.declared.march.Order.TheVariants.{Up, Down, Either}
use Rattle.mt_march.specs.declared.march.Op.{Op}
use Rattle.mt_march.specs.declared.march.Op.TheVariants.{R0, R1, W0, W1}
use Rattle.mt_march.specs.declared.march.Element.{Element}
use Rattle.mt_march.specs.Scan.{first, is_order, is_letter}

abbrev pub order_of : ℕ → Order
order_of b = if b == 117 then Up else (if b == 100 then Down else Either)

abbrev pub op_of : ℕ → ℕ → Op
op_of letter digit = if letter == 114 then (if digit == 48 then R0 else R1) else (if digit == 48 then W0 else W1)

abbrev pub element : Order → List Op → Element
element order ops = record { order = order; ops = record { items = ops } }

-- a byte before operations that belong to no element yet, and elements
abbrev pub put : ℕ → ℕ → List Op × List Element → List Op × List Element
put b after later =
    if is_order b then ([], element (order_of b) later.0 ∷ later.1) else (if is_letter b then (op_of b after ∷ later.0, later.1) else later)

-- the operations before the first element, and the elements
abbrev pub parts : List ℕ → List Op × List Element
parts [] = ([], [])
parts (b ∷ bs) = put b (first bs) (parts bs)

abbrev pub march_of : List ℕ → List Element
march_of text = (parts text).1
