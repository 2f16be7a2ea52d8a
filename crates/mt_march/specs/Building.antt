-- A march as far as it is built.
use Rattle.std.specs.Prelude.{ℕ, ◌+◌, List, ◌∷◌, ◌++◌, length, Option, Some, None}
use Rattle.mt_march.specs.declared.march.Order.{Order}
use Rattle.mt_march.specs.declared.march.Op.{Op}
use Rattle.mt_march.specs.declared.march.Element.{Element}
use Rattle.mt_march.specs.declared.reading.Builder.{Builder}
use Rattle.mt_march.specs.Value.{element}

abbrev pub pending : Option Order → List Op → List Element → List Element
pending None ops es = es
pending (Some order) ops es = element order ops ∷ es

-- the march, if these operations and elements come later
abbrev pub finished : Builder → List Op × List Element → List Element
finished b later = b.elements.items ++ pending b.order (b.ops.items ++ later.0) later.1

abbrev pub pending_count : Option Order → ℕ
pending_count None = 0
pending_count (Some order) = 1

abbrev pub element_count : Builder → ℕ
element_count b = length b.elements.items + pending_count b.order
