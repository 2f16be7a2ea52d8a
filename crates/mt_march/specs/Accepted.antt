-- The march that a test may run.
use Rattle.std.specs.Prelude.{◌≡◌, ◌≤◌, Bool, true, false, ◌&&◌, not, if◌then◌else◌, All, List, [], ◌∷◌, length, Option, Some, None}
use Rattle.std.specs.List.{flat_map, list_any}
use mathlib.Core.Bool.{beq}
use Rattle.mt_march.specs.declared.march.Op.{Op}
use Rattle.mt_march.specs.declared.march.Op.TheVariants.{R0, R1, W0, W1}
use Rattle.mt_march.specs.declared.march.Element.{Element}

-- the operations of all elements, in the order of the text
abbrev pub operations : List Element → List Op
operations elements = flat_map (λ (e : Element). e.ops.items) elements

-- whether an operation is a write
abbrev pub writes : Op → Bool
writes R0 = false
writes R1 = false
writes W0 = true
writes W1 = true

-- whether an operation writes or expects 1
abbrev pub is_one : Op → Bool
is_one R0 = false
is_one R1 = true
is_one W0 = false
is_one W1 = true

-- whether the first operation is a write
abbrev pub begins_with_write : List Op → Bool
begins_with_write [] = false
begins_with_write (op ∷ ops) = writes op

-- whether a value was written, and it is this one
abbrev pub wrote : Option Bool → Bool → Bool
wrote None value = false
wrote (Some written) value = beq written value

-- whether each read expects what the last write before it wrote
abbrev pub reads_agree : Option Bool → List Op → Bool
reads_agree written [] = true
reads_agree written (op ∷ ops) =
    if writes op then reads_agree (Some (is_one op)) ops else (wrote written (is_one op) && reads_agree written ops)

-- whether there is a read of the value
abbrev pub reads : Bool → List Op → Bool
reads value ops = list_any (λ op. not (writes op) && beq (is_one op) value) ops

-- The first operation is a write, each read expects the last write before it, and r0 and r1 both occur.
pub record IsAcceptedMarch (elements : List Element) : Type 0 where
  pub some : 1 ≤ length elements
  pub few : length elements ≤ 16
  pub short : All (λ (e : Element). (1 ≤ length e.ops.items) × (length e.ops.items ≤ 8)) elements
  pub written : begins_with_write (operations elements) ≡ true
  pub agree : reads_agree None (operations elements) ≡ true
  pub zeros : reads false (operations elements) ≡ true
  pub ones : reads true (operations elements) ≡ true
