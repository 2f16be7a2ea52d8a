-- What holds of every memory has one proof at most, so that a struct can keep it.
use Rattle.std.proofs.Common.{ℕ, Option, None, Some}
use Rattle.std.proofs.Props.{props}
use Rattle.mt_word.specs.declared.Width.{Width}
use Rattle.mt_fault.specs.Memory.{Memory, IsSound}
use Rattle.mt_fault.specs.Placement.{IsPlaced, IsWellPlaced}
use Rattle.mt_fault.specs.declared.fault.Fault.{Fault}
use Rattle.mt_fault.specs.declared.fault.Fault.TheVariants.{StuckAt, CannotRise, CannotFall, Invert, Force, State, NoCell, Also, Instead}

IsWellPlaced-prop : (width : Width) (size : ℕ) (fault : Fault) → IsProp (IsWellPlaced width size fault)
IsWellPlaced-prop width size (StuckAt vic value) = hlevel props
IsWellPlaced-prop width size (CannotRise vic) = hlevel props
IsWellPlaced-prop width size (CannotFall vic) = hlevel props
IsWellPlaced-prop width size (Invert agg rise vic) = hlevel props
IsWellPlaced-prop width size (Force agg rise vic value) = hlevel props
IsWellPlaced-prop width size (State agg holds vic value) = hlevel props
IsWellPlaced-prop width size (NoCell addr seen) = hlevel props
IsWellPlaced-prop width size (Also addr other wired_and) = hlevel props
IsWellPlaced-prop width size (Instead addr other) = hlevel props

IsPlaced-prop : (width : Width) (size : ℕ) (fault : Option Fault) → IsProp (IsPlaced width size fault)
IsPlaced-prop width size None = hlevel props
IsPlaced-prop width size (Some fault) = IsWellPlaced-prop width size fault

pub IsSound-prop : (m : Memory) → IsProp (IsSound m)
IsSound-prop m = hlevel (props, IsPlaced-prop)
