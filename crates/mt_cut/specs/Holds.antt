-- How many accesses the sequences of a set's slices have.
use Rattle.std.specs.Prelude.{ℕ, List, [], map, Option, Some, None}
use Rattle.mt_plan.specs.Plan.{hold_of}
use Rattle.mt_port.specs.declared.board.Shape.{Shape}
use Rattle.mt_port.specs.Board.{IsWithinLimits}
use Rattle.mt_blocks.specs.declared.pass.Position.{Position}
use Rattle.mt_blocks.specs.declared.config.ParamSet.{ParamSet}
use Rattle.mt_blocks.specs.Slices.{Piece, pass, from_place}
use Rattle.mt_blocks.specs.Accepted.{IsAcceptedSet, block_at, spans_of}

-- a set of an accepted configuration, for some memory
pub record IsOfAccepted (set : ParamSet) : Type 0 where
  pub shape : Shape
  pub limits : IsWithinLimits shape
  pub accepted : IsAcceptedSet shape set

-- how many accesses the sequence of a slice has, by the policy of its block
abbrev pub hold_in : ParamSet → Piece → ℕ
hold_in set p = hold_of set.alg (block_at set.blocks p.place.block).policy p.slice.n

abbrev pub holds : ParamSet → List Piece → List ℕ
holds set slices = map (hold_in set) slices

-- of each slice of a pass
unfoldable pub pass_holds : ParamSet → List ℕ
pass_holds set = holds set (pass set.atomic (spans_of set.blocks))

-- of each slice from a position on
unfoldable pub holds_from : ParamSet → Position → List ℕ
holds_from set at = holds set (from_place set.atomic (spans_of set.blocks) at)

abbrev pub holds_next : ParamSet → Option Position → List ℕ
holds_next set None = []
holds_next set (Some at) = holds_from set at
