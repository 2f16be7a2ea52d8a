-- What an accepted set gives to its tests.
use Rattle.mt_port.specs.declared.board.Shape.{Shape}
use Rattle.mt_port.specs.Board.{IsWithinLimits}
use Rattle.mt_seq.specs.Sequence.{IsSoundJob, IsSoundSlice}
use Rattle.mt_blocks.specs.declared.pass.Position.{Position}
use Rattle.mt_blocks.specs.declared.config.ParamSet.{ParamSet}
use Rattle.mt_blocks.specs.Slices.{AreSpans, IsValid, piece_at}
use Rattle.mt_blocks.specs.Accepted.{IsAcceptedSet, spans_of}
use Rattle.mt_ram.specs.Event.{job_in}

-- its blocks are cut into slices
abbrev pub SetsAreCut : Type 0
SetsAreCut = (shape : Shape) (set : ParamSet) → IsWithinLimits shape → IsAcceptedSet shape set → AreSpans set.atomic (spans_of set.blocks)

-- What is tested at a position, and how, is sound.
pub record IsSoundAt (shape : Shape) (set : ParamSet) (at : Position) : Type 0 where
  pub job : IsSoundJob shape.width (job_in set at.block)
  pub slice : IsSoundSlice shape.ram (piece_at set.atomic (spans_of set.blocks) at).slice

abbrev pub SlicesAreSound : Type 0
SlicesAreSound =
    (shape : Shape) (set : ParamSet) (at : Position) → IsAcceptedSet shape set → IsValid set.atomic (spans_of set.blocks) at → IsSoundAt shape set at
