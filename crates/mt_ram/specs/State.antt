-- RamTst as a contract sees it.
use Rattle.std.specs.Prelude.{ℕ, ◌<◌, ◌≤◌, ◌≡◌, Bool, false, List, length, Some, None}
use Rattle.mt_port.specs.declared.board.Shape.{Shape}
use Rattle.mt_window.specs.declared.reply.TestResult.{TestResult}
use Rattle.mt_blocks.specs.declared.span.Span.{Span}
use Rattle.mt_blocks.specs.declared.pass.Position.{Position}
use Rattle.mt_blocks.specs.declared.config.ParamSet.{ParamSet}
use Rattle.mt_blocks.specs.declared.config.RamConfig.{RamConfig}
use Rattle.mt_blocks.specs.Slices.{Piece, IsValid, piece_at}
use Rattle.mt_blocks.specs.Accepted.{IsAcceptedRam, set_at, spans_of}
use Rattle.mt_ram.specs.declared.state.State.{State}
use Rattle.mt_ram.specs.declared.state.State.TheVariants.{Uninit, Stopped, Running, Suspended, Full, Partial}

-- what never changes
pub record Setting : Type 0 where
  pub config : RamConfig
  pub shape : Shape

-- the module
pub record RamTst : Type 0 where
  pub setting : Setting
  pub state : State
  -- the number of the selected set, how many words a tick may test, and the results of the set's blocks
  pub selected : ℕ
  pub cells : ℕ
  pub results : List TestResult
  -- whether a slice failed in the unfinished test of a block of the pass
  pub failed : Bool
  -- whether a Stop or a Suspend was accepted in this event
  pub mark : Bool

-- the selected set, and the spans of its blocks
abbrev pub set_of : RamTst → ParamSet
set_of r = set_at r.setting.config.sets r.selected

abbrev pub spans_in : RamTst → List Span
spans_in r = spans_of (set_of r).blocks

-- the slice at a position
abbrev pub piece_in : RamTst → Position → Piece
piece_in r at = piece_at (set_of r).atomic (spans_in r) at

-- the position that is kept is that of a slice
abbrev pub IsPlace : ParamSet → State → Type 0
IsPlace set Uninit = Unit {0}
IsPlace set Stopped = Unit {0}
IsPlace set (Running p) = IsValid set.atomic (spans_of set.blocks) p
IsPlace set (Suspended p) = IsValid set.atomic (spans_of set.blocks) p
IsPlace set Full = Unit {0}
IsPlace set (Partial None) = Unit {0}
IsPlace set (Partial (Some p)) = IsValid set.atomic (spans_of set.blocks) p

-- a failure is kept only for a pass: one that runs, is suspended, or is interrupted by a partial test
abbrev pub IsFailureOfPass : State → Bool → Type 0
IsFailureOfPass Uninit failed = failed ≡ false
IsFailureOfPass Stopped failed = failed ≡ false
IsFailureOfPass (Running p) failed = Unit {0}
IsFailureOfPass (Suspended p) failed = Unit {0}
IsFailureOfPass Full failed = failed ≡ false
IsFailureOfPass (Partial None) failed = failed ≡ false
IsFailureOfPass (Partial (Some p)) failed = Unit {0}

-- the states of a running pass, and inside a full or partial test
abbrev pub IsRunning : State → Type 0
IsRunning Uninit = ⊥
IsRunning Stopped = ⊥
IsRunning (Running p) = Unit {0}
IsRunning (Suspended p) = ⊥
IsRunning Full = ⊥
IsRunning (Partial back) = ⊥

abbrev pub IsInside : State → Type 0
IsInside Uninit = ⊥
IsInside Stopped = ⊥
IsInside (Running p) = ⊥
IsInside (Suspended p) = ⊥
IsInside Full = Unit {0}
IsInside (Partial back) = Unit {0}

-- what holds of every state
pub record IsRam (r : RamTst) : Type 0 where
  pub accepted : IsAcceptedRam r.setting.shape r.setting.config
  pub selected : r.selected < length r.setting.config.sets
  pub results : length r.results ≡ length (set_of r).blocks
  pub place : IsPlace (set_of r) r.state
  pub failure : IsFailureOfPass r.state r.failed
  pub low : (set_of r).atomic ≤ r.cells
  pub high : r.cells ≤ 65536
