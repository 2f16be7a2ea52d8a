-- FlsTst as a contract sees it.
use Rattle.std.specs.Prelude.{ℕ, ◌<◌, ◌≤◌, Bool, List, length, Option, IfSome}
use Rattle.mt_port.specs.declared.board.Shape.{Shape}
use Rattle.mt_window.specs.declared.reply.TestResult.{TestResult}
use Rattle.mt_window.specs.declared.reply.Detail.{Detail}
use Rattle.mt_blocks.specs.declared.span.Span.{Span}
use Rattle.mt_blocks.specs.declared.pass.Position.{Position}
use Rattle.mt_blocks.specs.declared.config.FlsConfig.{FlsConfig}
use Rattle.mt_blocks.specs.Slices.{IsValid, start}
use Rattle.mt_blocks.specs.Accepted.{IsAcceptedFls, flash_spans}
use Rattle.mt_fls.specs.declared.state.Back.{Back}
use Rattle.mt_fls.specs.declared.state.Back.TheVariants as back
use Rattle.mt_fls.specs.declared.state.State.{State}
use Rattle.mt_fls.specs.declared.state.State.TheVariants as state

-- what never changes
pub record Setting : Type 0 where
  pub config : FlsConfig
  pub shape : Shape

-- the module
pub record FlsTst : Type 0 where
  pub setting : Setting
  pub state : State
  -- the identifier of the last completed interval, if there is one, and its result
  pub completed : Option ℕ
  pub result : TestResult
  -- whether a sequence of the interval under way failed
  pub failed : Bool
  -- the result of the last foreground test, and where the latest failing sequence found a difference
  pub fgnd : TestResult
  pub detail : Detail
  -- whether an Abort or a Suspend was accepted in this event
  pub mark : Bool

-- the spans of the background blocks, and of the foreground blocks
abbrev pub bgnd_spans : FlsTst → List Span
bgnd_spans f = flash_spans f.setting.config.bgnd

abbrev pub fgnd_spans : FlsTst → List Span
fgnd_spans f = flash_spans f.setting.config.fgnd

-- the position of a slice; where there is no block, there is nothing to point at
abbrev pub IsPointed : FlsConfig → Position → Type 0
IsPointed config p = 0 < length config.bgnd → IsValid config.atomic (flash_spans config.bgnd) p

-- the position that is kept is that of a slice
abbrev pub IsBackPlace : FlsConfig → Back → Type 0
IsBackPlace config back.Init = Unit {0}
IsBackPlace config (back.Running p) = IsPointed config p
IsBackPlace config (back.Suspended p) = IsPointed config p

abbrev pub IsPlace : FlsConfig → State → Type 0
IsPlace config state.Uninit = Unit {0}
IsPlace config state.Init = Unit {0}
IsPlace config (state.Running p) = IsPointed config p
IsPlace config (state.Suspended p) = IsPointed config p
IsPlace config state.Aborted = Unit {0}
IsPlace config (state.Foreground b) = IsBackPlace config b

-- the states of a running pass, and inside a foreground test
abbrev pub IsRunning : State → Type 0
IsRunning state.Uninit = ⊥
IsRunning state.Init = ⊥
IsRunning (state.Running p) = Unit {0}
IsRunning (state.Suspended p) = ⊥
IsRunning state.Aborted = ⊥
IsRunning (state.Foreground b) = ⊥

abbrev pub IsInside : State → Type 0
IsInside state.Uninit = ⊥
IsInside state.Init = ⊥
IsInside (state.Running p) = ⊥
IsInside (state.Suspended p) = ⊥
IsInside state.Aborted = ⊥
IsInside (state.Foreground b) = Unit {0}

-- the position of a running pass
abbrev pub place_of : State → Position
place_of state.Uninit = start
place_of state.Init = start
place_of (state.Running p) = p
place_of (state.Suspended p) = p
place_of state.Aborted = start
place_of (state.Foreground b) = start

-- what holds of every state
pub record IsFls (f : FlsTst) : Type 0 where
  pub accepted : IsAcceptedFls f.setting.shape f.setting.config
  pub place : IsPlace f.setting.config f.state
  -- no identifier is above the greatest
  pub interval : IfSome f.completed (λ id. id ≤ f.setting.config.interval_end)
