-- What running events and boundaries are known by.
use Rattle.std.specs.Prelude.{ℕ, ◌≡◌, ◌<◌, length, true, false, Option}
use Rattle.mt_window.specs.Serving.{Scene, serve_due, serve_left}
use Rattle.mt_window.specs.Slices.{slices, unstopped}
use Rattle.mt_window.specs.Rows.{work_in}
use Rattle.mt_window.specs.Events.{Running as Events, entered, ran, event}
use Rattle.mt_window.specs.Waits.{ServesInTime, KeepsBoard, MakesShortAttempts}
use Rattle.mt_blocks.specs.Slices.{Piece}
use Rattle.mt_fls.specs.declared.state.State.{State}
use Rattle.mt_fls.specs.declared.state.State.TheVariants as state
use Rattle.mt_fls.specs.State.{FlsTst, IsFls, IsRunning, IsInside}
use Rattle.mt_fls.specs.Table.{Service, MainFunction, row, after, fls_table}
use Rattle.mt_fls.specs.Event.{of_pass, ticking, foreground_test}

-- of each foreground test
abbrev pub ForegroundTestsServeInTime : Type 0
ForegroundTestsServeInTime = (block : ℕ) → ServesInTime (foreground_test block)

-- the attempts of each foreground test
abbrev pub ForegroundTestsMakeShortAttempts : Type 0
ForegroundTestsMakeShortAttempts = (block : ℕ) → MakesShortAttempts (foreground_test block)

-- what each foreground test leaves of the board
abbrev pub ForegroundTestsKeepTheBoard : Type 0
ForegroundTestsKeepTheBoard = (block : ℕ) → KeepsBoard (foreground_test block)

-- the states in which a tick compares a group
abbrev pub IsTicking : State → Type 0
IsTicking state.Uninit = ⊥
IsTicking state.Init = Unit {0}
IsTicking (state.Running p) = Unit {0}
IsTicking (state.Suspended p) = ⊥
IsTicking state.Aborted = ⊥
IsTicking (state.Foreground b) = ⊥

-- a tick compares nothing where just after boundary 0 the module is in neither INIT nor RUNNING, or the mark is set
abbrev pub TicksRest : Type 0
TicksRest = (o : Scene FlsTst) → (IsTicking o.callee.state → o.callee.mark ≡ true) → ran ticking o ≡ entered ticking o

-- else it makes at least one access, where there is a background block
abbrev pub TicksCompare : Type 0
TicksCompare =
    (o : Scene FlsTst) → IsFls o.callee → IsTicking o.callee.state → 0 < length o.callee.setting.config.bgnd → o.callee.mark ≡ false
    → o.board.count < (ran ticking o).scene.board.count

-- and it ends its group early only where the mark is set
abbrev pub TicksEndTheirGroup : Type 0
TicksEndTheirGroup = (o : Scene FlsTst) → (ran ticking o).scene.callee.mark ≡ false
    → ran ticking o ≡ slices (unstopped of_pass) (work_in (row o.callee MainFunction)) (entered ticking o)

-- What handlers' calls leave of FlsTst. Setting, the last completed interval, the foreground result and the details
-- stay. Where no Abort and no Suspend was accepted, a running pass goes on where it stood, and its interval with it.
-- Inside a foreground test nothing changes.
pub record Moves (a b : FlsTst) : Type 0 where
  pub still : b ≡ record a { state = b.state; failed = b.failed; mark = b.mark }
  pub unmarked : b.mark ≡ false → a.mark ≡ false
  pub running : b.mark ≡ false → IsRunning a.state → b ≡ a
  pub inside : IsInside a.state → b ≡ a

-- that is what a boundary leaves, and the serving of the requests left
abbrev pub BoundariesMove : Type 0
BoundariesMove = (s : Scene FlsTst) → Moves s.callee ((serve_due fls_table s).callee)

abbrev pub RequestsLeftMove : Type 0
RequestsLeftMove = (s : Scene FlsTst) → Moves s.callee ((serve_left fls_table s).callee)

-- no service changes the setting, and no running event
abbrev pub ServicesLeaveSetting : Type 0
ServicesLeaveSetting = (f : FlsTst) (service : Service) → (after f service).setting ≡ f.setting

abbrev pub LeavesSetting : Events FlsTst Piece (Option ℕ) → Type 0
LeavesSetting call = (s : Scene FlsTst) → ((event call s).after.callee).setting ≡ s.callee.setting
