-- The state table of FlsTst.
use Rattle.std.specs.Prelude.{ℕ, false, true, List, length, Option, Some, None, if◌then◌else◌, nat_lt}
use Rattle.mt_port.specs.declared.request.HandlerCall.{HandlerCall}
use Rattle.mt_port.specs.declared.request.HandlerCall.TheVariants as calls
use Rattle.mt_window.specs.declared.reply.Reply.{Reply}
use Rattle.mt_window.specs.declared.reply.Reply.TheVariants as reply
use Rattle.mt_window.specs.declared.reply.Refusal.TheVariants as refusal
use Rattle.mt_window.specs.declared.reply.Value.TheVariants as value
use Rattle.mt_window.specs.declared.reply.ShownState.{ShownState}
use Rattle.mt_window.specs.declared.reply.ShownState.TheVariants as shown
use Rattle.mt_window.specs.declared.reply.TestResult.TheVariants.{NotTested}
use Rattle.mt_window.specs.declared.reply.Detail.TheVariants.{Nothing}
use Rattle.mt_window.specs.Serving.{Table}
use Rattle.mt_window.specs.Rows.{Cell, Refuses, Goes, Answers, Rests, Runs, staying, reply_in, next_in}
use Rattle.mt_blocks.specs.declared.pass.Position.{Position}
use Rattle.mt_blocks.specs.Slices.{Piece, pieces, from_place, span_at, start}
use Rattle.mt_blocks.specs.Groups.{group}
use Rattle.mt_fls.specs.declared.state.Back.{Back}
use Rattle.mt_fls.specs.declared.state.Back.TheVariants as back
use Rattle.mt_fls.specs.declared.state.State.{State}
use Rattle.mt_fls.specs.declared.state.State.TheVariants as state
use Rattle.mt_fls.specs.State.{FlsTst, bgnd_spans, fgnd_spans}

-- the services
pub data Service : Type 0 where
  Init DeInit Abort Suspend Resume : Service
  StartFgnd : (block : ℕ) → Service
  MainFunction : Service
  GetCurrentState GetTestResultBgnd GetTestResultFgnd GetErrorDetails GetVersionInfo : Service

-- a cell of the table
abbrev pub FlsCell : Type 0
FlsCell = Cell FlsTst Piece

-- Init resets identifiers, results and details
abbrev pub initialised : FlsTst → FlsTst
initialised f = record f { state = state.Init; completed = None; result = NotTested; failed = false; fgnd = NotTested; detail = Nothing }

-- DeInit and Abort drop the position, the unfinished interval, and whether it failed
abbrev pub uninitialised : FlsTst → FlsTst
uninitialised f = record f { state = state.Uninit; failed = false }

-- an accepted Abort or Suspend sets the mark
abbrev pub aborted : FlsTst → FlsTst
aborted f = record f { state = state.Aborted; failed = false; mark = true }

abbrev pub suspended : FlsTst → Position → FlsTst
suspended f p = record f { state = state.Suspended p; mark = true }

abbrev pub resumed : FlsTst → Position → FlsTst
resumed f p = record f { state = state.Running p }

-- the module in a state
abbrev pub in_state : State → FlsTst → FlsTst
in_state s f = record f { state = s }

-- the state to which a foreground test goes back
abbrev pub state_of : Back → State
state_of back.Init = state.Init
state_of (back.Running p) = state.Running p
state_of (back.Suspended p) = state.Suspended p

-- a foreground test: refused as out of range, or the slices of that block
abbrev pub comparing : FlsTst → ℕ → Back → FlsCell
comparing f block b =
    if nat_lt block (length f.setting.config.fgnd)
    then Runs (pieces f.setting.config.atomic block (span_at (fgnd_spans f) block)) (in_state (state.Foreground b)) (in_state (state_of b))
    else Refuses refusal.Range

-- the group that begins at a position
abbrev pub group_at : FlsTst → Position → List Piece
group_at f p = group f.setting.config.cells (from_place f.setting.config.atomic (bgnd_spans f) p)

-- The state as it is shown: inside a foreground test, that in which it was taken.
abbrev pub shown_state : State → ShownState
shown_state state.Uninit = shown.Uninit
shown_state state.Init = shown.Init
shown_state (state.Running p) = shown.Running
shown_state (state.Suspended p) = shown.Suspended
shown_state state.Aborted = shown.Aborted
shown_state (state.Foreground back.Init) = shown.Init
shown_state (state.Foreground (back.Running p)) = shown.Running
shown_state (state.Foreground (back.Suspended p)) = shown.Suspended

-- The table, row by row. Inside a foreground test only a handler calls, so that a row of another service has no cell
-- there; what it has here is the cell of SUSPENDED, and for a foreground test that of ABORTED.
abbrev pub cell : FlsTst → Service → State → FlsCell
cell f Init state.Uninit = Goes (initialised f)
cell f Init state.Aborted = Goes (initialised f)
cell f Init _ = Refuses refusal.Status
cell f DeInit state.Uninit = Refuses refusal.Uninit
cell f DeInit _ = Goes (uninitialised f)
cell f (StartFgnd block) state.Uninit = Refuses refusal.Uninit
cell f (StartFgnd block) state.Init = comparing f block back.Init
cell f (StartFgnd block) (state.Running p) = comparing f block (back.Running p)
cell f (StartFgnd block) (state.Suspended p) = comparing f block (back.Suspended p)
cell f (StartFgnd block) _ = Refuses refusal.Status
cell f Abort state.Uninit = Refuses refusal.Uninit
cell f Abort state.Init = Goes (aborted f)
cell f Abort (state.Running p) = Goes (aborted f)
cell f Abort (state.Suspended p) = Goes (aborted f)
cell f Abort _ = Refuses refusal.Status
cell f Suspend state.Uninit = Refuses refusal.Uninit
cell f Suspend (state.Running p) = Goes (suspended f p)
cell f Suspend _ = Refuses refusal.Status
cell f Resume state.Uninit = Refuses refusal.Uninit
cell f Resume (state.Suspended p) = Goes (resumed f p)
cell f Resume _ = Refuses refusal.Status
cell f MainFunction state.Uninit = Refuses refusal.Uninit
cell f MainFunction state.Init = Runs (group_at f start) (in_state (state.Running start)) staying
cell f MainFunction (state.Running p) = Runs (group_at f p) staying staying
cell f MainFunction _ = Rests
cell f GetTestResultBgnd state.Uninit = Refuses refusal.Uninit
cell f GetTestResultBgnd _ = Answers (value.Interval f.completed f.result)
cell f GetTestResultFgnd state.Uninit = Refuses refusal.Uninit
cell f GetTestResultFgnd _ = Answers (value.Result f.fgnd)
cell f GetErrorDetails state.Uninit = Refuses refusal.Uninit
cell f GetErrorDetails _ = Answers (value.Details f.detail)
cell f GetCurrentState s = Answers (value.State (shown_state s))
cell f GetVersionInfo _ = Answers value.Version

-- the cell of a call, its reply, and the module after it
abbrev pub row : FlsTst → Service → FlsCell
row f service = cell f service f.state

abbrev pub reply_to : FlsTst → Service → Reply
reply_to f service = reply_in (row f service) 0

abbrev pub after : FlsTst → Service → FlsTst
after f service = next_in (row f service) f

-- the service that a handler calls; a call of RamTst never comes
abbrev pub handled : HandlerCall → Option Service
handled calls.FlsSuspend = Some Suspend
handled calls.FlsResume = Some Resume
handled calls.FlsAbort = Some Abort
handled calls.FlsGetCurrentState = Some GetCurrentState
handled calls.FlsGetTestResultBgnd = Some GetTestResultBgnd
handled calls.FlsGetTestResultFgnd = Some GetTestResultFgnd
handled _ = None

abbrev pub handler_reply : FlsTst → Option Service → Reply
handler_reply f None = reply.Done
handler_reply f (Some service) = reply_to f service

abbrev pub handler_next : FlsTst → Option Service → FlsTst
handler_next f None = f
handler_next f (Some service) = after f service

-- the rows of the services that a handler may call
unfoldable pub fls_table : Table FlsTst
fls_table = record { reply = λ f call. handler_reply f (handled call); next = λ f call. handler_next f (handled call) }
