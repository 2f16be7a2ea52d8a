-- The state table of RamTst.
use Rattle.std.specs.Prelude.{ℕ, true, false, ◌&&◌, List, length, replicate, slice_index_or, Option, Some, None, if◌then◌else◌, nat_lt, nat_le}
use Rattle.mt_port.specs.declared.request.HandlerCall.{HandlerCall}
use Rattle.mt_port.specs.declared.request.HandlerCall.TheVariants as calls
use Rattle.mt_plan.specs.declared.algorithm.Algorithm.{Algorithm}
use Rattle.mt_plan.specs.declared.algorithm.Algorithm.TheVariants as algorithms
use Rattle.mt_window.specs.declared.reply.Reply.{Reply}
use Rattle.mt_window.specs.declared.reply.Reply.TheVariants as reply
use Rattle.mt_window.specs.declared.reply.Refusal.TheVariants as refusal
use Rattle.mt_window.specs.declared.reply.Value.TheVariants as value
use Rattle.mt_window.specs.declared.reply.ShownState.{ShownState}
use Rattle.mt_window.specs.declared.reply.ShownState.TheVariants as shown
use Rattle.mt_window.specs.declared.reply.AlgorithmName.{AlgorithmName}
use Rattle.mt_window.specs.declared.reply.AlgorithmName.TheVariants as names
use Rattle.mt_window.specs.declared.reply.TestResult.TheVariants.{NotTested}
use Rattle.mt_window.specs.Serving.{Table}
use Rattle.mt_window.specs.Rows.{Cell, Refuses, Goes, Answers, Rests, Runs, staying, reply_in, next_in}
use Rattle.mt_blocks.specs.declared.pass.Position.{Position}
use Rattle.mt_blocks.specs.Slices.{Piece, pass, pieces, from_place, span_at, start}
use Rattle.mt_blocks.specs.Groups.{group}
use Rattle.mt_blocks.specs.Accepted.{set_at}
use Rattle.mt_ram.specs.declared.state.State.{State}
use Rattle.mt_ram.specs.declared.state.State.TheVariants.{Uninit, Stopped, Running, Suspended, Full, Partial}
use Rattle.mt_ram.specs.State.{RamTst, set_of, spans_in}
use Rattle.mt_ram.specs.Results.{overall}

-- the services
pub data Service : Type 0 where
  Init DeInit Allow Stop Suspend Resume : Service
  SelectAlgParams : (set : ℕ) → Service
  ChangeNumberOfTestedCells : (cells : ℕ) → Service
  RunFullTest : Service
  RunPartialTest : (block : ℕ) → Service
  MainFunction : Service
  GetTestResultPerBlock : (block : ℕ) → Service
  GetTestResult GetAlgParams GetTestAlgorithm GetNumberOfTestedCells GetExecutionStatus GetVersionInfo : Service

-- a cell of the table
abbrev pub RamCell : Type 0
RamCell = Cell RamTst Piece

-- the module with that set: its number of cells, and no result
abbrev pub selected : RamTst → ℕ → RamTst
selected r set =
    record r {
      selected = set;
      cells = (set_at r.setting.config.sets set).cells;
      results = replicate (length (set_at r.setting.config.sets set).blocks) NotTested;
    }

abbrev pub initialised : RamTst → RamTst
initialised r = record (selected r 0) { state = Stopped }

-- DeInit and Stop drop the position and what was kept for the unfinished test
abbrev pub uninitialised : RamTst → RamTst
uninitialised r = record r { state = Uninit; failed = false }

abbrev pub allowed : RamTst → RamTst
allowed r = record r { state = Running start }

-- an accepted Stop or Suspend sets the mark
abbrev pub stopped : RamTst → RamTst
stopped r = record r { state = Stopped; failed = false; mark = true }

abbrev pub suspended : RamTst → Position → RamTst
suspended r p = record r { state = Suspended p; mark = true }

abbrev pub resumed : RamTst → Position → RamTst
resumed r p = record r { state = Running p }

-- Refused as out of range, or what the service does.
abbrev pub selecting : RamTst → ℕ → RamCell
selecting r set = if nat_lt set (length r.setting.config.sets) then Goes (selected r set) else Refuses refusal.Range

abbrev pub changing : RamTst → ℕ → RamCell
changing r cells =
    if nat_le (set_of r).atomic cells && nat_le cells 65536 then Goes (record r { cells = cells }) else Refuses refusal.Range

-- the module in a state
abbrev pub in_state : State → RamTst → RamTst
in_state state r = record r { state = state }

abbrev pub testing : RamTst → ℕ → (inside back : State) → RamCell
testing r block inside back =
    if nat_lt block (length (set_of r).blocks)
    then Runs (pieces (set_of r).atomic block (span_at (spans_in r) block)) (in_state inside) (in_state back)
    else Refuses refusal.Range

abbrev pub telling : RamTst → ℕ → RamCell
telling r block =
    if nat_lt block (length r.results) then Answers (value.Result (slice_index_or r.results block NotTested)) else Refuses refusal.Range

-- the group that begins at a position
abbrev pub group_at : RamTst → Position → List Piece
group_at r p = group r.cells (from_place (set_of r).atomic (spans_in r) p)

-- the state and the algorithm as they are shown
abbrev pub shown_state : State → ShownState
shown_state Uninit = shown.Uninit
shown_state Stopped = shown.Stopped
shown_state (Running p) = shown.Running
shown_state (Suspended p) = shown.Suspended
shown_state Full = shown.Running
shown_state (Partial back) = shown.Running

abbrev pub name_of : Algorithm → AlgorithmName
name_of algorithms.Checkerboard = names.Checkerboard
name_of (algorithms.March march) = names.March
name_of algorithms.WalkPath = names.WalkPath
name_of algorithms.Galpat = names.Galpat
name_of algorithms.TransparentGalpat = names.TransparentGalpat

-- The table, row by row. Inside a full or partial test only a handler calls, so that a row of another service has
-- no cell there; what it has here is the cell of RUNNING, and for the main function that it tests nothing.
abbrev pub cell : RamTst → Service → State → RamCell
cell r Init Uninit = Goes (initialised r)
cell r Init _ = Refuses refusal.Status
cell r DeInit Uninit = Refuses refusal.Uninit
cell r DeInit _ = Goes (uninitialised r)
cell r Allow Uninit = Refuses refusal.Uninit
cell r Allow Stopped = Goes (allowed r)
cell r Allow _ = Refuses refusal.Status
cell r Stop Uninit = Refuses refusal.Uninit
cell r Stop (Running p) = Goes (stopped r)
cell r Stop (Suspended p) = Goes (stopped r)
cell r Stop _ = Refuses refusal.Status
cell r Suspend Uninit = Refuses refusal.Uninit
cell r Suspend (Running p) = Goes (suspended r p)
cell r Suspend _ = Refuses refusal.Status
cell r Resume Uninit = Refuses refusal.Uninit
cell r Resume (Suspended p) = Goes (resumed r p)
cell r Resume _ = Refuses refusal.Status
cell r (SelectAlgParams set) Uninit = Refuses refusal.Uninit
cell r (SelectAlgParams set) Stopped = selecting r set
cell r (SelectAlgParams set) _ = Refuses refusal.Status
cell r (ChangeNumberOfTestedCells cells) Uninit = Refuses refusal.Uninit
cell r (ChangeNumberOfTestedCells cells) Stopped = changing r cells
cell r (ChangeNumberOfTestedCells cells) _ = Refuses refusal.Status
cell r RunFullTest Uninit = Refuses refusal.Uninit
cell r RunFullTest Stopped = Runs (pass (set_of r).atomic (spans_in r)) (in_state Full) (in_state Stopped)
cell r RunFullTest _ = Refuses refusal.Status
cell r (RunPartialTest block) Uninit = Refuses refusal.Uninit
cell r (RunPartialTest block) Stopped = testing r block (Partial None) Stopped
cell r (RunPartialTest block) (Suspended p) = testing r block (Partial (Some p)) (Suspended p)
cell r (RunPartialTest block) _ = Refuses refusal.Status
cell r MainFunction Uninit = Refuses refusal.Uninit
cell r MainFunction (Running p) = Runs (group_at r p) staying staying
cell r MainFunction _ = Rests
cell r (GetTestResultPerBlock block) Uninit = Refuses refusal.Uninit
cell r (GetTestResultPerBlock block) _ = telling r block
cell r GetTestResult Uninit = Refuses refusal.Uninit
cell r GetTestResult _ = Answers (value.Result (overall r.results))
cell r GetAlgParams Uninit = Refuses refusal.Uninit
cell r GetAlgParams _ = Answers (value.Number r.selected)
cell r GetTestAlgorithm Uninit = Refuses refusal.Uninit
cell r GetTestAlgorithm _ = Answers (value.Algorithm (name_of (set_of r).alg))
cell r GetNumberOfTestedCells Uninit = Refuses refusal.Uninit
cell r GetNumberOfTestedCells _ = Answers (value.Number r.cells)
cell r GetExecutionStatus state = Answers (value.State (shown_state state))
cell r GetVersionInfo _ = Answers value.Version

-- the cell of a call, its reply, and the module after it
abbrev pub row : RamTst → Service → RamCell
row r service = cell r service r.state

abbrev pub reply_to : RamTst → Service → Reply
reply_to r service = reply_in (row r service) 0

abbrev pub after : RamTst → Service → RamTst
after r service = next_in (row r service) r

-- the service that a handler calls; a call of FlsTst never comes
abbrev pub handled : HandlerCall → Option Service
handled calls.RamAllow = Some Allow
handled calls.RamStop = Some Stop
handled calls.RamSuspend = Some Suspend
handled calls.RamResume = Some Resume
handled calls.RamGetExecutionStatus = Some GetExecutionStatus
handled calls.RamGetTestResult = Some GetTestResult
handled (calls.RamGetTestResultPerBlock block) = Some (GetTestResultPerBlock block)
handled calls.FlsSuspend = None
handled calls.FlsResume = None
handled calls.FlsAbort = None
handled calls.FlsGetCurrentState = None
handled calls.FlsGetTestResultBgnd = None
handled calls.FlsGetTestResultFgnd = None

abbrev pub handler_reply : RamTst → Option Service → Reply
handler_reply r None = reply.Done
handler_reply r (Some service) = reply_to r service

abbrev pub handler_next : RamTst → Option Service → RamTst
handler_next r None = r
handler_next r (Some service) = after r service

-- the rows of the services that a handler may call
unfoldable pub ram_table : Table RamTst
ram_table = record { reply = λ r call. handler_reply r (handled call); next = λ r call. handler_next r (handled call) }
