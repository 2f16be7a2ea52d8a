-- The machine that a script drives: the board, and the modules over it. Each line is one event.
use Rattle.std.specs.Prelude.{ℕ, ◌≡◌, false, List, [], ◌∷◌, ◌++◌, Option, Some, None, is_some, if◌then◌else◌, length, replicate, slice_set}
use Rattle.mt_port.specs.declared.board.Shape.{Shape}
use Rattle.mt_port.specs.declared.board.Touch.{Touch}
use Rattle.mt_port.specs.declared.request.Request.{Request}
use Rattle.mt_port.specs.declared.request.AppOp.{AppOp}
use Rattle.mt_port.specs.Board.{Board, after_op, op_answer, injected, flipped, powered_up}
use Rattle.mt_fault.specs.declared.fault.Fault.{Fault}
use Rattle.mt_fault.specs.declared.fault.Spot.{Spot}
use Rattle.mt_seq.specs.declared.sequence.Verdict.{Verdict}
use Rattle.mt_window.specs.declared.log.Entry.{Entry}
use Rattle.mt_window.specs.declared.log.Entry.TheVariants.{Own}
use Rattle.mt_window.specs.declared.reply.Reply.{Reply}
use Rattle.mt_window.specs.declared.reply.Reply.TheVariants as reply
use Rattle.mt_window.specs.declared.reply.TestResult.TheVariants.{NotTested}
use Rattle.mt_window.specs.Serving.{Scene, scene, given}
use Rattle.mt_window.specs.declared.reply.Detail.TheVariants.{Nothing}
use Rattle.mt_window.specs.Slices.{Attempt}
use Rattle.mt_window.specs.Events.{Running as Events, Outcome, event as event_of, event_touches, event_attempts}
use Rattle.mt_blocks.specs.declared.config.RamConfig.{RamConfig}
use Rattle.mt_blocks.specs.declared.config.FlsConfig.{FlsConfig}
use Rattle.mt_blocks.specs.Slices.{Piece}
use Rattle.mt_blocks.specs.Accepted.{set_at}
use Rattle.mt_ram.specs.declared.state.State.TheVariants.{Uninit}
use Rattle.mt_ram.specs.State.{RamTst}
use Rattle.mt_ram.specs.Table.{Service, Init, DeInit, Allow, Stop, Suspend, Resume, SelectAlgParams, ChangeNumberOfTestedCells, RunFullTest, RunPartialTest, GetTestResultPerBlock, GetTestResult, GetAlgParams, GetTestAlgorithm, GetNumberOfTestedCells, GetExecutionStatus, GetVersionInfo, reply_to, after}
use Rattle.mt_ram.specs.Event.{ticking, full_test, partial_test}
use Rattle.mt_fls.specs.declared.state.State.TheVariants as fls_state
use Rattle.mt_fls.specs.State.{FlsTst}
use Rattle.mt_fls.specs.Table as fls_table
use Rattle.mt_fls.specs.Event as fls_event
use Rattle.mt_conf.specs.declared.config.Config.{Config}
use Rattle.mt_machine.specs.declared.driven.Running.{Running}
use Rattle.mt_machine.specs.declared.driven.Running.TheVariants as calls
use Rattle.mt_machine.specs.declared.driven.FlsRunning.{FlsRunning}
use Rattle.mt_machine.specs.declared.driven.FlsRunning.TheVariants as fls_calls
use Rattle.mt_machine.specs.declared.modules.Modules.{Modules}
use Rattle.mt_text.specs.declared.line.Event.{Event}
use Rattle.mt_text.specs.declared.line.Event.TheVariants as event
use Rattle.mt_text.specs.declared.line.RamCall.{RamCall}
use Rattle.mt_text.specs.declared.line.RamCall.TheVariants as call
use Rattle.mt_text.specs.declared.line.FlsCall.{FlsCall}
use Rattle.mt_text.specs.declared.line.FlsCall.TheVariants as fls_call
use Rattle.mt_text.specs.declared.line.Line.{Line}

-- the board, and the modules over it
pub record Machine : Type 0 where
  pub board : Board
  pub modules : Modules

abbrev pub machine : Board → Modules → Machine
machine board modules = record { board = board; modules = modules }

-- what a line makes of the machine, what it enters in the trace, the test accesses that it makes and how many they are, its attempts
-- at slices, and the requests that are served in it
pub record Step : Type 0 where
  pub after : Machine
  pub entries : List Entry
  pub touches : List Touch
  pub count : ℕ
  pub attempts : List Attempt
  pub requests : List Request

-- a line that only replies
abbrev pub replied : Machine → Reply → Step
replied after reply = record { after = after; entries = Own reply ∷ []; touches = []; count = 0; attempts = []; requests = [] }

-- the machine with another board, and with another module
abbrev pub on_board : Machine → Board → Machine
on_board m board = record { board = board; modules = m.modules }

abbrev pub with_ram : Modules → Board → RamTst → Machine
with_ram modules board ram = record { board = board; modules = record { ram = ram; fls = modules.fls } }

abbrev pub with_fls : Modules → Board → FlsTst → Machine
with_fls modules board fls = record { board = board; modules = record { ram = modules.ram; fls = fls } }

abbrev pub operated : Machine → AppOp → Step
operated m op = replied (on_board m (after_op m.board op)) (given (op_answer m.board op))

-- an injection while a fault is there changes nothing
abbrev pub injecting : Machine → Fault → Step
injecting m fault = if is_some m.board.fault then replied m reply.Present else replied (on_board m (injected m.board fault)) reply.Done

abbrev pub healing : Machine → Step
healing m = replied (on_board m (record (m.board) { fault = None })) reply.Done

abbrev pub burning : Machine → ℕ → ℕ → Step
burning m addr word = replied (on_board m (record (m.board) { flash = slice_set m.board.flash addr word })) reply.Done

abbrev pub flipping : Machine → Spot → Step
flipping m at = replied (on_board m (record (m.board) { flash = flipped m.board.flash at })) reply.Done

-- ---- running events

-- the scene as a running event of a module begins with these requests
abbrev pub begun : {C : Type 0} → Board → C → List Request → Scene C
begun board callee requests = scene (record board { left = requests; taken = 0; count = 0 }) callee []

-- what the event left, with its own reply entered last
abbrev pub happened : {C X V : Type 0} → (Board → C → Machine) → Events C X V → Scene C → Outcome C → Step
happened with call s o = record {
  after = with (record (o.after.board) { count = 0 }) o.after.callee;
  entries = o.after.log ++ Own o.reply ∷ [];
  touches = event_touches call s;
  count = o.after.board.count;
  attempts = event_attempts call s;
  requests = s.board.left;
}

abbrev pub running : {C X V : Type 0} → (Board → C → Machine) → Events C X V → Scene C → Step
running with call s = happened with call s (event_of call s)

-- ---- RamTst

-- the running calls, and the other services
abbrev pub events_of : Running → Events RamTst Piece Verdict
events_of calls.Tick = ticking
events_of calls.Full = full_test
events_of (calls.Partial block) = partial_test block

abbrev pub running_call : RamCall → Option Running
running_call call.RunFullTest = Some calls.Full
running_call (call.RunPartialTest block) = Some (calls.Partial block)
running_call call = None

abbrev pub service_of : RamCall → Service
service_of call.Init = Init
service_of call.DeInit = DeInit
service_of call.Stop = Stop
service_of call.Allow = Allow
service_of call.Suspend = Suspend
service_of call.Resume = Resume
service_of call.GetExecutionStatus = GetExecutionStatus
service_of call.GetTestResult = GetTestResult
service_of (call.GetTestResultPerBlock block) = GetTestResultPerBlock block
service_of call.GetAlgParams = GetAlgParams
service_of call.GetTestAlgorithm = GetTestAlgorithm
service_of call.GetNumberOfTestedCells = GetNumberOfTestedCells
service_of (call.SelectAlgParams set) = SelectAlgParams set
service_of (call.ChangeNumberOfTestedCells cells) = ChangeNumberOfTestedCells cells
service_of call.RunFullTest = RunFullTest
service_of (call.RunPartialTest block) = RunPartialTest block
service_of call.GetVersionInfo = GetVersionInfo

-- a service that is answered at once
abbrev pub called : Machine → Service → Step
called m service = replied (with_ram m.modules m.board (after m.modules.ram service)) (reply_to m.modules.ram service)

abbrev pub running_ram : Running → Machine → List Request → Step
running_ram call m requests = running (with_ram m.modules) (events_of call) (begun m.board m.modules.ram requests)

abbrev pub by_service : Machine → Service → Option Running → List Request → Step
by_service m service None requests = called m service
by_service m service (Some call) requests = running_ram call m requests

abbrev pub by_ram : Machine → RamCall → List Request → Step
by_ram m call requests = by_service m (service_of call) (running_call call) requests

-- ---- FlsTst

-- the running calls, and the other services
abbrev pub fls_events_of : FlsRunning → Events FlsTst Piece (Option ℕ)
fls_events_of fls_calls.Tick = fls_event.ticking
fls_events_of (fls_calls.Foreground block) = fls_event.foreground_test block

abbrev pub fls_running_call : FlsCall → Option FlsRunning
fls_running_call (fls_call.StartFgnd block) = Some (fls_calls.Foreground block)
fls_running_call call = None

abbrev pub fls_service_of : FlsCall → fls_table.Service
fls_service_of fls_call.Init = fls_table.Init
fls_service_of fls_call.DeInit = fls_table.DeInit
fls_service_of (fls_call.StartFgnd block) = fls_table.StartFgnd block
fls_service_of fls_call.Abort = fls_table.Abort
fls_service_of fls_call.Suspend = fls_table.Suspend
fls_service_of fls_call.Resume = fls_table.Resume
fls_service_of fls_call.GetCurrentState = fls_table.GetCurrentState
fls_service_of fls_call.GetTestResultBgnd = fls_table.GetTestResultBgnd
fls_service_of fls_call.GetTestResultFgnd = fls_table.GetTestResultFgnd
fls_service_of fls_call.GetErrorDetails = fls_table.GetErrorDetails
fls_service_of fls_call.GetVersionInfo = fls_table.GetVersionInfo

abbrev pub fls_called : Machine → fls_table.Service → Step
fls_called m service = replied (with_fls m.modules m.board (fls_table.after m.modules.fls service)) (fls_table.reply_to m.modules.fls service)

abbrev pub running_fls : FlsRunning → Machine → List Request → Step
running_fls call m requests = running (with_fls m.modules) (fls_events_of call) (begun m.board m.modules.fls requests)

abbrev pub by_fls_service : Machine → fls_table.Service → Option FlsRunning → List Request → Step
by_fls_service m service None requests = fls_called m service
by_fls_service m service (Some call) requests = running_fls call m requests

abbrev pub by_fls : Machine → FlsCall → List Request → Step
by_fls m call requests = by_fls_service m (fls_service_of call) (fls_running_call call) requests

-- ---- lines

-- what an event does
abbrev pub by_event : Machine → Event → List Request → Step
by_event m event.Nothing requests = record { after = m; entries = []; touches = []; count = 0; attempts = []; requests = [] }
by_event m (event.Ram call) requests = by_ram m call requests
by_event m (event.Fls call) requests = by_fls m call requests
by_event m event.TickRam requests = running_ram calls.Tick m requests
by_event m event.TickFls requests = running_fls fls_calls.Tick m requests
by_event m (event.App op) requests = operated m op
by_event m (event.Inject fault) requests = injecting m fault
by_event m event.Heal requests = healing m
by_event m (event.Burn addr word) requests = burning m addr word
by_event m (event.Flip at) requests = flipping m at

-- one line
unfoldable pub step : Machine → Line → Step
step m line = by_event m line.event line.requests.items

-- ---- some lines, one after another

-- what the machine makes of some lines, one step a line, and the machine after them
pub record Play : Type 0 where
  pub steps : List Step
  pub after : Machine

abbrev pub stepped : Step → Play → Play
stepped s more = record { steps = s ∷ more.steps; after = more.after }

abbrev pub played_by : (Machine → Line → Step) → Machine → List Line → Play
played_by does m [] = record { steps = []; after = m }
played_by does m (line ∷ more) = stepped (does m line) (played_by does (does m line).after more)

abbrev pub played : Machine → List Line → Play
played m lines = played_by step m lines

-- ---- the start

-- the modules at the start
abbrev pub ram_at_start : RamConfig → Shape → RamTst
ram_at_start config shape = record {
  setting = record { config = config; shape = shape };
  state = Uninit;
  selected = 0;
  cells = (set_at config.sets 0).cells;
  results = replicate (length (set_at config.sets 0).blocks) NotTested;
  failed = false;
  mark = false;
}

abbrev pub fls_at_start : FlsConfig → Shape → FlsTst
fls_at_start config shape = record {
  setting = record { config = config; shape = shape };
  state = fls_state.Uninit;
  completed = None;
  result = NotTested;
  failed = false;
  fgnd = NotTested;
  detail = Nothing;
  mark = false;
}

abbrev pub at_start : Config → Modules
at_start config = record { ram = ram_at_start config.ram_tst config.shape; fls = fls_at_start config.fls_tst config.shape }

-- the machine at the start, on a board with a defect or none
abbrev pub started : Config → Option Fault → Machine
started config defect = record { board = powered_up config.shape config.initial defect; modules = at_start config }

-- Between two lines the board and the modules have this shape, nothing is held, and no request is left.
pub record IsReady (common : Shape) (m : Machine) : Type 0 where
  pub shape : m.board.shape ≡ common
  pub ram : m.modules.ram.setting.shape ≡ common
  pub fls : m.modules.fls.setting.shape ≡ common
  pub free : m.board.held ≡ false
  pub none : m.board.left ≡ []
