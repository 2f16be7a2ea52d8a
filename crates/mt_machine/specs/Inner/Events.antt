-- What the call that answers a line does.
use Rattle.std.specs.Prelude.{ℕ, ◌≡◌, false, List, [], ◌∷◌, ◌++◌, Option, Some, None, is_some, if◌then◌else◌}
use Rattle.mt_port.specs.declared.board.Shape.{Shape}
use Rattle.mt_port.specs.declared.board.Touch.{Touch}
use Rattle.mt_port.specs.declared.request.Request.{Request}
use Rattle.mt_port.specs.declared.request.Module.{Module}
use Rattle.mt_port.specs.Board.{Board, Logs, injected, AreSoundRequests}
use Rattle.mt_fault.specs.declared.fault.Fault.{Fault}
use Rattle.mt_text.specs.declared.line.Line.{Line}
use Rattle.mt_text.specs.Accepted.{AreFor}
use Rattle.mt_window.specs.declared.reply.Reply.{Reply}
use Rattle.mt_window.specs.declared.reply.Reply.TheVariants as replies
use Rattle.mt_window.specs.declared.log.Entry.{Entry}
use Rattle.mt_window.specs.declared.log.Entry.TheVariants.{Own}
use Rattle.mt_text.specs.declared.line.RamCall.{RamCall}
use Rattle.mt_text.specs.declared.line.FlsCall.{FlsCall}
use Rattle.mt_seq.specs.declared.sequence.Verdict.{Verdict}
use Rattle.mt_window.specs.Events.{Running as Events}
use Rattle.mt_blocks.specs.Slices.{Piece}
use Rattle.mt_ram.specs.State.{RamTst}
use Rattle.mt_ram.specs.Table as ram_table
use Rattle.mt_fls.specs.State.{FlsTst}
use Rattle.mt_fls.specs.Table as fls_table
use Rattle.mt_machine.specs.declared.driven.Running.{Running}
use Rattle.mt_machine.specs.declared.driven.FlsRunning.{FlsRunning}
use Rattle.mt_machine.specs.declared.driven.Called.{Called}
use Rattle.mt_machine.specs.declared.driven.Called.TheVariants as called
use Rattle.mt_machine.specs.Machine.{Machine, Step, step, replied, running, begun, running_call, service_of, events_of, fls_running_call, fls_service_of, fls_events_of}

-- The line is answered with these entries, and these accesses are made.
pub record Steps (m m' : Machine) (line : Line) (entries' : List Entry) (tape tape' : Option (List Touch)) : Type 0 where
  pub after : (step m line).after ≡ m'
  pub entries : (step m line).entries ≡ entries'
  pub taped : Logs tape tape' (step m line).touches

-- What was entered in the log comes first, and then the line's own reply, where it has one.
abbrev pub AnswerGives : Option Reply → Machine → Machine → Line → (log : List Entry) → (tape tape' : Option (List Touch)) → Type 0
AnswerGives None m m' line log tape tape' = Steps m m' line [] tape tape'
AnswerGives (Some reply) m m' line log tape tape' = Steps m m' line (log ++ Own reply ∷ []) tape tape'

-- what an injection into a board does
pub record Injects (old new : Board) (fault : Fault) (answer : Reply) : Type 0 where
  pub reply : answer ≡ (if is_some old.fault then replies.Present else replies.Done)
  pub board : new ≡ (if is_some old.fault then old else injected old fault)

-- A step with this reply, these entries before it, and these accesses on the tape.
pub record Does (step : Step) (m' : Machine) (answer : Reply) (log : List Entry) (tape tape' : Option (List Touch)) : Type 0 where
  pub after : step.after ≡ m'
  pub entries : step.entries ≡ log ++ Own answer ∷ []
  pub taped : Logs tape tape' step.touches

-- A module's calls on a line: which of them run tests, what these do, and how the others leave and answer it.
pub record Calls (C K R X V : Type 0) : Type 0 where
  pub running : K → Option R
  pub events : R → Events C X V
  pub after : C → K → C
  pub reply : C → K → Reply

abbrev pub ram_calls : Calls RamTst RamCall Running Piece Verdict
ram_calls = record {
  running = running_call;
  events = events_of;
  after = λ r call. ram_table.after r (service_of call);
  reply = λ r call. ram_table.reply_to r (service_of call);
}

abbrev pub fls_calls : Calls FlsTst FlsCall FlsRunning Piece (Option ℕ)
fls_calls = record {
  running = fls_running_call;
  events = fls_events_of;
  after = λ f call. fls_table.after f (fls_service_of call);
  reply = λ f call. fls_table.reply_to f (fls_service_of call);
}

-- A call is answered at once as its row says, or it is one that runs tests, and nothing was done yet.
abbrev pub IsTaken : {C K R X V : Type 0} → Calls C K R X V → Called R → K → (old new : C) → Type 0
IsTaken calls (called.Replied reply) call old new = (calls.running call ≡ None) × (reply ≡ calls.reply old call) × (new ≡ calls.after old call)
IsTaken calls (called.Runs running) call old new = (calls.running call ≡ Some running) × (new ≡ old)

-- the step of a call, which runs tests or is answered at once
abbrev pub driven : {C K R X V : Type 0} → Calls C K R X V → (Board → C → Machine) → Board → C → K → Option R → List Request → Step
driven calls with board callee call None requests = replied (with board (calls.after callee call)) (calls.reply callee call)
driven calls with board callee call (Some r) requests = running with (calls.events r) (begun board callee requests)

-- nothing is held, and no request is left, on a board of this shape
pub record IsFree (board : Board) (common : Shape) : Type 0 where
  pub shape : board.shape ≡ common
  pub free : board.held ≡ false
  pub none : board.left ≡ []

-- requests of an event of this kind of module
pub record AreReady (kind : Module) (shape : Shape) (requests : List Request) : Type 0 where
  pub sound : AreSoundRequests shape requests
  pub callees : AreFor (Some kind) requests
