-- Transparency: on sound memory a replay comes to the same where no test touches a word of the application.
use Rattle.std.specs.Prelude.{◌≡◌, ◌≢◌, List, All, Option, Some, None}
use Rattle.mt_port.specs.declared.request.Request.{Request}
use Rattle.mt_fault.specs.declared.fault.Fault.{Fault}
use Rattle.mt_text.specs.declared.line.Event.{Event}
use Rattle.mt_text.specs.declared.line.Event.TheVariants as event
use Rattle.mt_text.specs.declared.line.RamCall.{RamCall}
use Rattle.mt_text.specs.declared.line.Line.{Line}
use Rattle.mt_ram.specs.Plain.{untouched}
use Rattle.mt_conf.specs.declared.config.Config.{Config}
use Rattle.mt_conf.specs.Accepted.{IsAcceptedConfig}
use Rattle.mt_machine.specs.declared.driven.Running.{Running}
use Rattle.mt_machine.specs.declared.driven.Running.TheVariants as calls
use Rattle.mt_machine.specs.Machine.{Machine, Step, running, with_ram, begun, events_of, running_call, service_of, called, by_event, started, played, played_by}

-- A running call of RamTst of which no sequence touches a word, but that each one that has ended leaves the fill of a destructive block.
abbrev pub plain_running : Running → Machine → List Request → Step
plain_running call m requests = running (with_ram m.modules) (untouched (events_of call)) (begun m.board m.modules.ram requests)

abbrev pub plain_call : Machine → RamCall → Option Running → List Request → Step
plain_call m call None requests = called m (service_of call)
plain_call m call (Some running) requests = plain_running running m requests

-- a line with such calls alone
abbrev pub plain_event : Machine → Event → List Request → Step
plain_event m (event.Ram call) requests = plain_call m call (running_call call) requests
plain_event m event.TickRam requests = plain_running calls.Tick m requests
plain_event m other requests = by_event m other requests

abbrev pub plain_step : Machine → Line → Step
plain_step m line = plain_event m line.event line.requests.items

-- a line that injects no fault
abbrev pub InjectsNothing : Line → Type 0
InjectsNothing line = (fault : Fault) → line.event ≢ event.Inject fault

-- Where the board has no fault at the start and no line injects one, the steps are those in which no test touches a word.
abbrev pub TestsLeaveNoTrace : Type 0
TestsLeaveNoTrace = (c : Config) (defect : Option Fault) (lines : List Line) → IsAcceptedConfig c → (started c defect).board.fault ≡ None → All InjectsNothing lines
    → (played (started c defect) lines).steps ≡ (played_by plain_step (started c defect) lines).steps
