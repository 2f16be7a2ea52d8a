-- No line changes the board's defect.
use Rattle.std.proofs.Common.{◌≡◌, Bool, true, false, cond, List, Option, Some, None, refl}
use Rattle.std.specs.Prelude.{is_some}
use Rattle.mt_port.specs.declared.request.Request.{Request}
use Rattle.mt_port.specs.Board.{injected}
use Rattle.mt_fault.specs.declared.fault.Fault.{Fault}
use Rattle.mt_text.specs.declared.line.Event.{Event}
use Rattle.mt_text.specs.declared.line.Event.TheVariants as event
use Rattle.mt_text.specs.declared.line.Line.{Line}
use Rattle.mt_window.specs.declared.reply.Reply.TheVariants as replies
use Rattle.mt_window.specs.Waits.{KeepsBoard}
use Rattle.mt_ram.specs.Table.{MainFunction}
use Rattle.mt_ram.specs.Event.{ticking, full_test}
use Rattle.mt_ram.specs.Laws.{PartialTestsKeepTheBoard}
use Rattle.mt_fls.specs.Table as fls_table
use Rattle.mt_fls.specs.Event as fls_event
use Rattle.mt_fls.specs.Laws.{ForegroundTestsKeepTheBoard}
use Rattle.mt_machine.specs.declared.driven.Running.{Running}
use Rattle.mt_machine.specs.declared.driven.Running.TheVariants as rams
use Rattle.mt_machine.specs.declared.driven.FlsRunning.{FlsRunning}
use Rattle.mt_machine.specs.declared.driven.FlsRunning.TheVariants as fls_calls
use Rattle.mt_machine.specs.Laws.{BoardsStay}
use Rattle.mt_machine.specs.Machine.{Machine, Step, events_of, fls_events_of, begun, replied, on_board, by_service, running_call, service_of, by_fls_service, fls_running_call, fls_service_of, by_event, step}

pub boards_stay : KeepsBoard ticking → KeepsBoard full_test → PartialTestsKeepTheBoard → KeepsBoard fls_event.ticking → ForegroundTestsKeepTheBoard → BoardsStay
boards_stay tick full partial fls_tick foreground = record { ram = of_ram; fls = of_fls }
  where
    of_ram : (call : Running) → KeepsBoard (events_of call)
    of_ram rams.Tick = tick
    of_ram rams.Full = full
    of_ram (rams.Partial block) = partial block

    of_fls : (call : FlsRunning) → KeepsBoard (fls_events_of call)
    of_fls fls_calls.Tick = fls_tick
    of_fls (fls_calls.Foreground block) = foreground block

abbrev Stays : Machine → Step → Type 0
Stays m s = s.after.board.defect ≡ m.board.defect

ram-defect : BoardsStay → (m : Machine) (call : Option Running) (service : _) (requests : List Request) → Stays m (by_service m service call requests)
ram-defect calls m None service requests = refl
ram-defect calls m (Some call) service requests = (calls.ram call (begun m.board m.modules.ram requests)).defect

fls-defect : BoardsStay → (m : Machine) (call : Option FlsRunning) (service : _) (requests : List Request) → Stays m (by_fls_service m service call requests)
fls-defect calls m None service requests = refl
fls-defect calls m (Some call) service requests = (calls.fls call (begun m.board m.modules.fls requests)).defect

inject-defect : (m : Machine) (fault : Fault) (there : Bool) → Stays m (cond there (replied m replies.Present) (replied (on_board m (injected m.board fault)) replies.Done))
inject-defect m fault true = refl
inject-defect m fault false = refl

event-defect : BoardsStay → (m : Machine) (e : Event) (requests : List Request) → Stays m (by_event m e requests)
event-defect calls m event.Nothing requests = refl
event-defect calls m (event.Ram call) requests = ram-defect calls m (running_call call) (service_of call) requests
event-defect calls m (event.Fls call) requests = fls-defect calls m (fls_running_call call) (fls_service_of call) requests
event-defect calls m event.TickRam requests = ram-defect calls m (Some rams.Tick) MainFunction requests
event-defect calls m event.TickFls requests = fls-defect calls m (Some fls_calls.Tick) fls_table.MainFunction requests
event-defect calls m (event.App op) requests = refl
event-defect calls m (event.Inject fault) requests = inject-defect m fault (is_some m.board.fault)
event-defect calls m event.Heal requests = refl
event-defect calls m (event.Burn addr word) requests = refl
event-defect calls m (event.Flip at) requests = refl

pub step-defect : BoardsStay → (m : Machine) (line : Line) → (step m line).after.board.defect ≡ m.board.defect
unfolding step
step-defect calls m line = event-defect calls m line.event line.requests.items
