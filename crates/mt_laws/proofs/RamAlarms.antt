-- Lines of a script on sound memory leave RamTst without a failure.
use Rattle.std.proofs.Common.{◌≡◌, Bool, true, false, cond, List, [], ◌∷◌, All, Option, Some, None, refl}
use Rattle.std.specs.Prelude.{is_some}
use Rattle.std.proofs.lemmas.List.Elements.{All-nil, All-push, All-cons, All-head, All-tail}
use Rattle.mt_fault.specs.declared.fault.Fault.{Fault}
use Rattle.mt_port.specs.Board.{injected}
use Rattle.mt_port.specs.declared.request.Request.{Request}
use Rattle.mt_seq.specs.Laws.{WholeAttemptsPass}
use Rattle.mt_window.specs.declared.log.Entry.{Entry}
use Rattle.mt_window.specs.declared.log.Entry.TheVariants.{Own}
use Rattle.mt_window.specs.declared.reply.Reply.{Reply}
use Rattle.mt_window.specs.declared.reply.Reply.TheVariants as reply
use Rattle.mt_window.specs.Events.{event as event_of}
use Rattle.mt_ram.specs.State.{Setting}
use Rattle.mt_ram.specs.Table.{Service, row}
use Rattle.mt_fls.specs.Table as fls_table
use Rattle.mt_text.specs.declared.line.Event.{Event}
use Rattle.mt_text.specs.declared.line.Event.TheVariants as event
use Rattle.mt_text.specs.declared.line.Line.{Line}
use Rattle.mt_machine.specs.declared.driven.FlsRunning.{FlsRunning}
use Rattle.mt_machine.specs.declared.driven.FlsRunning.TheVariants as fls_calls
use Rattle.mt_machine.specs.declared.driven.Running.{Running}
use Rattle.mt_machine.specs.declared.driven.Running.TheVariants as rams
use Rattle.mt_machine.specs.Machine.{Machine, Step, with_ram, events_of, begun, running, replied, on_board, by_service, running_call, service_of, by_fls_service, fls_running_call, fls_service_of, by_event, step, started, played}
use Rattle.mt_laws.specs.Alarms.{HasNoAlarm, is_alarm, is_of_ram, IsRamCalm, OfEach, RamRaisesNoFalseAlarm}
use Rattle.mt_laws.specs.Plain.{InjectsNothing}
use Rattle.mt_laws.proofs.Calm.{CalmCall, cell_next, cell_reply, event_calm}
use Rattle.mt_laws.proofs.Plain.{LeaveNoTrace, IsSound, accepted-marches, step-sound}
use Rattle.mt_laws.proofs.RamCalm.{IsCalm, Sound, Any, cell_calm, none_tested, tick_calm, full_calm, partial_calm}

-- what a step leaves of RamTst, and shows if it is RamTst's
record LeavesCalm (mine : Bool) (s : Step) : Type 0 where
  ram : IsCalm s.after.modules.ram
  entries : mine ≡ true → HasNoAlarm s.entries

one_reply : (given : Reply) → is_alarm (Own given) ≡ false → HasNoAlarm (Own given ∷ [])
one_reply given h = All-cons (λ (e : Entry). is_alarm e ≡ false) (Own given) [] h (All-nil (λ (e : Entry). is_alarm e ≡ false))

running_calls : WholeAttemptsPass → (call : Running) → CalmCall (events_of call) Sound IsCalm Any
running_calls law rams.Tick = tick_calm law
running_calls law rams.Full = full_calm law
running_calls law (rams.Partial block) = partial_calm law block

running_leaves : WholeAttemptsPass → (call : Running) (m : Machine) (requests : List Request) → m.board.fault ≡ None → IsCalm m.modules.ram
    → LeavesCalm true (running (with_ram m.modules) (events_of call) (begun m.board m.modules.ram requests))
running_leaves law call m requests sound h =
    let s = begun m.board m.modules.ram requests in
    let calm = event_calm (events_of call) Sound IsCalm Any (running_calls law call) s (record { board = sound; callee = h; log = All-nil (λ (e : Entry). is_alarm e ≡ false) }) in
    record {
      ram = calm.after.callee;
      entries = λ mine. All-push (λ (e : Entry). is_alarm e ≡ false) (event_of (events_of call) s).after.log (Own (event_of (events_of call) s).reply) calm.after.log calm.reply;
    }

ram_leaves : WholeAttemptsPass → (m : Machine) (service : Service) (call : Option Running) (requests : List Request) → m.board.fault ≡ None → IsCalm m.modules.ram
    → LeavesCalm true (by_service m service call requests)
ram_leaves law m service None requests sound h = record {
  ram = cell_next IsCalm (row m.modules.ram service) m.modules.ram (cell_calm m.modules.ram service m.modules.ram.state h) h;
  entries = λ mine. one_reply _ (cell_reply IsCalm (row m.modules.ram service) 0 (cell_calm m.modules.ram service m.modules.ram.state h));
}
ram_leaves law m service (Some call) requests sound h = running_leaves law call m requests sound h

other : (s : Step) → IsCalm s.after.modules.ram → LeavesCalm false s
other s h = record { ram = h; entries = λ mine. absurd cc }

fls_leaves : (m : Machine) (service : fls_table.Service) (call : Option FlsRunning) (requests : List Request) → IsCalm m.modules.ram → LeavesCalm false (by_fls_service m service call requests)
fls_leaves m service None requests h = other _ h
fls_leaves m service (Some call) requests h = other _ h

inject_leaves : (m : Machine) (fault : Fault) (there : Bool) → IsCalm m.modules.ram → LeavesCalm false (cond there (replied m reply.Present) (replied (on_board m (injected m.board fault)) reply.Done))
inject_leaves m fault true h = other _ h
inject_leaves m fault false h = other _ h

event_leaves : WholeAttemptsPass → (m : Machine) (e : Event) (requests : List Request) → m.board.fault ≡ None → IsCalm m.modules.ram → LeavesCalm (is_of_ram e) (by_event m e requests)
event_leaves law m event.Nothing requests sound h = other _ h
event_leaves law m (event.Ram call) requests sound h = ram_leaves law m (service_of call) (running_call call) requests sound h
event_leaves law m (event.Fls call) requests sound h = fls_leaves m (fls_service_of call) (fls_running_call call) requests h
event_leaves law m event.TickRam requests sound h = running_leaves law rams.Tick m requests sound h
event_leaves law m event.TickFls requests sound h = fls_leaves m fls_table.MainFunction (Some fls_calls.Tick) requests h
event_leaves law m (event.App op) requests sound h = other _ h
event_leaves law m (event.Inject fault) requests sound h = inject_leaves m fault (is_some m.board.fault) h
event_leaves law m event.Heal requests sound h = other _ h
event_leaves law m (event.Burn addr word) requests sound h = other _ h
event_leaves law m (event.Flip at) requests sound h = other _ h

step_leaves : WholeAttemptsPass → (m : Machine) (line : Line) → m.board.fault ≡ None → IsCalm m.modules.ram → LeavesCalm (is_of_ram line.event) (step m line)
unfolding step
step_leaves law m line sound h = event_leaves law m line.event line.requests.items sound h

lines_calm : LeaveNoTrace → WholeAttemptsPass → (z : Setting) (m : Machine) (lines : List Line) → All InjectsNothing lines → IsSound z m → IsCalm m.modules.ram → OfEach IsRamCalm lines (played m lines).steps
lines_calm known law z m [] none sound h = tt
lines_calm known law z m (line ∷ more) none sound h =
    let one = step_leaves law m line sound.fault h in (
      record { blocks = one.ram.results; entries = one.entries },
      lines_calm known law z (step m line).after more (All-tail InjectsNothing line more none) (step-sound known z m line (All-head InjectsNothing line more none) sound) one.ram,
    )

pub ram_alarms : LeaveNoTrace → WholeAttemptsPass → RamRaisesNoFalseAlarm
ram_alarms known law c defect lines accepted sound none =
    let m = started c defect in
    lines_calm known law m.modules.ram.setting m lines none (record { fault = sound; setting = refl })
    (record { results = none_tested _; failed = refl; marches = accepted-marches c defect accepted })
