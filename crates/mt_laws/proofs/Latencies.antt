-- The requests of a replay are served in time.
use Rattle.std.proofs.Common.{Bool, true, false, cond, List, [], ◌∷◌, Option, Some, None, refl, ◌∙◌, arith, append-nil}
use Rattle.std.specs.Prelude.{is_some}
use Rattle.std.proofs.lemmas.List.Elements.{All-push, All-cons, All-head, All-tail, filter-append}
use Rattle.mt_port.specs.declared.request.Request.{Request}
use Rattle.mt_port.specs.Board.{Board, AreOrdered, injected}
use Rattle.mt_fault.specs.declared.fault.Fault.{Fault}
use Rattle.mt_text.specs.declared.line.Event.{Event}
use Rattle.mt_text.specs.declared.line.Event.TheVariants as event
use Rattle.mt_text.specs.declared.line.Line.{Line}
use Rattle.mt_text.specs.Accepted.{IsAccepted}
use Rattle.mt_window.specs.declared.reply.Reply.{Reply}
use Rattle.mt_window.specs.declared.reply.Reply.TheVariants as replies
use Rattle.mt_window.specs.declared.log.Entry.TheVariants.{Own}
use Rattle.mt_window.specs.Events.{Running as Events, event as event_of, event_attempts}
use Rattle.mt_window.specs.Waits.{IsFresh, is_service, services, IsShort, ServesInTime as CallServes}
use Rattle.mt_machine.specs.declared.driven.Running.{Running}
use Rattle.mt_machine.specs.declared.driven.Running.TheVariants as rams
use Rattle.mt_machine.specs.declared.driven.FlsRunning.{FlsRunning}
use Rattle.mt_machine.specs.declared.driven.FlsRunning.TheVariants as fls_calls
use Rattle.mt_ram.specs.Table.{MainFunction}
use Rattle.mt_fls.specs.Table as fls_table
use Rattle.mt_machine.specs.Machine.{Machine, with_ram, with_fls, events_of, fls_events_of, begun, replied, on_board, running, by_service, running_call, service_of, by_fls_service, fls_running_call, fls_service_of, by_event, step, played}
use Rattle.mt_laws.specs.Latency.{ServesInTime, RequestsAreServedInTime}

-- what is known of the running calls
pub record RunningCalls : Type 0 where
  pub ram : (call : Running) → CallServes (events_of call)
  pub fls : (call : FlsRunning) → CallServes (fls_events_of call)

-- one reply, which waits for nothing
replied-short : (m : Machine) (reply : Reply) → ServesInTime (replied m reply)
replied-short m reply = record { places = refl; short = All-push (IsShort []) [] (Own reply) (λ k d h. absurd (omega (arith, h))) tt; urgent = λ k d h. absurd (omega (arith, h)) }

-- a running event
running-short : {C X V : Type 0} (with : Board → C → Machine) (call : Events C X V) (board : Board) (callee : C) (requests : List Request) → CallServes call → AreOrdered requests
    → ServesInTime (running with call (begun board callee requests))
running-short with call board callee requests serves ordered =
    let s = begun board callee requests in
    let fresh : IsFresh s = record { empty = refl; start = refl; ordered = ordered } in
    let log = (event_of call s).after.log in
    record {
      places = filter-append is_service log (Own (event_of call s).reply ∷ []) ∙ append-nil (services log) ∙ serves.places s fresh;
      short = All-push (IsShort (event_attempts call s)) log (Own (event_of call s).reply) (serves.short s fresh) tt;
      urgent = serves.urgent s fresh;
    }

ram-short : RunningCalls → (m : Machine) (call : Option Running) (service : _) (requests : List Request) → AreOrdered requests → ServesInTime (by_service m service call requests)
ram-short calls m None service requests ordered = replied-short _ _
ram-short calls m (Some call) service requests ordered = running-short (with_ram m.modules) (events_of call) m.board m.modules.ram requests (calls.ram call) ordered

fls-short : RunningCalls → (m : Machine) (call : Option FlsRunning) (service : _) (requests : List Request) → AreOrdered requests → ServesInTime (by_fls_service m service call requests)
fls-short calls m None service requests ordered = replied-short _ _
fls-short calls m (Some call) service requests ordered = running-short (with_fls m.modules) (fls_events_of call) m.board m.modules.fls requests (calls.fls call) ordered

-- an injection, where a fault is there or not
inject-short : (m : Machine) (fault : Fault) (there : Bool) → ServesInTime (cond there (replied m replies.Present) (replied (on_board m (injected m.board fault)) replies.Done))
inject-short m fault true = replied-short _ _
inject-short m fault false = replied-short _ _

event-short : RunningCalls → (m : Machine) (e : Event) (requests : List Request) → AreOrdered requests → ServesInTime (by_event m e requests)
event-short calls m event.Nothing requests ordered = record { places = refl; short = λ k d h. absurd (omega (arith, h)); urgent = λ k d h. absurd (omega (arith, h)) }
event-short calls m (event.Ram call) requests ordered = ram-short calls m (running_call call) (service_of call) requests ordered
event-short calls m (event.Fls call) requests ordered = fls-short calls m (fls_running_call call) (fls_service_of call) requests ordered
event-short calls m event.TickRam requests ordered = ram-short calls m (Some rams.Tick) MainFunction requests ordered
event-short calls m event.TickFls requests ordered = fls-short calls m (Some fls_calls.Tick) fls_table.MainFunction requests ordered
event-short calls m (event.App op) requests ordered = replied-short _ _
event-short calls m (event.Inject fault) requests ordered = inject-short m fault (is_some m.board.fault)
event-short calls m event.Heal requests ordered = replied-short _ _
event-short calls m (event.Burn addr word) requests ordered = replied-short _ _
event-short calls m (event.Flip at) requests ordered = replied-short _ _

step-short : RunningCalls → (m : Machine) (line : Line) → AreOrdered line.requests.items → ServesInTime (step m line)
unfolding step
step-short calls m line ordered = event-short calls m line.event line.requests.items ordered

-- ---- some lines

pub served_in_time : RunningCalls → RequestsAreServedInTime
served_in_time calls shape m [] h = λ k d t. absurd (omega (arith, t))
served_in_time calls shape m (line ∷ more) h =
    let first = All-head (IsAccepted shape) line more h in
    All-cons ServesInTime (step m line) (played (step m line).after more).steps (step-short calls m line first.requests.ordered) (served_in_time calls shape (step m line).after more (All-tail (IsAccepted shape) line more h))
