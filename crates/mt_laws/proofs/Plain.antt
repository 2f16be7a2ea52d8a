-- On sound memory a replay is one in which no test touches a word.
use Rattle.std.proofs.Common.{ℕ, zero, suc, ◌≡◌, ◌++◌, ◌≢◌, List, [], ◌∷◌, All, Option, Some, None, refl, sym, ap, ◌∙◌, subst}
use Rattle.std.proofs.lemmas.List.Elements.{All-head, All-tail}
use Rattle.mt_plan.specs.Plan.{IsAccepted}
use Rattle.mt_port.specs.Board.{Board}
use Rattle.mt_port.specs.declared.request.Request.{Request}
use Rattle.mt_fault.specs.declared.fault.Fault.{Fault}
use Rattle.mt_text.specs.declared.line.Event.{Event}
use Rattle.mt_text.specs.declared.line.Event.TheVariants as event
use Rattle.mt_text.specs.declared.line.Line.{Line}
use Rattle.mt_text.specs.declared.line.RamCall.{RamCall}
use Rattle.mt_window.specs.declared.log.Entry.TheVariants.{Own}
use Rattle.mt_window.specs.Serving.{Scene}
use Rattle.mt_window.specs.Slices.{Attempt, Trail}
use Rattle.mt_window.specs.Events.{Outcome as EventOutcome, event as event_of, opened, ran}
use Rattle.mt_port.specs.declared.board.Touch.{Touch}
use Rattle.mt_blocks.specs.declared.config.ParamSet.{ParamSet}
use Rattle.mt_blocks.specs.Accepted.{set_at}
use Rattle.mt_ram.specs.State.{Setting, RamTst}
use Rattle.mt_ram.specs.Table.{Service, MainFunction}
use Rattle.mt_ram.specs.Event.{ticking, full_test}
use Rattle.mt_ram.specs.Laws.{ServicesLeaveSetting, LeavesSetting, PartialTestsLeaveSetting}
use Rattle.mt_ram.specs.Plain.{untouched, HasAcceptedMarches, LeavesNoTrace, PartialTestsLeaveNoTrace}
use Rattle.mt_fls.specs.Table as fls_table
use Rattle.mt_conf.specs.declared.config.Config.{Config}
use Rattle.mt_conf.specs.Accepted.{IsAcceptedConfig}
use Rattle.mt_machine.specs.declared.driven.Running.{Running}
use Rattle.mt_machine.specs.declared.driven.Running.TheVariants as rams
use Rattle.mt_machine.specs.declared.driven.FlsRunning.{FlsRunning}
use Rattle.mt_machine.specs.declared.driven.FlsRunning.TheVariants as fls_calls
use Rattle.mt_machine.specs.Machine.{Machine, Step, with_ram, events_of, begun, running, by_service, running_call, service_of, by_fls_service, fls_running_call, fls_service_of, by_event, step, started, played, played_by, stepped, Play}
use Rattle.mt_laws.specs.Plain.{plain_running, plain_call, plain_event, plain_step, InjectsNothing, TestsLeaveNoTrace}
use Rattle.mt_machine.specs.Laws.{BoardsStay}
use Rattle.mt_laws.proofs.SoundBoards.{settings_left}

-- what is known of the running calls of RamTst, and of both modules' calls
pub record LeaveNoTrace : Type 0 where
  pub calls : (call : Running) → LeavesNoTrace (events_of call)
  pub settings : (call : Running) → LeavesSetting (events_of call)
  pub services : ServicesLeaveSetting
  pub boards : BoardsStay

pub leave_no_trace : LeavesNoTrace ticking → LeavesNoTrace full_test → PartialTestsLeaveNoTrace → LeavesSetting ticking → LeavesSetting full_test → PartialTestsLeaveSetting
    → ServicesLeaveSetting → BoardsStay → LeaveNoTrace
leave_no_trace tick full partial tick_setting full_setting partial_setting services boards = record { calls = traces; settings = settings_left tick_setting full_setting partial_setting; services = services; boards = boards }
  where
    traces : (call : Running) → LeavesNoTrace (events_of call)
    traces rams.Tick = tick
    traces rams.Full = full
    traces (rams.Partial block) = partial block

-- a machine on sound memory, whose RamTst has this setting
pub record IsSound (z : Setting) (m : Machine) : Type 0 where
  pub fault : m.board.fault ≡ None
  pub setting : m.modules.ram.setting ≡ z

-- ---- one line

-- the step of an event, by what it comes to
abbrev step_of : (with : Board → RamTst → Machine) (s : Scene RamTst) → EventOutcome RamTst → List Touch → List Attempt → Step
step_of with s o touches attempts = record {
  after = with (record (o.after.board) { count = 0 }) o.after.callee;
  entries = o.after.log ++ Own o.reply ∷ [];
  touches = touches;
  count = o.after.board.count;
  attempts = attempts;
  requests = s.board.left;
}

running-plain : LeaveNoTrace → (z : Setting) → HasAcceptedMarches z → (m : Machine) (call : Running) (requests : List Request) → IsSound z m
    → running (with_ram m.modules) (events_of call) (begun m.board m.modules.ram requests) ≡ plain_running call m requests
running-plain known z accepted m call requests h =
    let with = with_ram m.modules in
    let s = begun m.board m.modules.ram requests in
    let trace = known.calls call in
    let marches = subst HasAcceptedMarches (sym h.setting) accepted in
    let boundaries = trace.boundaries s h.fault marches in
    let last = ran (events_of call) (opened (events_of call) s) in
    ap (λ (o : EventOutcome RamTst). step_of with s o last.touches last.attempts) (trace.event s h.fault marches)
    ∙ ap (λ (g : Trail RamTst). step_of with s (event_of (untouched (events_of call)) s) g.touches g.attempts) boundaries

call-plain : LeaveNoTrace → (z : Setting) → HasAcceptedMarches z → (m : Machine) (c : RamCall) (call : Option Running) (requests : List Request) → IsSound z m
    → by_service m (service_of c) call requests ≡ plain_call m c call requests
call-plain known z accepted m c None requests h = refl
call-plain known z accepted m c (Some call) requests h = running-plain known z accepted m call requests h

event-plain : LeaveNoTrace → (z : Setting) → HasAcceptedMarches z → (m : Machine) (e : Event) (requests : List Request) → IsSound z m → by_event m e requests ≡ plain_event m e requests
event-plain known z accepted m event.Nothing requests h = refl
event-plain known z accepted m (event.Ram call) requests h = call-plain known z accepted m call (running_call call) requests h
event-plain known z accepted m (event.Fls call) requests h = refl
event-plain known z accepted m event.TickRam requests h = running-plain known z accepted m rams.Tick requests h
event-plain known z accepted m event.TickFls requests h = refl
event-plain known z accepted m (event.App op) requests h = refl
event-plain known z accepted m (event.Inject fault) requests h = refl
event-plain known z accepted m event.Heal requests h = refl
event-plain known z accepted m (event.Burn addr word) requests h = refl
event-plain known z accepted m (event.Flip at) requests h = refl

step-plain : LeaveNoTrace → (z : Setting) → HasAcceptedMarches z → (m : Machine) (line : Line) → IsSound z m → step m line ≡ plain_step m line
unfolding step
step-plain known z accepted m line h = event-plain known z accepted m line.event line.requests.items h

-- ---- what stays

ram-sound : LeaveNoTrace → (z : Setting) (m : Machine) (call : Option Running) (service : Service) (requests : List Request) → IsSound z m → IsSound z (by_service m service call requests).after
ram-sound known z m None service requests h = record { fault = h.fault; setting = known.services m.modules.ram service ∙ h.setting }
ram-sound known z m (Some call) service requests h =
    let s = begun m.board m.modules.ram requests in
    record { fault = (known.boards.ram call s).fault ∙ h.fault; setting = known.settings call s ∙ h.setting }

fls-sound : LeaveNoTrace → (z : Setting) (m : Machine) (call : Option FlsRunning) (service : fls_table.Service) (requests : List Request) → IsSound z m → IsSound z (by_fls_service m service call requests).after
fls-sound known z m None service requests h = record { fault = h.fault; setting = h.setting }
fls-sound known z m (Some call) service requests h = record { fault = (known.boards.fls call (begun m.board m.modules.fls requests)).fault ∙ h.fault; setting = h.setting }

event-sound : LeaveNoTrace → (z : Setting) (m : Machine) (e : Event) (requests : List Request) → ((fault : Fault) → e ≢ event.Inject fault) → IsSound z m → IsSound z (by_event m e requests).after
event-sound known z m event.Nothing requests none h = h
event-sound known z m (event.Ram call) requests none h = ram-sound known z m (running_call call) (service_of call) requests h
event-sound known z m (event.Fls call) requests none h = fls-sound known z m (fls_running_call call) (fls_service_of call) requests h
event-sound known z m event.TickRam requests none h = ram-sound known z m (Some rams.Tick) MainFunction requests h
event-sound known z m event.TickFls requests none h = fls-sound known z m (Some fls_calls.Tick) fls_table.MainFunction requests h
event-sound known z m (event.App op) requests none h = record { fault = h.fault; setting = h.setting }
event-sound known z m (event.Inject fault) requests none h = absurd (none fault refl)
event-sound known z m event.Heal requests none h = record { fault = refl; setting = h.setting }
event-sound known z m (event.Burn addr word) requests none h = record { fault = h.fault; setting = h.setting }
event-sound known z m (event.Flip at) requests none h = record { fault = h.fault; setting = h.setting }

pub step-sound : LeaveNoTrace → (z : Setting) (m : Machine) (line : Line) → InjectsNothing line → IsSound z m → IsSound z (step m line).after
unfolding step
step-sound known z m line none h = event-sound known z m line.event line.requests.items none h

-- ---- a whole script

played-plain : LeaveNoTrace → (z : Setting) → HasAcceptedMarches z → (m : Machine) (lines : List Line) → All InjectsNothing lines → IsSound z m → played m lines ≡ played_by plain_step m lines
played-plain known z accepted m [] none h = refl
played-plain known z accepted m (line ∷ more) none h =
    let rest = played-plain known z accepted (step m line).after more (All-tail InjectsNothing line more none) (step-sound known z m line (All-head InjectsNothing line more none) h) in
    ap (stepped (step m line)) rest ∙ ap (λ (s : Step). stepped s (played_by plain_step s.after more)) (step-plain known z accepted m line h)

-- the sets of an accepted configuration have accepted marches; so has none
pub marches-at : (sets : List ParamSet) (n : ℕ) → All (λ set. IsAccepted set.alg) sets → IsAccepted (set_at sets n).alg
marches-at [] n h = tt
marches-at (set ∷ sets) zero h = All-head (λ s. IsAccepted s.alg) set sets h
marches-at (set ∷ sets) (suc n) h = marches-at sets n (All-tail (λ s. IsAccepted s.alg) set sets h)

-- an accepted configuration's
pub accepted-marches : (c : Config) (defect : Option Fault) → IsAcceptedConfig c → HasAcceptedMarches (started c defect).modules.ram.setting
accepted-marches c defect accepted n = marches-at c.ram_tst.sets n (λ k d h. (accepted.ram_tst.sets k d h).accepted)

pub no_trace : LeaveNoTrace → TestsLeaveNoTrace
no_trace known c defect lines accepted sound none =
    let m = started c defect in
    ap (λ (p : Play). p.steps) (played-plain known m.modules.ram.setting (accepted-marches c defect accepted) m lines none (record { fault = sound; setting = refl }))
