-- Lines of a script leave FlsTst without a failure while each flash word equals its copy.
use Rattle.std.proofs.Common.{ℕ, ◌≡◌, ◌+◌, ◌-◌, ◌≤◌, Bool, true, false, cond, List, [], ◌∷◌, All, Option, Some, None, refl, sym, ◌∙◌, arith}
use Rattle.std.specs.Prelude.{◌^◌, is_some, replicate}
use Rattle.std.proofs.lemmas.List.{get_or-replicate}
use Rattle.std.proofs.lemmas.List.Elements.{All-nil, All-push, All-cons, All-head, All-tail}
use Rattle.mt_fault.specs.declared.fault.Fault.{Fault}
use Rattle.mt_word.specs.Word.{width_bits}
use Rattle.mt_port.specs.Board.{injected, powered_up}
use Rattle.mt_port.specs.declared.board.Shape.{Shape}
use Rattle.mt_port.specs.declared.request.Request.{Request}
use Rattle.mt_seq.specs.Laws.{EqualsCopy, NothingIsFoundWhereAllEqual}
use Rattle.mt_window.specs.declared.log.Entry.{Entry}
use Rattle.mt_window.specs.declared.log.Entry.TheVariants.{Own}
use Rattle.mt_window.specs.declared.reply.Reply.{Reply}
use Rattle.mt_window.specs.declared.reply.Reply.TheVariants as reply
use Rattle.mt_window.specs.Events.{event as event_of}
use Rattle.mt_blocks.specs.declared.config.FlashBlock.{FlashBlock}
use Rattle.mt_blocks.specs.declared.config.FlsConfig.{FlsConfig}
use Rattle.mt_blocks.specs.Accepted.{IsAcceptedFlashBlock, IsAcceptedFls}
use Rattle.mt_ram.specs.Table as ram_table
use Rattle.mt_fls.specs.Table.{Service, row}
use Rattle.mt_text.specs.declared.line.Event.{Event}
use Rattle.mt_text.specs.declared.line.Event.TheVariants as event
use Rattle.mt_text.specs.declared.line.Line.{Line}
use Rattle.mt_conf.specs.declared.config.Config.{Config}
use Rattle.mt_machine.specs.declared.driven.FlsRunning.{FlsRunning}
use Rattle.mt_machine.specs.declared.driven.FlsRunning.TheVariants as fls_calls
use Rattle.mt_machine.specs.declared.driven.Running.{Running}
use Rattle.mt_machine.specs.declared.driven.Running.TheVariants as rams
use Rattle.mt_machine.specs.Machine.{Machine, Step, with_fls, fls_events_of, begun, running, replied, on_board, by_service, running_call, service_of, by_fls_service, fls_running_call, fls_service_of, by_event, step, started, played}
use Rattle.mt_laws.specs.Alarms.{HasNoAlarm, is_alarm, is_of_fls, IsFlsCalm, OfEach, AgreeWithCopies, AgreesWithCopies, FlsRaisesNoFalseAlarm}
use Rattle.mt_laws.proofs.Calm.{IsCalmEvent, cell_next, cell_reply, event_calm}
use Rattle.mt_laws.proofs.FlsCalm.{IsCalm, Equal, InPass, InBlock, cell_calm, tick_calm, foreground_calm}

-- what a step leaves of FlsTst, and shows if it is FlsTst's
record LeavesCalm (config : FlsConfig) (mine : Bool) (s : Step) : Type 0 where
  fls : IsCalm config s.after.modules.fls
  entries : mine ≡ true → HasNoAlarm s.entries

one_reply : (given : Reply) → is_alarm (Own given) ≡ false → HasNoAlarm (Own given ∷ [])
one_reply given h = All-cons (λ (e : Entry). is_alarm e ≡ false) (Own given) [] h (All-nil (λ (e : Entry). is_alarm e ≡ false))

calm_events : NothingIsFoundWhereAllEqual → (config : FlsConfig) → 1 ≤ config.atomic → (call : FlsRunning) (m : Machine) (requests : List Request) → AgreesWithCopies config m.board.flash → IsCalm config m.modules.fls
    → IsCalmEvent (fls_events_of call) (Equal config) (IsCalm config) (begun m.board m.modules.fls requests)
calm_events law config some fls_calls.Tick m requests equal h =
    event_calm (fls_events_of fls_calls.Tick) (Equal config) (IsCalm config) (InPass config) (tick_calm law config some) (begun m.board m.modules.fls requests)
    (record { board = equal; callee = h; log = All-nil (λ (e : Entry). is_alarm e ≡ false) })
calm_events law config some (fls_calls.Foreground block) m requests equal h =
    event_calm (fls_events_of (fls_calls.Foreground block)) (Equal config) (IsCalm config) (InBlock config) (foreground_calm law config block some) (begun m.board m.modules.fls requests)
    (record { board = equal; callee = h; log = All-nil (λ (e : Entry). is_alarm e ≡ false) })

running_leaves : NothingIsFoundWhereAllEqual → (config : FlsConfig) → 1 ≤ config.atomic → (call : FlsRunning) (m : Machine) (requests : List Request) → AgreesWithCopies config m.board.flash → IsCalm config m.modules.fls
    → LeavesCalm config true (running (with_fls m.modules) (fls_events_of call) (begun m.board m.modules.fls requests))
running_leaves law config some call m requests equal h =
    let s = begun m.board m.modules.fls requests in
    let calm = calm_events law config some call m requests equal h in
    record {
      fls = calm.after.callee;
      entries = λ mine. All-push (λ (e : Entry). is_alarm e ≡ false) (event_of (fls_events_of call) s).after.log (Own (event_of (fls_events_of call) s).reply) calm.after.log calm.reply;
    }

fls_leaves : NothingIsFoundWhereAllEqual → (config : FlsConfig) → 1 ≤ config.atomic → (m : Machine) (service : Service) (call : Option FlsRunning) (requests : List Request) → AgreesWithCopies config m.board.flash → IsCalm config m.modules.fls
    → LeavesCalm config true (by_fls_service m service call requests)
fls_leaves law config some m service None requests equal h = record {
  fls = cell_next (IsCalm config) (row m.modules.fls service) m.modules.fls (cell_calm config m.modules.fls service m.modules.fls.state h) h;
  entries = λ mine. one_reply _ (cell_reply (IsCalm config) (row m.modules.fls service) 0 (cell_calm config m.modules.fls service m.modules.fls.state h));
}
fls_leaves law config some m service (Some call) requests equal h = running_leaves law config some call m requests equal h

other : (config : FlsConfig) (s : Step) → IsCalm config s.after.modules.fls → LeavesCalm config false s
other config s h = record { fls = h; entries = λ mine. absurd cc }

ram_leaves : (config : FlsConfig) (m : Machine) (service : ram_table.Service) (call : Option Running) (requests : List Request) → IsCalm config m.modules.fls → LeavesCalm config false (by_service m service call requests)
ram_leaves config m service None requests h = other config _ h
ram_leaves config m service (Some call) requests h = other config _ h

inject_leaves : (config : FlsConfig) (m : Machine) (fault : Fault) (there : Bool) → IsCalm config m.modules.fls → LeavesCalm config false (cond there (replied m reply.Present) (replied (on_board m (injected m.board fault)) reply.Done))
inject_leaves config m fault true h = other config _ h
inject_leaves config m fault false h = other config _ h

event_leaves : NothingIsFoundWhereAllEqual → (config : FlsConfig) → 1 ≤ config.atomic → (m : Machine) (e : Event) (requests : List Request) → AgreesWithCopies config m.board.flash → IsCalm config m.modules.fls → LeavesCalm config (is_of_fls e) (by_event m e requests)
event_leaves law config some m event.Nothing requests equal h = other config _ h
event_leaves law config some m (event.Ram call) requests equal h = ram_leaves config m (service_of call) (running_call call) requests h
event_leaves law config some m (event.Fls call) requests equal h = fls_leaves law config some m (fls_service_of call) (fls_running_call call) requests equal h
event_leaves law config some m event.TickRam requests equal h = ram_leaves config m ram_table.MainFunction (Some rams.Tick) requests h
event_leaves law config some m event.TickFls requests equal h = running_leaves law config some fls_calls.Tick m requests equal h
event_leaves law config some m (event.App op) requests equal h = other config _ h
event_leaves law config some m (event.Inject fault) requests equal h = inject_leaves config m fault (is_some m.board.fault) h
event_leaves law config some m event.Heal requests equal h = other config _ h
event_leaves law config some m (event.Burn addr word) requests equal h = other config _ h
event_leaves law config some m (event.Flip at) requests equal h = other config _ h

step_leaves : NothingIsFoundWhereAllEqual → (config : FlsConfig) → 1 ≤ config.atomic → (m : Machine) (line : Line) → AgreesWithCopies config m.board.flash → IsCalm config m.modules.fls → LeavesCalm config (is_of_fls line.event) (step m line)
unfolding step
step_leaves law config some m line equal h = event_leaves law config some m line.event line.requests.items equal h

abbrev Agrees : FlsConfig → Step → Type 0
Agrees config s = AgreesWithCopies config s.after.board.flash

lines_calm : NothingIsFoundWhereAllEqual → (config : FlsConfig) → 1 ≤ config.atomic → (m : Machine) (lines : List Line) → AgreesWithCopies config m.board.flash → All (Agrees config) (played m lines).steps → IsCalm config m.modules.fls
    → OfEach IsFlsCalm lines (played m lines).steps
lines_calm law config some m [] equal all h = tt
lines_calm law config some m (line ∷ more) equal all h =
    let s = step m line in
    let rest = (played s.after more).steps in
    let one = step_leaves law config some m line equal h in (
      record { interval = one.fls.interval; foreground = one.fls.foreground; detail = one.fls.detail; entries = one.entries },
      lines_calm law config some s.after more (All-head (Agrees config) s rest all) (All-tail (Agrees config) s rest all) one.fls,
    )

-- ---- the start

-- a flash whose words are all the same equals its copies
erased_agrees : (shape : Shape) (word : ℕ) (blocks : List FlashBlock) → All (IsAcceptedFlashBlock shape) blocks → AgreeWithCopies blocks (replicate shape.flash word)
erased_agrees shape word [] all = All-nil (λ (b : FlashBlock). EqualsCopy (replicate shape.flash word) b.span.first b.copy (b.span.last - b.span.first + 1))
erased_agrees shape word (b ∷ blocks) all =
    let block = All-head (IsAcceptedFlashBlock shape) b blocks all in
    All-cons (λ (b : FlashBlock). EqualsCopy (replicate shape.flash word) b.span.first b.copy (b.span.last - b.span.first + 1)) b blocks
    (λ k h. get_or-replicate shape.flash (b.span.first + k) word 0 (omega (arith, h, block.ordered, block.inside))
    ∙ sym (get_or-replicate shape.flash (b.copy + k) word 0 (omega (arith, h, block.ordered, block.copy))))
    (erased_agrees shape word blocks (All-tail (IsAcceptedFlashBlock shape) b blocks all))

start_agrees : (c : Config) (defect : Option Fault) → IsAcceptedFls c.shape c.fls_tst → AgreesWithCopies c.fls_tst (started c defect).board.flash
unfolding powered_up
start_agrees c defect accepted = record {
  bgnd = erased_agrees c.shape (2 ^ width_bits c.shape.width - 1) c.fls_tst.bgnd accepted.bgnd;
  fgnd = erased_agrees c.shape (2 ^ width_bits c.shape.width - 1) c.fls_tst.fgnd accepted.fgnd;
}

pub fls_alarms : NothingIsFoundWhereAllEqual → FlsRaisesNoFalseAlarm
fls_alarms law c defect lines accepted all =
    lines_calm law c.fls_tst accepted.fls_tst.atomic_some (started c defect) lines (start_agrees c defect accepted.fls_tst) all
    (record { same = refl; interval = refl; failed = refl; foreground = refl; detail = refl })
