-- Each line that leaves the fault and the results there leaves the block not OK, and no call of it is told otherwise.
use Rattle.std.proofs.Common.{ℕ, ◌≡◌, ◌≢◌, Bool, true, false, cond, eqb, List, [], ◌∷◌, ◌++◌, length, zip, All, Contains, Option, Some, None, refl, sym, ap, ◌∙◌, subst, arith, inl, inr, append-nil}
use Rattle.std.specs.Prelude.{◌⊎◌, ◌&&◌, is_some, nat_lt, slice_get, slice_set}
use Rattle.std.proofs.lemmas.Bool.{eq-eqb}
use Rattle.std.proofs.lemmas.List.Elements.{All-contains}
use Rattle.mt_fault.specs.declared.fault.Fault.{Fault}
use Rattle.mt_port.specs.declared.board.Shape.{Shape}
use Rattle.mt_port.specs.declared.request.HandlerCall.{HandlerCall}
use Rattle.mt_port.specs.declared.request.HandlerCall.TheVariants as handler
use Rattle.mt_port.specs.declared.request.HandlerOp.{HandlerOp}
use Rattle.mt_port.specs.declared.request.HandlerOp.TheVariants.{Call}
use Rattle.mt_port.specs.declared.request.Request.{Request}
use Rattle.mt_port.specs.Board.{Board, injected, after_op, flipped}
use Rattle.mt_cover.specs.Detection.{HasSoundWords}
use Rattle.mt_window.specs.declared.log.Entry.{Entry}
use Rattle.mt_window.specs.declared.log.Entry.TheVariants.{Own}
use Rattle.mt_window.specs.declared.reply.Refusal.TheVariants.{Range}
use Rattle.mt_window.specs.declared.reply.Reply.{Reply}
use Rattle.mt_window.specs.declared.reply.Reply.TheVariants as reply
use Rattle.mt_window.specs.declared.reply.TestResult.{TestResult}
use Rattle.mt_window.specs.declared.reply.TestResult.TheVariants.{Ok}
use Rattle.mt_window.specs.Serving.{Scene, scene}
use Rattle.mt_window.specs.Events.{event as event_of, opened, ran, returned}
use Rattle.mt_window.specs.Rows.{Goes, Refuses, next_in, reply_in}
use Rattle.mt_blocks.specs.declared.config.ParamSet.{ParamSet}
use Rattle.mt_blocks.specs.Slices.{Piece, start, IsValid}
use Rattle.mt_blocks.specs.Accepted.{spans_of}
use Rattle.mt_blocks.specs.Laws.{BlocksBegin, PassesBegin}
use Rattle.mt_ram.specs.declared.state.State.{State}
use Rattle.mt_ram.specs.declared.state.State.TheVariants.{Uninit, Stopped, Running, Suspended, Full, Partial}
use Rattle.mt_ram.specs.State.{RamTst}
use Rattle.mt_ram.specs.Table.{Service, Init, DeInit, Allow, Stop, Suspend, Resume, SelectAlgParams, ChangeNumberOfTestedCells, GetTestResultPerBlock, GetTestResult, GetAlgParams, GetTestAlgorithm, GetNumberOfTestedCells, GetExecutionStatus, GetVersionInfo, cell, selected, selecting, after, reply_to, ram_table}
use Rattle.mt_ram.specs.Tested.{is_reset, ResultsAreReset}
use Rattle.mt_fls.specs.State.{FlsTst}
use Rattle.mt_fls.specs.Table as fls_table
use Rattle.mt_text.specs.declared.line.Event.{Event}
use Rattle.mt_text.specs.declared.line.Event.TheVariants as event
use Rattle.mt_text.specs.declared.line.RamCall.{RamCall}
use Rattle.mt_text.specs.declared.line.RamCall.TheVariants as call
use Rattle.mt_text.specs.declared.line.Line.{Line}
use Rattle.mt_machine.specs.declared.driven.Running.{Running as RamRunning}
use Rattle.mt_machine.specs.declared.driven.Running.TheVariants as rams
use Rattle.mt_machine.specs.declared.driven.FlsRunning.{FlsRunning}
use Rattle.mt_machine.specs.declared.driven.FlsRunning.TheVariants as fls_calls
use Rattle.mt_machine.specs.Machine.{Machine, Step, replied, on_board, begun, events_of, service_of, called, running_ram, running_fls, fls_events_of, by_ram, by_fls_service, fls_running_call, fls_service_of, by_event, step}
use Rattle.mt_laws.specs.Memory.{handled, inner_replies, own_replies}
use Rattle.mt_laws.specs.Detection.{answered}
use Rattle.mt_laws.specs.Evidence.{LeavesThere, IsNotOk, says_ok}
use Rattle.mt_laws.proofs.Memories.{inner-append}
use Rattle.mt_laws.proofs.Pieces.{start-valid}
use Rattle.mt_laws.proofs.Scenes.{Handlers, HasBoard, IsSpoiled, IsRight, Rows, Stands}
use Rattle.mt_laws.proofs.SceneEvents.{Anything, fresh, event-goes, any-event}
use Rattle.mt_laws.proofs.PassRows.{IsOn}
use Rattle.mt_laws.proofs.PassEvents.{Caught}
use Rattle.mt_laws.proofs.PassTicks.{PassLaws, not_both}
use Rattle.mt_laws.proofs.SoundBoards.{AreSoundIn, handled_sound, cleared-on, fls_enters}
use Rattle.mt_laws.proofs.UnprovenRows.{Unproven, service_unproven, block_reply, is_ok, tells_ok}
use Rattle.mt_laws.proofs.UnprovenTicks.{Hides, unproven_rows, tick_unproven}
use Rattle.mt_laws.proofs.UnprovenTests.{full_unproven, part_unproven}

-- what is known of boards and passes, and of the fault
pub record Watch (shape : Shape) (fault : Fault) (set : ParamSet) (p : Piece) : Type 0 where
  pub laws : PassLaws
  pub blocks : BlocksBegin
  pub passes : PassesBegin
  pub reset : ResultsAreReset
  pub caught : Caught shape fault set p

-- the fault is there, and the block isn't OK
pub record Holds (fault : Fault) (set : ParamSet) (p : Piece) (m : Machine) : Type 0 where
  pub present : m.board.fault ≡ Some fault
  pub results : length m.modules.ram.results ≡ length set.blocks
  pub unproven : Unproven set p.place m.modules.ram

first_place : {shape : Shape} {fault : Fault} {set : ParamSet} {p : Piece} → Watch shape fault set p → IsValid set.atomic (spans_of set.blocks) start
first_place {shape} {fault} {set} {p} k = start-valid set.atomic (spans_of set.blocks) k.caught.accepted.atomic_some (omega (arith, k.caught.stands.valid.block))

-- ---- events

abbrev asked_of : Board → List Request → ℕ → Handlers
asked_of b requests block = record { shape = b.shape; fault = b.fault; all = handled requests; bad = λ call. false; wrong = tells_ok block }

-- what a line leaves, and what its handlers are told
record Leaves (fault : Fault) (set : ParamSet) (p : Piece) (s : Step) : Type 0 where
  holds : Holds fault set p s.after
  told : Contains (answered s) (Call (handler.RamGetTestResultPerBlock p.place.block), says_ok) → ⊥

nothing_told : (requests : List HandlerOp) (pair : HandlerOp × Reply) → Contains (zip requests []) pair → ⊥
nothing_told [] pair h = omega (arith, h.1)
nothing_told (op ∷ more) pair h = omega (arith, h.1)

-- the pairs of an event
told_in : (b : Board) (requests : List Request) (block : ℕ) (log : List Entry) (own : Reply) (done : List HandlerOp) → handled requests ≡ done ++ []
    → IsSpoiled (asked_of b requests block) done log ⊎ All (IsRight (asked_of b requests block)) (zip done (inner_replies log))
    → Contains (zip (handled requests) (inner_replies (log ++ Own own ∷ []))) (Call (handler.RamGetTestResultPerBlock block), says_ok) → ⊥
told_in b requests block log own done rest (inl z) h = absurd (not_both z.bad refl)
told_in b requests block log own done rest (inr all) h =
    let whole : handled requests ≡ done = rest ∙ append-nil done in
    let same : inner_replies (log ++ Own own ∷ []) ≡ inner_replies log = inner-append log (Own own ∷ []) ∙ append-nil (inner_replies log) in
    let there : Contains (zip done (inner_replies log)) (Call (handler.RamGetTestResultPerBlock block), says_ok) =
    subst (λ (l : List Reply). Contains (zip done l) (Call (handler.RamGetTestResultPerBlock block), says_ok)) same
    (subst (λ (d : List HandlerOp). Contains (zip d (inner_replies (log ++ Own own ∷ []))) (Call (handler.RamGetTestResultPerBlock block), says_ok)) whole h) in
    let right : (eqb block block && true) ≡ false = All-contains (IsRight (asked_of b requests block)) (zip done (inner_replies log)) (Call (handler.RamGetTestResultPerBlock block), says_ok) all there in
    not_both (ap (λ (x : Bool). x && true) (eq-eqb block block refl)) right

running_leaves : {fault : Fault} {set : ParamSet} {p : Piece} (m : Machine) (c : RamRunning) (requests : List Request) → Watch m.board.shape fault set p → HasSoundWords m.board → AreSoundIn m.board.shape requests
    → Holds fault set p m → Leaves fault set p (running_ram c m requests)
running_leaves {fault} {set} {p} m c requests k sound ops h =
    let r = m.modules.ram in
    let hs = asked_of m.board requests p.place.block in
    let s : Scene RamTst = begun m.board r requests in
    let board : HasBoard hs s.board = record { shape = refl; fault = refl; sound = record { sized = sound.sized; memory = sound.memory } } in
    let hides : Hides hs fault set p = record { laws = k.laws; caught = k.caught; present = h.present; asks = record { wrong = refl; free = λ call. refl } } in
    let on : IsOn set r.cells r = record { same = h.unproven.same; many = refl; results = h.results } in
    let rows = unproven_rows hides r.cells in
    let start : Stands hs (IsOn set r.cells) (Unproven set p.place) (scene s.board ((events_of c).cleared r) []) =
    fresh hs (IsOn set r.cells) (Unproven set p.place) s.board ((events_of c).cleared r) refl board (handled_sound m.board.shape requests ops) (cleared-on c set r.cells r on) (cleared c) in
    let goes = event-goes k.laws.memory hs (events_of c) (IsOn set r.cells) (Unproven set p.place) (Unproven set p.place) (rows_of c rows) (rows_of c rows) s start (middle hides c (opened (events_of c) s)) in
    record {
      holds = record { present = goes.board.fault ∙ h.present; results = goes.holds.results; unproven = of goes.done goes.callee };
      told = told_in m.board requests p.place.block (event_of (events_of c) s).after.log (event_of (events_of c) s).reply goes.done goes.rest goes.told;
    }
  where
    rows_of : {hs : Handlers} (c : RamRunning) → Rows hs ram_table (IsOn set m.modules.ram.cells) (Unproven set p.place) → Rows hs (events_of c).tests.table (IsOn set m.modules.ram.cells) (Unproven set p.place)
    rows_of rams.Tick rows = rows
    rows_of rams.Full rows = rows
    rows_of (rams.Partial block) rows = rows

    cleared : (c : RamRunning) → Unproven set p.place ((events_of c).cleared m.modules.ram)
    cleared rams.Tick = record { same = h.unproven.same; result = h.unproven.result; place = h.unproven.place }
    cleared rams.Full = record { same = h.unproven.same; result = h.unproven.result; place = h.unproven.place }
    cleared (rams.Partial block) = record { same = h.unproven.same; result = h.unproven.result; place = h.unproven.place }

    middle : {hs : Handlers} → Hides hs fault set p → (c : RamRunning) (o : Scene RamTst) → Stands hs (IsOn set m.modules.ram.cells) (Unproven set p.place) o
        → Stands hs (IsOn set m.modules.ram.cells) (Unproven set p.place) (returned (events_of c) o (ran (events_of c) o).scene)
    middle hides rams.Tick o w = tick_unproven hides m.modules.ram.cells o w
    middle hides rams.Full o w = full_unproven hides k.passes m.modules.ram.cells o w
    middle hides (rams.Partial block) o w = part_unproven hides k.blocks m.modules.ram.cells block o w

    of : (done : List HandlerOp) → IsSpoiled (asked_of m.board requests p.place.block) done (event_of (events_of c) (begun m.board m.modules.ram requests)).after.log ⊎ Unproven set p.place (event_of (events_of c) (begun m.board m.modules.ram requests)).after.callee
        → Unproven set p.place (event_of (events_of c) (begun m.board m.modules.ram requests)).after.callee
    of done (inl z) = absurd (not_both z.bad refl)
    of done (inr u) = u

-- false and false
and_false : (b : Bool) → (b && false) ≡ false
and_false true = refl
and_false false = refl

-- a line in which no handler is served
quiet : {fault : Fault} {set : ParamSet} {p : Piece} (m : Machine) (given : Reply) → Holds fault set p m → Leaves fault set p (replied m given)
quiet {fault} {set} {p} m given h = record { holds = h; told = λ there. nothing_told [] (Call (handler.RamGetTestResultPerBlock p.place.block), says_ok) there }

-- one that leaves the fault on another board
on_another : {fault : Fault} {set : ParamSet} {p : Piece} (m : Machine) (board : Board) (given : Reply) → board.fault ≡ m.board.fault → Holds fault set p m → Leaves fault set p (replied (on_board m board) given)
on_another {fault} {set} {p} m board given same h =
    record { holds = record { present = same ∙ h.present; results = h.results; unproven = h.unproven }; told = λ there. nothing_told [] (Call (handler.RamGetTestResultPerBlock p.place.block), says_ok) there }

-- ---- services

-- an Init or a SelectAlgParams that isn't accepted changes nothing
init_kept : (r : RamTst) (s : State) → r.state ≡ s → (reply_to r Init ≡ reply.Done → ⊥) → after r Init ≡ r
init_kept r Uninit e none = absurd (none (ap (λ (t : State). reply_in (cell r Init t) 0) e))
init_kept r Stopped e none = ap (λ (t : State). next_in (cell r Init t) r) e
init_kept r (Running x) e none = ap (λ (t : State). next_in (cell r Init t) r) e
init_kept r (Suspended x) e none = ap (λ (t : State). next_in (cell r Init t) r) e
init_kept r Full e none = ap (λ (t : State). next_in (cell r Init t) r) e
init_kept r (Partial back) e none = ap (λ (t : State). next_in (cell r Init t) r) e

selecting_kept : (r : RamTst) (set : ℕ) → (reply_in (selecting r set) 0 ≡ reply.Done → ⊥) → next_in (selecting r set) r ≡ r
selecting_kept r set none = of (nat_lt set (length r.setting.config.sets)) none
  where
    of : (b : Bool) → (reply_in {X = Piece} (cond b (Goes (selected r set)) (Refuses Range)) 0 ≡ reply.Done → ⊥) → next_in {X = Piece} (cond b (Goes (selected r set)) (Refuses Range)) r ≡ r
    of true refuses = absurd (refuses refl)
    of false refuses = refl

select_kept : (r : RamTst) (set : ℕ) (s : State) → r.state ≡ s → (reply_to r (SelectAlgParams set) ≡ reply.Done → ⊥) → after r (SelectAlgParams set) ≡ r
select_kept r set Stopped e none =
    ap (λ (t : State). next_in (cell r (SelectAlgParams set) t) r) e ∙ selecting_kept r set (λ f. none (ap (λ (t : State). reply_in (cell r (SelectAlgParams set) t) 0) e ∙ f))
select_kept r set Uninit e none = ap (λ (t : State). next_in (cell r (SelectAlgParams set) t) r) e
select_kept r set (Running x) e none = ap (λ (t : State). next_in (cell r (SelectAlgParams set) t) r) e
select_kept r set (Suspended x) e none = ap (λ (t : State). next_in (cell r (SelectAlgParams set) t) r) e
select_kept r set Full e none = ap (λ (t : State). next_in (cell r (SelectAlgParams set) t) r) e
select_kept r set (Partial back) e none = ap (λ (t : State). next_in (cell r (SelectAlgParams set) t) r) e

-- a service that is answered at once
at_once : {fault : Fault} {set : ParamSet} {p : Piece} (m : Machine) (service : Service) → Watch m.board.shape fault set p → is_reset service ≡ false → Holds fault set p m → Leaves fault set p (called m service)
at_once {fault} {set} {p} m service k kept h = record {
  holds = record { present = h.present; results = ap (λ (l : List TestResult). length l) (k.reset.kept m.modules.ram service kept) ∙ h.results; unproven = service_unproven set p.place (first_place k) m.modules.ram service kept h.unproven };
  told = λ there. nothing_told [] (Call (handler.RamGetTestResultPerBlock p.place.block), says_ok) there;
}

-- one that resets the results, if it isn't accepted
refused : {fault : Fault} {set : ParamSet} {p : Piece} (m : Machine) (service : Service) → after m.modules.ram service ≡ m.modules.ram → Holds fault set p m → Leaves fault set p (called m service)
refused {fault} {set} {p} m service same h = record {
  holds = record {
    present = h.present;
    results = ap (λ (r : RamTst). length r.results) same ∙ h.results;
    unproven = subst (Unproven set p.place) (sym same) h.unproven;
  };
  told = λ there. nothing_told [] (Call (handler.RamGetTestResultPerBlock p.place.block), says_ok) there;
}

by_ram_leaves : {fault : Fault} {set : ParamSet} {p : Piece} (m : Machine) (c : RamCall) (requests : List Request) → Watch m.board.shape fault set p → HasSoundWords m.board → AreSoundIn m.board.shape requests
    → Holds fault set p m → ((own_replies (by_ram m c requests).entries ≡ reply.Done ∷ []) → is_reset (service_of c) ≡ true → ⊥) → Leaves fault set p (by_ram m c requests)
by_ram_leaves m call.RunFullTest requests k sound ops h none = running_leaves m rams.Full requests k sound ops h
by_ram_leaves m (call.RunPartialTest block) requests k sound ops h none = running_leaves m (rams.Partial block) requests k sound ops h
by_ram_leaves m call.Init requests k sound ops h none = refused m Init (init_kept m.modules.ram m.modules.ram.state refl (λ e. none (ap (λ (r : Reply). r ∷ []) e) refl)) h
by_ram_leaves m (call.SelectAlgParams n) requests k sound ops h none =
    refused m (SelectAlgParams n) (select_kept m.modules.ram n m.modules.ram.state refl (λ e. none (ap (λ (r : Reply). r ∷ []) e) refl)) h
by_ram_leaves m call.DeInit requests k sound ops h none = at_once m DeInit k refl h
by_ram_leaves m call.Stop requests k sound ops h none = at_once m Stop k refl h
by_ram_leaves m call.Allow requests k sound ops h none = at_once m Allow k refl h
by_ram_leaves m call.Suspend requests k sound ops h none = at_once m Suspend k refl h
by_ram_leaves m call.Resume requests k sound ops h none = at_once m Resume k refl h
by_ram_leaves m call.GetExecutionStatus requests k sound ops h none = at_once m GetExecutionStatus k refl h
by_ram_leaves m call.GetTestResult requests k sound ops h none = at_once m GetTestResult k refl h
by_ram_leaves m (call.GetTestResultPerBlock block) requests k sound ops h none = at_once m (GetTestResultPerBlock block) k refl h
by_ram_leaves m call.GetAlgParams requests k sound ops h none = at_once m GetAlgParams k refl h
by_ram_leaves m call.GetTestAlgorithm requests k sound ops h none = at_once m GetTestAlgorithm k refl h
by_ram_leaves m call.GetNumberOfTestedCells requests k sound ops h none = at_once m GetNumberOfTestedCells k refl h
by_ram_leaves m (call.ChangeNumberOfTestedCells n) requests k sound ops h none = at_once m (ChangeNumberOfTestedCells n) k refl h
by_ram_leaves m call.GetVersionInfo requests k sound ops h none = at_once m GetVersionInfo k refl h

-- ---- FlsTst

-- FlsTst answers no call of RamTst with a result of a block
fls_right : (c : FlsRunning) (block : ℕ) (f : FlsTst) (call : HandlerCall) → tells_ok block call ((fls_events_of c).tests.table.reply f call) ≡ false
unfolding fls_table.fls_table
fls_right fls_calls.Tick block f (handler.RamGetTestResultPerBlock asked) = and_false (eqb asked block)
fls_right (fls_calls.Foreground n) block f (handler.RamGetTestResultPerBlock asked) = and_false (eqb asked block)
fls_right c block f handler.RamAllow = refl
fls_right c block f handler.RamStop = refl
fls_right c block f handler.RamSuspend = refl
fls_right c block f handler.RamResume = refl
fls_right c block f handler.RamGetExecutionStatus = refl
fls_right c block f handler.RamGetTestResult = refl
fls_right c block f handler.FlsSuspend = refl
fls_right c block f handler.FlsResume = refl
fls_right c block f handler.FlsAbort = refl
fls_right c block f handler.FlsGetCurrentState = refl
fls_right c block f handler.FlsGetTestResultBgnd = refl
fls_right c block f handler.FlsGetTestResultFgnd = refl

fls_leaves : {fault : Fault} {set : ParamSet} {p : Piece} (m : Machine) (c : FlsRunning) (requests : List Request) → Watch m.board.shape fault set p → HasSoundWords m.board → AreSoundIn m.board.shape requests
    → Holds fault set p m → Leaves fault set p (running_fls c m requests)
fls_leaves {fault} {set} {p} m c requests k sound ops h =
    let s : Scene FlsTst = begun m.board m.modules.fls requests in
    let hs = asked_of m.board requests p.place.block in
    let board : HasBoard hs s.board = record { shape = refl; fault = refl; sound = record { sized = sound.sized; memory = sound.memory } } in
    let start : Stands hs (λ (f : FlsTst). Unit {0}) Anything (scene s.board ((fls_events_of c).cleared m.modules.fls) []) =
    fresh hs (λ (f : FlsTst). Unit {0}) Anything s.board ((fls_events_of c).cleared m.modules.fls) refl board (handled_sound m.board.shape requests ops) tt tt in
    let goes = any-event k.laws.memory hs (fls_events_of c) (λ (f : FlsTst). Unit {0}) (λ (x : Piece). Unit {0}) (fls_enters c hs (λ f call. fls_right c p.place.block f call)) s start in
    record {
      holds = record { present = goes.board.fault ∙ h.present; results = h.results; unproven = h.unproven };
      told = told_in m.board requests p.place.block (event_of (fls_events_of c) s).after.log (event_of (fls_events_of c) s).reply goes.done goes.rest goes.told;
    }

by_fls_leaves : {fault : Fault} {set : ParamSet} {p : Piece} (m : Machine) (service : fls_table.Service) (c : Option FlsRunning) (requests : List Request) → Watch m.board.shape fault set p → HasSoundWords m.board
    → AreSoundIn m.board.shape requests → Holds fault set p m → Leaves fault set p (by_fls_service m service c requests)
by_fls_leaves m service None requests k sound ops h =
    record { holds = record { present = h.present; results = h.results; unproven = h.unproven }; told = λ there. nothing_told [] (Call (handler.RamGetTestResultPerBlock _), says_ok) there }
by_fls_leaves m service (Some c) requests k sound ops h = fls_leaves m c requests k sound ops h

-- ---- lines

-- no fault comes where one is
inject_leaves : {fault : Fault} {set : ParamSet} {p : Piece} (m : Machine) (other : Fault) → Holds fault set p m
    → Leaves fault set p (cond (is_some m.board.fault) (replied m reply.Present) (replied (on_board m (injected m.board other)) reply.Done))
inject_leaves {fault} {set} {p} m other h =
    subst (λ (f : Option Fault). Leaves fault set p (cond (is_some f) (replied m reply.Present) (replied (on_board m (injected m.board other)) reply.Done))) (sym h.present) (quiet m reply.Present h)

event_leaves : {fault : Fault} {set : ParamSet} {p : Piece} (m : Machine) (e : Event) (requests : List Request) → Watch m.board.shape fault set p → HasSoundWords m.board → AreSoundIn m.board.shape requests → Holds fault set p m
    → e ≢ event.Heal → ((c : RamCall) → e ≡ event.Ram c → own_replies (by_event m e requests).entries ≡ reply.Done ∷ [] → is_reset (service_of c) ≡ true → ⊥) → Leaves fault set p (by_event m e requests)
event_leaves m event.Nothing requests k sound ops h kept none = record { holds = h; told = λ there. nothing_told [] (Call (handler.RamGetTestResultPerBlock _), says_ok) there }
event_leaves m (event.Ram c) requests k sound ops h kept none = by_ram_leaves m c requests k sound ops h (λ done. none c refl done)
event_leaves m (event.Fls c) requests k sound ops h kept none = by_fls_leaves m (fls_service_of c) (fls_running_call c) requests k sound ops h
event_leaves m event.TickRam requests k sound ops h kept none = running_leaves m rams.Tick requests k sound ops h
event_leaves m event.TickFls requests k sound ops h kept none = fls_leaves m fls_calls.Tick requests k sound ops h
event_leaves m (event.App op) requests k sound ops h kept none = on_another m (after_op m.board op) _ refl h
event_leaves m (event.Inject other) requests k sound ops h kept none = inject_leaves m other h
event_leaves m event.Heal requests k sound ops h kept none = absurd (kept refl)
event_leaves m (event.Burn addr word) requests k sound ops h kept none = on_another m (record (m.board) { flash = slice_set m.board.flash addr word }) reply.Done refl h
event_leaves m (event.Flip at) requests k sound ops h kept none = on_another m (record (m.board) { flash = flipped m.board.flash at }) reply.Done refl h

-- the line's own call
own_reply : (m : Machine) (e : Event) (requests : List Request) (block : ℕ) → slice_get m.modules.ram.results block ≢ Some Ok → e ≡ event.Ram (call.GetTestResultPerBlock block)
    → own_replies (by_event m e requests).entries ≡ says_ok ∷ [] → ⊥
own_reply m e requests block n is says =
    let here : own_replies (by_event m (event.Ram (call.GetTestResultPerBlock block)) requests).entries ≡ says_ok ∷ [] =
    subst (λ (x : Event). own_replies (by_event m x requests).entries ≡ says_ok ∷ []) is says in
    let same : reply_to m.modules.ram (GetTestResultPerBlock block) ≡ says_ok = cc in
    not_both refl (ap is_ok (sym same) ∙ block_reply m.modules.ram block n)

pub step_leaves : {fault : Fault} {set : ParamSet} {p : Piece} (m : Machine) (line : Line) → Watch m.board.shape fault set p → HasSoundWords m.board → AreSoundIn m.board.shape line.requests.items → Holds fault set p m
    → LeavesThere line (step m line) → Holds fault set p (step m line).after × IsNotOk p.place.block line (step m line)
unfolding step
step_leaves {fault} {set} {p} m line k sound ops h there =
    let l = event_leaves m line.event line.requests.items k sound ops h there.fault none in (
      l.holds,
      record { result = l.holds.unproven.result; own = λ is says. own_reply m line.event line.requests.items p.place.block h.unproven.result is says; handlers = l.told },
    )
  where
    none : (c : RamCall) → line.event ≡ event.Ram c → own_replies (step m line).entries ≡ reply.Done ∷ [] → is_reset (service_of c) ≡ true → ⊥
    none call.Init e done is = there.init (e, done)
    none (call.SelectAlgParams n) e done is = there.select n (e, done)
    none call.DeInit e done is = cc
    none call.Stop e done is = cc
    none call.Allow e done is = cc
    none call.Suspend e done is = cc
    none call.Resume e done is = cc
    none call.GetExecutionStatus e done is = cc
    none call.GetTestResult e done is = cc
    none (call.GetTestResultPerBlock block) e done is = cc
    none call.GetAlgParams e done is = cc
    none call.GetTestAlgorithm e done is = cc
    none call.GetNumberOfTestedCells e done is = cc
    none (call.ChangeNumberOfTestedCells n) e done is = cc
    none call.RunFullTest e done is = cc
    none (call.RunPartialTest block) e done is = cc
    none call.GetVersionInfo e done is = cc
