-- Each line that leaves a pass undisturbed leaves it going on.
use Rattle.std.proofs.Common.{ℕ, ◌≡◌, ◌≢◌, ◌≤◌, ◌+◌, Bool, true, false, cond, List, [], ◌∷◌, length, Option, Some, None, refl, sym, ap, ◌∙◌, subst, arith, inl, inr}
use Rattle.std.specs.Prelude.{◌⊎◌, is_some, nat_lt}
use Rattle.mt_fault.specs.declared.fault.Fault.{Fault}
use Rattle.mt_port.specs.declared.request.HandlerCall.TheVariants as handler
use Rattle.mt_port.specs.declared.request.Request.{Request}
use Rattle.mt_port.specs.Board.{injected}
use Rattle.mt_cover.specs.Detection.{HasSoundWords}
use Rattle.mt_window.specs.declared.reply.Refusal.TheVariants.{Range}
use Rattle.mt_window.specs.declared.reply.Reply.TheVariants as reply
use Rattle.mt_window.specs.Rows.{Refuses, Runs, next_in, reply_in}
use Rattle.mt_blocks.specs.declared.config.ParamSet.{ParamSet}
use Rattle.mt_blocks.specs.declared.pass.Position.{Position}
use Rattle.mt_blocks.specs.Slices.{Piece, pieces, span_at}
use Rattle.mt_ram.specs.declared.state.State.{State}
use Rattle.mt_ram.specs.declared.state.State.TheVariants.{Running, Suspended, Partial}
use Rattle.mt_ram.specs.State.{RamTst, set_of, spans_in}
use Rattle.mt_ram.specs.Table.{cell, testing, in_state, suspended, resumed, after, reply_to}
use Rattle.mt_fls.specs.Table as fls_table
use Rattle.mt_text.specs.declared.line.Event.{Event}
use Rattle.mt_text.specs.declared.line.Event.TheVariants as event
use Rattle.mt_text.specs.declared.line.RamCall.{RamCall}
use Rattle.mt_text.specs.declared.line.RamCall.TheVariants as call
use Rattle.mt_text.specs.declared.line.Line.{Line}
use Rattle.mt_machine.specs.declared.driven.FlsRunning.{FlsRunning}
use Rattle.mt_machine.specs.declared.driven.FlsRunning.TheVariants as fls_calls
use Rattle.mt_machine.specs.Machine.{Machine, Step, replied, on_board, service_of, called, by_ram, running_fls, by_fls_service, fls_running_call, fls_service_of, by_event, step}
use Rattle.mt_laws.specs.Memory.{own_replies}
use Rattle.mt_laws.specs.Detection.{AcceptsInHandler, IsUndisturbing, counts}
use Rattle.mt_laws.proofs.PassRows.{IsOn, InSomePass, telling-still}
use Rattle.mt_laws.proofs.PassTicks.{PassLaws}
use Rattle.mt_laws.proofs.SoundBoards.{AreSoundIn, fls-board}
use Rattle.mt_laws.proofs.PassLines.{Hunts, Hunt, longer_pass, part_event, full_event, tick_event}

-- ---- services

-- what a service comes to in a pass that stands at a position
data Called (r : RamTst) (x : Position) (c : RamCall) : Type 0 where
  Leaves : after r (service_of c) ≡ r → Called r x c
  Waits : after r (service_of c) ≡ suspended r x → Called r x c
  Goes : after r (service_of c) ≡ resumed r x → Called r x c
  Ends : (c ≡ call.Stop) ⊎ (c ≡ call.DeInit) → reply_to r (service_of c) ≡ reply.Done → Called r x c

-- the module behind a service, and the reply, where it is in a state
behind : (r : RamTst) (c : RamCall) (s : State) (z : RamTst) → r.state ≡ s → next_in (cell r (service_of c) s) r ≡ z → after r (service_of c) ≡ z
behind r c s z e same = ap (λ (t : State). next_in (cell r (service_of c) t) r) e ∙ same

answer : (r : RamTst) (c : RamCall) (s : State) → r.state ≡ s → reply_in (cell r (service_of c) s) 0 ≡ reply.Done → reply_to r (service_of c) ≡ reply.Done
answer r c s e done = ap (λ (t : State). reply_in (cell r (service_of c) t) 0) e ∙ done

testing-still : (r : RamTst) (block : ℕ) (inside back : State) → next_in (testing r block inside back) r ≡ r
testing-still r block inside back = of (nat_lt block (length (set_of r).blocks))
  where
    of : (b : Bool) → next_in (cond b (Runs (pieces (set_of r).atomic block (span_at (spans_in r) block)) (in_state inside) (in_state back)) (Refuses Range)) r ≡ r
    of true = refl
    of false = refl

called_running : (r : RamTst) (x : Position) (c : RamCall) → r.state ≡ Running x → Called r x c
called_running r x call.Init e = Leaves (behind r call.Init (Running x) r e refl)
called_running r x call.DeInit e = Ends (inr refl) (answer r call.DeInit (Running x) e refl)
called_running r x call.Stop e = Ends (inl refl) (answer r call.Stop (Running x) e refl)
called_running r x call.Allow e = Leaves (behind r call.Allow (Running x) r e refl)
called_running r x call.Suspend e = Waits (behind r call.Suspend (Running x) (suspended r x) e refl)
called_running r x call.Resume e = Leaves (behind r call.Resume (Running x) r e refl)
called_running r x call.GetExecutionStatus e = Leaves (behind r call.GetExecutionStatus (Running x) r e refl)
called_running r x call.GetTestResult e = Leaves (behind r call.GetTestResult (Running x) r e refl)
called_running r x (call.GetTestResultPerBlock block) e = Leaves (behind r (call.GetTestResultPerBlock block) (Running x) r e (telling-still r block))
called_running r x call.GetAlgParams e = Leaves (behind r call.GetAlgParams (Running x) r e refl)
called_running r x call.GetTestAlgorithm e = Leaves (behind r call.GetTestAlgorithm (Running x) r e refl)
called_running r x call.GetNumberOfTestedCells e = Leaves (behind r call.GetNumberOfTestedCells (Running x) r e refl)
called_running r x (call.SelectAlgParams set) e = Leaves (behind r (call.SelectAlgParams set) (Running x) r e refl)
called_running r x (call.ChangeNumberOfTestedCells cells) e = Leaves (behind r (call.ChangeNumberOfTestedCells cells) (Running x) r e refl)
called_running r x call.RunFullTest e = Leaves (behind r call.RunFullTest (Running x) r e refl)
called_running r x (call.RunPartialTest block) e = Leaves (behind r (call.RunPartialTest block) (Running x) r e refl)
called_running r x call.GetVersionInfo e = Leaves (behind r call.GetVersionInfo (Running x) r e refl)

called_suspended : (r : RamTst) (x : Position) (c : RamCall) → r.state ≡ Suspended x → Called r x c
called_suspended r x call.Init e = Leaves (behind r call.Init (Suspended x) r e refl)
called_suspended r x call.DeInit e = Ends (inr refl) (answer r call.DeInit (Suspended x) e refl)
called_suspended r x call.Stop e = Ends (inl refl) (answer r call.Stop (Suspended x) e refl)
called_suspended r x call.Allow e = Leaves (behind r call.Allow (Suspended x) r e refl)
called_suspended r x call.Suspend e = Leaves (behind r call.Suspend (Suspended x) r e refl)
called_suspended r x call.Resume e = Goes (behind r call.Resume (Suspended x) (resumed r x) e refl)
called_suspended r x call.GetExecutionStatus e = Leaves (behind r call.GetExecutionStatus (Suspended x) r e refl)
called_suspended r x call.GetTestResult e = Leaves (behind r call.GetTestResult (Suspended x) r e refl)
called_suspended r x (call.GetTestResultPerBlock block) e = Leaves (behind r (call.GetTestResultPerBlock block) (Suspended x) r e (telling-still r block))
called_suspended r x call.GetAlgParams e = Leaves (behind r call.GetAlgParams (Suspended x) r e refl)
called_suspended r x call.GetTestAlgorithm e = Leaves (behind r call.GetTestAlgorithm (Suspended x) r e refl)
called_suspended r x call.GetNumberOfTestedCells e = Leaves (behind r call.GetNumberOfTestedCells (Suspended x) r e refl)
called_suspended r x (call.SelectAlgParams set) e = Leaves (behind r (call.SelectAlgParams set) (Suspended x) r e refl)
called_suspended r x (call.ChangeNumberOfTestedCells cells) e = Leaves (behind r (call.ChangeNumberOfTestedCells cells) (Suspended x) r e refl)
called_suspended r x call.RunFullTest e = Leaves (behind r call.RunFullTest (Suspended x) r e refl)
called_suspended r x (call.RunPartialTest block) e = Leaves (behind r (call.RunPartialTest block) (Suspended x) r e (testing-still r block (Partial (Some x)) (Suspended x)))
called_suspended r x call.GetVersionInfo e = Leaves (behind r call.GetVersionInfo (Suspended x) r e refl)

called_in : (r : RamTst) (x : Position) (c : RamCall) → (r.state ≡ Running x) ⊎ (r.state ≡ Suspended x) → Called r x c
called_in r x c (inl e) = called_running r x c e
called_in r x c (inr e) = called_suspended r x c e

-- ---- lines

-- what an event that disturbs no pass doesn't accept
record IsQuiet (e : Event) (s : Step) : Type 0 where
  kept : e ≢ event.Heal
  own : (c : RamCall) → e ≡ event.Ram c → (c ≡ call.Stop) ⊎ (c ≡ call.DeInit) → own_replies s.entries ≡ reply.Done ∷ [] → ⊥
  stop : AcceptsInHandler s handler.RamStop → ⊥
  suspend : e ≡ event.TickRam → AcceptsInHandler s handler.RamSuspend → ⊥

quiet : (line : Line) (s : Step) → IsUndisturbing line s → IsQuiet line.event s
quiet line s u = record { kept = u.kept; own = own; stop = u.stop_in_handler; suspend = u.suspend_in_tick }
  where
    own : (c : RamCall) → line.event ≡ event.Ram c → (c ≡ call.Stop) ⊎ (c ≡ call.DeInit) → own_replies s.entries ≡ reply.Done ∷ [] → ⊥
    own c e (inl is) done = u.stop (e ∙ ap (λ (x : RamCall). event.Ram x) is, done)
    own c e (inr is) done = u.de_init (e ∙ ap (λ (x : RamCall). event.Ram x) is, done)

-- the machine with another module of the same pass
called_pass : (fault : Fault) (set : ParamSet) (cells left : ℕ) (p : Piece) (m : Machine) (c : RamCall) → Hunts fault set p cells left m
    → ((c ≡ call.Stop) ⊎ (c ≡ call.DeInit) → reply_to m.modules.ram (service_of c) ≡ reply.Done → ⊥) → Hunts fault set p cells left (called m (service_of c)).after
called_pass fault set cells left p m c h none = of (called_in m.modules.ram h.pass.at c h.pass.pass.state)
  where
    with_module : (r : RamTst) → after m.modules.ram (service_of c) ≡ r → IsOn set cells r → InSomePass set p cells left r → Hunts fault set p cells left (called m (service_of c)).after
    with_module r e on i = record { present = h.present; on = subst (IsOn set cells) (sym e) on; pass = subst (InSomePass set p cells left) (sym e) i }

    of : Called m.modules.ram h.pass.at c → Hunts fault set p cells left (called m (service_of c)).after
    of (Leaves e) = with_module m.modules.ram e h.on h.pass
    of (Waits e) =
        with_module (suspended m.modules.ram h.pass.at) e (record { same = h.on.same; many = h.on.many; results = h.on.results })
        (record { at = h.pass.at; pass = record { valid = h.pass.pass.valid; state = inr refl; phase = h.pass.pass.phase } })
    of (Goes e) =
        with_module (resumed m.modules.ram h.pass.at) e (record { same = h.on.same; many = h.on.many; results = h.on.results })
        (record { at = h.pass.at; pass = record { valid = h.pass.pass.valid; state = inl refl; phase = h.pass.pass.phase } })
    of (Ends is done) = absurd (none is done)

longer_hunt : (fault : Fault) (set : ParamSet) (cells left less : ℕ) (p : Piece) (m : Machine) → left ≤ less → Hunts fault set p cells left m → Hunts fault set p cells less m
longer_hunt fault set cells left less p m more h = record { present = h.present; on = h.on; pass = longer_pass set p cells left less m.modules.ram more h.pass }

-- a service that is answered at once
at_once : (fault : Fault) (set : ParamSet) (cells left : ℕ) (p : Piece) (m : Machine) (c : RamCall) → Hunts fault set p cells left m → IsQuiet (event.Ram c) (called m (service_of c))
    → Hunts fault set p cells left (called m (service_of c)).after
at_once fault set cells left p m c h q = called_pass fault set cells left p m c h (λ is done. q.own c refl is (ap (λ (r : _). r ∷ []) done))

ram_pass : (fault : Fault) (set : ParamSet) (cells left : ℕ) (p : Piece) (m : Machine) (c : RamCall) (requests : List Request) → Hunt m.board.shape fault set p cells → HasSoundWords m.board → AreSoundIn m.board.shape requests
    → Hunts fault set p cells left m → IsQuiet (event.Ram c) (by_ram m c requests) → Hunts fault set p cells left (by_ram m c requests).after
ram_pass fault set cells left p m call.RunFullTest requests k sound ops h q =
    full_event fault set cells left p m requests k (record { shape = refl; fault = refl; sound = sound }) ops h q.stop
ram_pass fault set cells left p m (call.RunPartialTest block) requests k sound ops h q =
    part_event fault set cells left p m block requests k (record { shape = refl; fault = refl; sound = sound }) ops h q.stop
ram_pass fault set cells left p m call.Init requests k sound ops h q = at_once fault set cells left p m call.Init h q
ram_pass fault set cells left p m call.DeInit requests k sound ops h q = at_once fault set cells left p m call.DeInit h q
ram_pass fault set cells left p m call.Stop requests k sound ops h q = at_once fault set cells left p m call.Stop h q
ram_pass fault set cells left p m call.Allow requests k sound ops h q = at_once fault set cells left p m call.Allow h q
ram_pass fault set cells left p m call.Suspend requests k sound ops h q = at_once fault set cells left p m call.Suspend h q
ram_pass fault set cells left p m call.Resume requests k sound ops h q = at_once fault set cells left p m call.Resume h q
ram_pass fault set cells left p m call.GetExecutionStatus requests k sound ops h q = at_once fault set cells left p m call.GetExecutionStatus h q
ram_pass fault set cells left p m call.GetTestResult requests k sound ops h q = at_once fault set cells left p m call.GetTestResult h q
ram_pass fault set cells left p m (call.GetTestResultPerBlock block) requests k sound ops h q = at_once fault set cells left p m (call.GetTestResultPerBlock block) h q
ram_pass fault set cells left p m call.GetAlgParams requests k sound ops h q = at_once fault set cells left p m call.GetAlgParams h q
ram_pass fault set cells left p m call.GetTestAlgorithm requests k sound ops h q = at_once fault set cells left p m call.GetTestAlgorithm h q
ram_pass fault set cells left p m call.GetNumberOfTestedCells requests k sound ops h q = at_once fault set cells left p m call.GetNumberOfTestedCells h q
ram_pass fault set cells left p m (call.SelectAlgParams n) requests k sound ops h q = at_once fault set cells left p m (call.SelectAlgParams n) h q
ram_pass fault set cells left p m (call.ChangeNumberOfTestedCells n) requests k sound ops h q = at_once fault set cells left p m (call.ChangeNumberOfTestedCells n) h q
ram_pass fault set cells left p m call.GetVersionInfo requests k sound ops h q = at_once fault set cells left p m call.GetVersionInfo h q

-- FlsTst leaves RamTst and the fault
fls_pass : PassLaws → (fault : Fault) (set : ParamSet) (cells left : ℕ) (p : Piece) (m : Machine) (c : FlsRunning) (requests : List Request) → HasSoundWords m.board → AreSoundIn m.board.shape requests
    → Hunts fault set p cells left m → Hunts fault set p cells left (running_fls c m requests).after
fls_pass laws fault set cells left p m c requests sound ops h = record { present = (fls-board laws m c requests ops sound).fault ∙ h.present; on = h.on; pass = h.pass }

by_fls_pass : PassLaws → (fault : Fault) (set : ParamSet) (cells left : ℕ) (p : Piece) (m : Machine) (service : fls_table.Service) (c : Option FlsRunning) (requests : List Request) → HasSoundWords m.board
    → AreSoundIn m.board.shape requests → Hunts fault set p cells left m → Hunts fault set p cells left (by_fls_service m service c requests).after
by_fls_pass laws fault set cells left p m service None requests sound ops h = record { present = h.present; on = h.on; pass = h.pass }
by_fls_pass laws fault set cells left p m service (Some c) requests sound ops h = fls_pass laws fault set cells left p m c requests sound ops h

-- no fault comes where one is
inject_pass : (fault other : Fault) (set : ParamSet) (cells left : ℕ) (p : Piece) (m : Machine) → Hunts fault set p cells left m
    → Hunts fault set p cells left ((cond (is_some m.board.fault) (replied m reply.Present) (replied (on_board m (injected m.board other)) reply.Done)).after)
inject_pass fault other set cells left p m h =
    subst (λ (f : Option Fault). Hunts fault set p cells left ((cond (is_some f) (replied m reply.Present) (replied (on_board m (injected m.board other)) reply.Done)).after)) (sym h.present) h

event_pass : (fault : Fault) (set : ParamSet) (cells left less : ℕ) (p : Piece) (m : Machine) (e : Event) (requests : List Request) → Hunt m.board.shape fault set p cells → HasSoundWords m.board
    → AreSoundIn m.board.shape requests → Hunts fault set p cells left m → IsQuiet e (by_event m e requests) → left ≤ counts e (own_replies (by_event m e requests).entries) + less
    → Hunts fault set p cells less (by_event m e requests).after
event_pass fault set cells left less p m event.Nothing requests k sound ops h q most = longer_hunt fault set cells left less p m (omega (arith, most)) h
event_pass fault set cells left less p m (event.Ram c) requests k sound ops h q most =
    longer_hunt fault set cells left less p (by_ram m c requests).after (omega (arith, most)) (ram_pass fault set cells left p m c requests k sound ops h q)
event_pass fault set cells left less p m (event.Fls c) requests k sound ops h q most =
    longer_hunt fault set cells left less p (by_fls_service m (fls_service_of c) (fls_running_call c) requests).after (omega (arith, most))
    (by_fls_pass k.laws fault set cells left p m (fls_service_of c) (fls_running_call c) requests sound ops h)
event_pass fault set cells left less p m event.TickRam requests k sound ops h q most =
    tick_event fault set cells left less p m requests k (record { shape = refl; fault = refl; sound = sound }) ops h most q.stop (q.suspend refl)
event_pass fault set cells left less p m event.TickFls requests k sound ops h q most =
    longer_hunt fault set cells left less p (running_fls fls_calls.Tick m requests).after (omega (arith, most)) (fls_pass k.laws fault set cells left p m fls_calls.Tick requests sound ops h)
event_pass fault set cells left less p m (event.App op) requests k sound ops h q most =
    record { present = h.present; on = h.on; pass = longer_pass set p cells left less m.modules.ram (omega (arith, most)) h.pass }
event_pass fault set cells left less p m (event.Inject other) requests k sound ops h q most =
    longer_hunt fault set cells left less p (by_event m (event.Inject other) requests).after (omega (arith, most)) (inject_pass fault other set cells left p m h)
event_pass fault set cells left less p m event.Heal requests k sound ops h q most = absurd (q.kept refl)
event_pass fault set cells left less p m (event.Burn addr word) requests k sound ops h q most =
    record { present = h.present; on = h.on; pass = longer_pass set p cells left less m.modules.ram (omega (arith, most)) h.pass }
event_pass fault set cells left less p m (event.Flip at) requests k sound ops h q most =
    record { present = h.present; on = h.on; pass = longer_pass set p cells left less m.modules.ram (omega (arith, most)) h.pass }

pub step_pass : (fault : Fault) (set : ParamSet) (cells left less : ℕ) (p : Piece) (m : Machine) (line : Line) → Hunt m.board.shape fault set p cells → HasSoundWords m.board
    → AreSoundIn m.board.shape line.requests.items → Hunts fault set p cells left m → IsUndisturbing line (step m line) → left ≤ counts line.event (own_replies (step m line).entries) + less
    → Hunts fault set p cells less (step m line).after
unfolding step
step_pass fault set cells left less p m line k sound ops h u most =
    event_pass fault set cells left less p m line.event line.requests.items k sound ops h (quiet line (step m line) u) most
