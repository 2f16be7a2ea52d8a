-- Lines that leave a pass over a caught fault undisturbed.
use Rattle.std.proofs.Common.{ℕ, ◌≡◌, ◌≤◌, ◌+◌, Bool, true, false, cond, List, [], ◌∷◌, ◌++◌, zip, Contains, Some, refl, sym, ap, ◌∙◌, subst, arith, inl, inr, append-nil}
use Rattle.std.specs.Prelude.{◌⊎◌, nat_lt}
use Rattle.mt_fault.specs.declared.fault.Fault.{Fault}
use Rattle.mt_port.specs.declared.board.Shape.{Shape}
use Rattle.mt_port.specs.declared.request.HandlerCall.{HandlerCall}
use Rattle.mt_port.specs.declared.request.HandlerCall.TheVariants as handler
use Rattle.mt_port.specs.declared.request.HandlerOp.{HandlerOp}
use Rattle.mt_port.specs.declared.request.HandlerOp.TheVariants.{Call}
use Rattle.mt_port.specs.declared.request.Request.{Request}
use Rattle.mt_port.specs.Board.{Board}
use Rattle.mt_window.specs.declared.log.Entry.{Entry}
use Rattle.mt_window.specs.declared.log.Entry.TheVariants.{Own, Inner, Served}
use Rattle.mt_window.specs.declared.reply.Reply.{Reply}
use Rattle.mt_window.specs.declared.reply.Reply.TheVariants as reply
use Rattle.mt_window.specs.Serving.{Scene, scene}
use Rattle.mt_window.specs.Events.{event as event_of, opened, ran}
use Rattle.mt_window.specs.Rows.{reply_in}
use Rattle.mt_blocks.specs.declared.config.ParamSet.{ParamSet}
use Rattle.mt_blocks.specs.declared.pass.Position.{Position}
use Rattle.mt_blocks.specs.Slices.{Piece}
use Rattle.mt_blocks.specs.Laws.{BlocksBegin}
use Rattle.mt_ram.specs.declared.state.State.{State}
use Rattle.mt_ram.specs.declared.state.State.TheVariants.{Suspended}
use Rattle.mt_ram.specs.State.{RamTst}
use Rattle.mt_ram.specs.Table.{MainFunction, cell, ram_table}
use Rattle.mt_ram.specs.Event.{ticking}
use Rattle.mt_machine.specs.declared.driven.Running.{Running as RamRunning}
use Rattle.mt_machine.specs.declared.driven.Running.TheVariants as rams
use Rattle.mt_machine.specs.Machine.{Machine, events_of, begun, running_ram}
use Rattle.mt_laws.specs.Memory.{handled, inner_replies, own_replies}
use Rattle.mt_laws.specs.Detection.{AcceptsInHandler, counts}
use Rattle.mt_text.specs.declared.line.Event.TheVariants as event
use Rattle.mt_laws.proofs.Memories.{inner-append}
use Rattle.mt_laws.proofs.Scenes.{Handlers, Watches, HasBoard, IsSpoiled, Goes, Rows, Stands}
use Rattle.mt_laws.proofs.SceneEvents.{fresh, event-goes}
use Rattle.mt_laws.proofs.PassRows.{IsOn, row-on, InSomePass, InTick, is_stop, is_stop_or_suspend, row-pass, row-tick}
use Rattle.mt_laws.proofs.PassEvents.{Caught}
use Rattle.mt_laws.proofs.PassTicks.{PassLaws, longer_phase, tick_middle}
use Rattle.mt_laws.proofs.PassParts.{part_middle, full_middle}
use Rattle.mt_laws.proofs.SoundBoards.{AreSoundIn, handled_sound, cleared-on}

-- The fault is there, and RamTst is in a pass over it that finds it in so many ticks at most.
pub record Hunts (fault : Fault) (set : ParamSet) (p : Piece) (cells left : ℕ) (m : Machine) : Type 0 where
  pub present : m.board.fault ≡ Some fault
  pub on : IsOn set cells m.modules.ram
  pub pass : InSomePass set p cells left m.modules.ram

-- What is known of a pass, on boards of a shape.
pub record Hunt (shape : Shape) (fault : Fault) (set : ParamSet) (p : Piece) (cells : ℕ) : Type 0 where
  pub laws : PassLaws
  pub begin : BlocksBegin
  pub caught : Caught shape fault set p
  pub low : set.atomic ≤ cells

pub longer_pass : (set : ParamSet) (p : Piece) (cells left less : ℕ) (r : RamTst) → left ≤ less → InSomePass set p cells left r → InSomePass set p cells less r
longer_pass set p cells left less r more i =
    record { at = i.at; pass = record { valid = i.pass.valid; state = i.pass.state; phase = longer_phase set p cells left less i.at r.results r.failed more i.pass.phase } }

-- ---- what a line accepts

-- what handlers do in a line, where these calls are excluded
abbrev pub handlers_of : Board → List Request → (HandlerCall → Bool) → Handlers
handlers_of b requests bad = record { shape = b.shape; fault = b.fault; all = handled requests; bad = bad; wrong = λ call reply. false }

-- an event that is spoiled accepted one of these calls
accepts : (b : Board) (requests : List Request) (bad : HandlerCall → Bool) (log : List Entry) (own : Reply) (done : List HandlerOp) → handled requests ≡ done ++ []
    → (z : IsSpoiled (handlers_of b requests bad) done log) → Contains (zip (handled requests) (inner_replies (log ++ Own own ∷ []))) (Call z.call, reply.Done)
accepts b requests bad log own done rest z =
    let whole : done ≡ handled requests = sym (append-nil done) ∙ sym rest in
    let same : inner_replies log ≡ inner_replies (log ++ Own own ∷ []) = sym (inner-append log (Own own ∷ []) ∙ append-nil (inner_replies log)) in
    subst (λ (l : List Reply). Contains (zip (handled requests) l) (Call z.call, reply.Done)) same
    (subst (λ (d : List HandlerOp). Contains (zip d (inner_replies log)) (Call z.call, reply.Done)) whole z.accepted)

is_the_stop : (call : HandlerCall) → is_stop call ≡ true → call ≡ handler.RamStop
is_the_stop handler.RamStop e = refl
is_the_stop handler.RamAllow e = absurd cc
is_the_stop handler.RamSuspend e = absurd cc
is_the_stop handler.RamResume e = absurd cc
is_the_stop handler.RamGetExecutionStatus e = absurd cc
is_the_stop handler.RamGetTestResult e = absurd cc
is_the_stop (handler.RamGetTestResultPerBlock block) e = absurd cc
is_the_stop handler.FlsSuspend e = absurd cc
is_the_stop handler.FlsResume e = absurd cc
is_the_stop handler.FlsAbort e = absurd cc
is_the_stop handler.FlsGetCurrentState e = absurd cc
is_the_stop handler.FlsGetTestResultBgnd e = absurd cc
is_the_stop handler.FlsGetTestResultFgnd e = absurd cc

is_stop_or_the_suspend : (call : HandlerCall) → is_stop_or_suspend call ≡ true → (call ≡ handler.RamStop) ⊎ (call ≡ handler.RamSuspend)
is_stop_or_the_suspend handler.RamStop e = inl refl
is_stop_or_the_suspend handler.RamSuspend e = inr refl
is_stop_or_the_suspend handler.RamAllow e = absurd cc
is_stop_or_the_suspend handler.RamResume e = absurd cc
is_stop_or_the_suspend handler.RamGetExecutionStatus e = absurd cc
is_stop_or_the_suspend handler.RamGetTestResult e = absurd cc
is_stop_or_the_suspend (handler.RamGetTestResultPerBlock block) e = absurd cc
is_stop_or_the_suspend handler.FlsSuspend e = absurd cc
is_stop_or_the_suspend handler.FlsResume e = absurd cc
is_stop_or_the_suspend handler.FlsAbort e = absurd cc
is_stop_or_the_suspend handler.FlsGetCurrentState e = absurd cc
is_stop_or_the_suspend handler.FlsGetTestResultBgnd e = absurd cc
is_stop_or_the_suspend handler.FlsGetTestResultFgnd e = absurd cc

-- ---- events

-- an event of RamTst begins
begin_event : (call : RamRunning) (set : ParamSet) (cells : ℕ) (m : Machine) (requests : List Request) (bad : HandlerCall → Bool) (P : RamTst → Type 0) → HasBoard (handlers_of m.board requests bad) m.board
    → AreSoundIn m.board.shape requests → IsOn set cells m.modules.ram → P ((events_of call).cleared m.modules.ram)
    → Stands (handlers_of m.board requests bad) (IsOn set cells) P (scene (begun m.board m.modules.ram requests).board ((events_of call).cleared m.modules.ram) [])
begin_event call set cells m requests bad P board ops on p =
    fresh (handlers_of m.board requests bad) (IsOn set cells) P (begun m.board m.modules.ram requests).board ((events_of call).cleared m.modules.ram) refl
    (record { shape = refl; fault = refl; sound = record { sized = board.sound.sized; memory = board.sound.memory } })
    (handled_sound m.board.shape requests ops) (cleared-on call set cells m.modules.ram on) p

-- an event that no handler ends leaves the pass
ended : (call : RamRunning) (fault : Fault) (set : ParamSet) (cells less : ℕ) (p : Piece) (m : Machine) (requests : List Request) (bad : HandlerCall → Bool) → m.board.fault ≡ Some fault
    → Goes (handlers_of m.board requests bad) (IsOn set cells) (InSomePass set p cells less) [] ((event_of (events_of call) (begun m.board m.modules.ram requests)).after)
    → ((c : HandlerCall) → bad c ≡ true → AcceptsInHandler (running_ram call m requests) c → ⊥)
    → Hunts fault set p cells less (running_ram call m requests).after
ended call fault set cells less p m requests bad present g none = record { present = g.board.fault ∙ present; on = g.holds; pass = of g.callee }
  where
    of : IsSpoiled (handlers_of m.board requests bad) g.done (event_of (events_of call) (begun m.board m.modules.ram requests)).after.log
        ⊎ InSomePass set p cells less (event_of (events_of call) (begun m.board m.modules.ram requests)).after.callee
        → InSomePass set p cells less (event_of (events_of call) (begun m.board m.modules.ram requests)).after.callee
    of (inl z) = absurd (none z.call z.bad (accepts m.board requests bad (event_of (events_of call) (begun m.board m.modules.ram requests)).after.log _ g.done g.rest z))
    of (inr i) = i

pass_rows : (h : Handlers) (set : ParamSet) (p : Piece) (cells left : ℕ) → Watches h is_stop → Rows h ram_table (IsOn set cells) (InSomePass set p cells left)
pass_rows h set p cells left bad = record {
  holds = λ r call on. row-on set cells r call on;
  row = λ r call i. subst (λ (f : HandlerCall → Bool). ((f call ≡ true) × (ram_table.reply r call ≡ reply.Done)) ⊎ InSomePass set p cells left (ram_table.next r call)) (sym bad.calls) (row-pass set p cells left r call i);
  right = λ r call i. bad.replies call (ram_table.reply r call);
}

-- a test is under way between two ticks
pub part_event : (fault : Fault) (set : ParamSet) (cells left : ℕ) (p : Piece) (m : Machine) (block : ℕ) (requests : List Request) → Hunt m.board.shape fault set p cells
    → HasBoard (handlers_of m.board requests is_stop) m.board → AreSoundIn m.board.shape requests → Hunts fault set p cells left m
    → (AcceptsInHandler (running_ram (rams.Partial block) m requests) handler.RamStop → ⊥) → Hunts fault set p cells left (running_ram (rams.Partial block) m requests).after
part_event fault set cells left p m block requests k board ops h none =
    let hs = handlers_of m.board requests is_stop in
    let s : Scene RamTst = begun m.board m.modules.ram requests in
    let rows = pass_rows hs set p cells left (record { calls = refl; replies = λ c reply. refl }) in
    let i = h.pass in
    let first : InSomePass set p cells left ((events_of (rams.Partial block)).cleared m.modules.ram) = record { at = i.at; pass = record { valid = i.pass.valid; state = i.pass.state; phase = i.pass.phase } } in
    ended (rams.Partial block) fault set cells left p m requests is_stop h.present
    (event-goes k.laws.memory hs (events_of (rams.Partial block)) (IsOn set cells) (InSomePass set p cells left) (InSomePass set p cells left) rows rows s
    (begin_event (rams.Partial block) set cells m requests is_stop (InSomePass set p cells left) board ops h.on first)
    (λ w. part_middle k.laws k.begin hs fault set cells left p k.caught h.present (record { calls = refl; replies = λ c reply. refl }) block (opened (events_of (rams.Partial block)) s) w))
    (λ c bad accepted. none (subst (λ (x : HandlerCall). AcceptsInHandler (running_ram (rams.Partial block) m requests) x) (is_the_stop c bad) accepted))

pub full_event : (fault : Fault) (set : ParamSet) (cells left : ℕ) (p : Piece) (m : Machine) (requests : List Request) → Hunt m.board.shape fault set p cells
    → HasBoard (handlers_of m.board requests is_stop) m.board → AreSoundIn m.board.shape requests → Hunts fault set p cells left m
    → (AcceptsInHandler (running_ram rams.Full m requests) handler.RamStop → ⊥) → Hunts fault set p cells left (running_ram rams.Full m requests).after
full_event fault set cells left p m requests k board ops h none =
    let hs = handlers_of m.board requests is_stop in
    let s : Scene RamTst = begun m.board m.modules.ram requests in
    let rows = pass_rows hs set p cells left (record { calls = refl; replies = λ c reply. refl }) in
    let i = h.pass in
    let first : InSomePass set p cells left ((events_of rams.Full).cleared m.modules.ram) = record { at = i.at; pass = record { valid = i.pass.valid; state = i.pass.state; phase = i.pass.phase } } in
    ended rams.Full fault set cells left p m requests is_stop h.present
    (event-goes k.laws.memory hs (events_of rams.Full) (IsOn set cells) (InSomePass set p cells left) (InSomePass set p cells left) rows rows s
    (begin_event rams.Full set cells m requests is_stop (InSomePass set p cells left) board ops h.on first)
    (λ w. full_middle k.laws hs fault set cells left p k.caught (λ c reply. refl) (opened (events_of rams.Full) s) w))
    (λ c bad accepted. none (subst (λ (x : HandlerCall). AcceptsInHandler (running_ram rams.Full m requests) x) (is_the_stop c bad) accepted))

-- ---- a tick

own-append : (a b : List Entry) → own_replies (a ++ b) ≡ own_replies a ++ own_replies b
own-append [] b = refl
own-append (Served number at wait ∷ a) b = own-append a b
own-append (Inner r ∷ a) b = own-append a b
own-append (Own r ∷ a) b = ap (λ (l : List Reply). r ∷ l) (own-append a b)

two_count : (a b : Reply) (l : List Reply) → counts event.TickRam (a ∷ b ∷ l) ≡ 0
two_count reply.Done b l = refl
two_count (reply.Ran n) b l = refl
two_count (reply.Value v) b l = refl
two_count (reply.Refused why) b l = refl
two_count reply.Present b l = refl

-- no more than the tick's own reply says
fewer_counts : (l : List Reply) (own : Reply) → counts event.TickRam (l ++ own ∷ []) ≤ counts event.TickRam (own ∷ [])
fewer_counts [] own = omega arith
fewer_counts (a ∷ []) own = let none = two_count a own [] in omega (arith, none)
fewer_counts (a ∷ b ∷ l) own = let none = two_count a b (l ++ own ∷ []) in omega (arith, none)

one_count : (own : Reply) → counts event.TickRam (own ∷ []) ≤ 1
one_count reply.Done = omega arith
one_count (reply.Ran n) = of (nat_lt 0 n)
  where
    of : (b : Bool) → cond b 1 0 ≤ 1
    of true = omega arith
    of false = omega arith
one_count (reply.Value v) = omega arith
one_count (reply.Refused why) = omega arith
one_count reply.Present = omega arith

-- a tick counts where the pass runs
pub tick_event : (fault : Fault) (set : ParamSet) (cells left less : ℕ) (p : Piece) (m : Machine) (requests : List Request) → Hunt m.board.shape fault set p cells
    → HasBoard (handlers_of m.board requests is_stop_or_suspend) m.board → AreSoundIn m.board.shape requests → Hunts fault set p cells left m
    → left ≤ counts event.TickRam (own_replies (running_ram rams.Tick m requests).entries) + less
    → (AcceptsInHandler (running_ram rams.Tick m requests) handler.RamStop → ⊥) → (AcceptsInHandler (running_ram rams.Tick m requests) handler.RamSuspend → ⊥)
    → Hunts fault set p cells less (running_ram rams.Tick m requests).after
tick_event fault set cells left less p m requests k board ops h counted no_stop no_suspend =
    let hs = handlers_of m.board requests is_stop_or_suspend in
    let s : Scene RamTst = begun m.board m.modules.ram requests in
    let i = h.pass in
    let o = opened ticking s in
    let log = (event_of ticking s).after.log in
    let own = (event_of ticking s).reply in
    let most : left ≤ counts event.TickRam (own ∷ []) + less =
    (let split : own_replies (log ++ Own own ∷ []) ≡ own_replies log ++ own ∷ [] = own-append log (Own own ∷ []) in
    let here = subst (λ (l : List Reply). left ≤ counts event.TickRam l + less) split counted in
    omega (arith, here, fewer_counts (own_replies log) own)) in
    let first : InTick set p cells left (ticking.cleared m.modules.ram) = record { at = i.at; pass = record { valid = i.pass.valid; state = i.pass.state; phase = i.pass.phase }; unmarked = refl } in
    let tick_rows : Rows hs ram_table (IsOn set cells) (InTick set p cells left) = record { holds = λ r call on. row-on set cells r call on; row = λ r call q. row-tick set p cells left r call q; right = λ r call q. refl } in
    let end_rows : Rows hs ram_table (IsOn set cells) (InSomePass set p cells less) = record { holds = λ r call on. row-on set cells r call on; row = λ r call q. wider r call (row-pass set p cells less r call q); right = λ r call q. refl } in
    ended rams.Tick fault set cells less p m requests is_stop_or_suspend h.present
    (event-goes k.laws.memory hs ticking (IsOn set cells) (InTick set p cells left) (InSomePass set p cells less) tick_rows end_rows s
    (begin_event rams.Tick set cells m requests is_stop_or_suspend (InTick set p cells left) board ops h.on first)
    (λ w. tick_middle k.laws hs fault set cells left less p k.caught h.present (record { calls = refl; replies = λ c reply. refl }) k.low o (λ x e. let one = one_count own in omega (arith, most, one)) (λ x e. rests x e most) w))
    none
  where
    wider : (r : RamTst) (call : HandlerCall) → ((is_stop call ≡ true) × (ram_table.reply r call ≡ reply.Done)) ⊎ InSomePass set p cells less (ram_table.next r call)
        → ((is_stop_or_suspend call ≡ true) × (ram_table.reply r call ≡ reply.Done)) ⊎ InSomePass set p cells less (ram_table.next r call)
    wider r call (inl (bad, done)) = inl (ap is_stop_or_suspend (is_the_stop call bad), done)
    wider r call (inr q) = inr q

    rests : (x : Position) → (opened ticking (begun m.board m.modules.ram requests)).callee.state ≡ Suspended x
        → left ≤ counts event.TickRam ((event_of ticking (begun m.board m.modules.ram requests)).reply ∷ []) + less → left ≤ less
    rests x e most =
        let o = opened ticking (begun m.board m.modules.ram requests) in
        let made = (ran ticking o).scene.board.count in
        subst (λ (s : State). left ≤ counts event.TickRam (reply_in (cell o.callee MainFunction s) made ∷ []) + less → left ≤ less) (sym e) (λ (q : left ≤ 0 + less). omega (arith, q)) most

    none : (c : HandlerCall) → is_stop_or_suspend c ≡ true → AcceptsInHandler (running_ram rams.Tick m requests) c → ⊥
    none c bad accepted = of (is_stop_or_the_suspend c bad)
      where
        of : (c ≡ handler.RamStop) ⊎ (c ≡ handler.RamSuspend) → ⊥
        of (inl e) = no_stop (subst (λ (x : HandlerCall). AcceptsInHandler (running_ram rams.Tick m requests) x) e accepted)
        of (inr e) = no_suspend (subst (λ (x : HandlerCall). AcceptsInHandler (running_ram rams.Tick m requests) x) e accepted)
