-- The services that only answer leave the kind, and the requests of a line can be served.
use Rattle.std.proofs.Common.{ℕ, ◌*◌, ◌≤◌, ◌≡◌, Bool, true, false, List, [], ◌∷◌, ◌++◌, length, get_or, cond, All, Option, Some, None, refl, sym, subst, arith}
use Rattle.std.proofs.lemmas.List.Elements.{All-head, All-tail}
use Rattle.std.specs.Prelude.{nat_lt, slice_index_or}
use Rattle.mt_window.specs.declared.reply.TestResult.TheVariants.{NotTested}
use Rattle.mt_window.specs.declared.reply.Value.TheVariants.{Result}
use Rattle.mt_window.specs.declared.reply.Refusal.TheVariants.{Range}
use Rattle.mt_port.specs.declared.board.Shape.{Shape}
use Rattle.mt_port.specs.declared.request.Request.{Request}
use Rattle.mt_port.specs.declared.request.HandlerOp.{HandlerOp}
use Rattle.mt_port.specs.declared.request.HandlerOp.TheVariants as op
use Rattle.mt_port.specs.declared.request.Module.{Module}
use Rattle.mt_port.specs.Board.{Board, IsSoundInHandler, AreSoundRequests}
use Rattle.mt_text.specs.Accepted.{IsFor, IsRequest, AreFor}
use Rattle.mt_window.specs.Serving.{IsSoundHandlerOp, cost, IsReady}
use Rattle.mt_blocks.specs.Slices.{Piece}
use Rattle.mt_ram.specs.declared.state.State.{State}
use Rattle.mt_ram.specs.declared.state.State.TheVariants as state
use Rattle.mt_ram.specs.State.{RamTst}
use Rattle.mt_window.specs.declared.reply.Reply.{Reply}
use Rattle.mt_window.specs.declared.log.Entry.{Entry}
use Rattle.mt_window.specs.declared.log.Entry.TheVariants.{Own}
use Rattle.mt_port.specs.declared.board.Touch.{Touch}
use Rattle.mt_text.specs.declared.line.Event.{Event}
use Rattle.mt_text.specs.declared.line.Line.{Line}
use Rattle.mt_text.specs.declared.line.RamCall.{RamCall}
use Rattle.mt_text.specs.declared.line.FlsCall.{FlsCall}
use Rattle.mt_machine.specs.declared.driven.Running.{Running}
use Rattle.mt_machine.specs.declared.driven.FlsRunning.{FlsRunning}
use Rattle.mt_machine.specs.Machine.{Machine, Step, step, running, begun, by_event, with_ram, with_fls, service_of, fls_service_of, by_service, by_fls_service}
use Rattle.mt_machine.specs.Inner.Events.{Calls, Does, Steps, driven, ram_calls, fls_calls}
use Rattle.mt_fls.specs.declared.state.State as fls
use Rattle.mt_fls.specs.declared.state.State.TheVariants as fls_state
use Rattle.mt_fls.specs.State.{FlsTst}
use Rattle.mt_fls.specs.Table as fls_table
use Rattle.mt_window.specs.Rows.{Answers, Refuses, next_in}
use Rattle.mt_ram.specs.Table.{GetTestResultPerBlock, GetTestResult, GetAlgParams, GetTestAlgorithm, GetNumberOfTestedCells, cell, telling, after}

pub stays_result : (r : RamTst) → after r GetTestResult ≡ r
stays_result r = of r.state
  where
    of : (s : State) → next_in (cell r GetTestResult s) r ≡ r
    of state.Uninit = refl
    of state.Stopped = refl
    of (state.Running p) = refl
    of (state.Suspended p) = refl
    of state.Full = refl
    of (state.Partial back) = refl

pub stays_params : (r : RamTst) → after r GetAlgParams ≡ r
stays_params r = of r.state
  where
    of : (s : State) → next_in (cell r GetAlgParams s) r ≡ r
    of state.Uninit = refl
    of state.Stopped = refl
    of (state.Running p) = refl
    of (state.Suspended p) = refl
    of state.Full = refl
    of (state.Partial back) = refl

pub stays_algorithm : (r : RamTst) → after r GetTestAlgorithm ≡ r
stays_algorithm r = of r.state
  where
    of : (s : State) → next_in (cell r GetTestAlgorithm s) r ≡ r
    of state.Uninit = refl
    of state.Stopped = refl
    of (state.Running p) = refl
    of (state.Suspended p) = refl
    of state.Full = refl
    of (state.Partial back) = refl

pub stays_cells : (r : RamTst) → after r GetNumberOfTestedCells ≡ r
stays_cells r = of r.state
  where
    of : (s : State) → next_in (cell r GetNumberOfTestedCells s) r ≡ r
    of state.Uninit = refl
    of state.Stopped = refl
    of (state.Running p) = refl
    of (state.Suspended p) = refl
    of state.Full = refl
    of (state.Partial back) = refl

stays_telling : (r : RamTst) (block : ℕ) → next_in (telling r block) r ≡ r
stays_telling r block = of (nat_lt block (length r.results))
  where
    of : (inside : Bool) → next_in {X = Piece} (cond inside (Answers (Result (slice_index_or r.results block NotTested))) (Refuses Range)) r ≡ r
    of true = refl
    of false = refl

pub stays_per_block : (r : RamTst) (block : ℕ) → after r (GetTestResultPerBlock block) ≡ r
stays_per_block r block = of r.state
  where
    of : (s : State) → next_in (cell r (GetTestResultPerBlock block) s) r ≡ r
    of state.Uninit = refl
    of state.Stopped = stays_telling r block
    of (state.Running p) = stays_telling r block
    of (state.Suspended p) = stays_telling r block
    of state.Full = stays_telling r block
    of (state.Partial back) = stays_telling r block

-- the same of FlsTst
pub stays_bgnd : (f : FlsTst) → fls_table.after f fls_table.GetTestResultBgnd ≡ f
stays_bgnd f = of f.state
  where
    of : (s : fls.State) → next_in (fls_table.cell f fls_table.GetTestResultBgnd s) f ≡ f
    of fls_state.Uninit = refl
    of _ = refl

pub stays_fgnd : (f : FlsTst) → fls_table.after f fls_table.GetTestResultFgnd ≡ f
stays_fgnd f = of f.state
  where
    of : (s : fls.State) → next_in (fls_table.cell f fls_table.GetTestResultFgnd s) f ≡ f
    of fls_state.Uninit = refl
    of _ = refl

pub stays_details : (f : FlsTst) → fls_table.after f fls_table.GetErrorDetails ≡ f
stays_details f = of f.state
  where
    of : (s : fls.State) → next_in (fls_table.cell f fls_table.GetErrorDetails s) f ≡ f
    of fls_state.Uninit = refl
    of _ = refl

-- ---- requests

sound_op : (kind : Module) (shape : Shape) (o : HandlerOp) → IsSoundInHandler shape o → IsFor kind o → IsSoundHandlerOp shape kind o
sound_op kind shape (op.App o) sound for = sound
sound_op kind shape (op.Call call) sound for = for.0

sound_ops : (kind : Module) (shape : Shape) (ops : List HandlerOp) → All (IsSoundInHandler shape) ops → All (IsFor kind) ops → All (IsSoundHandlerOp shape kind) ops
sound_ops kind shape ops sound for = λ k d h. sound_op kind shape (get_or ops k d) (sound k d h) (for k d h)

sound_requests : (kind : Module) (shape : Shape) (rs : List Request) → All (λ (r : Request). All (IsSoundInHandler shape) r.ops.items) rs → All (IsRequest kind) rs → All (λ (r : Request). All (IsSoundHandlerOp shape kind) r.ops.items) rs
sound_requests kind shape rs sound for = λ k d h. sound_ops kind shape ((get_or rs k d).ops.items) (sound k d h) ((for k d h).calls)

cost_few : (kind : Module) (rs : List Request) → All (IsRequest kind) rs → cost rs ≤ 9 * length rs
cost_few kind [] for = omega arith
cost_few kind (r ∷ rs) for = omega (arith, (All-head (IsRequest kind) r rs for).few, cost_few kind rs (All-tail (IsRequest kind) r rs for))

-- an event that begins with the requests of a line can serve them
pub ready_to_serve : (kind : Module) (b : Board) (requests : List Request) → b.held ≡ false → b.left ≡ requests → AreSoundRequests b.shape requests → AreFor (Some kind) requests → IsReady kind b []
ready_to_serve kind b requests free left sound for =
    rw left record {
      free = free;
      room = omega (arith, sound.few, cost_few kind requests for);
      sound = sound_requests kind b.shape requests sound.sound for;
      ordered = sound.ordered;
    }

-- ---- a call on a line

-- a call of RamTst, and one of FlsTst
pub ram_driven : (m : Machine) (call : RamCall) (r : Option Running) (requests : List Request)
    → driven ram_calls (with_ram m.modules) m.board m.modules.ram call r requests ≡ by_service m (service_of call) r requests
ram_driven m call None requests = refl
ram_driven m call (Some r) requests = refl

pub fls_driven : (m : Machine) (call : FlsCall) (r : Option FlsRunning) (requests : List Request)
    → driven fls_calls (with_fls m.modules) m.board m.modules.fls call r requests ≡ by_fls_service m (fls_service_of call) r requests
fls_driven m call None requests = refl
fls_driven m call (Some r) requests = refl

-- a call that was found to run tests does what they do
pub does_driven : {C K R X V : Type 0} (calls : Calls C K R X V) (with : Board → C → Machine) (board : Board) (old begun_by : C) (call : K) (o : Option R) (r : R) (requests : List Request)
    → o ≡ Some r → begun_by ≡ old → {m' : Machine} {answer : Reply} {log : List Entry} {tape tape' : Option (List Touch)}
    → Does (running with (calls.events r) (begun board begun_by requests)) m' answer log tape tape' → Does (driven calls with board old call o requests) m' answer log tape tape'
does_driven {C} {K} {R} calls with board old begun_by call o r requests runs same {m'} {answer} {log} {tape} {tape'} does =
    subst (λ (x : Option R). Does (driven calls with board old call x requests) m' answer log tape tape') (sym runs)
    (subst (λ (c : C). Does (running with (calls.events r) (begun board c requests)) m' answer log tape tape') same does)

-- so does a call that is said in another way
pub does_same : {s z : Step} → s ≡ z → {m' : Machine} {answer : Reply} {log : List Entry} {tape tape' : Option (List Touch)}
    → Does s m' answer log tape tape' → Does z m' answer log tape tape'
does_same e {m'} {answer} {log} {tape} {tape'} does = subst (λ (x : Step). Does x m' answer log tape tape') e does

-- what an event does is what its line does
pub does_event : (m : Machine) (line : Line) {event : Event} → line.event ≡ event → {m' : Machine} {answer : Reply} {log : List Entry} {tape tape' : Option (List Touch)}
    → Does (by_event m event line.requests.items) m' answer log tape tape' → Steps m m' line (log ++ Own answer ∷ []) tape tape'
unfolding step
does_event m line is {m'} {answer} {log} {tape} {tape'} does =
    let d = subst (λ (e : Event). Does (by_event m e line.requests.items) m' answer log tape tape') (sym is) does in
    record { after = d.after; entries = d.entries; taped = d.taped }
