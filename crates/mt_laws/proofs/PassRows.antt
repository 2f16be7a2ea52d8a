-- What handlers' calls do to RamTst while a pass runs or is suspended.
use Rattle.std.proofs.Common.{ℕ, ◌≡◌, ◌≤◌, Bool, true, false, cond, length, Contains, refl, sym, ap, ◌∙◌, subst, inl, inr}
use Rattle.std.specs.Prelude.{◌⊎◌, nat_lt, slice_index_or}
use Rattle.mt_port.specs.declared.request.HandlerCall.{HandlerCall}
use Rattle.mt_port.specs.declared.request.HandlerCall.TheVariants as calls
use Rattle.mt_window.specs.declared.reply.Refusal.TheVariants.{Range}
use Rattle.mt_window.specs.declared.reply.Value.TheVariants.{Result}
use Rattle.mt_window.specs.declared.reply.TestResult.TheVariants.{NotTested}
use Rattle.mt_window.specs.declared.reply.Reply.TheVariants.{Done}
use Rattle.mt_window.specs.Rows.{Refuses, Answers, next_in, reply_in}
use Rattle.mt_blocks.specs.declared.config.ParamSet.{ParamSet}
use Rattle.mt_blocks.specs.declared.pass.Position.{Position}
use Rattle.mt_blocks.specs.Slices.{Piece, from_place, IsValid}
use Rattle.mt_blocks.specs.Groups.{ticks}
use Rattle.mt_blocks.specs.Accepted.{spans_of}
use Rattle.mt_ram.specs.declared.state.State.{State}
use Rattle.mt_ram.specs.declared.state.State.TheVariants.{Running, Suspended}
use Rattle.mt_ram.specs.State.{RamTst, set_of}
use Rattle.mt_ram.specs.Moves.{row-moves}
use Rattle.mt_ram.specs.Table.{Allow, Stop, Suspend, Resume, GetTestResult, GetTestResultPerBlock, cell, telling, suspended, resumed, ram_table}
use Rattle.mt_laws.proofs.Phases.{IsBehind}

-- ---- one call

-- what a call comes to in a pass that stands at a position
pub data Turn (r : RamTst) (x : Position) (call : HandlerCall) : Type 0 where
  Stays : ram_table.next r call ≡ r → Turn r x call
  Stops : call ≡ calls.RamStop → ram_table.reply r call ≡ Done → Turn r x call
  Suspends : call ≡ calls.RamSuspend → ram_table.reply r call ≡ Done → ram_table.next r call ≡ suspended r x → Turn r x call
  Resumes : ram_table.next r call ≡ resumed r x → Turn r x call

pub telling-still : (r : RamTst) (block : ℕ) → next_in (telling r block) r ≡ r
telling-still r block = of (nat_lt block (length r.results))
  where
    of : (b : Bool) → next_in {X = Piece} (cond b (Answers (Result (slice_index_or r.results block NotTested))) (Refuses Range)) r ≡ r
    of true = refl
    of false = refl

pub turn_running : (r : RamTst) (x : Position) (call : HandlerCall) → r.state ≡ Running x → Turn r x call
unfolding ram_table
turn_running r x calls.RamAllow e = Stays (ap (λ (s : State). next_in (cell r Allow s) r) e)
turn_running r x calls.RamStop e = Stops refl (ap (λ (s : State). reply_in (cell r Stop s) 0) e)
turn_running r x calls.RamSuspend e = Suspends refl (ap (λ (s : State). reply_in (cell r Suspend s) 0) e) (ap (λ (s : State). next_in (cell r Suspend s) r) e)
turn_running r x calls.RamResume e = Stays (ap (λ (s : State). next_in (cell r Resume s) r) e)
turn_running r x calls.RamGetExecutionStatus e = Stays refl
turn_running r x calls.RamGetTestResult e = Stays (ap (λ (s : State). next_in (cell r GetTestResult s) r) e)
turn_running r x (calls.RamGetTestResultPerBlock block) e = Stays (ap (λ (s : State). next_in (cell r (GetTestResultPerBlock block) s) r) e ∙ telling-still r block)
turn_running r x calls.FlsSuspend e = Stays refl
turn_running r x calls.FlsResume e = Stays refl
turn_running r x calls.FlsAbort e = Stays refl
turn_running r x calls.FlsGetCurrentState e = Stays refl
turn_running r x calls.FlsGetTestResultBgnd e = Stays refl
turn_running r x calls.FlsGetTestResultFgnd e = Stays refl

pub turn_suspended : (r : RamTst) (x : Position) (call : HandlerCall) → r.state ≡ Suspended x → Turn r x call
unfolding ram_table
turn_suspended r x calls.RamAllow e = Stays (ap (λ (s : State). next_in (cell r Allow s) r) e)
turn_suspended r x calls.RamStop e = Stops refl (ap (λ (s : State). reply_in (cell r Stop s) 0) e)
turn_suspended r x calls.RamSuspend e = Stays (ap (λ (s : State). next_in (cell r Suspend s) r) e)
turn_suspended r x calls.RamResume e = Resumes (ap (λ (s : State). next_in (cell r Resume s) r) e)
turn_suspended r x calls.RamGetExecutionStatus e = Stays refl
turn_suspended r x calls.RamGetTestResult e = Stays (ap (λ (s : State). next_in (cell r GetTestResult s) r) e)
turn_suspended r x (calls.RamGetTestResultPerBlock block) e = Stays (ap (λ (s : State). next_in (cell r (GetTestResultPerBlock block) s) r) e ∙ telling-still r block)
turn_suspended r x calls.FlsSuspend e = Stays refl
turn_suspended r x calls.FlsResume e = Stays refl
turn_suspended r x calls.FlsAbort e = Stays refl
turn_suspended r x calls.FlsGetCurrentState e = Stays refl
turn_suspended r x calls.FlsGetTestResultBgnd e = Stays refl
turn_suspended r x calls.FlsGetTestResultFgnd e = Stays refl

-- ---- the set and the pass

-- The module has this set and this number of cells, and a result for each block.
pub record IsOn (set : ParamSet) (cells : ℕ) (r : RamTst) : Type 0 where
  pub same : set_of r ≡ set
  pub many : r.cells ≡ cells
  pub results : length r.results ≡ length set.blocks

pub row-on : (set : ParamSet) (cells : ℕ) (r : RamTst) (call : HandlerCall) → IsOn set cells r → IsOn set cells (ram_table.next r call)
row-on set cells r call on =
    let still = (row-moves r call).still in
    record {
      same = ap (λ (q : RamTst). set_of q) still ∙ on.same;
      many = ap (λ (q : RamTst). q.cells) still ∙ on.many;
      results = ap (λ (q : RamTst). length q.results) still ∙ on.results;
    }

-- A pass over a set at a position, running or suspended: it stands behind a slice, or that slice is still to come, in so many ticks at most.
pub record InPass (set : ParamSet) (p : Piece) (cells left : ℕ) (x : Position) (r : RamTst) : Type 0 where
  pub valid : IsValid set.atomic (spans_of set.blocks) x
  pub state : (r.state ≡ Running x) ⊎ (r.state ≡ Suspended x)
  pub phase : IsBehind p.place x r.results r.failed ⊎ (Contains (from_place set.atomic (spans_of set.blocks) x) p × (ticks cells (from_place set.atomic (spans_of set.blocks) x) ≤ left))

-- somewhere in it
pub record InSomePass (set : ParamSet) (p : Piece) (cells left : ℕ) (r : RamTst) : Type 0 where
  pub at : Position
  pub pass : InPass set p cells left at r

-- as a tick of it begins
pub record InTick (set : ParamSet) (p : Piece) (cells left : ℕ) (r : RamTst) : Type 0 where
  pub at : Position
  pub pass : InPass set p cells left at r
  pub unmarked : r.mark ≡ false

-- which calls end a pass, and which end a tick
abbrev pub is_stop : HandlerCall → Bool
is_stop calls.RamStop = true
is_stop call = false

abbrev pub is_stop_or_suspend : HandlerCall → Bool
is_stop_or_suspend calls.RamStop = true
is_stop_or_suspend calls.RamSuspend = true
is_stop_or_suspend call = false

turn_of : (r : RamTst) (x : Position) (call : HandlerCall) → (r.state ≡ Running x) ⊎ (r.state ≡ Suspended x) → Turn r x call
turn_of r x call (inl e) = turn_running r x call e
turn_of r x call (inr e) = turn_suspended r x call e

-- where no Stop is accepted the pass goes on
pub row-pass : (set : ParamSet) (p : Piece) (cells left : ℕ) (r : RamTst) (call : HandlerCall) → InSomePass set p cells left r
    → ((is_stop call ≡ true) × (ram_table.reply r call ≡ Done)) ⊎ InSomePass set p cells left (ram_table.next r call)
row-pass set p cells left r call i = of (turn_of r i.at call i.pass.state)
  where
    of : Turn r i.at call → ((is_stop call ≡ true) × (ram_table.reply r call ≡ Done)) ⊎ InSomePass set p cells left (ram_table.next r call)
    of (Stays e) = inr (subst (InSomePass set p cells left) (sym e) i)
    of (Stops is done) = inl (ap is_stop is, done)
    of (Suspends is done e) =
        let z : InSomePass set p cells left (suspended r i.at) = record { at = i.at; pass = record { valid = i.pass.valid; state = inr refl; phase = i.pass.phase } } in
        inr (subst (InSomePass set p cells left) (sym e) z)
    of (Resumes e) =
        let z : InSomePass set p cells left (resumed r i.at) = record { at = i.at; pass = record { valid = i.pass.valid; state = inl refl; phase = i.pass.phase } } in
        inr (subst (InSomePass set p cells left) (sym e) z)

-- and where no Suspend is either, no mark is set
pub row-tick : (set : ParamSet) (p : Piece) (cells left : ℕ) (r : RamTst) (call : HandlerCall) → InTick set p cells left r
    → ((is_stop_or_suspend call ≡ true) × (ram_table.reply r call ≡ Done)) ⊎ InTick set p cells left (ram_table.next r call)
row-tick set p cells left r call i = of (turn_of r i.at call i.pass.state)
  where
    of : Turn r i.at call → ((is_stop_or_suspend call ≡ true) × (ram_table.reply r call ≡ Done)) ⊎ InTick set p cells left (ram_table.next r call)
    of (Stays e) = inr (subst (InTick set p cells left) (sym e) i)
    of (Stops is done) = inl (ap is_stop_or_suspend is, done)
    of (Suspends is done e) = inl (ap is_stop_or_suspend is, done)
    of (Resumes e) =
        let z : InTick set p cells left (resumed r i.at) = record { at = i.at; pass = record { valid = i.pass.valid; state = inl refl; phase = i.pass.phase }; unmarked = i.unmarked } in
        inr (subst (InTick set p cells left) (sym e) z)
