-- What services make of RamTst while a block over a fault that is caught isn't OK.
use Rattle.std.proofs.Common.{ℕ, ◌≡◌, ◌≢◌, ◌<◌, Bool, true, false, cond, eqb, length, Some, None, refl, sym, ap, ◌∙◌, subst, arith, inl, inr}
use Rattle.std.specs.Prelude.{◌⊎◌, ◌&&◌, nat_lt, nat_le, slice_get, slice_index_or}
use Rattle.std.proofs.lemmas.Bool.{eqb-true}
use Rattle.std.proofs.lemmas.Bool.Decides.{nat_tests}
use Rattle.std.proofs.lemmas.Option.{slice_get-get_or}
use Rattle.mt_port.specs.declared.request.HandlerCall.{HandlerCall}
use Rattle.mt_port.specs.declared.request.HandlerCall.TheVariants as calls
use Rattle.mt_window.specs.declared.reply.Refusal.TheVariants as refusal
use Rattle.mt_window.specs.declared.reply.Reply.{Reply}
use Rattle.mt_window.specs.declared.reply.Reply.TheVariants as reply
use Rattle.mt_window.specs.declared.reply.Value.TheVariants as value
use Rattle.mt_window.specs.declared.reply.TestResult.{TestResult}
use Rattle.mt_window.specs.declared.reply.TestResult.TheVariants.{NotTested, Ok, NotOk, Undefined}
use Rattle.mt_window.specs.Rows.{Refuses, Goes, Answers, Runs, next_in, reply_in}
use Rattle.mt_blocks.specs.declared.config.ParamSet.{ParamSet}
use Rattle.mt_blocks.specs.declared.pass.Position.{Position}
use Rattle.mt_blocks.specs.Accepted.{spans_of}
use Rattle.mt_blocks.specs.Slices.{Piece, pieces, span_at, start, IsValid}
use Rattle.mt_ram.specs.declared.state.State.{State}
use Rattle.mt_ram.specs.declared.state.State.TheVariants.{Uninit, Stopped, Running, Suspended, Full, Partial}
use Rattle.mt_ram.specs.State.{RamTst, set_of, spans_in}
use Rattle.mt_ram.specs.Moves.{row-moves}
use Rattle.mt_ram.specs.Table.{Service, Init, DeInit, Allow, Stop, Suspend, Resume, SelectAlgParams, ChangeNumberOfTestedCells, RunFullTest, RunPartialTest, MainFunction, GetTestResultPerBlock, GetTestResult, GetAlgParams, GetTestAlgorithm, GetNumberOfTestedCells, GetExecutionStatus, GetVersionInfo, cell, changing, testing, telling, in_state, after, reply_to, ram_table}
use Rattle.mt_ram.specs.Tested.{is_reset}
use Rattle.mt_laws.proofs.PassRows.{telling-still}

-- ---- the module

-- a pass that stands at a position: where it is behind the slice in the slice's block, a slice of the block's test failed
pub record IsPlaced (set : ParamSet) (at : Position) (failed : Bool) (x : Position) : Type 0 where
  pub valid : IsValid set.atomic (spans_of set.blocks) x
  pub kept : x.block ≡ at.block → at.offset < x.offset → failed ≡ true

-- a state whose pass stands so, if one is unfinished
abbrev pub StandsSo : (Position → Type 0) → State → Type 0
StandsSo P Uninit = Unit {0}
StandsSo P Stopped = Unit {0}
StandsSo P (Running x) = P x
StandsSo P (Suspended x) = P x
StandsSo P Full = Unit {0}
StandsSo P (Partial None) = Unit {0}
StandsSo P (Partial (Some x)) = P x

-- The set is selected, the block of the slice isn't OK, and a pass that is behind the slice in its block knows of a failure.
pub record Unproven (set : ParamSet) (at : Position) (r : RamTst) : Type 0 where
  pub same : set_of r ≡ set
  pub result : slice_get r.results at.block ≢ Some Ok
  pub place : StandsSo (IsPlaced set at r.failed) r.state

-- ---- services

changing_unproven : (set : ParamSet) (at : Position) (r : RamTst) (cells : ℕ) → Unproven set at r → Unproven set at (next_in (changing r cells) r)
changing_unproven set at r cells h = of (nat_le (set_of r).atomic cells && nat_le cells 65536)
  where
    of : (b : Bool) → Unproven set at (next_in {X = Piece} (cond b (Goes (record r { cells = cells })) (Refuses refusal.Range)) r)
    of true = record { same = h.same; result = h.result; place = h.place }
    of false = h

testing_unproven : (set : ParamSet) (at : Position) (r : RamTst) (block : ℕ) (inside back : State) → Unproven set at r → Unproven set at (next_in (testing r block inside back) r)
testing_unproven set at r block inside back h = of (nat_lt block (length (set_of r).blocks))
  where
    of : (b : Bool) → Unproven set at (next_in (cond b (Runs (pieces (set_of r).atomic block (span_at (spans_in r) block)) (in_state inside) (in_state back)) (Refuses refusal.Range)) r)
    of true = h
    of false = h

-- the start of a pass is before each slice behind the first
at_start : (set : ParamSet) (at : Position) (failed : Bool) → IsValid set.atomic (spans_of set.blocks) start → IsPlaced set at failed start
at_start set at failed valid = record { valid = valid; kept = λ same below. absurd (omega (arith, below)) }

cell_unproven : (set : ParamSet) (at : Position) → IsValid set.atomic (spans_of set.blocks) start → (r : RamTst) (service : Service) (s : State) → is_reset service ≡ false → Unproven set at r → StandsSo (IsPlaced set at r.failed) s
    → Unproven set at (next_in (cell r service s) r)
cell_unproven set at valid r Init s kept h place = absurd cc
cell_unproven set at valid r DeInit Uninit kept h place = h
cell_unproven set at valid r DeInit _ kept h place = record { same = h.same; result = h.result; place = tt }
cell_unproven set at valid r Allow Uninit kept h place = h
cell_unproven set at valid r Allow Stopped kept h place = record { same = h.same; result = h.result; place = at_start set at r.failed valid }
cell_unproven set at valid r Allow _ kept h place = h
cell_unproven set at valid r Stop Uninit kept h place = h
cell_unproven set at valid r Stop (Running p) kept h place = record { same = h.same; result = h.result; place = tt }
cell_unproven set at valid r Stop (Suspended p) kept h place = record { same = h.same; result = h.result; place = tt }
cell_unproven set at valid r Stop _ kept h place = h
cell_unproven set at valid r Suspend Uninit kept h place = h
cell_unproven set at valid r Suspend (Running p) kept h place = record { same = h.same; result = h.result; place = place }
cell_unproven set at valid r Suspend _ kept h place = h
cell_unproven set at valid r Resume Uninit kept h place = h
cell_unproven set at valid r Resume (Suspended p) kept h place = record { same = h.same; result = h.result; place = place }
cell_unproven set at valid r Resume _ kept h place = h
cell_unproven set at valid r (SelectAlgParams n) s kept h place = absurd cc
cell_unproven set at valid r (ChangeNumberOfTestedCells cells) Uninit kept h place = h
cell_unproven set at valid r (ChangeNumberOfTestedCells cells) Stopped kept h place = changing_unproven set at r cells h
cell_unproven set at valid r (ChangeNumberOfTestedCells cells) _ kept h place = h
cell_unproven set at valid r RunFullTest Uninit kept h place = h
cell_unproven set at valid r RunFullTest _ kept h place = h
cell_unproven set at valid r (RunPartialTest block) Uninit kept h place = h
cell_unproven set at valid r (RunPartialTest block) Stopped kept h place = testing_unproven set at r block (Partial None) Stopped h
cell_unproven set at valid r (RunPartialTest block) (Suspended p) kept h place = testing_unproven set at r block (Partial (Some p)) (Suspended p) h
cell_unproven set at valid r (RunPartialTest block) _ kept h place = h
cell_unproven set at valid r MainFunction Uninit kept h place = h
cell_unproven set at valid r MainFunction _ kept h place = h
cell_unproven set at valid r (GetTestResultPerBlock block) Uninit kept h place = h
cell_unproven set at valid r (GetTestResultPerBlock block) _ kept h place = subst (Unproven set at) (sym (telling-still r block)) h
cell_unproven set at valid r GetTestResult Uninit kept h place = h
cell_unproven set at valid r GetTestResult _ kept h place = h
cell_unproven set at valid r GetAlgParams Uninit kept h place = h
cell_unproven set at valid r GetAlgParams _ kept h place = h
cell_unproven set at valid r GetTestAlgorithm Uninit kept h place = h
cell_unproven set at valid r GetTestAlgorithm _ kept h place = h
cell_unproven set at valid r GetNumberOfTestedCells Uninit kept h place = h
cell_unproven set at valid r GetNumberOfTestedCells _ kept h place = h
cell_unproven set at valid r GetExecutionStatus s kept h place = h
cell_unproven set at valid r GetVersionInfo s kept h place = h

pub service_unproven : (set : ParamSet) (at : Position) → IsValid set.atomic (spans_of set.blocks) start → (r : RamTst) (service : Service) → is_reset service ≡ false → Unproven set at r → Unproven set at (after r service)
service_unproven set at valid r service kept h = cell_unproven set at valid r service r.state kept h h.place

pub handler_unproven : (set : ParamSet) (at : Position) → IsValid set.atomic (spans_of set.blocks) start → (r : RamTst) (call : HandlerCall) → Unproven set at r → Unproven set at (ram_table.next r call)
unfolding ram_table
handler_unproven set at valid r calls.RamAllow h = service_unproven set at valid r Allow refl h
handler_unproven set at valid r calls.RamStop h = service_unproven set at valid r Stop refl h
handler_unproven set at valid r calls.RamSuspend h = service_unproven set at valid r Suspend refl h
handler_unproven set at valid r calls.RamResume h = service_unproven set at valid r Resume refl h
handler_unproven set at valid r calls.RamGetExecutionStatus h = service_unproven set at valid r GetExecutionStatus refl h
handler_unproven set at valid r calls.RamGetTestResult h = service_unproven set at valid r GetTestResult refl h
handler_unproven set at valid r (calls.RamGetTestResultPerBlock block) h = service_unproven set at valid r (GetTestResultPerBlock block) refl h
handler_unproven set at valid r calls.FlsSuspend h = h
handler_unproven set at valid r calls.FlsResume h = h
handler_unproven set at valid r calls.FlsAbort h = h
handler_unproven set at valid r calls.FlsGetCurrentState h = h
handler_unproven set at valid r calls.FlsGetTestResultBgnd h = h
handler_unproven set at valid r calls.FlsGetTestResultFgnd h = h

-- ---- replies

-- a reply that a block is OK
abbrev pub is_ok : Reply → Bool
is_ok (reply.Value (value.Result Ok)) = true
is_ok other = false

telling_reply : (r : RamTst) (block : ℕ) → slice_get r.results block ≢ Some Ok → is_ok (reply_in (telling r block) 0) ≡ false
telling_reply r block n = of (nat_lt block (length r.results)) refl
  where
    by_result : (x : TestResult) → x ≢ Ok → is_ok (reply.Value (value.Result x)) ≡ false
    by_result NotTested e = refl
    by_result Ok e = absurd (e refl)
    by_result NotOk e = refl
    by_result Undefined e = refl

    of : (b : Bool) → nat_lt block (length r.results) ≡ b → is_ok (reply_in {C = RamTst} {X = Piece} (cond b (Answers (value.Result (slice_index_or r.results block NotTested))) (Refuses refusal.Range)) 0) ≡ false
    of false e = refl
    of true e =
        let low : block < length r.results = grind (arith, nat_tests) in
        by_result (slice_index_or r.results block NotTested) (λ f. n (slice_get-get_or r.results block NotTested low ∙ ap (λ (x : TestResult). Some x) f))

pub block_reply : (r : RamTst) (block : ℕ) → slice_get r.results block ≢ Some Ok → is_ok (reply_to r (GetTestResultPerBlock block)) ≡ false
block_reply r block n = of r.state
  where
    of : (s : State) → is_ok (reply_in (cell r (GetTestResultPerBlock block) s) 0) ≡ false
    of Uninit = refl
    of _ = telling_reply r block n

-- a handler is told that a block is OK
abbrev pub tells_ok : ℕ → HandlerCall → Reply → Bool
tells_ok block (calls.RamGetTestResultPerBlock asked) given = eqb asked block && is_ok given
tells_ok block other given = false

pub handler_right : (at : Position) (r : RamTst) (call : HandlerCall) → slice_get r.results at.block ≢ Some Ok → tells_ok at.block call (ram_table.reply r call) ≡ false
unfolding ram_table
handler_right at r (calls.RamGetTestResultPerBlock block) n = of (eqb block at.block) refl
  where
    of : (b : Bool) → eqb block at.block ≡ b → (b && is_ok (reply_to r (GetTestResultPerBlock block))) ≡ false
    of false e = refl
    of true e = block_reply r block (subst (λ (i : ℕ). slice_get r.results i ≢ Some Ok) (sym (eqb-true block at.block e)) n)
handler_right at r calls.RamAllow n = refl
handler_right at r calls.RamStop n = refl
handler_right at r calls.RamSuspend n = refl
handler_right at r calls.RamResume n = refl
handler_right at r calls.RamGetExecutionStatus n = refl
handler_right at r calls.RamGetTestResult n = refl
handler_right at r calls.FlsSuspend n = refl
handler_right at r calls.FlsResume n = refl
handler_right at r calls.FlsAbort n = refl
handler_right at r calls.FlsGetCurrentState n = refl
handler_right at r calls.FlsGetTestResultBgnd n = refl
handler_right at r calls.FlsGetTestResultFgnd n = refl

-- ---- a call in the midst of a tick

-- a call of a handler leaves a running pass where it stands, or marks the tick's end
pub tick_call : (r : RamTst) (x : Position) (call : HandlerCall) → r.state ≡ Running x → (ram_table.next r call ≡ r) ⊎ ((ram_table.next r call).mark ≡ true)
unfolding ram_table
tick_call r x calls.RamAllow e = inl (ap (λ (s : State). next_in (cell r Allow s) r) e)
tick_call r x calls.RamStop e = inr (ap (λ (s : State). (next_in (cell r Stop s) r).mark) e)
tick_call r x calls.RamSuspend e = inr (ap (λ (s : State). (next_in (cell r Suspend s) r).mark) e)
tick_call r x calls.RamResume e = inl (ap (λ (s : State). next_in (cell r Resume s) r) e)
tick_call r x calls.RamGetExecutionStatus e = inl refl
tick_call r x calls.RamGetTestResult e = inl (ap (λ (s : State). next_in (cell r GetTestResult s) r) e)
tick_call r x (calls.RamGetTestResultPerBlock block) e = inl (ap (λ (s : State). next_in (cell r (GetTestResultPerBlock block) s) r) e ∙ telling-still r block)
tick_call r x calls.FlsSuspend e = inl refl
tick_call r x calls.FlsResume e = inl refl
tick_call r x calls.FlsAbort e = inl refl
tick_call r x calls.FlsGetCurrentState e = inl refl
tick_call r x calls.FlsGetTestResultBgnd e = inl refl
tick_call r x calls.FlsGetTestResultFgnd e = inl refl

-- a mark stays
pub mark_stays : (r : RamTst) (call : HandlerCall) → r.mark ≡ true → (ram_table.next r call).mark ≡ true
mark_stays r call e = of (ram_table.next r call).mark refl
  where
    of : (b : Bool) → (ram_table.next r call).mark ≡ b → b ≡ true
    of true f = refl
    of false f =
        let unmarked : r.mark ≡ false = (row-moves r call).unmarked f in
        absurd (let different : true ≡ false = sym e ∙ unmarked in cc)
