-- No service changes the setting.
use Rattle.std.specs.Prelude.{ℕ, ◌≡◌, ◌&&◌, Bool, true, false, length, slice_index_or, refl, Option, Some, None, if◌then◌else◌, nat_lt, nat_le}
use Rattle.mt_port.specs.declared.request.HandlerCall.{HandlerCall}
use Rattle.mt_window.specs.declared.reply.Refusal.TheVariants as refusal
use Rattle.mt_window.specs.declared.reply.Value.TheVariants as value
use Rattle.mt_window.specs.declared.reply.TestResult.TheVariants.{NotTested}
use Rattle.mt_window.specs.Rows.{Refuses, Goes, Answers, Runs, CellKeeps}
use Rattle.mt_blocks.specs.Slices.{pieces, span_at}
use Rattle.mt_ram.specs.declared.state.State.{State}
use Rattle.mt_ram.specs.declared.state.State.TheVariants.{Uninit, Stopped, Suspended, Partial}
use Rattle.mt_ram.specs.State.{RamTst, set_of, spans_in}
use Rattle.mt_ram.specs.Table.{Service, Init, DeInit, Allow, Stop, Suspend, Resume, SelectAlgParams, ChangeNumberOfTestedCells, RunFullTest, RunPartialTest, MainFunction, GetTestResultPerBlock, GetTestResult, GetAlgParams, GetTestAlgorithm, GetNumberOfTestedCells, GetExecutionStatus, GetVersionInfo, RamCell, cell, in_state, after, handled, handler_next, selecting, selected, changing, testing, telling, ram_table}

-- two modules with the same setting
abbrev pub Same : RamTst → RamTst → Type 0
Same a b = b.setting ≡ a.setting

abbrev Leaves : RamTst → RamCell → Type 0
Leaves = CellKeeps Same

selecting_leaves : (r : RamTst) (set : ℕ) → Leaves r (selecting r set)
selecting_leaves r set = of (nat_lt set (length r.setting.config.sets))
  where
    of : (b : Bool) → Leaves r (if b then Goes (selected r set) else Refuses refusal.Range)
    of true = (refl, λ x. (refl, refl))
    of false = (refl, λ x. (refl, refl))

changing_leaves : (r : RamTst) (cells : ℕ) → Leaves r (changing r cells)
changing_leaves r cells = of (nat_le (set_of r).atomic cells && nat_le cells 65536)
  where
    of : (b : Bool) → Leaves r (if b then Goes (record r { cells = cells }) else Refuses refusal.Range)
    of true = (refl, λ x. (refl, refl))
    of false = (refl, λ x. (refl, refl))

testing_leaves : (r : RamTst) (block : ℕ) (inside back : State) → Leaves r (testing r block inside back)
testing_leaves r block inside back = of (nat_lt block (length (set_of r).blocks))
  where
    of : (b : Bool) → Leaves r (if b then Runs (pieces (set_of r).atomic block (span_at (spans_in r) block)) (in_state inside) (in_state back) else Refuses refusal.Range)
    of true = (refl, λ x. (refl, refl))
    of false = (refl, λ x. (refl, refl))

telling_leaves : (r : RamTst) (block : ℕ) → Leaves r (telling r block)
telling_leaves r block = of (nat_lt block (length r.results))
  where
    of : (b : Bool) → Leaves r (if b then Answers (value.Result (slice_index_or r.results block NotTested)) else Refuses refusal.Range)
    of true = (refl, λ x. (refl, refl))
    of false = (refl, λ x. (refl, refl))

pub cell_leaves : (r : RamTst) (service : Service) (s : State) → Leaves r (cell r service s)
cell_leaves r Init Uninit = (refl, λ x. (refl, refl))
cell_leaves r Init _ = (refl, λ x. (refl, refl))
cell_leaves r DeInit Uninit = (refl, λ x. (refl, refl))
cell_leaves r DeInit _ = (refl, λ x. (refl, refl))
cell_leaves r Allow Uninit = (refl, λ x. (refl, refl))
cell_leaves r Allow _ = (refl, λ x. (refl, refl))
cell_leaves r Stop Uninit = (refl, λ x. (refl, refl))
cell_leaves r Stop _ = (refl, λ x. (refl, refl))
cell_leaves r Suspend Uninit = (refl, λ x. (refl, refl))
cell_leaves r Suspend _ = (refl, λ x. (refl, refl))
cell_leaves r Resume Uninit = (refl, λ x. (refl, refl))
cell_leaves r Resume _ = (refl, λ x. (refl, refl))
cell_leaves r (SelectAlgParams set) Stopped = selecting_leaves r set
cell_leaves r (SelectAlgParams set) _ = (refl, λ x. (refl, refl))
cell_leaves r (ChangeNumberOfTestedCells cells) Stopped = changing_leaves r cells
cell_leaves r (ChangeNumberOfTestedCells cells) _ = (refl, λ x. (refl, refl))
cell_leaves r RunFullTest Uninit = (refl, λ x. (refl, refl))
cell_leaves r RunFullTest _ = (refl, λ x. (refl, refl))
cell_leaves r (RunPartialTest block) Stopped = testing_leaves r block (Partial None) Stopped
cell_leaves r (RunPartialTest block) (Suspended p) = testing_leaves r block (Partial (Some p)) (Suspended p)
cell_leaves r (RunPartialTest block) _ = (refl, λ x. (refl, refl))
cell_leaves r MainFunction Uninit = (refl, λ x. (refl, refl))
cell_leaves r MainFunction _ = (refl, λ x. (refl, refl))
cell_leaves r (GetTestResultPerBlock block) Uninit = (refl, λ x. (refl, refl))
cell_leaves r (GetTestResultPerBlock block) _ = telling_leaves r block
cell_leaves r GetTestResult Uninit = (refl, λ x. (refl, refl))
cell_leaves r GetTestResult _ = (refl, λ x. (refl, refl))
cell_leaves r GetAlgParams Uninit = (refl, λ x. (refl, refl))
cell_leaves r GetAlgParams _ = (refl, λ x. (refl, refl))
cell_leaves r GetTestAlgorithm Uninit = (refl, λ x. (refl, refl))
cell_leaves r GetTestAlgorithm _ = (refl, λ x. (refl, refl))
cell_leaves r GetNumberOfTestedCells Uninit = (refl, λ x. (refl, refl))
cell_leaves r GetNumberOfTestedCells _ = (refl, λ x. (refl, refl))
cell_leaves r GetExecutionStatus s = (refl, λ x. (refl, refl))
cell_leaves r GetVersionInfo s = (refl, λ x. (refl, refl))

pub services_leave_setting : (r : RamTst) (service : Service) → (after r service).setting ≡ r.setting
services_leave_setting r service = (cell_leaves r service r.state).0

pub handlers_leave_setting : (r : RamTst) (call : HandlerCall) → (ram_table.next r call).setting ≡ r.setting
unfolding ram_table
handlers_leave_setting r call = of (handled call)
  where
    of : (service : Option Service) → (handler_next r service).setting ≡ r.setting
    of None = refl
    of (Some service) = services_leave_setting r service
