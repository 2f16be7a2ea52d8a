-- No service changes the setting.
use Rattle.std.specs.Prelude.{ℕ, ◌≡◌, Bool, true, false, length, refl, Option, Some, None, if◌then◌else◌, nat_lt}
use Rattle.mt_port.specs.declared.request.HandlerCall.{HandlerCall}
use Rattle.mt_window.specs.declared.reply.Refusal.TheVariants as refusal
use Rattle.mt_window.specs.Rows.{Refuses, Runs, CellKeeps}
use Rattle.mt_blocks.specs.Slices.{pieces, span_at}
use Rattle.mt_fls.specs.declared.state.Back.{Back}
use Rattle.mt_fls.specs.declared.state.Back.TheVariants as back
use Rattle.mt_fls.specs.declared.state.State.{State}
use Rattle.mt_fls.specs.declared.state.State.TheVariants as state
use Rattle.mt_fls.specs.State.{FlsTst, fgnd_spans}
use Rattle.mt_fls.specs.Table.{Service, Init, DeInit, StartFgnd, Abort, Suspend, Resume, MainFunction, GetTestResultBgnd, GetTestResultFgnd, GetErrorDetails, GetCurrentState, GetVersionInfo, FlsCell, cell, in_state, state_of, comparing, after, handled, handler_next, fls_table}

-- two modules with the same setting
abbrev pub Same : FlsTst → FlsTst → Type 0
Same a b = b.setting ≡ a.setting

abbrev Leaves : FlsTst → FlsCell → Type 0
Leaves = CellKeeps Same

comparing_leaves : (f : FlsTst) (block : ℕ) (b : Back) → Leaves f (comparing f block b)
comparing_leaves f block b = of (nat_lt block (length f.setting.config.fgnd))
  where
    of : (there : Bool)
        → Leaves f (if there then Runs (pieces f.setting.config.atomic block (span_at (fgnd_spans f) block)) (in_state (state.Foreground b)) (in_state (state_of b)) else Refuses refusal.Range)
    of true = (refl, λ x. (refl, refl))
    of false = (refl, λ x. (refl, refl))

pub cell_leaves : (f : FlsTst) (service : Service) (s : State) → Leaves f (cell f service s)
cell_leaves f Init state.Uninit = (refl, λ x. (refl, refl))
cell_leaves f Init state.Aborted = (refl, λ x. (refl, refl))
cell_leaves f Init _ = (refl, λ x. (refl, refl))
cell_leaves f DeInit state.Uninit = (refl, λ x. (refl, refl))
cell_leaves f DeInit _ = (refl, λ x. (refl, refl))
cell_leaves f (StartFgnd block) state.Init = comparing_leaves f block back.Init
cell_leaves f (StartFgnd block) (state.Running p) = comparing_leaves f block (back.Running p)
cell_leaves f (StartFgnd block) (state.Suspended p) = comparing_leaves f block (back.Suspended p)
cell_leaves f (StartFgnd block) _ = (refl, λ x. (refl, refl))
cell_leaves f Abort state.Init = (refl, λ x. (refl, refl))
cell_leaves f Abort (state.Running p) = (refl, λ x. (refl, refl))
cell_leaves f Abort (state.Suspended p) = (refl, λ x. (refl, refl))
cell_leaves f Abort _ = (refl, λ x. (refl, refl))
cell_leaves f Suspend (state.Running p) = (refl, λ x. (refl, refl))
cell_leaves f Suspend _ = (refl, λ x. (refl, refl))
cell_leaves f Resume (state.Suspended p) = (refl, λ x. (refl, refl))
cell_leaves f Resume _ = (refl, λ x. (refl, refl))
cell_leaves f MainFunction state.Init = (refl, λ x. (refl, refl))
cell_leaves f MainFunction (state.Running p) = (refl, λ x. (refl, refl))
cell_leaves f MainFunction _ = (refl, λ x. (refl, refl))
cell_leaves f GetTestResultBgnd state.Uninit = (refl, λ x. (refl, refl))
cell_leaves f GetTestResultBgnd _ = (refl, λ x. (refl, refl))
cell_leaves f GetTestResultFgnd state.Uninit = (refl, λ x. (refl, refl))
cell_leaves f GetTestResultFgnd _ = (refl, λ x. (refl, refl))
cell_leaves f GetErrorDetails state.Uninit = (refl, λ x. (refl, refl))
cell_leaves f GetErrorDetails _ = (refl, λ x. (refl, refl))
cell_leaves f GetCurrentState s = (refl, λ x. (refl, refl))
cell_leaves f GetVersionInfo _ = (refl, λ x. (refl, refl))

pub services_leave_setting : (f : FlsTst) (service : Service) → (after f service).setting ≡ f.setting
services_leave_setting f service = (cell_leaves f service f.state).0

pub handlers_leave_setting : (f : FlsTst) (call : HandlerCall) → (fls_table.next f call).setting ≡ f.setting
unfolding fls_table
handlers_leave_setting f call = of (handled call)
  where
    of : (service : Option Service) → (handler_next f service).setting ≡ f.setting
    of None = refl
    of (Some service) = services_leave_setting f service
