-- RamTst is initialized by the first line of a generated script, and stays so.
use Rattle.std.proofs.Common.{◌≡◌, Bool, true, false, cond, ℕ, List, [], ◌∷◌, length, All, Option, refl, sym, subst}
use Rattle.std.specs.Prelude.{nat_lt, slice_index_or}
use Rattle.std.proofs.lemmas.List.Elements.{All-head, All-tail, All-append, All-weaker, All-from_recursion}
use Rattle.mt_port.specs.declared.request.HandlerCall.{HandlerCall}
use Rattle.mt_port.specs.declared.request.HandlerCall.TheVariants as calls
use Rattle.mt_fault.specs.declared.fault.Fault.{Fault}
use Rattle.mt_text.specs.declared.line.Line.{Line}
use Rattle.mt_text.specs.declared.line.Event.TheVariants as event
use Rattle.mt_text.specs.declared.line.RamCall.TheVariants as ram_calls
use Rattle.mt_text.specs.declared.line.FlsCall.TheVariants as fls_calls
use Rattle.mt_text.specs.Lines.{line as line_with}
use Rattle.mt_window.specs.declared.reply.Refusal.TheVariants as refusal
use Rattle.mt_window.specs.declared.reply.Value.TheVariants as value
use Rattle.mt_window.specs.declared.reply.Reply.TheVariants as reply
use Rattle.mt_window.specs.declared.reply.TestResult.TheVariants.{NotTested}
use Rattle.mt_window.specs.Rows.{Answers, Refuses, CellKeeps, next_in, reply_in}
use Rattle.mt_window.specs.Kept.{IsKept, row-keeps}
use Rattle.mt_window.specs.Serving.{Scene}
use Rattle.mt_window.specs.Events.{event as event_of}
use Rattle.mt_ram.specs.declared.state.State.{State}
use Rattle.mt_ram.specs.declared.state.State.TheVariants.{Uninit, Stopped, Running, Suspended, Full, Partial}
use Rattle.mt_ram.specs.State.{RamTst}
use Rattle.mt_ram.specs.Results.{overall}
use Rattle.mt_ram.specs.Table.{Init, Allow, Stop, Suspend, Resume, GetTestResult, GetTestResultPerBlock, MainFunction, RamCell, initialised, cell, row, reply_to, telling, ram_table}
use Rattle.mt_ram.specs.Event.{of_pass, ticking}
use Rattle.mt_gen.specs.Config.{job_config}
use Rattle.mt_gen.specs.Script.{ram_tick, first_lines, lines_behind, script}
use Rattle.mt_gen.specs.Inner.Forms.{IsOfAForm, RamTick, FlsTick, Writes, Reads, Copies, Asks, LinesAreOfForms}
use Rattle.mt_machine.specs.Machine.{Machine, begun, step, started, played}

-- the module is initialized
abbrev pub IsUp : RamTst → Type 0
IsUp r = r.state ≡ Uninit → ⊥

abbrev StaysUp : RamTst → RamTst → Type 0
StaysUp a b = IsUp a → IsUp b

-- ---- services

init-up : (r : RamTst) (s : State) → StaysUp r (next_in (cell r Init s) r)
init-up r Uninit = λ h e. cc
init-up r Stopped = λ h. h
init-up r (Running p) = λ h. h
init-up r (Suspended p) = λ h. h
init-up r Full = λ h. h
init-up r (Partial back) = λ h. h

allow-up : (r : RamTst) (s : State) → StaysUp r (next_in (cell r Allow s) r)
allow-up r Uninit = λ h. h
allow-up r Stopped = λ h e. cc
allow-up r (Running p) = λ h. h
allow-up r (Suspended p) = λ h. h
allow-up r Full = λ h. h
allow-up r (Partial back) = λ h. h

stop-up : (r : RamTst) (s : State) → StaysUp r (next_in (cell r Stop s) r)
stop-up r Uninit = λ h. h
stop-up r Stopped = λ h. h
stop-up r (Running p) = λ h e. cc
stop-up r (Suspended p) = λ h e. cc
stop-up r Full = λ h. h
stop-up r (Partial back) = λ h. h

suspend-up : (r : RamTst) (s : State) → StaysUp r (next_in (cell r Suspend s) r)
suspend-up r Uninit = λ h. h
suspend-up r Stopped = λ h. h
suspend-up r (Running p) = λ h e. cc
suspend-up r (Suspended p) = λ h. h
suspend-up r Full = λ h. h
suspend-up r (Partial back) = λ h. h

resume-up : (r : RamTst) (s : State) → StaysUp r (next_in (cell r Resume s) r)
resume-up r Uninit = λ h. h
resume-up r Stopped = λ h. h
resume-up r (Running p) = λ h. h
resume-up r (Suspended p) = λ h e. cc
resume-up r Full = λ h. h
resume-up r (Partial back) = λ h. h

result-up : (r : RamTst) (s : State) → StaysUp r (next_in (cell r GetTestResult s) r)
result-up r Uninit = λ h. h
result-up r Stopped = λ h. h
result-up r (Running p) = λ h. h
result-up r (Suspended p) = λ h. h
result-up r Full = λ h. h
result-up r (Partial back) = λ h. h

telling-up : (r : RamTst) (block : ℕ) → StaysUp r (next_in (telling r block) r)
telling-up r block = of (nat_lt block (length r.results))
  where
    of : (b : Bool) → StaysUp r (next_in (let c : RamCell = cond b (Answers (value.Result (slice_index_or r.results block NotTested))) (Refuses refusal.Range) in c) r)
    of true = λ h. h
    of false = λ h. h

block-up : (r : RamTst) (block : ℕ) (s : State) → StaysUp r (next_in (cell r (GetTestResultPerBlock block) s) r)
block-up r block Uninit = λ h. h
block-up r block Stopped = telling-up r block
block-up r block (Running p) = telling-up r block
block-up r block (Suspended p) = telling-up r block
block-up r block Full = telling-up r block
block-up r block (Partial back) = telling-up r block

-- no handler takes it down
handlers-up : (r : RamTst) (call : HandlerCall) → StaysUp r (ram_table.next r call)
unfolding ram_table
handlers-up r calls.RamAllow = allow-up r r.state
handlers-up r calls.RamStop = stop-up r r.state
handlers-up r calls.RamSuspend = suspend-up r r.state
handlers-up r calls.RamResume = resume-up r r.state
handlers-up r calls.RamGetExecutionStatus = λ h. h
handlers-up r calls.RamGetTestResult = result-up r r.state
handlers-up r (calls.RamGetTestResultPerBlock block) = block-up r block r.state
handlers-up r calls.FlsSuspend = λ h. h
handlers-up r calls.FlsResume = λ h. h
handlers-up r calls.FlsAbort = λ h. h
handlers-up r calls.FlsGetCurrentState = λ h. h
handlers-up r calls.FlsGetTestResultBgnd = λ h. h
handlers-up r calls.FlsGetTestResultFgnd = λ h. h

-- ---- ticks

kept : IsKept ram_table StaysUp
kept = record { none = λ r h. h; both = λ a b c p q h. q (p h); row = handlers-up }

tick-cell : (r : RamTst) (s : State) → CellKeeps StaysUp r (cell r MainFunction s)
tick-cell r Uninit = (λ h. h, λ x. (λ h. h, λ h. h))
tick-cell r Stopped = (λ h. h, λ x. (λ h. h, λ h. h))
tick-cell r (Running p) = (λ h. h, λ x. (λ h. h, λ h. h))
tick-cell r (Suspended p) = (λ h. h, λ x. (λ h. h, λ h. h))
tick-cell r Full = (λ h. h, λ x. (λ h. h, λ h. h))
tick-cell r (Partial back) = (λ h. h, λ x. (λ h. h, λ h. h))

tick-up : (s : Scene RamTst) → StaysUp s.callee ((event_of ticking s).after.callee)
tick-up = row-keeps (λ (r : RamTst). record r { mark = false }) (λ (r : RamTst). row r MainFunction) of_pass StaysUp kept (λ r p v failed h e. cc) (λ r h. h) (λ r. tick-cell r r.state)

-- ---- lines

abbrev KeepsUp : Line → Type 0
KeepsUp line = (m : Machine) → StaysUp m.modules.ram ((step m line).after.modules.ram)

keeps_form : (line : Line) → IsOfAForm line → KeepsUp line
unfolding step
keeps_form line (RamTick offset addr word o a w is) = subst KeepsUp (sym is) (λ m. tick-up (begun m.board m.modules.ram ((ram_tick offset addr word).requests.items)))
keeps_form line (FlsTick offset addr o a is) = subst KeepsUp (sym is) (λ m h. h)
keeps_form line (Writes addr word a w is) = subst KeepsUp (sym is) (λ m h. h)
keeps_form line (Reads addr a is) = subst KeepsUp (sym is) (λ m h. h)
keeps_form line (Copies src dst s d is) = subst KeepsUp (sym is) (λ m h. h)
keeps_form line (Asks is) = subst KeepsUp (sym is) (λ m. result-up m.modules.ram m.modules.ram.state)

keeps_first : All KeepsUp first_lines
unfolding step
keeps_first = All-from_recursion KeepsUp first_lines (λ m. init-up m.modules.ram m.modules.ram.state, (λ m h. h, (λ m. allow-up m.modules.ram m.modules.ram.state, tt)))

played-up : (m : Machine) (lines : List Line) → All KeepsUp lines → StaysUp m.modules.ram ((played m lines).after.modules.ram)
played-up m [] all h = h
played-up m (line ∷ more) all h = played-up (step m line).after more (All-tail KeepsUp line more all) (All-head KeepsUp line more all m h)

begins-up : (r : RamTst) → IsUp (initialised r)
begins-up r e = cc

pub script_up : LinesAreOfForms → (number : ℕ) (defect : Option Fault) → IsUp ((played (started job_config defect) (script number)).after.modules.ram)
unfolding script step
script_up forms number defect =
    let first = line_with (event.Ram ram_calls.Init) [] in
    let drawn = lines_behind 19997 number in
    let more : List Line = line_with (event.Fls fls_calls.Init) [] ∷ line_with (event.Ram ram_calls.Allow) [] ∷ drawn in
    let all = All-append KeepsUp first_lines drawn keeps_first (All-weaker IsOfAForm KeepsUp keeps_form drawn (forms 19997 number)) in
    played-up (step (started job_config defect) first).after more
    (All-tail KeepsUp first more all) (begins-up (started job_config defect).modules.ram)

-- ---- what it tells

result-told : (r : RamTst) (s : State) → (s ≡ Uninit → ⊥) → reply_in (cell r GetTestResult s) 0 ≡ reply.Value (value.Result (overall r.results))
result-told r Uninit up = absurd (up refl)
result-told r Stopped up = refl
result-told r (Running p) up = refl
result-told r (Suspended p) up = refl
result-told r Full up = refl
result-told r (Partial back) up = refl

pub told_result : (r : RamTst) → IsUp r → reply_to r GetTestResult ≡ reply.Value (value.Result (overall r.results))
told_result r up = result-told r r.state up
