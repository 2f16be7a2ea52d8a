-- What the handlers' rows leave of RamTst: lemmas, which no contract cites.
use Rattle.std.proofs.Common.{ℕ, ◌≡◌, Bool, true, false, cond, length, refl, sym, ap, ◌∙◌, subst}
use Rattle.std.specs.Prelude.{nat_lt, slice_index_or, T}
use Rattle.mt_window.specs.declared.reply.Refusal.TheVariants.{Range}
use Rattle.mt_window.specs.declared.reply.Value.TheVariants.{Result}
use Rattle.mt_window.specs.declared.reply.TestResult.TheVariants.{NotTested}
use Rattle.mt_port.specs.declared.request.HandlerCall.{HandlerCall}
use Rattle.mt_port.specs.declared.request.HandlerCall.TheVariants as calls
use Rattle.mt_window.specs.Rows.{Refuses, Answers, next_in}
use Rattle.mt_window.specs.Kept.{IsKept}
use Rattle.mt_blocks.specs.Slices.{Piece}
use Rattle.mt_ram.specs.declared.state.State.{State}
use Rattle.mt_ram.specs.declared.state.State.TheVariants.{Uninit, Stopped, Running, Suspended, Full, Partial}
use Rattle.mt_ram.specs.State.{RamTst, IsRunning, IsInside}
use Rattle.mt_ram.specs.Laws.{Moves}
use Rattle.mt_ram.specs.Table.{Allow, Stop, Suspend, Resume, GetTestResult, GetTestResultPerBlock, cell, telling, ram_table}

pub Moves-refl : (a : RamTst) → Moves a a
Moves-refl a = record { still = refl; unmarked = λ h. h; running = λ h r. refl; inside = λ r. refl }

pub Moves-trans : (a b c : RamTst) → Moves a b → Moves b c → Moves a c
Moves-trans a b c p q = record {
  still = q.still ∙ ap (λ (x : RamTst). record x { state = c.state; failed = c.failed; mark = c.mark }) p.still;
  unmarked = λ h. p.unmarked (q.unmarked h);
  running = λ h r. let e = p.running (q.unmarked h) r in q.running h (subst IsRunning (sym e) r) ∙ e;
  inside = λ r. let e = p.inside r in q.inside (subst (λ (x : RamTst). IsInside x.state) (sym e) r) ∙ e;
}

allow-moves : (a : RamTst) (s : State) → a.state ≡ s → Moves a (next_in (cell a Allow s) a)
allow-moves a Uninit e = Moves-refl a
allow-moves a Stopped e = record { still = refl; unmarked = λ h. h; running = λ h r. absurd (subst IsRunning e r); inside = λ r. absurd (subst IsInside e r) }
allow-moves a (Running p) e = Moves-refl a
allow-moves a (Suspended p) e = Moves-refl a
allow-moves a Full e = Moves-refl a
allow-moves a (Partial back) e = Moves-refl a

stop-moves : (a : RamTst) (s : State) → a.state ≡ s → Moves a (next_in (cell a Stop s) a)
stop-moves a Uninit e = Moves-refl a
stop-moves a Stopped e = Moves-refl a
stop-moves a (Running p) e = record { still = refl; unmarked = λ h. absurd (subst T h tt); running = λ h r. absurd (subst T h tt); inside = λ r. absurd (subst IsInside e r) }
stop-moves a (Suspended p) e = record { still = refl; unmarked = λ h. absurd (subst T h tt); running = λ h r. absurd (subst T h tt); inside = λ r. absurd (subst IsInside e r) }
stop-moves a Full e = Moves-refl a
stop-moves a (Partial back) e = Moves-refl a

suspend-moves : (a : RamTst) (s : State) → a.state ≡ s → Moves a (next_in (cell a Suspend s) a)
suspend-moves a Uninit e = Moves-refl a
suspend-moves a Stopped e = Moves-refl a
suspend-moves a (Running p) e = record { still = refl; unmarked = λ h. absurd (subst T h tt); running = λ h r. absurd (subst T h tt); inside = λ r. absurd (subst IsInside e r) }
suspend-moves a (Suspended p) e = Moves-refl a
suspend-moves a Full e = Moves-refl a
suspend-moves a (Partial back) e = Moves-refl a

resume-moves : (a : RamTst) (s : State) → a.state ≡ s → Moves a (next_in (cell a Resume s) a)
resume-moves a Uninit e = Moves-refl a
resume-moves a Stopped e = Moves-refl a
resume-moves a (Running p) e = Moves-refl a
resume-moves a (Suspended p) e = record { still = refl; unmarked = λ h. h; running = λ h r. absurd (subst IsRunning e r); inside = λ r. absurd (subst IsInside e r) }
resume-moves a Full e = Moves-refl a
resume-moves a (Partial back) e = Moves-refl a

result-moves : (a : RamTst) (s : State) → Moves a (next_in (cell a GetTestResult s) a)
result-moves a Uninit = Moves-refl a
result-moves a Stopped = Moves-refl a
result-moves a (Running p) = Moves-refl a
result-moves a (Suspended p) = Moves-refl a
result-moves a Full = Moves-refl a
result-moves a (Partial back) = Moves-refl a

telling-still : (a : RamTst) (block : ℕ) → next_in (telling a block) a ≡ a
telling-still a block = of (nat_lt block (length a.results))
  where
    of : (b : Bool) → next_in {X = Piece} (cond b (Answers (Result (slice_index_or a.results block NotTested))) (Refuses Range)) a ≡ a
    of true = refl
    of false = refl

block-moves : (a : RamTst) (block : ℕ) (s : State) → Moves a (next_in (cell a (GetTestResultPerBlock block) s) a)
block-moves a block Uninit = Moves-refl a
block-moves a block Stopped = subst (Moves a) (sym (telling-still a block)) (Moves-refl a)
block-moves a block (Running p) = subst (Moves a) (sym (telling-still a block)) (Moves-refl a)
block-moves a block (Suspended p) = subst (Moves a) (sym (telling-still a block)) (Moves-refl a)
block-moves a block Full = subst (Moves a) (sym (telling-still a block)) (Moves-refl a)
block-moves a block (Partial back) = subst (Moves a) (sym (telling-still a block)) (Moves-refl a)

pub row-moves : (a : RamTst) (call : HandlerCall) → Moves a (ram_table.next a call)
unfolding ram_table
row-moves a calls.RamAllow = allow-moves a a.state refl
row-moves a calls.RamStop = stop-moves a a.state refl
row-moves a calls.RamSuspend = suspend-moves a a.state refl
row-moves a calls.RamResume = resume-moves a a.state refl
row-moves a calls.RamGetExecutionStatus = Moves-refl a
row-moves a calls.RamGetTestResult = result-moves a a.state
row-moves a (calls.RamGetTestResultPerBlock block) = block-moves a block a.state
row-moves a calls.FlsSuspend = Moves-refl a
row-moves a calls.FlsResume = Moves-refl a
row-moves a calls.FlsAbort = Moves-refl a
row-moves a calls.FlsGetCurrentState = Moves-refl a
row-moves a calls.FlsGetTestResultBgnd = Moves-refl a
row-moves a calls.FlsGetTestResultFgnd = Moves-refl a

pub ram_moves : IsKept ram_table Moves
ram_moves = record { none = Moves-refl; both = Moves-trans; row = row-moves }
