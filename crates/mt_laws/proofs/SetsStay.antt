-- What RamTst keeps from line to line: its setting, a result for each block of its set, and a number of cells that is enough for a slice.
use Rattle.std.proofs.Common.{ℕ, zero, suc, ◌≡◌, ◌≤◌, Bool, true, false, cond, List, [], ◌∷◌, length, All, Some, None, refl, sym, subst, arith}
use Rattle.std.specs.Prelude.{nat_lt, nat_le, ◌&&◌, slice_index_or}
use Rattle.std.proofs.lemmas.Bool.Decides.{nat_tests}
use Rattle.std.proofs.lemmas.List.{length-replicate}
use Rattle.std.proofs.lemmas.List.Elements.{All-head, All-tail}
use Rattle.mt_port.specs.declared.board.Shape.{Shape}
use Rattle.mt_window.specs.declared.reply.Refusal.TheVariants as refusal
use Rattle.mt_window.specs.declared.reply.Value.TheVariants as value
use Rattle.mt_window.specs.declared.reply.TestResult.TheVariants.{NotTested}
use Rattle.mt_window.specs.Rows.{Refuses, Goes, Answers, Runs, next_in}
use Rattle.mt_blocks.specs.declared.config.ParamSet.{ParamSet}
use Rattle.mt_blocks.specs.Slices.{Piece, pieces, span_at}
use Rattle.mt_blocks.specs.Accepted.{set_at, IsAcceptedSet}
use Rattle.mt_ram.specs.declared.state.State.{State}
use Rattle.mt_ram.specs.declared.state.State.TheVariants.{Uninit, Stopped, Running, Suspended, Partial}
use Rattle.mt_ram.specs.State.{Setting, RamTst, set_of, spans_in}
use Rattle.mt_ram.specs.Table.{Service, Init, DeInit, Allow, Stop, Suspend, Resume, SelectAlgParams, ChangeNumberOfTestedCells, RunFullTest, RunPartialTest, MainFunction, GetTestResultPerBlock, GetTestResult, GetAlgParams, GetTestAlgorithm, GetNumberOfTestedCells, GetExecutionStatus, GetVersionInfo, cell, in_state, after, selecting, selected, changing, testing, telling}
use Rattle.mt_laws.proofs.PassEvents.{IsTaken}

-- ---- the sets of an accepted configuration

pub set_taken : (shape : Shape) (sets : List ParamSet) (n : ℕ) → All (IsAcceptedSet shape) sets → IsTaken shape (set_at sets n)
set_taken shape [] n all = record { some = omega arith; accepted = λ h. absurd (omega (arith, h)) }
set_taken shape (set ∷ sets) zero all = let ok = All-head (IsAcceptedSet shape) set sets all in record { some = ok.atomic_some; accepted = λ h. ok }
set_taken shape (set ∷ sets) (suc n) all = set_taken shape sets n (All-tail (IsAcceptedSet shape) set sets all)

pub set_low : (shape : Shape) (sets : List ParamSet) (n : ℕ) → All (IsAcceptedSet shape) sets → (set_at sets n).atomic ≤ (set_at sets n).cells
set_low shape [] n all = omega arith
set_low shape (set ∷ sets) zero all = (All-head (IsAcceptedSet shape) set sets all).cells_low
set_low shape (set ∷ sets) (suc n) all = set_low shape sets n (All-tail (IsAcceptedSet shape) set sets all)

-- ---- the module

pub record IsSet (z : Setting) (r : RamTst) : Type 0 where
  pub setting : r.setting ≡ z
  pub results : length r.results ≡ length (set_of r).blocks
  pub low : (set_of r).atomic ≤ r.cells

abbrev AreLow : Setting → Type 0
AreLow z = (n : ℕ) → (set_at z.config.sets n).atomic ≤ (set_at z.config.sets n).cells

newly : (z : Setting) (r : RamTst) (set : ℕ) → AreLow z → IsSet z r → IsSet z (selected r set)
newly z r set low h = record {
  setting = h.setting;
  results = length-replicate (length (set_at r.setting.config.sets set).blocks) NotTested;
  low = subst (λ (s : Setting). (set_at s.config.sets set).atomic ≤ (set_at s.config.sets set).cells) (sym h.setting) (low set);
}

in_another : (z : Setting) (r : RamTst) (state : State) (failed mark : Bool) → IsSet z r → IsSet z (record r { state = state; failed = failed; mark = mark })
in_another z r state failed mark h = record { setting = h.setting; results = h.results; low = h.low }

selecting_stays : (z : Setting) (r : RamTst) (set : ℕ) → AreLow z → IsSet z r → IsSet z (next_in (selecting r set) r)
selecting_stays z r set low h = of (nat_lt set (length r.setting.config.sets))
  where
    of : (b : Bool) → IsSet z (next_in {X = Piece} (cond b (Goes (selected r set)) (Refuses refusal.Range)) r)
    of true = newly z r set low h
    of false = h

changing_stays : (z : Setting) (r : RamTst) (cells : ℕ) → IsSet z r → IsSet z (next_in (changing r cells) r)
changing_stays z r cells h = of (nat_le (set_of r).atomic cells) (nat_le cells 65536) refl
  where
    of : (a b : Bool) → nat_le (set_of r).atomic cells ≡ a → IsSet z (next_in {X = Piece} (cond (a && b) (Goes (record r { cells = cells })) (Refuses refusal.Range)) r)
    of true true e = record { setting = h.setting; results = h.results; low = grind (arith, nat_tests) }
    of true false e = h
    of false b e = h

testing_stays : (z : Setting) (r : RamTst) (block : ℕ) (inside back : State) → IsSet z r → IsSet z (next_in (testing r block inside back) r)
testing_stays z r block inside back h = of (nat_lt block (length (set_of r).blocks))
  where
    of : (b : Bool) → IsSet z (next_in (cond b (Runs (pieces (set_of r).atomic block (span_at (spans_in r) block)) (in_state inside) (in_state back)) (Refuses refusal.Range)) r)
    of true = h
    of false = h

telling_stays : (z : Setting) (r : RamTst) (block : ℕ) → IsSet z r → IsSet z (next_in (telling r block) r)
telling_stays z r block h = of (nat_lt block (length r.results))
  where
    of : (b : Bool) → IsSet z (next_in {X = Piece} (cond b (Answers (value.Result (slice_index_or r.results block NotTested))) (Refuses refusal.Range)) r)
    of true = h
    of false = h

cell_stays : (z : Setting) → AreLow z → (r : RamTst) (service : Service) (s : State) → IsSet z r → IsSet z (next_in (cell r service s) r)
cell_stays z low r Init Uninit h = in_another z (selected r 0) Stopped r.failed r.mark (newly z r 0 low h)
cell_stays z low r Init _ h = h
cell_stays z low r DeInit Uninit h = h
cell_stays z low r DeInit _ h = in_another z r Uninit false r.mark h
cell_stays z low r Allow Uninit h = h
cell_stays z low r Allow Stopped h = in_another z r _ r.failed r.mark h
cell_stays z low r Allow _ h = h
cell_stays z low r Stop Uninit h = h
cell_stays z low r Stop (Running p) h = in_another z r Stopped false true h
cell_stays z low r Stop (Suspended p) h = in_another z r Stopped false true h
cell_stays z low r Stop _ h = h
cell_stays z low r Suspend Uninit h = h
cell_stays z low r Suspend (Running p) h = in_another z r (Suspended p) r.failed true h
cell_stays z low r Suspend _ h = h
cell_stays z low r Resume Uninit h = h
cell_stays z low r Resume (Suspended p) h = in_another z r (Running p) r.failed r.mark h
cell_stays z low r Resume _ h = h
cell_stays z low r (SelectAlgParams set) Uninit h = h
cell_stays z low r (SelectAlgParams set) Stopped h = selecting_stays z r set low h
cell_stays z low r (SelectAlgParams set) _ h = h
cell_stays z low r (ChangeNumberOfTestedCells cells) Uninit h = h
cell_stays z low r (ChangeNumberOfTestedCells cells) Stopped h = changing_stays z r cells h
cell_stays z low r (ChangeNumberOfTestedCells cells) _ h = h
cell_stays z low r RunFullTest Uninit h = h
cell_stays z low r RunFullTest Stopped h = h
cell_stays z low r RunFullTest _ h = h
cell_stays z low r (RunPartialTest block) Uninit h = h
cell_stays z low r (RunPartialTest block) Stopped h = testing_stays z r block (Partial None) Stopped h
cell_stays z low r (RunPartialTest block) (Suspended p) h = testing_stays z r block (Partial (Some p)) (Suspended p) h
cell_stays z low r (RunPartialTest block) _ h = h
cell_stays z low r MainFunction Uninit h = h
cell_stays z low r MainFunction (Running p) h = h
cell_stays z low r MainFunction _ h = h
cell_stays z low r (GetTestResultPerBlock block) Uninit h = h
cell_stays z low r (GetTestResultPerBlock block) _ h = telling_stays z r block h
cell_stays z low r GetTestResult Uninit h = h
cell_stays z low r GetTestResult _ h = h
cell_stays z low r GetAlgParams Uninit h = h
cell_stays z low r GetAlgParams _ h = h
cell_stays z low r GetTestAlgorithm Uninit h = h
cell_stays z low r GetTestAlgorithm _ h = h
cell_stays z low r GetNumberOfTestedCells Uninit h = h
cell_stays z low r GetNumberOfTestedCells _ h = h
cell_stays z low r GetExecutionStatus s h = h
cell_stays z low r GetVersionInfo s h = h

-- no service takes it away
pub service_stays : (z : Setting) (shape : Shape) → All (IsAcceptedSet shape) z.config.sets → (r : RamTst) (service : Service) → IsSet z r → IsSet z (after r service)
service_stays z shape all r service h = cell_stays z (λ n. set_low shape z.config.sets n all) r service r.state h
