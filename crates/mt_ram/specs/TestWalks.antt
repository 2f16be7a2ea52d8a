-- The walk of a full or partial test.
use Rattle.std.specs.Prelude.{ℕ, ◌≡◌, ◌≤◌, ◌*◌, Bool, true, false, List, Option, Some, None, Result, Ok, Err}
use Rattle.std.proofs.Common.{sym, ap, subst}
use Rattle.mt_port.specs.declared.request.HandlerCall.{HandlerCall}
use Rattle.mt_port.specs.Board.{IsWithinLimits}
use Rattle.mt_window.specs.declared.reply.Refusal.{Refusal}
use Rattle.mt_window.specs.Events.{Running as Events}
use Rattle.mt_window.specs.Rows.{Refuses, Runs, work_in, inside_of}
use Rattle.mt_seq.specs.declared.sequence.Verdict.{Verdict}
use Rattle.mt_blocks.specs.declared.config.ParamSet.{ParamSet}
use Rattle.mt_blocks.specs.declared.pass.Position.{Position}
use Rattle.mt_blocks.specs.Slices.{Piece, IsValid, pass, test_rest}
use Rattle.mt_blocks.specs.Laws.{word_count}
use Rattle.mt_blocks.specs.Accepted.{IsAcceptedSet}
use Rattle.mt_ram.specs.declared.running.Decision.TheVariants.{Refuse, Run}
use Rattle.mt_ram.specs.declared.test_walk.Test.{Test}
use Rattle.mt_ram.specs.declared.test_walk.Test.TheVariants as tests
use Rattle.mt_ram.specs.declared.test_walk.TestWalk.{TestWalk}
use Rattle.mt_ram.specs.declared.state.State.{State}
use Rattle.mt_ram.specs.declared.state.State.TheVariants.{Stopped, Suspended, Full, Partial}
use Rattle.mt_ram.specs.State.{RamTst, IsPlace, IsFailureOfPass, IsInside, set_of, spans_in}
use Rattle.mt_ram.specs.Table.{Service, RunFullTest, RunPartialTest, RamCell, row, in_state, testing, ram_table}
use Rattle.mt_ram.specs.Event.{of_test, running}
use Rattle.mt_ram.specs.Moves.{row-moves}
use Rattle.mt_ram.specs.Walks.{IsBy}

-- the service of a test, and its running call
abbrev pub service_of : Test → Service
service_of tests.Full = RunFullTest
service_of (tests.Block block) = RunPartialTest block

abbrev pub test_of : Test → Events RamTst Piece Verdict
test_of name = running of_test (service_of name)

-- whether it goes on after a block
abbrev pub is_whole : Test → Bool
is_whole tests.Full = true
is_whole (tests.Block block) = false

-- the slices that are left
abbrev pub left_in_test : TestWalk → RamTst → List Piece
left_in_test w r = test_rest (is_whole w.name) (set_of r).atomic (spans_in r) w.next

-- a module inside a test that can go back to a state
pub record CanGoBack (r : RamTst) (s : State) : Type 0 where
  pub inside : IsInside r.state
  pub place : IsPlace (set_of r) s
  pub failure : IsFailureOfPass s r.failed

-- a walk of that module, whose configuration is accepted
pub record IsTestWalk (w : TestWalk) (r : RamTst) : Type 0 where
  pub limits : IsWithinLimits r.setting.shape
  pub accepted : IsAcceptedSet r.setting.shape (set_of r)
  pub valid : (p : Position) → w.next ≡ Some p → IsValid (set_of r).atomic (spans_in r) p
  pub back : (s : State) → w.entered.back ≡ Some s → CanGoBack r s

-- the cell of a full test that is refused or not, and of a partial one that may interrupt a suspended pass
abbrev pub full_cell : RamTst → Option Refusal → RamCell
full_cell r None = Runs (pass (set_of r).atomic (spans_in r)) (in_state Full) (in_state Stopped)
full_cell r (Some why) = Refuses why

abbrev pub state_behind : Option Position → State
state_behind None = Stopped
state_behind (Some p) = Suspended p

abbrev pub block_cell : RamTst → ℕ → Result (Option Position) Refusal → RamCell
block_cell r block (Err why) = Refuses why
block_cell r block (Ok back) = testing r block (Partial back) (state_behind back)

abbrev pub IsWay : ParamSet → Result (Option Position) Refusal → Type 0
IsWay set (Err why) = Unit {0}
IsWay set (Ok back) = IsPlace set (Partial back)

abbrev pub IsFailureOfWay : Result (Option Position) Refusal → Bool → Type 0
IsFailureOfWay (Err why) failed = Unit {0}
IsFailureOfWay (Ok back) failed = IsFailureOfPass (Partial back) failed

-- a test that is refused, and one that begins
abbrev pub refused_walk : Test → Refusal → TestWalk
refused_walk name why = record { name = name; next = None; failed = false; entered = record { decision = Refuse why; back = None } }

abbrev pub begun_walk : Test → Position → State → TestWalk
begun_walk name from back = record { name = name; next = Some from; failed = false; entered = record { decision = Run; back = Some back } }

-- what holds when a test begins
pub record Enters (name : Test) (r z : RamTst) (w : TestWalk) : Type 0 where
  pub callee : z ≡ inside_of (row r (service_of name)) r
  pub setting : z.setting ≡ r.setting
  pub named : w.name ≡ name
  pub fits : IsTestWalk w z
  pub left : left_in_test w z ≡ work_in (row r (service_of name))
  pub failed : w.failed ≡ false
  pub few : word_count (left_in_test w z) ≤ 65536 * 64
  pub by : IsBy (service_of name) w.entered r

-- no call of a handler leads off it
pub test_handled : (w : TestWalk) (r : RamTst) (call : HandlerCall) → IsTestWalk w r → IsTestWalk w (ram_table.next r call)
test_handled w r call f =
    let m = row-moves r call in
    let z = ram_table.next r call in
    let moved : z ≡ record r { state = z.state; failed = z.failed; mark = z.mark } = m.still in
    record {
      limits = subst (λ (x : RamTst). IsWithinLimits x.setting.shape) (sym moved) f.limits;
      accepted = subst (λ (x : RamTst). IsAcceptedSet x.setting.shape (set_of x)) (sym moved) f.accepted;
      valid = λ p e. subst (λ (x : RamTst). IsValid (set_of x).atomic (spans_in x) p) (sym moved) (f.valid p e);
      back = λ s e. let h = f.back s e in subst (λ (x : RamTst). CanGoBack x s) (sym (m.inside h.inside)) h;
    }

pub test_handled_left : (w : TestWalk) (r : RamTst) (call : HandlerCall) → left_in_test w (ram_table.next r call) ≡ left_in_test w r
test_handled_left w r call = ap (λ (x : RamTst). test_rest (is_whole w.name) (set_of x).atomic (spans_in x) w.next) (row-moves r call).still
