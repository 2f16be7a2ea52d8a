-- What running events and boundaries are known by.
use Rattle.std.specs.Prelude.{ℕ, ◌≡◌, ◌<◌, Bool, true, false, All, Contains, None}
use Rattle.mt_plan.specs.Plan.{IsAccepted, hold_of}
use Rattle.mt_port.specs.Board.{Board}
use Rattle.mt_window.specs.Serving.{Scene, serve_due, serve_left}
use Rattle.mt_window.specs.Slices.{Attempt, slices, unstopped}
use Rattle.mt_window.specs.Rows.{work_in}
use Rattle.mt_window.specs.Events.{Running as Events, entered, ran, event, event_attempts}
use Rattle.mt_window.specs.Waits.{ServesInTime, KeepsBoard, MakesShortAttempts}
use Rattle.mt_seq.specs.declared.sequence.Verdict.{Verdict}
use Rattle.mt_blocks.specs.declared.config.ParamSet.{ParamSet}
use Rattle.mt_blocks.specs.Slices.{Piece, pass}
use Rattle.mt_blocks.specs.Accepted.{block_at, spans_of}
use Rattle.mt_ram.specs.State.{RamTst, IsRam, set_of, IsRunning, IsInside}
use Rattle.mt_ram.specs.Table.{Service, MainFunction, row, after, ram_table}
use Rattle.mt_ram.specs.Event.{attempt_at, of_pass, ticking, partial_test}

-- of each partial test
abbrev pub PartialTestsServeInTime : Type 0
PartialTestsServeInTime = (block : ℕ) → ServesInTime (partial_test block)

-- the attempts of each partial test
abbrev pub PartialTestsMakeShortAttempts : Type 0
PartialTestsMakeShortAttempts = (block : ℕ) → MakesShortAttempts (partial_test block)

-- a slice of a pass over a set
abbrev pub IsSliceOf : ParamSet → Piece → Type 0
IsSliceOf set p = Contains (pass set.atomic (spans_of set.blocks)) p

-- what a running call tests are slices of a pass over the selected set, which stays selected
pub record TestsItsSet (call : Events RamTst Piece Verdict) : Type 0 where
  pub work : (r : RamTst) → All (IsSliceOf (set_of r)) (call.work r)
  pub inside : (r : RamTst) → set_of (call.inside r) ≡ set_of r

abbrev pub PartialTestsTestTheirSet : Type 0
PartialTestsTestTheirSet = (block : ℕ) → TestsItsSet (partial_test block)

-- An attempt at such a slice: the whole sequence has the accesses of the set's algorithm on the words of the slice, and of its block's policy.
pub record IsAtSlice (set : ParamSet) (a : Attempt) : Type 0 where
  pub slice : Piece
  pub inside : IsSliceOf set slice
  pub whole : a.whole ≡ hold_of set.alg (block_at set.blocks slice.place.block).policy slice.slice.n

-- the attempts of a running call are at slices of the set that is selected when it begins
abbrev pub TriesSlices : Events RamTst Piece Verdict → Type 0
TriesSlices call = (s : Scene RamTst) → All (IsAtSlice (set_of s.callee)) (event_attempts call s)

abbrev pub PartialTestsTrySlices : Type 0
PartialTestsTrySlices = (block : ℕ) → TriesSlices (partial_test block)

-- what each partial test leaves of the board
abbrev pub PartialTestsKeepTheBoard : Type 0
PartialTestsKeepTheBoard = (block : ℕ) → KeepsBoard (partial_test block)

-- on a board without a fault an attempt that is dropped leaves the words as they were
abbrev pub DroppedAttemptsLeaveWords : Type 0
DroppedAttemptsLeaveWords = (may : Bool) (r : RamTst) (p : Piece) (b : Board) → b.fault ≡ None → IsAccepted (set_of r).alg
    → (attempt_at may r p b).verdict ≡ None → (attempt_at may r p b).words ≡ b.words

-- a tick tests nothing where just after boundary 0 the module isn't RUNNING, or the mark is set
abbrev pub TicksRest : Type 0
TicksRest = (o : Scene RamTst) → (IsRunning o.callee.state → o.callee.mark ≡ true) → ran ticking o ≡ entered ticking o

-- else it makes at least one access, where the module's set is an accepted one
abbrev pub TicksTest : Type 0
TicksTest = (o : Scene RamTst) → IsRam o.callee → IsRunning o.callee.state → o.callee.mark ≡ false → o.board.count < (ran ticking o).scene.board.count

-- and it ends its group early only where the mark is set
abbrev pub TicksEndTheirGroup : Type 0
TicksEndTheirGroup = (o : Scene RamTst) → (ran ticking o).scene.callee.mark ≡ false
    → ran ticking o ≡ slices (unstopped of_pass) (work_in (row o.callee MainFunction)) (entered ticking o)

-- What handlers' calls leave of RamTst. Setting, selected set, number of cells and results stay. Where no Stop and no
-- Suspend was accepted, a running pass goes on where it stood. Inside a full or partial test nothing changes.
pub record Moves (a b : RamTst) : Type 0 where
  pub still : b ≡ record a { state = b.state; failed = b.failed; mark = b.mark }
  pub unmarked : b.mark ≡ false → a.mark ≡ false
  pub running : b.mark ≡ false → IsRunning a.state → b.state ≡ a.state
  pub inside : IsInside a.state → b ≡ a

-- that is what a boundary leaves, and the serving of the requests left
abbrev pub BoundariesMove : Type 0
BoundariesMove = (s : Scene RamTst) → Moves s.callee ((serve_due ram_table s).callee)

abbrev pub RequestsLeftMove : Type 0
RequestsLeftMove = (s : Scene RamTst) → Moves s.callee ((serve_left ram_table s).callee)

-- no service changes the setting, and no running event
abbrev pub ServicesLeaveSetting : Type 0
ServicesLeaveSetting = (r : RamTst) (service : Service) → (after r service).setting ≡ r.setting

abbrev pub LeavesSetting : Events RamTst Piece Verdict → Type 0
LeavesSetting call = (s : Scene RamTst) → ((event call s).after.callee).setting ≡ s.callee.setting

abbrev pub PartialTestsLeaveSetting : Type 0
PartialTestsLeaveSetting = (block : ℕ) → LeavesSetting (partial_test block)
