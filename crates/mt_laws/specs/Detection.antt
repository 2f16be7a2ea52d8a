-- Detection: a pass that runs undisturbed over a fault that its algorithm catches makes the fault's block NOT_OK.
use Rattle.std.specs.Prelude.{ℕ, ◌+◌, ◌-◌, ◌≡◌, ◌≢◌, ◌≤◌, List, [], ◌∷◌, ◌++◌, length, zip, All, Contains, Option, Some, nat_lt, if◌then◌else◌, slice_get}
use Rattle.mt_port.specs.declared.request.HandlerCall.{HandlerCall}
use Rattle.mt_port.specs.declared.request.HandlerCall.TheVariants as handler
use Rattle.mt_port.specs.declared.request.HandlerOp.{HandlerOp}
use Rattle.mt_port.specs.declared.request.HandlerOp.TheVariants.{Call}
use Rattle.mt_fault.specs.declared.fault.Fault.{Fault}
use Rattle.mt_fault.specs.Placement.{IsInside}
use Rattle.mt_cover.specs.Coverage.{IsTabled, class_of}
use Rattle.mt_window.specs.declared.reply.Reply.{Reply}
use Rattle.mt_window.specs.declared.reply.Reply.TheVariants.{Done, Ran}
use Rattle.mt_window.specs.declared.reply.TestResult.TheVariants.{NotOk}
use Rattle.mt_blocks.specs.declared.config.ParamSet.{ParamSet}
use Rattle.mt_blocks.specs.Accepted.{spans_of}
use Rattle.mt_blocks.specs.Slices.{Piece, pass, start}
use Rattle.mt_blocks.specs.Groups.{ticks}
use Rattle.mt_ram.specs.declared.state.State.TheVariants.{Running}
use Rattle.mt_ram.specs.State.{RamTst, set_of}
use Rattle.mt_text.specs.declared.line.RamCall.{RamCall}
use Rattle.mt_text.specs.declared.line.RamCall.TheVariants as call
use Rattle.mt_text.specs.declared.line.Event.{Event}
use Rattle.mt_text.specs.declared.line.Event.TheVariants as event
use Rattle.mt_text.specs.declared.line.Line.{Line}
use Rattle.mt_conf.specs.declared.config.Config.{Config}
use Rattle.mt_conf.specs.Accepted.{IsAcceptedConfig}
use Rattle.mt_text.specs.Accepted.{IsAccepted}
use Rattle.mt_machine.specs.Machine.{Machine, Step, started, played}
use Rattle.mt_laws.specs.Memory.{handled, inner_replies, own_replies}

-- ---- a fault inside one slice

-- A slice of a pass over a set, and a fault inside it of a class that the coverage table names for the set's algorithm.
pub record IsCaught (set : ParamSet) (p : Piece) (fault : Fault) : Type 0 where
  pub slice : Contains (pass set.atomic (spans_of set.blocks)) p
  pub inside : IsInside fault p.slice.first p.slice.n
  pub tabled : IsTabled set.alg (class_of fault)

-- ---- what is accepted in a line

-- what the handlers of a line do, each with its reply
abbrev pub answered : Step → List (HandlerOp × Reply)
answered s = zip (handled s.requests) (inner_replies s.entries)

-- a call of a handler is accepted
abbrev pub AcceptsInHandler : Step → HandlerCall → Type 0
AcceptsInHandler s c = Contains (answered s) (Call c, Done)

-- the line's own call is accepted
abbrev pub AcceptsOwn : Line → Step → RamCall → Type 0
AcceptsOwn line s c = (line.event ≡ event.Ram c) × (own_replies s.entries ≡ Done ∷ [])

-- ---- an undisturbed pass

-- A line that leaves a pass undisturbed: it doesn't heal the memory, no Stop and no DeInit is accepted in it, and where it is a tick of RamTst no
-- Suspend.
pub record IsUndisturbing (line : Line) (s : Step) : Type 0 where
  pub kept : line.event ≢ event.Heal
  pub stop : AcceptsOwn line s call.Stop → ⊥
  pub de_init : AcceptsOwn line s call.DeInit → ⊥
  pub stop_in_handler : AcceptsInHandler s handler.RamStop → ⊥
  pub suspend_in_tick : line.event ≡ event.TickRam → AcceptsInHandler s handler.RamSuspend → ⊥

abbrev pub AreUndisturbing : List Line → List Step → Type 0
AreUndisturbing [] [] = Unit {0}
AreUndisturbing (line ∷ lines) (s ∷ steps) = IsUndisturbing line s × AreUndisturbing lines steps
AreUndisturbing lines steps = ⊥

-- a tick of RamTst that tests something counts
abbrev pub counts : Event → List Reply → ℕ
counts event.TickRam (Ran accesses ∷ []) = if nat_lt 0 accesses then 1 else 0
counts other replies = 0

abbrev pub counted : List Line → List Step → ℕ
counted (line ∷ lines) (s ∷ steps) = counts line.event (own_replies s.entries) + counted lines steps
counted lines steps = 0

-- how many ticks a pass takes
abbrev pub ticks_of : RamTst → ℕ
ticks_of r = ticks r.cells (pass (set_of r).atomic (spans_of (set_of r).blocks))

-- Some lines hold an undisturbed pass under a fault: RamTst is RUNNING at the pass's start, the fault is there, no line disturbs the pass,
-- and at least as many ticks test something as the pass takes.
pub record IsUndisturbedPass (fault : Fault) (m : Machine) (lines : List Line) : Type 0 where
  pub begins : m.modules.ram.state ≡ Running start
  pub there : m.board.fault ≡ Some fault
  pub undisturbed : AreUndisturbing lines (played m lines).steps
  pub whole : ticks_of m.modules.ram ≤ counted lines (played m lines).steps

-- Behind so many steps the block of RamTst with a number is NOT_OK.
pub record IsNotOkBehind (steps : List Step) (count block : ℕ) : Type 0 where
  pub step : Step
  pub last : slice_get steps (count - 1) ≡ Some step
  pub result : slice_get step.after.modules.ram.results block ≡ Some NotOk

-- Among accepted lines, each undisturbed pass under a fault that is caught makes the block of its slice NOT_OK.
abbrev pub PassesFindFaults : Type 0
PassesFindFaults =
    (c : Config) (defect : Option Fault) (before lines behind : List Line) → IsAcceptedConfig c → All (IsAccepted c.shape) (before ++ lines ++ behind)
    → (fault : Fault) (p : Piece) → IsCaught (set_of (played (started c defect) before).after.modules.ram) p fault
    → IsUndisturbedPass fault (played (started c defect) before).after lines
    → IsNotOkBehind (played (started c defect) (before ++ lines ++ behind)).steps (length (before ++ lines)) p.place.block
