-- What OK says: while a fault that is caught stays, its block doesn't become OK.
use Rattle.std.specs.Prelude.{ℕ, ◌≡◌, ◌≢◌, List, [], ◌∷◌, ◌++◌, All, Contains, Option, Some, slice_get}
use Rattle.mt_fault.specs.declared.fault.Fault.{Fault}
use Rattle.mt_port.specs.declared.request.HandlerCall.TheVariants as handler
use Rattle.mt_port.specs.declared.request.HandlerOp.TheVariants.{Call}
use Rattle.mt_window.specs.declared.reply.Reply.{Reply}
use Rattle.mt_window.specs.declared.reply.Reply.TheVariants.{Value}
use Rattle.mt_window.specs.declared.reply.Value.TheVariants.{Result}
use Rattle.mt_window.specs.declared.reply.TestResult.TheVariants.{Ok}
use Rattle.mt_blocks.specs.Slices.{Piece}
use Rattle.mt_ram.specs.declared.state.State.TheVariants.{Stopped}
use Rattle.mt_ram.specs.State.{RamTst, set_of}
use Rattle.mt_text.specs.declared.line.RamCall.TheVariants as call
use Rattle.mt_text.specs.declared.line.Event.TheVariants as event
use Rattle.mt_text.specs.declared.line.Line.{Line}
use Rattle.mt_text.specs.Accepted.{IsAccepted}
use Rattle.mt_conf.specs.declared.config.Config.{Config}
use Rattle.mt_conf.specs.Accepted.{IsAcceptedConfig}
use Rattle.mt_machine.specs.Machine.{Step, started, played}
use Rattle.mt_laws.specs.Alarms.{OfEach}
use Rattle.mt_laws.specs.Detection.{IsCaught, AcceptsOwn, answered}
use Rattle.mt_laws.specs.Memory.{own_replies}

-- ---- from where on

-- RamTst is about to test a block: it is STOPPED, so that no test is unfinished, and the block isn't OK. So it is after each Init and each
-- SelectAlgParams that is accepted.
pub record IsBeforeTests (block : ℕ) (r : RamTst) : Type 0 where
  pub state : r.state ≡ Stopped
  pub result : slice_get r.results block ≢ Some Ok

-- the reply that a block is OK
abbrev pub says_ok : Reply
says_ok = Value (Result Ok)

-- ---- how long

-- A line leaves the fault and the results there: it doesn't heal the memory, and no Init and no SelectAlgParams is accepted in it.
pub record LeavesThere (line : Line) (s : Step) : Type 0 where
  pub fault : line.event ≢ event.Heal
  pub init : AcceptsOwn line s call.Init → ⊥
  pub select : (set : ℕ) → AcceptsOwn line s (call.SelectAlgParams set) → ⊥

-- ---- what never comes

-- A block isn't OK after a line, and no GetTestResultPerBlock of the line or of its handlers says that it is.
pub record IsNotOk (block : ℕ) (line : Line) (s : Step) : Type 0 where
  pub result : slice_get s.after.modules.ram.results block ≢ Some Ok
  pub own : line.event ≡ event.Ram (call.GetTestResultPerBlock block) → own_replies s.entries ≡ says_ok ∷ [] → ⊥
  pub handlers : Contains (answered s) (Call (handler.RamGetTestResultPerBlock block), says_ok) → ⊥

-- From where RamTst is about to test a block, the block isn't OK as long as a fault that is caught in one of its slices stays and the results
-- aren't reset: whatever handlers do, however tests are stopped, suspended or dropped, and whichever tests are run. So a block that is OK was
-- tested, and no such fault was there all the while.
abbrev pub OkIsEvidence : Type 0
OkIsEvidence =
    (c : Config) (defect : Option Fault) (before lines : List Line) → IsAcceptedConfig c → All (IsAccepted c.shape) (before ++ lines)
    → (fault : Fault) (p : Piece) → IsCaught (set_of (played (started c defect) before).after.modules.ram) p fault
    → (played (started c defect) before).after.board.fault ≡ Some fault → IsBeforeTests p.place.block (played (started c defect) before).after.modules.ram
    → OfEach LeavesThere lines (played (played (started c defect) before).after lines).steps
    → OfEach (IsNotOk p.place.block) lines (played (played (started c defect) before).after lines).steps
