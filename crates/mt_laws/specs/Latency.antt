-- How long the requests of a replay wait.
use Rattle.std.specs.Prelude.{ℕ, ◌≡◌, ◌≤◌, Bool, true, false, is_some, List, All, Option}
use Rattle.mt_fault.specs.declared.fault.Fault.{Fault}
use Rattle.mt_port.specs.declared.board.Shape.{Shape}
use Rattle.mt_blocks.specs.declared.config.ParamSet.{ParamSet}
use Rattle.mt_cut.specs.Atomic.{IsLargest}
use Rattle.mt_ram.specs.State.{set_of}
use Rattle.mt_text.specs.declared.line.Event.{Event}
use Rattle.mt_text.specs.declared.line.Event.TheVariants as event
use Rattle.mt_text.specs.declared.line.Line.{Line}
use Rattle.mt_text.specs.Accepted.{IsAccepted}
use Rattle.mt_window.specs.declared.log.Entry.{Entry}
use Rattle.mt_window.specs.declared.log.Entry.TheVariants.{Served, Inner, Own}
use Rattle.mt_window.specs.Waits.{services, line_served, IsShort, IsUrgentlyServed}
use Rattle.mt_conf.specs.declared.config.Config.{Config}
use Rattle.mt_machine.specs.Machine.{Machine, Step, running_call, step, started, played}
use Rattle.mt_laws.specs.Alarms.{OfEach}

-- How the requests of a step are served.
pub record ServesInTime (s : Step) : Type 0 where
  -- each at the first boundary that its offset doesn't exceed, or else with no wait at the event's end
  pub places : services s.entries ≡ line_served s.attempts s.count 1 s.requests
  -- each waits 0, or less than the length of the attempt that it meets
  pub short : All (IsShort s.attempts) s.entries
  -- an urgent one that meets an attempt which might be dropped waits at most the words that this writes back
  pub urgent : All (IsUrgentlyServed s.attempts) s.requests

-- Whatever lines are accepted, each step that a machine makes of them serves its requests in time.
abbrev pub RequestsAreServedInTime : Type 0
RequestsAreServedInTime = (shape : Shape) (m : Machine) (lines : List Line) → All (IsAccepted shape) lines → All ServesInTime (played m lines).steps

-- ---- the greatest slice for a wait

-- a set whose slices have at most as many words as the greatest slice for a wait
pub record IsCutFor (wait : ℕ) (set : ParamSet) : Type 0 where
  pub words : ℕ
  pub largest : IsLargest set wait words
  pub atomic : set.atomic ≤ words

-- a line that runs RamTst: a tick, or a full or partial test
abbrev pub runs_ram : Event → Bool
runs_ram event.TickRam = true
runs_ram (event.Ram call) = is_some (running_call call)
runs_ram other = false

-- an entry whose request, if it is that of one, waited at most so long
abbrev pub WaitsUpTo : ℕ → Entry → Type 0
WaitsUpTo most (Served number place wait) = wait ≤ most
WaitsUpTo most (Inner reply) = Unit {0}
WaitsUpTo most (Own reply) = Unit {0}

-- Where the set that is selected before a line is cut for a wait, and the line runs RamTst, each of its requests waits at most so long,
-- urgent or not.
abbrev pub LinesWaitUpTo : Type 0
LinesWaitUpTo =
    (shape : Shape) (m : Machine) (line : Line) (wait : ℕ) → IsAccepted shape line → runs_ram line.event ≡ true → IsCutFor wait (set_of m.modules.ram)
    → All (WaitsUpTo wait) (step m line).entries

-- So where each set of RamTst is cut for the wait, each request of a script that comes in such a line waits at most so long.
abbrev pub ScriptsWaitUpTo : Type 0
ScriptsWaitUpTo =
    (c : Config) (defect : Option Fault) (lines : List Line) (wait : ℕ) → All (IsAccepted c.shape) lines → All (IsCutFor wait) c.ram_tst.sets
    → OfEach (λ line s. runs_ram line.event ≡ true → All (WaitsUpTo wait) s.entries) lines (played (started c defect) lines).steps
