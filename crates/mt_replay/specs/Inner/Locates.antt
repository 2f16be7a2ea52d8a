-- What the calls of the form `locate` tell.
use Rattle.std.specs.Prelude.{ℕ, ◌≡◌, ◌⊎◌, List, Option}
use Rattle.mt_port.specs.declared.board.Shape.{Shape}
use Rattle.mt_locate.specs.declared.probe.Probe.{Probe}
use Rattle.mt_locate.specs.declared.probe.Miss.{Miss}
use Rattle.mt_replay.specs.declared.locating.Stop.{Stop}
use Rattle.mt_replay.specs.declared.locating.Stop.TheVariants as stop
use Rattle.mt_replay.specs.declared.status.Status.{Status}
use Rattle.mt_replay.specs.declared.status.Status.TheVariants as status
use Rattle.mt_replay.specs.Locating.{Located}
use Rattle.mt_replay.specs.Locate.{found_text, stop_text, stop_status}
use Rattle.mt_replay.specs.Replay.{Told}

-- a slice, and what was missed there
abbrev pub located_by : Probe → List Miss → Located
located_by probe misses = record { probe = probe; misses = misses }

-- nothing was written, for want of memory
pub record HasNone (result : Status) (held held' : Option (List ℕ)) (sink sink' : ℕ) : Type 0 where
  pub none : result ≡ status.NoMemory
  pub same : held' ≡ held
  pub count : sink' ≡ sink

abbrev pub StopTold : Stop → Status → (held held' : Option (List ℕ)) → (sink sink' : ℕ) → Type 0
StopTold (stop.Ended e) result held held' sink sink' = Told result (stop_status e) (stop_text e) held held' sink sink'
StopTold stop.NoMemory result held held' sink sink' = HasNone result held held' sink sink'

abbrev pub ListTold : Shape → Located → Status → (held held' : Option (List ℕ)) → (sink sink' : ℕ) → Type 0
ListTold shape l result held held' sink sink' = Told result status.Done (found_text shape l) held held' sink sink' ⊎ HasNone result held held' sink sink'
