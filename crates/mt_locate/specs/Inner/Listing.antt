-- What is said of the parts of a list between calls.
use Rattle.std.specs.Prelude.{ℕ, ◌≡◌, ◌<◌, List, [], ◌++◌, length, Option, Some, None, Result, IfOk, OnErr}
use Rattle.mt_word.specs.declared.Width.{Width}
use Rattle.mt_word.specs.Word.{Fits, width_bits}
use Rattle.mt_fault.specs.declared.fault.Fault.{Fault}
use Rattle.mt_fault.specs.Rules.{vic_of}
use Rattle.mt_plan.specs.Plan.{steps_of}
use Rattle.mt_port.specs.declared.stream.Failed.{Failed}
use Rattle.mt_port.specs.Causes.{HasCause}
use Rattle.mt_port.specs.Gathering.{Gathers}
use Rattle.mt_port.specs.Streams.{AppendsFront}
use Rattle.mt_locate.specs.declared.probe.Probe.{Probe}
use Rattle.mt_locate.specs.declared.probe.Miss.{Miss}
use Rattle.mt_locate.specs.declared.evidence.Evidence.{Evidence}
use Rattle.mt_locate.specs.declared.evidence.Evidence.TheVariants.{NoMiss, NoRead}
use Rattle.mt_locate.specs.declared.evidence.Evidence.TheVariants as evidence
use Rattle.mt_locate.specs.declared.unseen.Unseen.{Unseen}
use Rattle.mt_locate.specs.declared.list.Syndrome.{Syndrome}
use Rattle.mt_locate.specs.Probes.{IsAcceptedProbe}
use Rattle.mt_locate.specs.Suspects.{evidence_of}
use Rattle.mt_locate.specs.Listed.{explaining, fault_lines}
use Rattle.mt_locate.specs.Inner.Lanes.{AreTables}

-- what a sink held, what waited for it, and how often it had failed, before and after
pub record Change : Type 0 where
  pub held : Option (List ℕ)
  pub held' : Option (List ℕ)
  pub waits : List ℕ
  pub waits' : List ℕ
  pub faults : ℕ
  pub faults' : ℕ

abbrev pub change : (held held' : Option (List ℕ)) (waits waits' : List ℕ) (faults faults' : ℕ) → Change
change held held' waits waits' faults faults' = record { held = held; held' = held'; waits = waits; waits' = waits'; faults = faults; faults' = faults' }

-- the lines of those of some faults that explain the misses
abbrev pub lines_of : Probe → List Miss → List Fault → List ℕ
lines_of probe misses faults = fault_lines probe.width (explaining probe misses faults)

-- Of some faults those that explain the misses are written, and their number is known.
pub record AreWritten (probe : Probe) (misses : List Miss) (faults : List Fault) (c : Change) (found : ℕ) : Type 0 where
  pub text : Gathers c.held c.held' c.waits c.waits' (lines_of probe misses faults)
  pub number : found ≡ length (explaining probe misses faults)

-- What a call answers that lists some faults.
pub record Lists (probe : Probe) (misses : List Miss) (faults : List Fault) (c : Change) (result : Result ℕ Failed) : Type 0 where
  pub ok : IfOk result (AreWritten probe misses faults c)
  pub err : OnErr result (AppendsFront c.held c.held' (c.waits ++ lines_of probe misses faults))
  pub cause : HasCause c.faults c.faults' result

-- the word that was expected is one of the width
abbrev pub ExpectedFits : Width → Evidence → Type 0
ExpectedFits width NoMiss = Unit {0}
ExpectedFits width NoRead = Unit {0}
ExpectedFits width (evidence.Read addr expected answered) = Fits width expected

-- the victim is a bit of the width
abbrev pub VictimFits : Width → Fault → Type 0
VictimFits width fault = (vic_of fault).bit < width_bits width

-- there are tables only where nothing was missed
abbrev pub MayHaveTables : Probe → List Miss → Option Unseen → Type 0
MayHaveTables probe misses None = Unit {0}
MayHaveTables probe misses (Some unseen) = (misses ≡ []) × AreTables probe unseen

-- What holds of what the functions of a list are given.
pub record IsReady (s : Syndrome) : Type 0 where
  pub accepted : IsAcceptedProbe s.probe.now
  pub steps : s.steps.now ≡ steps_of s.probe.now.alg s.probe.now.n
  pub told : s.evidence ≡ evidence_of s.probe.now s.misses.now
  pub expected : ExpectedFits s.probe.now.width s.evidence
  pub tables : MayHaveTables s.probe.now s.misses.now s.unseen
