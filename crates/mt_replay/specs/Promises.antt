-- What is promised of each replay, whatever bytes a job has.
use Rattle.std.specs.Prelude.{ℕ, ◌≡◌, ◌≤◌, List, ◌++◌, length, take, drop, All, Option, Some, None, Ok}
use Rattle.mt_fault.specs.declared.fault.Fault.{Fault}
use Rattle.mt_blocks.specs.Slices.{Piece}
use Rattle.mt_ram.specs.State.{set_of}
use Rattle.mt_text.specs.declared.line.Line.{Line}
use Rattle.mt_conf.specs.declared.config.Config.{Config}
use Rattle.mt_conf.specs.Outcome.{outcome as config_of}
use Rattle.mt_gen.specs.Config.{job_config}
use Rattle.mt_gen.specs.Script.{script as generated}
use Rattle.mt_machine.specs.Machine.{Machine, Step, started, played, played_by}
use Rattle.mt_laws.specs.Alarms.{AgreesWithCopies, IsFlsCalm, IsRamCalm, OfEach}
use Rattle.mt_laws.specs.Latency.{ServesInTime}
use Rattle.mt_laws.specs.Plain.{InjectsNothing, plain_step}
use Rattle.mt_laws.specs.Memory.{ArePlain}
use Rattle.mt_laws.specs.Detection.{IsCaught, IsUndisturbedPass, IsNotOkBehind}
use Rattle.mt_laws.specs.Evidence.{IsBeforeTests, IsNotOk, LeavesThere}
use Rattle.mt_replay.specs.declared.form.Ask.{Ask}
use Rattle.mt_replay.specs.declared.form.Form.{Form}
use Rattle.mt_replay.specs.declared.form.Form.TheVariants as forms
use Rattle.mt_replay.specs.Input.{Ending, Cut, Parted, job_of}
use Rattle.mt_replay.specs.Script.{Script, script_from}
use Rattle.mt_replay.specs.Outcome.{outcome, scripted, steps_text, end_text}
use Rattle.mt_replay.specs.Soak.{soaked}
use Rattle.mt_replay.specs.Ticks.{TicksAreLeast}
use Rattle.mt_replay.specs.Verify.{claimed, verifying}

-- the text of a replay is that of its steps, line by line, and then one line on how it ended
abbrev pub TracesAreOfSteps : Type 0
TracesAreOfSteps = (config : Config) (m : Machine) (script : Script)
    → (scripted forms.Run config m script).text ≡ steps_text config.shape 1 (scripted forms.Run config m script).steps ++ end_text forms.Run config script.end

-- Bytes are a job: the text of a configuration that is accepted, a separator, and a script.
pub record IsJob (ending : Ending) (bytes : List ℕ) (c : Config) (script : Cut) : Type 0 where
  pub text : List ℕ
  pub parts : job_of ending bytes ≡ Parted text script
  pub accepted : config_of text ≡ Ok c
  pub short : length text ≤ 65536

-- the lines of its script that are taken
abbrev pub lines_of : Config → Ending → Cut → List Line
lines_of c ending script = (script_from c.shape ending 1 script).lines

-- Each step of a replay serves its requests in time: of a job that is run or verified, and of a generated job.
pub record AreServedInTime (defect : Option Fault) : Type 0 where
  pub jobs : (form : Form) (ending : Ending) (bytes : List ℕ) → All ServesInTime (outcome form ending defect bytes).steps
  pub verified : (ending : Ending) (bytes : List ℕ) → All ServesInTime (verifying defect ending bytes).steps
  pub generated : (number : ℕ) → All ServesInTime (soaked number defect).steps

-- ---- what is replayed

-- Lines are replayed under a configuration, in these steps: those of a job that is run, of a job that is verified, or of a generated job.
pub data IsReplay (defect : Option Fault) (c : Config) (lines : List Line) (steps : List Step) : Type 0 where
  Runs : (ending : Ending) (bytes : List ℕ) (script : Cut) → IsJob ending bytes c script → lines ≡ lines_of c ending script
      → steps ≡ (outcome forms.Run ending defect bytes).steps → IsReplay defect c lines steps
  Verifies : (ending : Ending) (bytes given : List ℕ) (script : Cut) → IsJob ending bytes c script → claimed c.shape ending script ≡ Ok (record { lines = lines; given = given })
      → steps ≡ (verifying defect ending bytes).steps → IsReplay defect c lines steps
  Generates : (number : ℕ) → c ≡ job_config → lines ≡ generated number → steps ≡ (soaked number defect).steps → IsReplay defect c lines steps

-- the board has no fault at the start, and no line injects one
pub record IsSoundReplay (defect : Option Fault) (c : Config) (lines : List Line) : Type 0 where
  pub start : (started c defect).board.fault ≡ None
  pub injects : All InjectsNothing lines

-- On sound memory no test of a replay touches a word of the application, but that destructive blocks are filled: its steps are those in which
-- no test touches a word, and the application finds a plain memory on which its operations and these fills are done.
pub record LeavesNoTrace (defect : Option Fault) : Type 0 where
  pub steps : (c : Config) (lines : List Line) (steps : List Step) → IsReplay defect c lines steps → IsSoundReplay defect c lines
      → steps ≡ (played_by plain_step (started c defect) lines).steps
  pub memory : (c : Config) (lines : List Line) (steps : List Step) → IsReplay defect c lines steps → IsSoundReplay defect c lines
      → ArePlain (started c defect) lines steps

-- Where a pass of a replay runs undisturbed over a fault that its algorithm catches, the block of its slice is NOT_OK behind it.
pub record FindsFaults (defect : Option Fault) : Type 0 where
  pub replays : (c : Config) (before lines behind : List Line) (steps : List Step) → IsReplay defect c (before ++ lines ++ behind) steps
      → (fault : Fault) (p : Piece) → IsCaught (set_of (played (started c defect) before).after.modules.ram) p fault
      → IsUndisturbedPass fault (played (started c defect) before).after lines
      → IsNotOkBehind steps (length (before ++ lines)) p.place.block

-- the steps of some lines of a replay
abbrev pub steps_between : (before lines : List Line) → List Step → List Step
steps_between before lines steps = take (length lines) (drop (length before) steps)

-- In a replay a block that is OK had no fault that is caught: from where RamTst is about to test it, it doesn't become OK as long as such a fault stays
-- and the results aren't reset.
pub record GivesEvidence (defect : Option Fault) : Type 0 where
  pub replays : (c : Config) (before lines behind : List Line) (steps : List Step) → IsReplay defect c (before ++ lines ++ behind) steps
      → (fault : Fault) (p : Piece) → IsCaught (set_of (played (started c defect) before).after.modules.ram) p fault
      → (played (started c defect) before).after.board.fault ≡ Some fault → IsBeforeTests p.place.block (played (started c defect) before).after.modules.ram
      → OfEach LeavesThere lines (steps_between before lines steps)
      → OfEach (IsNotOk p.place.block) lines (steps_between before lines steps)

-- No replay raises a false alarm: on sound memory RamTst reports no failure, and FlsTst none while each flash word equals its copy after every
-- line.
pub record RaisesNoFalseAlarm (defect : Option Fault) : Type 0 where
  pub ram : (c : Config) (lines : List Line) (steps : List Step) → IsReplay defect c lines steps → IsSoundReplay defect c lines → OfEach IsRamCalm lines steps
  pub fls : (c : Config) (lines : List Line) (steps : List Step) → IsReplay defect c lines steps
      → All (λ (s : Step). AgreesWithCopies c.fls_tst s.after.board.flash) steps → OfEach IsFlsCalm lines steps

-- Whatever cuts of a set are asked for, no cut under the budget has fewer ticks than are told.
abbrev pub TellsLeastTicks : Option Fault → Type 0
TellsLeastTicks defect = (ask : Ask) → TicksAreLeast ask defect
