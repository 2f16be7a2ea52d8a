-- What the calls do between the words and the script.
use Rattle.std.specs.Prelude.{ℕ, ◌≡◌, List, [], ◌++◌, Option, Some, IfSome, Result, Ok, Err, slice_get}
use Rattle.std.specs.Io.KnownBytes.{Appends}
use Rattle.mt_port.specs.Causes.{Rose}
use Rattle.mt_port.specs.Streams.{AppendsFront}
use Rattle.mt_port.specs.Board.{Board}
use Rattle.mt_port.specs.declared.board.Touch.{Touch}
use Rattle.mt_fault.specs.declared.fault.Fault.{Fault}
use Rattle.mt_blocks.specs.declared.config.ParamSet.{ParamSet}
use Rattle.mt_cut.specs.Holds.{IsOfAccepted}
use Rattle.mt_conf.specs.declared.config.Config.{Config}
use Rattle.mt_conf.specs.declared.config.ConfigRefusal.{ConfigRefusal}
use Rattle.mt_conf.specs.Accepted.{IsAcceptedConfig}
use Rattle.mt_replay.specs.declared.form.Form.{Form}
use Rattle.mt_replay.specs.declared.form.Form.TheVariants as forms
use Rattle.mt_replay.specs.declared.form.Task.{Task}
use Rattle.mt_replay.specs.declared.job.Found.{Found}
use Rattle.mt_replay.specs.declared.job.Found.TheVariants as found
use Rattle.mt_replay.specs.declared.job.Follows.{Follows}
use Rattle.mt_replay.specs.declared.job.Follows.TheVariants as follows
use Rattle.mt_replay.specs.declared.run.End.{End}
use Rattle.mt_replay.specs.declared.run.End.TheVariants as end
use Rattle.mt_replay.specs.declared.status.Status.{Status}
use Rattle.mt_replay.specs.declared.status.Status.TheVariants as status
use Rattle.mt_replay.specs.Input.{Ending, Finished, Failed, Cut, cut, Parted, job_of}
use Rattle.mt_machine.specs.Machine.{Machine, started}
use Rattle.mt_replay.specs.Cut.{chosen_text}
use Rattle.mt_replay.specs.Outcome.{Outcome, bad_config, said, refused_of, done_text, refused_text, read_fault_text, opening_text, judged_job}
use Rattle.mt_replay.specs.Changes.{Change}

-- what a configuration gives, accepted or refused, with the bytes behind it
abbrev pub Given : Type 0
Given = Result Config ConfigRefusal → Cut → Outcome

-- a refused one is told alike in all forms
abbrev pub TellsRefusals : Given → Type 0
TellsRefusals given = (refusal : ConfigRefusal) (behind : Cut) → given (Err refusal) behind ≡ bad_config (refused_of refusal)

-- a configuration that was read is what its bytes are, whatever follows it
abbrev pub IsFound : Found → List ℕ → Type 0
IsFound found.NoMemory kept = Unit {0}
IsFound (found.Refused why) kept = (given : Given) (ending : Ending) (behind : Cut) → TellsRefusals given → judged_job given ending (Parted kept behind) ≡ bad_config why
IsFound (found.Config c follows) kept = (given : Given) (ending : Ending) (behind : Cut) → judged_job given ending (Parted kept behind) ≡ given (Ok c) behind

-- whether lines may follow
abbrev pub HasBehind : Follows → Found → Type 0
HasBehind behind found.NoMemory = Unit {0}
HasBehind behind (found.Refused why) = Unit {0}
HasBehind behind (found.Config c given) = given ≡ behind

abbrev pub IsAcceptedFound : Found → Type 0
IsAcceptedFound found.NoMemory = Unit {0}
IsAcceptedFound (found.Refused why) = Unit {0}
IsAcceptedFound (found.Config c follows) = IsAcceptedConfig c

-- The configuration was taken, and the bytes behind it are what follows.
pub record Begins (c : Config) (before after : List ℕ) : Type 0 where
  pub front : List ℕ
  pub taken : before ≡ front ++ after
  pub is : (given : Given) (ending : Ending) (rest : List ℕ) → judged_job given ending (job_of ending (front ++ rest)) ≡ given (Ok c) (cut rest)

-- The input ended with the configuration's separator.
pub record BeginsEmpty (c : Config) (before after : List ℕ) : Type 0 where
  pub is : (given : Given) → judged_job given Finished (job_of Finished before) ≡ given (Ok c) (record { lines = []; rest = [] })
  pub all : after ≡ []

abbrev pub FoundGives : Found → (before after : List ℕ) → Type 0
FoundGives found.NoMemory before after = Unit {0}
FoundGives (found.Refused why) before after = (given : Given) → TellsRefusals given → judged_job given Finished (job_of Finished before) ≡ bad_config why
FoundGives (found.Config c follows.Lines) before after = Begins c before after
FoundGives (found.Config c follows.Nothing) before after = BeginsEmpty c before after

-- The source failed before the configuration's end, and nothing is refused yet.
pub record HeadFails (before after : List ℕ) : Type 0 where
  pub front : List ℕ
  pub taken : before ≡ front ++ after
  pub is : (given : Given) → judged_job given Failed (job_of Failed front) ≡ said read_fault_text status.ReadFault

-- the set that a form asks for
abbrev pub HasSet : Form → Option ParamSet → Config → Type 0
HasSet forms.Run set c = Unit {0}
HasSet forms.Check set c = Unit {0}
HasSet forms.Format set c = Unit {0}
HasSet forms.Migrate set c = Unit {0}
HasSet (forms.Cut ask) set c = set ≡ slice_get c.ram_tst.sets ask.set

-- A task of a form for a configuration.
pub record IsTask (form : Form) (c : Config) (task : Task) : Type 0 where
  pub same : task.form ≡ form
  pub shape : task.shape ≡ c.shape
  pub set : HasSet form task.set c
  pub accepted : IfSome task.set IsOfAccepted

-- what stands behind a script, by the set at hand
abbrev pub closing_of : Form → Option ParamSet → ℕ → List ℕ
closing_of forms.Run set count = done_text count
closing_of forms.Check set count = done_text count
closing_of forms.Format set count = []
closing_of forms.Migrate set count = []
closing_of (forms.Cut ask) set count = chosen_text ask set

abbrev pub task_end : Task → End → List ℕ
task_end task (end.Whole count) = closing_of task.form task.set count
task_end task (end.Refused line code place) = refused_text line code place
task_end task end.Broken = read_fault_text

-- Only a replay uses the board: it is that of the start, with an empty tape. Else it is as it was.
abbrev pub BeginsAs : Form → Config → Option Fault → Machine → (before : Board) → (was tape : Option (List Touch)) → Type 0
BeginsAs forms.Run c defect m before was tape = (m ≡ started c defect) × (tape ≡ Some [])
BeginsAs forms.Check c defect m before was tape = (m.board ≡ before) × (tape ≡ was)
BeginsAs forms.Format c defect m before was tape = (m.board ≡ before) × (tape ≡ was)
BeginsAs forms.Migrate c defect m before was tape = (m.board ≡ before) × (tape ≡ was)
BeginsAs (forms.Cut ask) c defect m before was tape = (m.board ≡ before) × (tape ≡ was)

-- what stands before the script was done: the board is ready, and the text was written
pub record IsBegun (form : Form) (c : Config) (defect : Option Fault) (m : Machine) (before : Board) (x : Change) : Type 0 where
  pub machine : BeginsAs form c defect m before x.tape x.tape'
  pub written : Appends x.held x.held' (opening_text form c)

-- how a job ends before its script
abbrev pub BeginFails : Status → Form → Config → (old new : Board) → (sink sink' : ℕ) → Change → Type 0
BeginFails status.NoMemory form c old new sink sink' x = (new ≡ old) × (x.tape' ≡ x.tape) × (x.held' ≡ x.held) × (sink' ≡ sink)
BeginFails status.WriteFault form c old new sink sink' x = (new ≡ old) × (x.tape' ≡ x.tape) × AppendsFront x.held x.held' (opening_text form c) × Rose sink sink'
BeginFails status.Done form c old new sink sink' x = ⊥
BeginFails status.Usage form c old new sink sink' x = ⊥
BeginFails (status.BadConfig code) form c old new sink sink' x = ⊥
BeginFails (status.BadScript line code place) form c old new sink sink' x = ⊥
BeginFails status.ReadFault form c old new sink sink' x = ⊥
BeginFails (status.Differs line) form c old new sink sink' x = ⊥
