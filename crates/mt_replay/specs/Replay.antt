-- What the top call does.
use Rattle.std.specs.Prelude.{ℕ, ◌-◌, ◌^◌, ◌<◌, ◌≡◌, ◌⊎◌, false, if◌then◌else◌, List, [], ◌∷◌, ◌++◌, codes, Option, Some, None, String, string_bytes}
use Rattle.std.specs.declared.alloc.Global.{Global}
use Rattle.std.specs.Str.{bytes_eq}
use Rattle.std.specs.Io.KnownBytes.{Appends}
use Rattle.mt_port.specs.Causes.{Rose}
use Rattle.mt_port.specs.Streams.{AppendsFront, WhereTold}
use Rattle.mt_port.specs.Board.{Board, Logs}
use Rattle.mt_port.specs.declared.board.Touch.{Touch}
use Rattle.mt_fault.specs.declared.fault.Fault.{Fault}
use Rattle.mt_text.specs.Tokens.{number_of}
use Rattle.mt_replay.specs.declared.form.Asked.{Asked}
use Rattle.mt_replay.specs.declared.form.Asked.TheVariants as asks
use Rattle.mt_replay.specs.declared.form.Form.{Form}
use Rattle.mt_replay.specs.declared.form.Form.TheVariants as forms
use Rattle.mt_replay.specs.declared.status.Status.{Status}
use Rattle.mt_replay.specs.declared.status.Status.TheVariants as status
use Rattle.mt_replay.specs.Input.{Ending, Finished, Failed}
use Rattle.mt_replay.specs.Outcome.{After, Outcome, outcome}
use Rattle.mt_replay.specs.Changes.{Change, IsWritten, UsesBoard}
use Rattle.mt_replay.specs.Locate.{locating}
use Rattle.mt_replay.specs.Verify.{verifying}
use Rattle.mt_replay.specs.Soak.{soaked}

-- ---- the words

-- what a word asks for, if it is a form
abbrev pub form_named : List ℕ → Option Asked
form_named name =
    if bytes_eq name (codes "run") then Some (asks.Job forms.Run)
    else (if bytes_eq name (codes "check") then Some (asks.Job forms.Check)
    else (if bytes_eq name (codes "fmt") then Some (asks.Job forms.Format)
    else (if bytes_eq name (codes "migrate") then Some (asks.Job forms.Migrate)
    else (if bytes_eq name (codes "locate") then Some asks.Locate
    else (if bytes_eq name (codes "verify") then Some asks.Verify else None)))))

-- what a word and a number ask for, if the word is `soak` and the number is spelled as those of script lines
abbrev pub soak_of : Option ℕ → Option Asked
soak_of (Some number) = Some (asks.Soak number)
soak_of None = None

abbrev pub soak_named : (name number : List ℕ) → Option Asked
soak_named name number = if bytes_eq name (codes "soak") then soak_of (number_of number) else None

-- what a word and three numbers ask for, if the word is `cut` and the numbers are spelled as those of script lines
abbrev pub ask_of : Option ℕ → Option ℕ → Option ℕ → Option Asked
ask_of (Some set) (Some budget) (Some wait) = Some (asks.Job (forms.Cut (record { set = set; budget = budget; wait = wait })))
ask_of set budget wait = None

abbrev pub ask_named : (name set budget wait : List ℕ) → Option Asked
ask_named name set budget wait = if bytes_eq name (codes "cut") then ask_of (number_of set) (number_of budget) (number_of wait) else None

-- what the words ask for, if they are a form
abbrev pub form_of : List (String Global) → Option Asked
form_of [] = None
form_of (word ∷ []) = form_named (string_bytes word)
form_of (word ∷ number ∷ []) = soak_named (string_bytes word) (string_bytes number)
form_of (word ∷ set ∷ budget ∷ []) = None
form_of (word ∷ set ∷ budget ∷ wait ∷ []) = ask_named (string_bytes word) (string_bytes set) (string_bytes budget) (string_bytes wait)
form_of (word ∷ set ∷ budget ∷ wait ∷ other ∷ words) = None

abbrev pub usage_text : List ℕ
usage_text = codes "usage\n"

-- ---- what is given

-- what bytes give that were taken before the input's end or a failure of the source
abbrev pub Outcomes : Type 0
Outcomes = Ending → List ℕ → Outcome

abbrev pub outcomes : Form → Option Fault → Outcomes
outcomes form defect ending bytes = outcome form ending defect bytes

-- The board is as the outcome says. Where a script was begun, its tape begins with the power-up.
abbrev pub BoardIs : Option After → (old new : Board) → (tape tape' : Option (List Touch)) → Type 0
BoardIs None old new tape tape' = (new ≡ old) × (tape' ≡ tape)
BoardIs (Some after) old new tape tape' = (new ≡ after.board) × Logs (Some []) tape' after.touches

-- The whole text was written that the input gives, and this is its status.
pub record Concluded (given : Outcomes) (how : Status) (old new : Board) (x : Change) : Type 0 where
  pub outcome : Outcome
  pub status : outcome.status ≡ how
  pub written : Appends x.held x.held' outcome.text
  pub is : WhereTold x.left x.left' (λ before rest. given Finished before ≡ outcome)
  pub board : BoardIs outcome.after old new x.tape x.tape'

-- The bytes that were taken, and what they give where the source fails behind them.
pub record TakenGive (given : Outcomes) (outcome : Outcome) (before rest : List ℕ) : Type 0 where
  pub front : List ℕ
  pub taken : before ≡ front ++ rest
  pub is : given Failed front ≡ outcome

-- The source failed, and the whole text was written that the bytes give that were taken.
pub record Broken (given : Outcomes) (old new : Board) (x : Change) : Type 0 where
  pub outcome : Outcome
  pub status : outcome.status ≡ status.ReadFault
  pub written : Appends x.held x.held' outcome.text
  pub is : WhereTold x.left x.left' (TakenGive given outcome)
  pub board : BoardIs outcome.after old new x.tape x.tape'

-- This is what the input gives; or the source failed too, and it is what the bytes give that were taken before.
abbrev pub IsDefined : Outcomes → (source source' : ℕ) → Outcome → (before rest : List ℕ) → Type 0
IsDefined given source source' outcome before rest =
    ((source' ≡ source) × (given Finished before ≡ outcome))
    ⊎ (Rose source source' × (front : List ℕ) × (before ≡ front ++ rest) × (given Failed front ≡ outcome))

-- The board is as it was; or the texts of some lines were written, and those lines and at most one more were done.
abbrev pub IsDoneSoFar : Outcome → (old new : Board) → Change → Type 0
IsDoneSoFar outcome old new x =
    ((new ≡ old) × (x.tape' ≡ x.tape))
    ⊎ ((lines : ℕ) × IsWritten x.held x.held' (outcome.moments lines).text × BoardIs (outcome.moments lines).after old new x.tape x.tape')

-- The sink failed: a proper front of the defined text was written, and the board is that of the lines in it and of at most one more.
pub record Cutting (given : Outcomes) (source source' : ℕ) (old new : Board) (x : Change) : Type 0 where
  pub outcome : Outcome
  pub written : AppendsFront x.held x.held' outcome.text
  pub done : IsDoneSoFar outcome old new x
  pub defined : WhereTold x.left x.left' (IsDefined given source source' outcome)

-- what a job gives, by its status
abbrev pub JobGives : Status → Outcomes → (old new : Board) → (source source' : ℕ) → Change → Type 0
JobGives status.Done given old new source source' x = Concluded given status.Done old new x × WhereTold x.left x.left' (λ before rest. rest ≡ [])
JobGives (status.BadConfig code) given old new source source' x = Concluded given (status.BadConfig code) old new x
JobGives (status.BadScript line code place) given old new source source' x = Concluded given (status.BadScript line code place) old new x
JobGives (status.Differs line) given old new source source' x = Concluded given (status.Differs line) old new x
JobGives status.ReadFault given old new source source' x = Broken given old new x
JobGives status.WriteFault given old new source source' x = Cutting given source source' old new x
JobGives status.NoMemory given old new source source' x = (x.held' ≡ x.held) × (new ≡ old) × (x.tape' ≡ x.tape)
JobGives status.Usage given old new source source' x = ⊥

-- One text was written whole.
pub record Wrote (text : List ℕ) (held held' : Option (List ℕ)) (sink sink' : ℕ) : Type 0 where
  pub written : Appends held held' text
  pub same : sink' ≡ sink

-- The sink failed: a proper front of the text was written.
pub record Failing (text : List ℕ) (held held' : Option (List ℕ)) (sink sink' : ℕ) : Type 0 where
  pub written : AppendsFront held held' text
  pub cause : Rose sink sink'

-- one text, with this status, or the failure of the sink
abbrev pub Told : Status → (how : Status) → (text : List ℕ) → (held held' : Option (List ℕ)) → (sink sink' : ℕ) → Type 0
Told result how text held held' sink sink' = ((result ≡ how) × Wrote text held held' sink sink') ⊎ ((result ≡ status.WriteFault) × Failing text held held' sink sink')

-- Nothing was done, for want of memory.
pub record Lacks (result : Status) (old new : Board) (sink sink' : ℕ) (x : Change) : Type 0 where
  pub none : result ≡ status.NoMemory
  pub written : x.held' ≡ x.held
  pub same : sink' ≡ sink
  pub board : new ≡ old
  pub tape : x.tape' ≡ x.tape

-- The generated job with a number was replayed, and its sums are told: whole, or the sink failed in them. Or no memory was found.
abbrev pub SoakGives : Status → (number : ℕ) → Option Fault → (old new : Board) → (sink sink' : ℕ) → Change → Type 0
SoakGives result number defect old new sink sink' x =
    (Told result status.Done (soaked number defect).text x.held x.held' sink sink' × BoardIs (soaked number defect).after old new x.tape x.tape')
    ⊎ Lacks result old new sink sink' x

-- Words that are no form leave the source, and are told; a form does what it asks for with the job. The generated job is asked for without a source.
abbrev pub Replays : Option Asked → Status → Option Fault → (old new : Board) → (source source' sink sink' : ℕ) → Change → Type 0
Replays (Some (asks.Job form)) result defect old new source source' sink sink' x = JobGives result (outcomes form defect) old new source source' x
Replays (Some asks.Locate) result defect old new source source' sink sink' x = JobGives result locating old new source source' x
Replays (Some asks.Verify) result defect old new source source' sink sink' x = JobGives result (verifying defect) old new source source' x
Replays (Some (asks.Soak number)) result defect old new source source' sink sink' x =
    SoakGives result number defect old new sink sink' x × (source' ≡ source) × (x.left' ≡ x.left)
Replays None result defect old new source source' sink sink' x = Told result status.Usage usage_text x.held x.held' sink sink' × (x.left' ≡ x.left)

-- ---- what else holds

-- what may have become of the counts of the source's and the sink's faults: one that rose did so by one, at the last call of its stream
abbrev pub StatusCaused : Status → (source source' sink sink' : ℕ) → Type 0
StatusCaused status.ReadFault source source' sink sink' = Rose source source' × (sink' ≡ sink)
StatusCaused status.WriteFault source source' sink sink' = Rose sink sink' × ((source' ≡ source) ⊎ Rose source source')
StatusCaused how source source' sink sink' = (source' ≡ source) × (sink' ≡ sink)

-- only replays use the board, whatever becomes of the other forms; its defect stays
abbrev pub LeavesBoard : Option Asked → (old new : Board) → (tape tape' : Option (List Touch)) → Type 0
LeavesBoard None old new tape tape' = (new ≡ old) × (tape' ≡ tape)
LeavesBoard (Some (asks.Job form)) old new tape tape' = UsesBoard form old new tape tape'
LeavesBoard (Some asks.Locate) old new tape tape' = (new ≡ old) × (tape' ≡ tape)
LeavesBoard (Some asks.Verify) old new tape tape' = new.defect ≡ old.defect
LeavesBoard (Some (asks.Soak number)) old new tape tape' = new.defect ≡ old.defect

-- the board is as before, or it was powered up: then nothing is held, and no request is left
abbrev pub IsLeftFree : (old new : Board) → Type 0
IsLeftFree old new = (new ≡ old) ⊎ ((new.held ≡ false) × (new.left ≡ []))

-- a count of faults stood, and not at its last value
abbrev pub Stood : ℕ → ℕ → Type 0
Stood before now = (now ≡ before) × (before < 2 ^ 64 - 1)

-- Where neither stream failed, the status is that which the input gives, or no memory was found.
abbrev pub CompletesBy : Outcomes → Status → (left : Option (List ℕ)) → (source source' sink sink' : ℕ) → Type 0
CompletesBy given result left source source' sink sink' =
    Stood source source' → Stood sink sink' → (bytes : List ℕ) → left ≡ Some bytes
    → (result ≡ (given Finished bytes).status) ⊎ (result ≡ status.NoMemory)

-- the generated job needs no input
abbrev pub Completes : Option Asked → Status → Option Fault → (left : Option (List ℕ)) → (source source' sink sink' : ℕ) → Type 0
Completes None result defect left source source' sink sink' = Unit {0}
Completes (Some (asks.Job form)) result defect left source source' sink sink' = CompletesBy (outcomes form defect) result left source source' sink sink'
Completes (Some asks.Locate) result defect left source source' sink sink' = CompletesBy locating result left source source' sink sink'
Completes (Some asks.Verify) result defect left source source' sink sink' = CompletesBy (verifying defect) result left source source' sink sink'
Completes (Some (asks.Soak number)) result defect left source source' sink sink' =
    Stood sink sink' → (result ≡ (soaked number defect).status) ⊎ (result ≡ status.NoMemory)
