-- What the calls that answer and run lines do.
use Rattle.std.specs.Prelude.{ℕ, ◌+◌, ◌≡◌, List, [], ◌∷◌, ◌++◌, length, Option, None, Result, Ok, Err}
use Rattle.std.specs.Io.KnownBytes.{Appends}
use Rattle.mt_port.specs.Causes.{Rose}
use Rattle.mt_port.specs.Streams.{AppendsFront, WhereTold}
use Rattle.mt_port.specs.Board.{Logs}
use Rattle.mt_port.specs.declared.board.Touch.{Touch}
use Rattle.mt_port.specs.declared.board.Shape.{Shape}
use Rattle.mt_port.specs.declared.stream.Failed.{Failed as StreamFailed}
use Rattle.mt_text.specs.declared.line.Line.{Line}
use Rattle.mt_replay.specs.declared.form.Form.{Form}
use Rattle.mt_replay.specs.declared.form.Form.TheVariants as forms
use Rattle.mt_replay.specs.declared.run.End.{End}
use Rattle.mt_replay.specs.declared.run.End.TheVariants as end
use Rattle.mt_replay.specs.declared.run.Turn.{Turn}
use Rattle.mt_replay.specs.declared.run.Turn.TheVariants as turn
use Rattle.mt_replay.specs.Input.{Ending, Finished, Failed, cut}
use Rattle.mt_machine.specs.Machine.{Machine, IsReady}
use Rattle.mt_replay.specs.Script.{Script, ended, led_by, script_from}
use Rattle.mt_replay.specs.Changes.{Change, change, IsWritten}
use Rattle.mt_replay.specs.Outcome.{play_of, steps_touches, lines_text}

-- what is written and done, where nothing is read
abbrev pub outputs : (held held' : Option (List ℕ)) (tape tape' : Option (List Touch)) → Change
outputs held held' tape tape' = change None None held held' tape tape'

-- where and how lines are taken: the form, the shape of the memory, and the number of the first one
pub record Place : Type 0 where
  pub form : Form
  pub shape : Shape
  pub number : ℕ

abbrev pub place : Form → Shape → ℕ → Place
place form shape number = record { form = form; shape = shape; number = number }

-- what is written for lines, and the accesses that they make
abbrev pub text_at : Place → Machine → List Line → List ℕ
text_at p m lines = lines_text p.form p.shape m p.number lines

abbrev pub touches_at : Place → Machine → List Line → List Touch
touches_at p m lines = steps_touches (play_of p.form m lines).steps

-- Lines were answered: their text was written, their accesses were made, and the machine is the one after them.
pub record Answered (p : Place) (m m' : Machine) (lines : List Line) (x : Change) : Type 0 where
  pub written : Appends x.held x.held' (text_at p m lines)
  pub taped : Logs x.tape x.tape' (touches_at p m lines)
  pub after : m' ≡ (play_of p.form m lines).after

-- The bytes between here and there are these lines, and what follows them is the script behind, whichever it is.
pub record Crosses (shape : Shape) (number number' : ℕ) (lines : List Line) (before after : List ℕ) : Type 0 where
  pub front : List ℕ
  pub taken : before ≡ front ++ after
  pub script : (ending : Ending) (rest : List ℕ) → script_from shape ending number (cut (front ++ rest)) ≡ led_by lines (script_from shape ending number' (cut rest))

-- The lines from here to there were taken and answered.
pub record Goes (p : Place) (m m' : Machine) (number' : ℕ) (x : Change) : Type 0 where
  pub lines : List Line
  pub answered : Answered p m m' lines x
  pub count : number' ≡ p.number + length lines
  pub crosses : WhereTold x.left x.left' (Crosses p.shape p.number number' lines)

-- Some bytes were taken, and then the source failed.
pub record BreaksAt (shape : Shape) (number : ℕ) (lines : List Line) (before after : List ℕ) : Type 0 where
  pub front : List ℕ
  pub taken : before ≡ front ++ after
  pub script : script_from shape Failed number (cut front) ≡ record { lines = lines; end = end.Broken }

-- the bytes that were left are these lines and this end; a whole script has them all
abbrev pub EndsAt : End → Shape → ℕ → List Line → (before after : List ℕ) → Type 0
EndsAt (end.Whole count) shape number lines before after = (script_from shape Finished number (cut before) ≡ record { lines = lines; end = end.Whole count }) × (after ≡ [])
EndsAt (end.Refused line code at) shape number lines before after = script_from shape Finished number (cut before) ≡ record { lines = lines; end = end.Refused line code at }
EndsAt end.Broken shape number lines before after = BreaksAt shape number lines before after

-- The lines up to the script's end were answered.
pub record Ends (p : Place) (m m' : Machine) (end : End) (x : Change) : Type 0 where
  pub lines : List Line
  pub answered : Answered p m m' lines x
  pub script : WhereTold x.left x.left' (EndsAt end p.shape p.number lines)

-- The bytes that were left begin with these lines.
pub record BeginsWith (shape : Shape) (number : ℕ) (lines : List Line) (before : List ℕ) : Type 0 where
  pub more : Script
  pub script : script_from shape Finished number (cut before) ≡ led_by lines more

-- The sink failed in the text of a line: that of the lines before it was written, and all these lines were done.
pub record Stops (p : Place) (m m' : Machine) (x : Change) : Type 0 where
  pub lines : List Line
  pub line : Line
  pub whole : IsWritten x.held x.held' (text_at p m lines)
  pub written : AppendsFront x.held x.held' (text_at p m (lines ++ line ∷ []))
  pub taped : Logs x.tape x.tape' (touches_at p m (lines ++ line ∷ []))
  pub after : m' ≡ (play_of p.form m (lines ++ line ∷ [])).after
  pub script : WhereTold x.left x.left' (λ before after. BeginsWith p.shape p.number (lines ++ line ∷ []) before)

-- how a line is judged, before what follows it
abbrev pub Judging : Type 0
Judging = Script → Script

-- the line is taken, whatever follows it; or it ends the script
abbrev pub IsTaken : Judging → Line → Type 0
IsTaken judge line = (more : Script) → judge more ≡ led_by (line ∷ []) more

abbrev pub EndsThere : Judging → End → Type 0
EndsThere judge end = (more : Script) → judge more ≡ ended end

-- a refusal
abbrev pub IsRefusal : End → Type 0
IsRefusal (end.Whole count) = ⊥
IsRefusal (end.Refused line code at) = Unit {0}
IsRefusal end.Broken = ⊥

-- A line was taken and answered.
pub record TakesLine (p : Place) (judge : Judging) (m m' : Machine) (x : Change) : Type 0 where
  pub line : Line
  pub is : IsTaken judge line
  pub answered : Answered p m m' (line ∷ []) x

-- A line was refused, and nothing else was done.
pub record Refuses (judge : Judging) (m m' : Machine) (end : End) (x : Change) : Type 0 where
  pub is : EndsThere judge end
  pub refusal : IsRefusal end
  pub written : Appends x.held x.held' []
  pub taped : Logs x.tape x.tape' []
  pub after : m' ≡ m

-- A line was done whose text could not be written in full.
pub record Breaks (p : Place) (m m' : Machine) (line : Line) (x : Change) : Type 0 where
  pub written : AppendsFront x.held x.held' (text_at p m (line ∷ []))
  pub taped : Logs x.tape x.tape' (touches_at p m (line ∷ []))
  pub after : m' ≡ (play_of p.form m (line ∷ [])).after

-- A line was taken and done whose text could not be written in full.
pub record CutsOff (p : Place) (judge : Judging) (m m' : Machine) (x : Change) : Type 0 where
  pub line : Line
  pub is : IsTaken judge line
  pub breaks : Breaks p m m' line x

-- what came of judging a line
abbrev pub LineGives : Result Turn StreamFailed → Place → Judging → (m m' : Machine) → Change → Type 0
LineGives (Ok turn.More) p judge m m' x = TakesLine p judge m m' x
LineGives (Ok (turn.Ended end)) p judge m m' x = Refuses judge m m' end x
LineGives (Err failed) p judge m m' x = CutsOff p judge m m' x

-- what came of judging a last line
abbrev pub LastGives : Result End StreamFailed → Place → Judging → (m m' : Machine) → Change → Type 0
LastGives (Ok (end.Whole count)) p judge m m' x = (count ≡ p.number) × TakesLine p judge m m' x
LastGives (Ok (end.Refused line code at)) p judge m m' x = Refuses judge m m' (end.Refused line code at) x
LastGives (Ok end.Broken) p judge m m' x = ⊥
LastGives (Err failed) p judge m m' x = CutsOff p judge m m' x

-- what came behind the last line that may be
abbrev pub PastGives : End → Shape → (left left' : Option (List ℕ)) → Type 0
PastGives end shape left left' = WhereTold left left' (EndsAt end shape 1000001 [])

-- what came of one line
abbrev pub TurnGives : Result Turn StreamFailed → Place → (m m' : Machine) → Change → Type 0
TurnGives (Ok turn.More) p m m' x = Goes p m m' (p.number + 1) x
TurnGives (Ok (turn.Ended end)) p m m' x = Ends p m m' end x
TurnGives (Err failed) p m m' x = Stops p m m' x

-- what came of a script from a line on
abbrev pub ScriptGives : Result End StreamFailed → Place → (m m' : Machine) → Change → Type 0
ScriptGives (Ok end) p m m' x = Ends p m m' end x
ScriptGives (Err failed) p m m' x = Stops p m m' x

-- only where the source failed has its count of faults risen, and only where the sink failed that of the sink
abbrev pub EndCaused : End → (source source' : ℕ) → Type 0
EndCaused (end.Whole count) source source' = source' ≡ source
EndCaused (end.Refused line code at) source source' = source' ≡ source
EndCaused end.Broken source source' = Rose source source'

abbrev pub TurnCaused : Result Turn StreamFailed → (source source' sink sink' : ℕ) → Type 0
TurnCaused (Ok turn.More) source source' sink sink' = (source' ≡ source) × (sink' ≡ sink)
TurnCaused (Ok (turn.Ended end)) source source' sink sink' = EndCaused end source source' × (sink' ≡ sink)
TurnCaused (Err failed) source source' sink sink' = (source' ≡ source) × Rose sink sink'

abbrev pub ScriptCaused : Result End StreamFailed → (source source' sink sink' : ℕ) → Type 0
ScriptCaused (Ok end) source source' sink sink' = EndCaused end source source' × (sink' ≡ sink)
ScriptCaused (Err failed) source source' sink sink' = (source' ≡ source) × Rose sink sink'

-- a replay needs a machine that is ready; the other forms need none
abbrev pub IsReadyFor : Form → Shape → Machine → Type 0
IsReadyFor forms.Run shape m = IsReady shape m
IsReadyFor forms.Check shape m = Unit {0}
IsReadyFor forms.Format shape m = Unit {0}
IsReadyFor forms.Migrate shape m = Unit {0}
IsReadyFor (forms.Cut ask) shape m = Unit {0}
