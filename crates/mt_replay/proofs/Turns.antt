-- A line that is judged and answered.
use Rattle.std.proofs.Common.{ℕ, ◌≤◌, ◌≡◌, false, List, [], ◌∷◌, length, Result, Ok, Err, refl, sym, ap, subst, ◌∙◌}
use Rattle.std.specs.Prelude.{nat_lt}
use Rattle.std.proofs.lemmas.Bool.{le-ltb}
use Rattle.std.specs.Io.KnownBytes.{Appends}
use Rattle.mt_port.specs.Streams.{AppendsFront}
use Rattle.mt_port.specs.Board.{Logs}
use Rattle.mt_port.specs.declared.board.Shape.{Shape}
use Rattle.mt_text.specs.declared.line.Line.{Line}
use Rattle.mt_text.specs.declared.line.LineRefusal.{LineRefusal}
use Rattle.mt_text.specs.Lines.{line_of}
use Rattle.mt_text.specs.TokenRules.{kind_number}
use Rattle.mt_text.specs.Trace.{entries_text}
use Rattle.mt_window.specs.declared.log.Entry.{Entry}
use Rattle.mt_replay.specs.declared.form.Form.TheVariants as forms
use Rattle.mt_replay.specs.declared.run.End.TheVariants as end
use Rattle.mt_machine.specs.Inner.Events.{Steps}
use Rattle.mt_machine.specs.Machine.{Machine}
use Rattle.mt_replay.specs.Script.{Script, taken, judged}
use Rattle.mt_replay.specs.Changes.{Change}
use Rattle.mt_replay.specs.Inner.Runs.{place, Answered, Breaks, IsTaken, EndsThere}
use Rattle.mt_replay.proofs.Plays.{run_text-one, run_touches-one}
use Rattle.mt_replay.proofs.Texts.{entries_text-nil}

-- a line of a number and a length that may be
judged-is : (shape : Shape) (number : ℕ) (text : List ℕ) (more : Script) → number ≤ 1000000 → length text ≤ 1024 → judged shape number text more ≡ taken (line_of shape text) number more
judged-is shape number text more few short =
    let one : nat_lt 1000000 number ≡ false = le-ltb _ _ few in
    let two : nat_lt 1024 (length text) ≡ false = le-ltb _ _ short in
    rw (one, two) refl

pub is_taken : (shape : Shape) (number : ℕ) (text : List ℕ) (line : Line) → number ≤ 1000000 → length text ≤ 1024 → line_of shape text ≡ Ok line → IsTaken (judged shape number text) line
is_taken shape number text line few short is more = judged-is shape number text more few short ∙ ap (λ (r : Result Line LineRefusal). taken r number more) is

pub ends_there : (shape : Shape) (number : ℕ) (text : List ℕ) (e : LineRefusal) → number ≤ 1000000 → length text ≤ 1024 → line_of shape text ≡ Err e
    → EndsThere (judged shape number text) (end.Refused number (kind_number e.kind) e.place)
ends_there shape number text e few short is more = judged-is shape number text more few short ∙ ap (λ (r : Result Line LineRefusal). taken r number more) is

-- a step of a replay, whose entries were written
pub played_line : (shape : Shape) (m m' : Machine) (number : ℕ) (line : Line) (entries : List Entry) (x : Change) → Steps m m' line entries x.tape x.tape'
    → Appends x.held x.held' (entries_text shape.width number entries) → Answered (place forms.Run shape number) m m' (line ∷ []) x
played_line shape m m' number line entries x s written = record {
  written = subst (Appends x.held x.held') (ap (entries_text shape.width number) (sym s.entries) ∙ sym (run_text-one shape m number line)) written;
  taped = subst (Logs x.tape x.tape') (sym (run_touches-one m line)) s.taped;
  after = sym s.after;
}

-- a line that does nothing
pub silent_line : (shape : Shape) (m m' : Machine) (number : ℕ) (line : Line) (x : Change) → Steps m m' line [] x.tape x.tape' → Appends x.held x.held' [] → Answered (place forms.Run shape number) m m' (line ∷ []) x
silent_line shape m m' number line x s written = played_line shape m m' number line [] x s (subst (Appends x.held x.held') (sym (entries_text-nil shape.width number)) written)

-- a step of a replay, of whose text a front was written
pub played_front : (shape : Shape) (m m' : Machine) (number : ℕ) (line : Line) (entries : List Entry) (x : Change) → Steps m m' line entries x.tape x.tape'
    → AppendsFront x.held x.held' (entries_text shape.width number entries) → Breaks (place forms.Run shape number) m m' line x
played_front shape m m' number line entries x s written = record {
  written = subst (AppendsFront x.held x.held') (ap (entries_text shape.width number) (sym s.entries) ∙ sym (run_text-one shape m number line)) written;
  taped = subst (Logs x.tape x.tape') (sym (run_touches-one m line)) s.taped;
  after = sym s.after;
}
