-- What a call may change of streams and board.
use Rattle.std.specs.Prelude.{ℕ, ◌≡◌, List, ◌++◌, Option}
use Rattle.mt_port.specs.Streams.{WhereTold}
use Rattle.mt_port.specs.Board.{Board}
use Rattle.mt_port.specs.declared.board.Touch.{Touch}
use Rattle.mt_replay.specs.declared.form.Form.{Form}
use Rattle.mt_replay.specs.declared.form.Form.TheVariants as forms

-- the bytes left of a source, the bytes held by a sink, and the tape of a board, before and after a call
pub record Change : Type 0 where
  pub left : Option (List ℕ)
  pub left' : Option (List ℕ)
  pub held : Option (List ℕ)
  pub held' : Option (List ℕ)
  pub tape : Option (List Touch)
  pub tape' : Option (List Touch)

abbrev pub change : (left left' held held' : Option (List ℕ)) (tape tape' : Option (List Touch)) → Change
change left left' held held' tape tape' = record { left = left; left' = left'; held = held; held' = held'; tape = tape; tape' = tape' }

-- The whole of this text was written, and maybe more.
abbrev pub IsWritten : (held held' : Option (List ℕ)) → List ℕ → Type 0
IsWritten held held' text = WhereTold held held' (λ before now. (more : List ℕ) × (now ≡ (before ++ text) ++ more))

-- only a replay uses the board, whose defect stays
abbrev pub UsesBoard : Form → (old new : Board) → (tape tape' : Option (List Touch)) → Type 0
UsesBoard forms.Run old new tape tape' = new.defect ≡ old.defect
UsesBoard forms.Check old new tape tape' = (new ≡ old) × (tape' ≡ tape)
UsesBoard forms.Format old new tape tape' = (new ≡ old) × (tape' ≡ tape)
UsesBoard forms.Migrate old new tape tape' = (new ≡ old) × (tape' ≡ tape)
UsesBoard (forms.Cut ask) old new tape tape' = (new ≡ old) × (tape' ≡ tape)
