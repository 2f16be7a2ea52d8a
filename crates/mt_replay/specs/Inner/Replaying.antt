-- What the calls do that replay a kept script and compare its trace.
use Rattle.std.specs.Prelude.{ℕ, ◌+◌, ◌≡◌, List, [], ◌∷◌, ◌++◌, length, Option}
use Rattle.mt_port.specs.Board.{Logs}
use Rattle.mt_port.specs.declared.board.Shape.{Shape}
use Rattle.mt_port.specs.declared.board.Touch.{Touch}
use Rattle.mt_text.specs.declared.line.Line.{Line}
use Rattle.mt_replay.specs.declared.comparing.Comparison.{Comparison}
use Rattle.mt_machine.specs.Machine.{Machine, played}
use Rattle.mt_replay.specs.Input.{Finished, cut}
use Rattle.mt_replay.specs.Script.{Script, led_by, script_from}
use Rattle.mt_replay.specs.Verify.{whole_script}
use Rattle.mt_replay.specs.Outcome.{steps_touches, steps_text, done_text}
use Rattle.mt_replay.specs.Inner.Comparing.{Compares}

-- Lines were replayed: their text was compared, their accesses were made, and the machine is the one after them.
pub record Played (shape : Shape) (number : ℕ) (m m' : Machine) (lines : List Line) (old new : Comparison) (left left' : Option (List ℕ)) (tape tape' : Option (List Touch)) : Type 0 where
  pub compared : Compares old new (steps_text shape number (played m lines).steps) left left'
  pub taped : Logs tape tape' (steps_touches (played m lines).steps)
  pub after : m' ≡ (played m lines).after

-- Some bytes are a script of so many lines, which is whole.
pub record IsScript (shape : Shape) (count : ℕ) (bytes : List ℕ) : Type 0 where
  pub lines : List Line
  pub number : count ≡ length lines
  pub script : script_from shape Finished 1 (cut bytes) ≡ whole_script lines

-- The lines were replayed, and their trace with its closing line was compared.
pub record PlayedWhole (shape : Shape) (lines : List Line) (m m' : Machine) (old new : Comparison) (left left' : Option (List ℕ)) (tape tape' : Option (List Touch)) : Type 0 where
  pub compares : Compares old new (steps_text shape 1 (played m lines).steps ++ done_text (length lines)) left left'
  pub taped : Logs tape tape' (steps_touches (played m lines).steps)
  pub after : m' ≡ (played m lines).after

-- Some bytes begin with a line of a script.
pub record HasLine (shape : Shape) (bytes : List ℕ) : Type 0 where
  pub number : ℕ
  pub first : Line
  pub more : Script
  pub script : script_from shape Finished number (cut bytes) ≡ led_by (first ∷ []) more

-- This line was taken, the first of a script whatever its number, and what is left is the script behind it.
abbrev pub TakesFirst : Shape → Line → (before after : List ℕ) → Type 0
TakesFirst shape line before after =
    (number : ℕ) (first : Line) (more : Script) → script_from shape Finished number (cut before) ≡ led_by (first ∷ []) more
    → (line ≡ first) × (script_from shape Finished (number + 1) (cut after) ≡ more)
