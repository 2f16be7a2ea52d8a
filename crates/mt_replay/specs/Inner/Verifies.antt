-- What the calls of the form `verify` tell.
use Rattle.std.specs.Prelude.{ℕ, ◌≡◌, List, ◌++◌, length, codes, Option, Result, Ok, Err}
use Rattle.std.specs.Fmt.{decimal}
use Rattle.mt_port.specs.Board.{Logs}
use Rattle.mt_port.specs.declared.board.Shape.{Shape}
use Rattle.mt_port.specs.declared.board.Touch.{Touch}
use Rattle.mt_port.specs.declared.stream.Failed.{Failed}
use Rattle.mt_text.specs.declared.line.Line.{Line}
use Rattle.mt_replay.specs.declared.comparing.Verdict.{Verdict}
use Rattle.mt_replay.specs.declared.comparing.Verdict.TheVariants as verdict
use Rattle.mt_replay.specs.declared.status.Status.{Status}
use Rattle.mt_replay.specs.declared.status.Status.TheVariants as status
use Rattle.mt_machine.specs.Machine.{Machine, played}
use Rattle.mt_replay.specs.Outcome.{steps_touches, steps_text, done_text, read_fault_text}
use Rattle.mt_replay.specs.Inner.Comparing.{VerdictGives}

-- what is told of two texts, or of a source that failed
abbrev pub verdict_said : Result Verdict Failed → List ℕ
verdict_said (Ok (verdict.Same count)) = codes "same " ++ decimal count ++ codes "\n"
verdict_said (Ok (verdict.Differs line)) = codes "differs " ++ decimal line ++ codes "\n"
verdict_said (Err failed) = read_fault_text

abbrev pub verdict_how : Result Verdict Failed → Status
verdict_how (Ok (verdict.Same count)) = status.Done
verdict_how (Ok (verdict.Differs line)) = status.Differs line
verdict_how (Err failed) = status.ReadFault

-- the text that is expected of some lines
abbrev pub trace_of : Shape → Machine → List Line → List ℕ
trace_of shape m lines = steps_text shape 1 (played m lines).steps ++ done_text (length lines)

-- Lines were replayed, and a given text compares so with their trace.
pub record Judges (verdict : Result Verdict Failed) (shape : Shape) (lines : List Line) (m m' : Machine) (left left' : Option (List ℕ)) (tape tape' : Option (List Touch)) : Type 0 where
  pub compares : VerdictGives verdict (trace_of shape m lines) left left'
  pub taped : Logs tape tape' (steps_touches (played m lines).steps)
  pub after : m' ≡ (played m lines).after
