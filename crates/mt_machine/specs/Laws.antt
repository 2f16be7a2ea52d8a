-- What lines and running calls leave of the board.
use Rattle.std.specs.Prelude.{◌≡◌}
use Rattle.mt_window.specs.Waits.{KeepsBoard}
use Rattle.mt_text.specs.declared.line.Line.{Line}
use Rattle.mt_machine.specs.declared.driven.Running.{Running}
use Rattle.mt_machine.specs.declared.driven.FlsRunning.{FlsRunning}
use Rattle.mt_machine.specs.Machine.{Machine, events_of, fls_events_of, step}

-- each running call of both modules keeps the board but for its words and its counts
pub record BoardsStay : Type 0 where
  pub ram : (call : Running) → KeepsBoard (events_of call)
  pub fls : (call : FlsRunning) → KeepsBoard (fls_events_of call)

-- no line changes the board's defect
abbrev pub LinesKeepTheDefect : Type 0
LinesKeepTheDefect = (m : Machine) (line : Line) → (step m line).after.board.defect ≡ m.board.defect
