-- How a script is read: its lines, and how it ends.
use Rattle.std.specs.Prelude.{ℕ, ◌+◌, ◌-◌, List, [], ◌∷◌, ◌++◌, length, Result, Ok, Err, nat_lt, if◌then◌else◌}
use Rattle.mt_port.specs.declared.board.Shape.{Shape}
use Rattle.mt_text.specs.declared.line.Line.{Line}
use Rattle.mt_text.specs.declared.line.LineRefusal.{LineRefusal}
use Rattle.mt_text.specs.Lines.{line_of}
use Rattle.mt_text.specs.TokenRules.{kind_number}
use Rattle.mt_replay.specs.declared.run.End.{End}
use Rattle.mt_replay.specs.declared.run.End.TheVariants.{Whole, Refused, Broken}
use Rattle.mt_replay.specs.Input.{Ending, Finished, Failed, Cut}

-- the lines that are taken, and the end behind them
pub record Script : Type 0 where
  pub lines : List Line
  pub end : End

abbrev pub ended : End → Script
ended end = record { lines = []; end = end }

-- lines in front
abbrev pub led_by : List Line → Script → Script
led_by lines s = record { lines = lines ++ s.lines; end = s.end }

-- a line as it was read, and what follows it; a refused line ends the script
abbrev pub taken : Result Line LineRefusal → ℕ → Script → Script
taken (Err refusal) number more = ended (Refused number (kind_number refusal.kind) refusal.place)
taken (Ok line) number more = led_by (line ∷ []) more

-- a line: beyond the last that may be, too long, refused, or taken
abbrev pub judged : Shape → ℕ → List ℕ → Script → Script
judged shape number text more =
    if nat_lt 1000000 number then ended (Refused number 11 1)
    else (if nat_lt 1024 (length text) then ended (Refused number 10 1025) else taken (line_of shape text) number more)

-- A last line without a line feed counts where it has a byte. Before a failure of the source it is judged only where it is refused whatever comes.
abbrev pub last_judged : Shape → Ending → ℕ → List ℕ → Script
last_judged shape Finished number [] = ended (Whole (number - 1))
last_judged shape Finished number (byte ∷ bytes) = judged shape number (byte ∷ bytes) (ended (Whole number))
last_judged shape Failed number [] = ended Broken
last_judged shape Failed number (byte ∷ bytes) =
    if nat_lt 1000000 number then ended (Refused number 11 1)
    else (if nat_lt 1024 (length (byte ∷ bytes)) then ended (Refused number 10 1025) else ended Broken)

-- the lines from a number on, in order, and the bytes behind the last line feed
abbrev pub lines_from : Shape → Ending → ℕ → List (List ℕ) → List ℕ → Script
lines_from shape ending number [] rest = last_judged shape ending number rest
lines_from shape ending number (line ∷ more) rest = judged shape number line (lines_from shape ending (number + 1) more rest)

-- the script that some bytes are, whose first line has this number
abbrev pub script_from : Shape → Ending → ℕ → Cut → Script
script_from shape ending number bytes = lines_from shape ending number bytes.lines bytes.rest
