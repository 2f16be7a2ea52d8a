-- How the lines of a fault location are read: a slice, and then what was missed there.
use Rattle.std.specs.Prelude.{ℕ, ◌+◌, List, [], ◌∷◌, length, Option, Some, None, Result, Ok, Err, nat_lt, if◌then◌else◌}
use Rattle.mt_port.specs.declared.board.Shape.{Shape}
use Rattle.mt_blocks.specs.declared.config.ParamSet.{ParamSet}
use Rattle.mt_locate.specs.declared.probe.Probe.{Probe}
use Rattle.mt_locate.specs.declared.probe.Miss.{Miss}
use Rattle.mt_locate.specs.declared.refusal.LocateRefusal.{LocateRefusal}
use Rattle.mt_locate.specs.LocateLines.{kind_number, slice_line, miss_line}
use Rattle.mt_replay.specs.declared.run.End.{End}
use Rattle.mt_replay.specs.declared.run.End.TheVariants.{Refused, Broken}
use Rattle.mt_replay.specs.Input.{Ending, Finished, Failed, Cut}

-- a slice, and what was missed there
pub record Located : Type 0 where
  pub probe : Probe
  pub misses : List Miss

-- what is read first, and then the rest; a line that is not taken ends all
infixl 10 ◌>>=◌
abbrev pub ◌>>=◌ : {A B : Type 0} → Result A End → (A → Result B End) → Result B End
Ok x >>= more = more x
Err end >>= more = Err end

-- what a line with a number says
abbrev pub said : {A : Type 0} → ℕ → Result A LocateRefusal → Result A End
said number (Ok x) = Ok x
said number (Err refusal) = Err (Refused number (kind_number refusal.kind) refusal.place)

-- a line: beyond the last that may be, too long, or read
abbrev pub limited : {A : Type 0} → ℕ → List ℕ → Result A End → Result A End
limited number text line =
    if nat_lt 1000000 number then Err (Refused number 11 1)
    else (if nat_lt 1024 (length text) then Err (Refused number 10 1025) else line)

-- a line before whose line feed the source failed: it is judged only where it is refused whatever comes
abbrev pub broken_off : {A : Type 0} → ℕ → List ℕ → Result A End
broken_off number [] = Err Broken
broken_off number (byte ∷ bytes) = limited number (byte ∷ bytes) (Err Broken)

-- the first line: the slice
abbrev pub slice_said : Shape → ℕ → List ParamSet → List ℕ → Result Probe End
slice_said shape initial sets text = limited 1 text (said 1 (slice_line shape initial sets text))

-- a later line: a miss, where `after` is the index of the one before
abbrev pub miss_said : Probe → ℕ → Option ℕ → List ℕ → Result Miss End
miss_said probe number after text = limited number text (said number (miss_line probe after text))

-- a last line without a line feed counts where it has a byte
abbrev pub last_miss : Probe → Ending → ℕ → Option ℕ → List ℕ → Result (List Miss) End
last_miss probe Finished number after [] = Ok []
last_miss probe Finished number after (byte ∷ bytes) = do
  miss ← miss_said probe number after (byte ∷ bytes)
  Ok (miss ∷ [])
last_miss probe Failed number after rest = broken_off number rest

-- the misses from a line on, in order, and the bytes behind the last line feed
abbrev pub misses_from : Probe → Ending → ℕ → Option ℕ → List (List ℕ) → List ℕ → Result (List Miss) End
misses_from probe ending number after [] rest = last_miss probe ending number after rest
misses_from probe ending number after (line ∷ more) rest = do
  miss ← miss_said probe number after line
  others ← misses_from probe ending (number + 1) (Some miss.index) more rest
  Ok (miss ∷ others)

-- the misses that some bytes are, whose first line has this number
abbrev pub missed : Probe → ℕ → Option ℕ → Ending → Cut → Result (List Miss) End
missed probe number after ending bytes = misses_from probe ending number after bytes.lines bytes.rest

-- a slice and its misses
abbrev pub with_misses : Probe → Result (List Miss) End → Result Located End
with_misses probe read = do
  misses ← read
  Ok (record { probe = probe; misses = misses })

-- where there is no line at all, that of the slice is missing
abbrev pub last_slice : Shape → ℕ → List ParamSet → Ending → List ℕ → Result Located End
last_slice shape initial sets Finished [] = Err (Refused 1 1 1)
last_slice shape initial sets Finished (byte ∷ bytes) = do
  probe ← slice_said shape initial sets (byte ∷ bytes)
  with_misses probe (Ok [])
last_slice shape initial sets Failed rest = broken_off 1 rest

abbrev pub located_lines : Shape → ℕ → List ParamSet → Ending → List (List ℕ) → List ℕ → Result Located End
located_lines shape initial sets ending [] rest = last_slice shape initial sets ending rest
located_lines shape initial sets ending (line ∷ more) rest = do
  probe ← slice_said shape initial sets line
  with_misses probe (misses_from probe ending 2 None more rest)

-- what the lines behind a configuration ask for, or the first that is not taken
abbrev pub located : Shape → ℕ → List ParamSet → Ending → Cut → Result Located End
located shape initial sets ending bytes = located_lines shape initial sets ending bytes.lines bytes.rest
