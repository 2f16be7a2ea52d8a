-- What a note says beside its texts.
use Rattle.std.specs.Prelude.{ℕ, ◌+◌, ◌≡◌, List, Option, Some, None, IfSome}
use Rattle.mt_replay.specs.declared.status.Status.{Status}
use Rattle.mt_replay.specs.declared.status.Status.TheVariants.{Done, Usage, BadConfig, BadScript, ReadFault, WriteFault, NoMemory, Differs}
use Rattle.mt_place.specs.declared.mark.Mark.{Mark}
use Rattle.mt_place.specs.declared.note.Note.{Note}
use Rattle.mt_place.specs.Places.{IsIn}
use Rattle.mt_place.specs.Marches.{march_rule}
use Rattle.mt_explain.specs.Lines.{trace_start}

-- the note has no place of its own, and names no rule of marches
abbrev pub IsPlain : Note → Type 0
IsPlain note = (note.mark ≡ None) × (note.march ≡ None)

-- what is marked in a file: a place in it for a refused configuration, the line of the trace that differs, and nothing else
abbrev pub IsMarkOf : List (List ℕ) → Status → Option Mark → Type 0
IsMarkOf file (BadConfig code) mark = IfSome mark (IsIn file)
IsMarkOf file (Differs line) mark = mark ≡ Some (record { line = trace_start file + line; column = 1 })
IsMarkOf file status mark = mark ≡ None

-- the number of the march rule by which a configuration is refused
abbrev pub march_number : Status → List ℕ → Option ℕ
march_number (BadConfig code) config = march_rule code config
march_number status config = None
