-- What an explanation says of an input.
use Rattle.std.specs.Prelude.{ℕ, ◌+◌, ◌-◌, ◌≤◌, ◌≡◌, List, length, take, Option, Some, None, option_map, option_and_then, IfSome}
use denote.Ref.{Bor}
use Rattle.mt_verify.specs.Lines.{lines}
use Rattle.mt_replay.specs.declared.status.Status.{Status}
use Rattle.mt_replay.specs.declared.status.Status.TheVariants.{Done, Usage, BadConfig, BadScript, ReadFault, WriteFault, NoMemory, Differs}
use Rattle.mt_explain.specs.declared.row.Row.{Row}
use Rattle.mt_explain.specs.declared.explanation.Place.{Place}
use Rattle.mt_place.specs.Places.{IsIn, line_at}
use Rattle.mt_explain.specs.declared.row.Book.TheVariants.{March}
use Rattle.mt_explain.specs.Lines.{head_len, head_bytes, trace_start}
use Rattle.mt_explain.specs.Notes.{march_number}
use Rattle.mt_explain.specs.Rows.{rule_of, rule_in, known}

-- the row is that of the rule that a status gives, and is there if the rule is one of the table
abbrev pub IsRowOf : Status → Option (Bor Row) → Type 0
IsRowOf status row = option_map (λ r. rule_in r.now) row ≡ option_and_then known (rule_of status)

-- the row is that of the march rule by which a configuration, as far as it may go, is refused
abbrev pub IsMarchOf : List ℕ → Status → Option (Bor Row) → Type 0
IsMarchOf bytes status row =
    option_map (λ r. rule_in r.now) row ≡ option_and_then known (option_map (λ number. record { book = March; number = number }) (march_number status (take 65536 (head_bytes bytes))))

-- the text is the file's line with that number
abbrev pub IsOfFile : List (List ℕ) → Place → Type 0
IsOfFile file place = place.text.now ≡ line_at file place.line

-- A refused script line stands in the file after as many lines as the configuration has with its separator, and is marked at the place
-- that the status gives. The line of a trace that differs stands after the second separator. A refused configuration may have a place,
-- found again in the text; it is then in the file. Nothing else has a place.
abbrev pub IsPlaceOf : List (List ℕ) → Status → Option Place → Type 0
IsPlaceOf file (BadScript line code column) place =
    (p : Place) × (place ≡ Some p) × (p.line ≡ head_len file + line) × (p.column ≡ column) × IsOfFile file p
IsPlaceOf file (Differs line) place =
    (p : Place) × (place ≡ Some p) × (p.line ≡ trace_start file + line) × (p.column ≡ 1) × IsOfFile file p
IsPlaceOf file (BadConfig code) place = IfSome place (λ p. IsIn file (record { line = p.line; column = p.column }) × IsOfFile file p)
IsPlaceOf file status place = place ≡ None

-- the marked bytes are on the line, from the column on
abbrev pub FitsLine : ℕ → Place → Type 0
FitsLine count place = count ≤ length place.text.now - (place.column - 1)
