-- What the form `verify` gives: whether the bytes behind a script are its trace.
use Rattle.std.specs.Prelude.{ℕ, Bool, ◌+◌, ◌-◌, ◌&&◌, List, [], ◌∷◌, ◌++◌, length, take, codes, flat_map, Option, Some, None, Result, Ok, Err, nat_lt, nat_le, if◌then◌else◌}
use Rattle.std.specs.Fmt.{decimal}
use Rattle.std.specs.Str.{bytes_eq}
use Rattle.mt_port.specs.declared.board.Shape.{Shape}
use Rattle.mt_fault.specs.declared.fault.Fault.{Fault}
use Rattle.mt_text.specs.declared.line.Line.{Line}
use Rattle.mt_text.specs.declared.line.LineRefusal.{LineRefusal}
use Rattle.mt_text.specs.Lines.{line_of}
use Rattle.mt_text.specs.TokenRules.{kind_number}
use Rattle.mt_verify.specs.Lines.{lines as lines_of, first_other_line}
use Rattle.mt_conf.specs.declared.config.Config.{Config}
use Rattle.mt_conf.specs.declared.config.ConfigRefusal.{ConfigRefusal}
use Rattle.mt_replay.specs.declared.form.Form.TheVariants as forms
use Rattle.mt_replay.specs.declared.run.End.{End}
use Rattle.mt_replay.specs.declared.run.End.TheVariants.{Whole, Refused, Broken}
use Rattle.mt_replay.specs.declared.status.Status.{Status}
use Rattle.mt_replay.specs.declared.status.Status.TheVariants as status
use Rattle.mt_replay.specs.Input.{Ending, Finished, Failed, Cut, separator, job_of}
use Rattle.mt_machine.specs.Machine.{started}
use Rattle.mt_replay.specs.Script.{Script}
use Rattle.mt_replay.specs.Locating.{◌>>=◌}
use Rattle.mt_replay.specs.Locate.{stop_text, stop_status}
use Rattle.mt_replay.specs.Outcome.{Outcome, at_the_end, said, scripted, bad_config, refused_of, read_fault_text, judged_job}

-- ---- a script and a trace

-- the lines of a script, and what is given as its trace
pub record Claim : Type 0 where
  pub lines : List Line
  pub given : List ℕ

-- a script has at most so many bytes, line feeds included
abbrev pub script_limit : ℕ
script_limit = 16777216

-- where so many bytes of it stand before a line, the place in this line of the first byte that is one too many
abbrev pub place_beyond : ℕ → ℕ
place_beyond size = script_limit - size + 1

-- whether a line has a byte at the place 1025, and no byte before it was one too many
abbrev pub is_too_long : (size : ℕ) → List ℕ → Bool
is_too_long size text = nat_lt 1024 (length text) && nat_le 1025 (place_beyond size)

-- What decides about a line before its tokens: it is beyond the last that may be, too long, or has a byte too many for the script, where `size`
-- bytes stand before it and it has so many with its line feed.
abbrev pub within : {A : Type 0} → (number size count : ℕ) → List ℕ → Result A End → Result A End
within number size count text line =
    if nat_lt 1000000 number then Err (Refused number 11 1)
    else (if is_too_long size text then Err (Refused number 10 1025)
    else (if nat_lt script_limit (size + count) then Err (Refused number 16 (place_beyond size)) else line))

-- what its tokens say
abbrev pub spelled : ℕ → Result Line LineRefusal → Result Line End
spelled number (Ok line) = Ok line
spelled number (Err refusal) = Err (Refused number (kind_number refusal.kind) refusal.place)

abbrev pub line_said : Shape → (number size count : ℕ) → List ℕ → Result Line End
line_said shape number size count text = within number size count text (spelled number (line_of shape text))

-- whether bytes are the front of others
abbrev pub is_front : List ℕ → List ℕ → Bool
is_front front bytes = bytes_eq front (take (length front) bytes)

-- Behind the last line feed: a separator without one, where the input ends; else a line of the script, and no trace. Before a failure of the source
-- bytes that may become a separator are not refused, and others only where they are whatever comes.
abbrev pub last_claimed : Shape → Ending → (number size : ℕ) → List ℕ → Result Claim End
last_claimed shape Finished number size [] = Err (Refused number 17 1)
last_claimed shape Finished number size (byte ∷ bytes) =
    if bytes_eq (byte ∷ bytes) separator then Ok (record { lines = []; given = [] })
    else (line_said shape number size (length (byte ∷ bytes)) (byte ∷ bytes) >>= (λ line. Err (Refused (number + 1) 17 1)))
last_claimed shape Failed number size rest =
    if is_front rest separator then Err Broken else within number size (length rest) rest (Err Broken)

-- the bytes that were cut
abbrev pub uncut : List (List ℕ) → List ℕ → List ℕ
uncut whole rest = flat_map (λ line. line ++ 10 ∷ []) whole ++ rest

-- the lines of the script up to the first that is a separator, and what is given behind it
abbrev pub claimed_from : Shape → Ending → (number size : ℕ) → List (List ℕ) → List ℕ → Result Claim End
claimed_from shape ending number size [] rest = last_claimed shape ending number size rest
claimed_from shape ending number size (text ∷ more) rest =
    if bytes_eq text separator then Ok (record { lines = []; given = uncut more rest })
    else do
      line ← line_said shape number size (length text + 1) text
      claim ← claimed_from shape ending (number + 1) (size + (length text + 1)) more rest
      Ok (record { lines = line ∷ claim.lines; given = claim.given })

abbrev pub claimed : Shape → Ending → Cut → Result Claim End
claimed shape ending behind = claimed_from shape ending 1 0 behind.lines behind.rest

-- ---- the comparison

-- what is expected: the text of a replay of the script, with its closing line
abbrev pub whole_script : List Line → Script
whole_script lines = record { lines = lines; end = Whole (length lines) }

abbrev pub replayed : Config → Option Fault → List Line → Outcome
replayed config defect lines = scripted forms.Run config (started config defect) (whole_script lines)

-- the first other line of two texts, where there is one
abbrev pub verdict_text : List ℕ → Option ℕ → List ℕ
verdict_text expected None = codes "same " ++ decimal (length (lines_of expected)) ++ codes "\n"
verdict_text expected (Some line) = codes "differs " ++ decimal line ++ codes "\n"

abbrev pub verdict_status : Option ℕ → Status
verdict_status None = status.Done
verdict_status (Some line) = status.Differs line

-- the replay of the script, of which something else is told
abbrev pub telling : Outcome → List ℕ → Status → Outcome
telling replay text how = record replay { text = text; status = how; moments = at_the_end replay.after }

abbrev pub judged_by : Outcome → Option ℕ → Outcome
judged_by replay other = telling replay (verdict_text replay.text other) (verdict_status other)

-- A given trace is compared with the expected text, line by line. Where the source failed behind bytes that are a front of it, that is told.
abbrev pub compared : Ending → Outcome → List ℕ → Outcome
compared Finished replay given = judged_by replay (first_other_line replay.text given)
compared Failed replay given =
    if is_front given replay.text then telling replay read_fault_text status.ReadFault else judged_by replay (first_other_line replay.text given)

-- ---- a job and a trace

abbrev pub claim_gives : Config → Option Fault → Ending → Result Claim End → Outcome
claim_gives config defect ending (Ok claim) = compared ending (replayed config defect claim.lines) claim.given
claim_gives config defect ending (Err end) = said (stop_text end) (stop_status end)

-- the configuration decides, then the script, and then the trace
abbrev pub verifying_by : Option Fault → Ending → Result Config ConfigRefusal → Cut → Outcome
verifying_by defect ending (Err refusal) behind = bad_config (refused_of refusal)
verifying_by defect ending (Ok config) behind = claim_gives config defect ending (claimed config.shape ending behind)

-- what some bytes give, on a board with a defect or none
unfoldable pub verifying : Option Fault → Ending → List ℕ → Outcome
verifying defect ending bytes = judged_job (verifying_by defect ending) ending (job_of ending bytes)
