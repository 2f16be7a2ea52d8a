-- What a job gives: the text that is written, how it ends, and what is left of the board.
use Rattle.std.specs.Prelude.{ℕ, ◌+◌, List, [], ◌∷◌, ◌++◌, length, take, codes, flat_map, slice_get, Option, Some, None, Result, Ok, Err, nat_lt, nat_le, if◌then◌else◌}
use Rattle.std.specs.Fmt.{decimal}
use Rattle.mt_port.specs.declared.board.Shape.{Shape}
use Rattle.mt_port.specs.declared.board.Touch.{Touch}
use Rattle.mt_port.specs.Board.{Board}
use Rattle.mt_fault.specs.declared.fault.Fault.{Fault}
use Rattle.mt_text.specs.declared.line.Line.{Line}
use Rattle.mt_text.specs.Trace.{entries_text}
use Rattle.mt_text.specs.Canonical.{canonical}
use Rattle.mt_march.specs.Reading.{march_number}
use Rattle.mt_conf.specs.declared.config.Config.{Config}
use Rattle.mt_conf.specs.declared.config.ConfigRefusal.{ConfigRefusal}
use Rattle.mt_conf.specs.declared.config.ConfigRefusal.TheVariants.{March}
use Rattle.mt_conf.specs.Outcome.{outcome as config_of, number_of}
use Rattle.mt_conf.specs.Canonical.{config_text}
use Rattle.mt_replay.specs.declared.form.Form.{Form}
use Rattle.mt_replay.specs.declared.form.Form.TheVariants as forms
use Rattle.mt_replay.specs.declared.refused.Refused.{Refused}
use Rattle.mt_replay.specs.declared.refused.Refused.TheVariants as because
use Rattle.mt_replay.specs.declared.run.End.{End}
use Rattle.mt_replay.specs.declared.run.End.TheVariants as end
use Rattle.mt_replay.specs.declared.status.Status.{Status}
use Rattle.mt_replay.specs.declared.status.Status.TheVariants as status
use Rattle.mt_replay.specs.Input.{Ending, Finished, Failed, Cut, Job, Parted, Whole, job_of}
use Rattle.mt_machine.specs.Machine.{Machine, Step, Play, played, started}
use Rattle.mt_replay.specs.Script.{Script, script_from}
use Rattle.mt_replay.specs.Cut.{chosen_text}

-- ---- lines of text

-- the closing line after so many lines
abbrev pub done_text : ℕ → List ℕ
done_text count = codes "end ok " ++ decimal count ++ codes "\n"

-- the text of a refused line
abbrev pub refused_text : (line code place : ℕ) → List ℕ
refused_text line code place = codes "bad line " ++ decimal line ++ codes " " ++ decimal code ++ codes " " ++ decimal place ++ codes "\n"

abbrev pub read_fault_text : List ℕ
read_fault_text = codes "read fault\n"

-- why a configuration is refused, as it is told
abbrev pub refused_of : ConfigRefusal → Refused
refused_of (March set kind place) = because.March set (march_number kind) place
refused_of refusal = because.Rule (number_of refusal)

-- the rule's number, and the text of a refused configuration
abbrev pub rule_number : Refused → ℕ
rule_number (because.Rule code) = code
rule_number (because.March set kind place) = 11

abbrev pub bad_config_text : Refused → List ℕ
bad_config_text (because.Rule code) = codes "bad config " ++ decimal code ++ codes "\n"
bad_config_text (because.March set kind place) = codes "bad config 11 " ++ decimal set ++ codes " " ++ decimal kind ++ codes " " ++ decimal place ++ codes "\n"

-- ---- a replay

-- the trace lines of steps, the first of which has this number, and all their accesses
abbrev pub steps_text : Shape → ℕ → List Step → List ℕ
steps_text shape number [] = []
steps_text shape number (s ∷ more) = entries_text shape.width number s.entries ++ steps_text shape (number + 1) more

abbrev pub steps_touches : List Step → List Touch
steps_touches steps = flat_map (λ s. s.touches) steps

-- ---- the forms

-- a replay does what the lines ask for; the other forms leave the machine
abbrev pub play_of : Form → Machine → List Line → Play
play_of forms.Run m lines = played m lines
play_of forms.Check m lines = record { steps = []; after = m }
play_of forms.Format m lines = record { steps = []; after = m }
play_of forms.Migrate m lines = record { steps = []; after = m }
play_of (forms.Cut ask) m lines = record { steps = []; after = m }

-- what is written for lines, the first of which has this number: a replay's trace; their canonical text; or nothing
abbrev pub canonical_lines : Shape → List Line → List ℕ
canonical_lines shape lines = flat_map (λ line. canonical shape.width line ++ codes "\n") lines

abbrev pub lines_text : Form → Shape → Machine → ℕ → List Line → List ℕ
lines_text forms.Run shape m number lines = steps_text shape number (played m lines).steps
lines_text forms.Check shape m number lines = []
lines_text forms.Format shape m number lines = canonical_lines shape lines
lines_text forms.Migrate shape m number lines = canonical_lines shape lines
lines_text (forms.Cut ask) shape m number lines = []

-- the same configuration in version 2
abbrev pub migrated : Config → Config
migrated config = record config { version = 2 }

-- what stands before them: canonical form begins with the configuration, and `migrate` writes it in version 2
abbrev pub opening_text : Form → Config → List ℕ
opening_text forms.Run config = []
opening_text forms.Check config = []
opening_text forms.Format config = config_text config ++ codes "=====\n"
opening_text forms.Migrate config = config_text (migrated config) ++ codes "=====\n"
opening_text (forms.Cut ask) config = []

-- what stands behind a whole script: the closing line; nothing in canonical form; or what is told of the set that is asked for
abbrev pub closing_text : Form → Config → ℕ → List ℕ
closing_text forms.Run config count = done_text count
closing_text forms.Check config count = done_text count
closing_text forms.Format config count = []
closing_text forms.Migrate config count = []
closing_text (forms.Cut ask) config count = chosen_text ask (slice_get config.ram_tst.sets ask.set)

abbrev pub end_text : Form → Config → End → List ℕ
end_text form config (end.Whole count) = closing_text form config count
end_text form config (end.Refused line code place) = refused_text line code place
end_text form config end.Broken = read_fault_text

abbrev pub end_status : End → Status
end_status (end.Whole count) = status.Done
end_status (end.Refused line code place) = status.BadScript line code place
end_status end.Broken = status.ReadFault

-- ---- a whole job

-- the board after a script, and the accesses that the script made
pub record After : Type 0 where
  pub board : Board
  pub touches : List Touch

-- what stands when a text is to be written: the text before it, and what was done to the board
pub record Moment : Type 0 where
  pub text : List ℕ
  pub after : Option After

-- What a job gives, the steps of its replay, and what stands when the text of a line is to be written, by the number of lines before it. If
-- nothing was replayed, the board stays.
pub record Outcome : Type 0 where
  pub text : List ℕ
  pub status : Status
  pub steps : List Step
  pub after : Option After
  pub moments : ℕ → Moment

-- only a replay uses the board
abbrev pub after_of : Form → Play → Option After
after_of forms.Run play = Some (record { board = play.after.board; touches = steps_touches play.steps })
after_of forms.Check play = None
after_of forms.Format play = None
after_of forms.Migrate play = None
after_of (forms.Cut ask) play = None

-- one text, which is written after all is done
abbrev pub at_the_end : Option After → ℕ → Moment
at_the_end after number = record { text = []; after = after }

-- a text alone, and a status
abbrev pub said : List ℕ → Status → Outcome
said text how = record { text = text; status = how; steps = []; after = None; moments = at_the_end None }

abbrev pub bad_config : Refused → Outcome
bad_config why = said (bad_config_text why) (status.BadConfig (rule_number why))

-- The text of a line is written when the texts of so many lines before it are, and the line is done. The closing text follows the last line.
abbrev pub moment : Form → Config → Machine → List Line → ℕ → Moment
moment form config m lines number = record {
  text = opening_text form config ++ lines_text form config.shape m 1 (take number lines);
  after = after_of form (play_of form m (take (number + 1) lines));
}

-- the script of an accepted configuration, where the machine begins so
abbrev pub scripted : Form → Config → Machine → Script → Outcome
scripted form config m script = record {
  text = opening_text form config ++ lines_text form config.shape m 1 script.lines ++ end_text form config script.end;
  status = end_status script.end;
  steps = (play_of form m script.lines).steps;
  after = after_of form (play_of form m script.lines);
  moments = moment form config m script.lines;
}

-- the configuration decides, and then the script
abbrev pub configured : Form → Ending → Option Fault → Result Config ConfigRefusal → Cut → Outcome
configured form ending defect (Err refusal) script = bad_config (refused_of refusal)
configured form ending defect (Ok config) script = scripted form config (started config defect) (script_from config.shape ending 1 script)

-- A configuration that is too long is refused first; then one without a separator, where the input ended; where the source failed, that is
-- told. Else the configuration decides, and what is behind it.
abbrev pub judged_job : (Result Config ConfigRefusal → Cut → Outcome) → Ending → Job → Outcome
judged_job given ending (Parted config behind) = if nat_lt 65536 (length config) then bad_config (because.Rule 18) else given (config_of config) behind
judged_job given Finished (Whole bytes) = if nat_lt 65536 (length bytes) then bad_config (because.Rule 18) else bad_config (because.Rule 19)
judged_job given Failed (Whole bytes) = if nat_le 65542 (length bytes) then bad_config (because.Rule 18) else said read_fault_text status.ReadFault

abbrev pub by_job : Form → Ending → Option Fault → Job → Outcome
by_job form ending defect job = judged_job (configured form ending defect) ending job

-- what some bytes give in a form, on a board with a defect or none
unfoldable pub outcome : Form → Ending → Option Fault → List ℕ → Outcome
outcome form ending defect bytes = by_job form ending defect (job_of ending bytes)
