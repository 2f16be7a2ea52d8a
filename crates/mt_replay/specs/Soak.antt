-- What the form `soak` gives: a summary of the replay of the generated job.
use Rattle.std.specs.Prelude.{ℕ, List, ◌++◌, length, codes, flat_map, Option}
use Rattle.std.specs.Fmt.{decimal}
use Rattle.mt_fault.specs.declared.fault.Fault.{Fault}
use Rattle.mt_text.specs.declared.line.Line.{Line}
use Rattle.mt_text.specs.Trace.{result_name}
use Rattle.mt_window.specs.declared.log.Entry.{Entry}
use Rattle.mt_window.specs.declared.reply.TestResult.{TestResult}
use Rattle.mt_ram.specs.Results.{overall}
use Rattle.mt_gen.specs.Config.{job_config}
use Rattle.mt_gen.specs.Script.{script}
use Rattle.mt_gen.specs.declared.summary.Summary.{Summary}
use Rattle.mt_gen.specs.Summary.{summary_of}
use Rattle.mt_replay.specs.declared.form.Form.TheVariants as forms
use Rattle.mt_replay.specs.declared.status.Status.TheVariants as status
use Rattle.mt_machine.specs.Machine.{Step, started, Play, played}
use Rattle.mt_replay.specs.Outcome.{Outcome, after_of, at_the_end, done_text}

-- a line with a word and a number, or with a word and a text
abbrev pub word_text : (word text : List ℕ) → List ℕ
word_text word text = word ++ codes " " ++ text ++ codes "\n"

abbrev pub number_text : List ℕ → ℕ → List ℕ
number_text word number = word_text word (decimal number)

-- the six lines: the sums, the greatest wait, the overall result of RamTst, and the closing line
abbrev pub summary_text : Summary → TestResult → List ℕ
summary_text s result =
    number_text (codes "lines") s.lines ++ number_text (codes "ran") s.ran ++ number_text (codes "served") s.served ++ number_text (codes "longest") s.longest
    ++ word_text (codes "result") (result_name result) ++ done_text s.lines

-- the entries of all steps, in order
abbrev pub entries_of : List Step → List Entry
entries_of steps = flat_map (λ s. s.entries) steps

-- the summary of a replay of some lines, and the board after it
abbrev pub summed : List Line → Play → Outcome
summed lines play = record {
  text = summary_text (summary_of (length lines) (entries_of play.steps)) (overall play.after.modules.ram.results);
  status = status.Done;
  steps = play.steps;
  after = after_of forms.Run play;
  moments = at_the_end (after_of forms.Run play);
}

-- the generated job with a number is replayed, on a board with a defect or none
unfoldable pub soaked : ℕ → Option Fault → Outcome
soaked number defect = summed (script number) (played (started job_config defect) (script number))
