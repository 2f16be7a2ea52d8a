-- Trace lines.
use Rattle.std.specs.Prelude.{ℕ, codes, List, [], ◌∷◌, ◌++◌, Option, Some, None}
use Rattle.std.specs.Fmt.{decimal}
use Rattle.mt_word.specs.declared.Width.{Width}
use Rattle.mt_window.specs.declared.log.Entry.{Entry}
use Rattle.mt_window.specs.declared.log.Entry.TheVariants.{Served, Inner, Own}
use Rattle.mt_window.specs.declared.reply.Reply.{Reply}
use Rattle.mt_window.specs.declared.reply.Reply.TheVariants as reply
use Rattle.mt_window.specs.declared.reply.Value.{Value}
use Rattle.mt_window.specs.declared.reply.Value.TheVariants as value
use Rattle.mt_window.specs.declared.reply.Refusal.{Refusal}
use Rattle.mt_window.specs.declared.reply.Refusal.TheVariants as refusal
use Rattle.mt_window.specs.declared.reply.ShownState.{ShownState}
use Rattle.mt_window.specs.declared.reply.ShownState.TheVariants as state
use Rattle.mt_window.specs.declared.reply.TestResult.{TestResult}
use Rattle.mt_window.specs.declared.reply.TestResult.TheVariants as result
use Rattle.mt_window.specs.declared.reply.AlgorithmName.{AlgorithmName}
use Rattle.mt_window.specs.declared.reply.AlgorithmName.TheVariants as algorithm
use Rattle.mt_window.specs.declared.reply.Detail.{Detail}
use Rattle.mt_window.specs.declared.reply.Detail.TheVariants as detail
use Rattle.mt_hex.specs.Digits.{word_text}

-- the states
abbrev pub state_name : ShownState → List ℕ
state_name state.Uninit = codes "UNINIT"
state_name state.Stopped = codes "STOPPED"
state_name state.Running = codes "RUNNING"
state_name state.Suspended = codes "SUSPENDED"
state_name state.Init = codes "INIT"
state_name state.Aborted = codes "ABORTED"

-- the results
abbrev pub result_name : TestResult → List ℕ
result_name result.NotTested = codes "NOT_TESTED"
result_name result.Ok = codes "OK"
result_name result.NotOk = codes "NOT_OK"
result_name result.Undefined = codes "UNDEFINED"

-- the algorithms, as the configuration spells them
abbrev pub algorithm_name : AlgorithmName → List ℕ
algorithm_name algorithm.Checkerboard = codes "checkerboard"
algorithm_name algorithm.March = codes "march"
algorithm_name algorithm.WalkPath = codes "walk-path"
algorithm_name algorithm.Galpat = codes "galpat"
algorithm_name algorithm.TransparentGalpat = codes "transparent-galpat"

-- the refusals
abbrev pub refusal_text : Refusal → List ℕ
refusal_text refusal.Uninit = codes "refused 1"
refusal_text refusal.Status = codes "refused 2"
refusal_text refusal.Range = codes "refused 3"

-- an interval's identifier, where there is one
abbrev pub identifier_text : Option ℕ → List ℕ
identifier_text None = codes "none"
identifier_text (Some id) = decimal id

-- where FlsTst last found a difference
abbrev pub detail_text : Detail → List ℕ
detail_text detail.Nothing = codes "none"
detail_text (detail.Bgnd block addr) = codes "bgnd " ++ decimal block ++ codes " " ++ decimal addr
detail_text (detail.Fgnd block addr) = codes "fgnd " ++ decimal block ++ codes " " ++ decimal addr

-- a value
abbrev pub value_text : Width → Value → List ℕ
value_text width (value.Word w) = word_text width w
value_text width (value.Number n) = decimal n
value_text width (value.State s) = state_name s
value_text width (value.Result r) = result_name r
value_text width (value.Algorithm a) = algorithm_name a
value_text width (value.Interval id r) = identifier_text id ++ codes " " ++ result_name r
value_text width (value.Details d) = detail_text d
value_text width value.Version = codes "1.0.0"

-- a reply
abbrev pub reply_text : Width → Reply → List ℕ
reply_text width reply.Done = codes "ok"
reply_text width (reply.Ran n) = codes "ran " ++ decimal n
reply_text width (reply.Value v) = value_text width v
reply_text width (reply.Refused r) = refusal_text r
reply_text width reply.Present = codes "present"

-- what stands behind the line's number
abbrev pub shown_entry : Width → Entry → List ℕ
shown_entry width (Served number at wait) = codes "irq " ++ decimal number ++ codes " at " ++ decimal at ++ codes " wait " ++ decimal wait
shown_entry width (Inner r) = codes "- " ++ reply_text width r
shown_entry width (Own r) = reply_text width r

-- the trace line of an entry, with its line feed
unfoldable pub entry_text : Width → ℕ → Entry → List ℕ
entry_text width number entry = decimal number ++ codes " " ++ shown_entry width entry ++ codes "\n"

-- the trace lines of some entries of one line
unfoldable pub entries_text : Width → ℕ → List Entry → List ℕ
entries_text width number [] = []
entries_text width number (entry ∷ entries) = entry_text width number entry ++ entries_text width number entries
