-- False alarms: a failure that is reported though nothing is wrong.
use Rattle.std.specs.Prelude.{ℕ, ◌+◌, ◌-◌, ◌≡◌, Bool, true, false, List, [], ◌∷◌, All, Option, None}
use Rattle.mt_fault.specs.declared.fault.Fault.{Fault}
use Rattle.mt_seq.specs.Laws.{EqualsCopy}
use Rattle.mt_window.specs.declared.log.Entry.{Entry}
use Rattle.mt_window.specs.declared.log.Entry.TheVariants.{Served, Inner, Own}
use Rattle.mt_window.specs.declared.reply.Detail.{Detail}
use Rattle.mt_window.specs.declared.reply.Detail.TheVariants.{Nothing, Bgnd, Fgnd}
use Rattle.mt_window.specs.declared.reply.Reply.{Reply}
use Rattle.mt_window.specs.declared.reply.Reply.TheVariants as reply
use Rattle.mt_window.specs.declared.reply.TestResult.{TestResult}
use Rattle.mt_window.specs.declared.reply.TestResult.TheVariants.{NotTested, Ok, NotOk, Undefined}
use Rattle.mt_window.specs.declared.reply.Value.{Value}
use Rattle.mt_window.specs.declared.reply.Value.TheVariants as value
use Rattle.mt_blocks.specs.declared.config.FlashBlock.{FlashBlock}
use Rattle.mt_blocks.specs.declared.config.FlsConfig.{FlsConfig}
use Rattle.mt_text.specs.declared.line.Event.{Event}
use Rattle.mt_text.specs.declared.line.Event.TheVariants as event
use Rattle.mt_text.specs.declared.line.Line.{Line}
use Rattle.mt_conf.specs.declared.config.Config.{Config}
use Rattle.mt_conf.specs.Accepted.{IsAcceptedConfig}
use Rattle.mt_machine.specs.Machine.{Step, started, played}
use Rattle.mt_laws.specs.Plain.{InjectsNothing}

-- ---- what reports a failure

-- a result that is NOT_OK
abbrev pub is_failure : TestResult → Bool
is_failure NotTested = false
is_failure Ok = false
is_failure NotOk = true
is_failure Undefined = false

-- the place of a difference in a flash block
abbrev pub is_place : Detail → Bool
is_place Nothing = false
is_place (Bgnd block addr) = true
is_place (Fgnd block addr) = true

-- a reply that shows one of these: the result of a block, of all blocks, of an interval or of a foreground test, or error details
abbrev pub shows_failure : Value → Bool
shows_failure (value.Word word) = false
shows_failure (value.Number n) = false
shows_failure (value.State state) = false
shows_failure (value.Result result) = is_failure result
shows_failure (value.Algorithm algorithm) = false
shows_failure (value.Interval id result) = is_failure result
shows_failure (value.Details detail) = is_place detail
shows_failure value.Version = false

abbrev pub reports_failure : Reply → Bool
reports_failure reply.Done = false
reports_failure (reply.Ran accesses) = false
reports_failure (reply.Value what) = shows_failure what
reports_failure (reply.Refused why) = false
reports_failure reply.Present = false

-- an entry of the trace with such a reply, of a handler's call or of the line's own
abbrev pub is_alarm : Entry → Bool
is_alarm (Served number at wait) = false
is_alarm (Inner given) = reports_failure given
is_alarm (Own given) = reports_failure given

abbrev pub HasNoAlarm : List Entry → Type 0
HasNoAlarm entries = All (λ e. is_alarm e ≡ false) entries

abbrev pub HasNoFailure : List TestResult → Type 0
HasNoFailure results = All (λ r. is_failure r ≡ false) results

-- ---- lines of a module

abbrev pub is_of_ram : Event → Bool
is_of_ram (event.Ram call) = true
is_of_ram event.TickRam = true
is_of_ram other = false

abbrev pub is_of_fls : Event → Bool
is_of_fls (event.Fls call) = true
is_of_fls event.TickFls = true
is_of_fls other = false

-- something holds of each line and its step
abbrev pub OfEach : (Line → Step → Type 0) → List Line → List Step → Type 0
OfEach P [] [] = Unit {0}
OfEach P (line ∷ lines) (s ∷ steps) = P line s × OfEach P lines steps
OfEach P lines steps = ⊥

-- ---- RamTst

-- After a line no block of RamTst is NOT_OK; and if the line is one of RamTst's, no entry of its trace reports a failure.
pub record IsRamCalm (line : Line) (s : Step) : Type 0 where
  pub blocks : HasNoFailure s.after.modules.ram.results
  pub entries : is_of_ram line.event ≡ true → HasNoAlarm s.entries

-- Where the board has no fault at the start and no line injects one, RamTst reports no failure, whatever else the lines do.
abbrev pub RamRaisesNoFalseAlarm : Type 0
RamRaisesNoFalseAlarm = (c : Config) (defect : Option Fault) (lines : List Line) → IsAcceptedConfig c → (started c defect).board.fault ≡ None → All InjectsNothing lines
    → OfEach IsRamCalm lines (played (started c defect) lines).steps

-- ---- FlsTst

-- each word of some flash blocks equals its copy
abbrev pub AgreeWithCopies : List FlashBlock → List ℕ → Type 0
AgreeWithCopies blocks flash = All (λ (b : FlashBlock). EqualsCopy flash b.span.first b.copy (b.span.last - b.span.first + 1)) blocks

-- each word of each flash block equals its copy
pub record AgreesWithCopies (config : FlsConfig) (flash : List ℕ) : Type 0 where
  pub bgnd : AgreeWithCopies config.bgnd flash
  pub fgnd : AgreeWithCopies config.fgnd flash

-- After a line neither the interval's nor the foreground test's result is NOT_OK, and no difference is known; and if the line is one of
-- FlsTst's, no entry of its trace reports a failure.
pub record IsFlsCalm (line : Line) (s : Step) : Type 0 where
  pub interval : is_failure s.after.modules.fls.result ≡ false
  pub foreground : is_failure s.after.modules.fls.fgnd ≡ false
  pub detail : is_place s.after.modules.fls.detail ≡ false
  pub entries : is_of_fls line.event ≡ true → HasNoAlarm s.entries

-- While each flash word equals its copy after every line, FlsTst reports no failure, whatever else the lines do and whatever becomes of the RAM.
abbrev pub FlsRaisesNoFalseAlarm : Type 0
FlsRaisesNoFalseAlarm = (c : Config) (defect : Option Fault) (lines : List Line) → IsAcceptedConfig c
    → All (λ (s : Step). AgreesWithCopies c.fls_tst s.after.board.flash) (played (started c defect) lines).steps
    → OfEach IsFlsCalm lines (played (started c defect) lines).steps
