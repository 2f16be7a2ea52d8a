-- What C is told, in numbers.
use Rattle.std.specs.Prelude.{ℕ, ◌+◌, not, if◌then◌else◌, List, Option, Some, None}
use Rattle.mt_march.specs.Reading.{march_number}
use Rattle.mt_engine.specs.declared.settings.Refusal.{Refusal}
use Rattle.mt_engine.specs.declared.settings.Refusal.TheVariants.{Count, Addresses, Background, Fill, Length, TransparentFill, March}
use Rattle.mt_engine.specs.declared.test.Due.{Due}
use Rattle.mt_engine.specs.declared.test.Due.TheVariants as dues
use Rattle.mt_engine.specs.declared.test.Ending.TheVariants as endings
use Rattle.mt_engine.specs.Setup.{refusal_of}
use Rattle.mt_c.specs.declared.codes.MtAccess.{MtAccess}
use Rattle.mt_c.specs.declared.codes.MtRefusal.{MtRefusal}
use Rattle.mt_c.specs.declared.codes.Reply.{Reply}
use Rattle.mt_c.specs.declared.codes.Reply.TheVariants.{Read, Write, Pass, Fail, BrokenOff, NoWord, TooLate, Spoilt}
use Rattle.mt_c.specs.declared.state.MtSettings.{MtSettings}
use Rattle.mt_c.specs.State.{is_policy, is_width, settings_of}

-- ---- replies

abbrev pub reply_number : Reply → ℕ
reply_number Read = 1
reply_number Write = 2
reply_number Pass = 3
reply_number Fail = 4
reply_number BrokenOff = 5
reply_number NoWord = 6
reply_number TooLate = 7
reply_number Spoilt = 8

-- what is due, as a reply
abbrev pub reply_of : Due → Reply
reply_of (dues.Read addr) = Read
reply_of (dues.Write addr word) = Write
reply_of (dues.Ended endings.Pass) = Pass
reply_of (dues.Ended endings.Fail) = Fail
reply_of (dues.Ended endings.BrokenOff) = BrokenOff

-- the access, as C has it: a read leaves the word as it is, and an end leaves all
abbrev pub access_after : Due → MtAccess → MtAccess
access_after (dues.Read addr) access = record access { address = addr }
access_after (dues.Write addr word) access = record { word = word; address = addr }
access_after (dues.Ended ending) access = access

-- ---- refusals

abbrev pub by_rule : ℕ → MtRefusal
by_rule rule = record { rule = rule; place = 0 }

-- a refusal, as C has it
abbrev pub refusal_code : Refusal → MtRefusal
refusal_code Count = by_rule 3
refusal_code Addresses = by_rule 4
refusal_code Background = by_rule 5
refusal_code Fill = by_rule 6
refusal_code Length = by_rule 7
refusal_code TransparentFill = by_rule 8
refusal_code (March march) = record { rule = 8 + march_number march.kind; place = march.place }

abbrev pub told_of : Option Refusal → MtRefusal
told_of None = by_rule 0
told_of (Some refusal) = refusal_code refusal

-- what is refused: a number that is no width, or no policy, else what the settings and the text break; rule 0 is none
abbrev pub refusal_told : MtSettings → List ℕ → MtRefusal
refusal_told s text = if not (is_width s.width) then by_rule 1 else (if not (is_policy s.policy) then by_rule 2 else told_of (refusal_of (settings_of s) text))
