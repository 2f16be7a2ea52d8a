-- Running calls of RamTst whose sequences touch no word of the application, but that each one that has ended leaves the fill of a
-- destructive block. On sound memory the running calls are these.
use Rattle.std.specs.Prelude.{ℕ, Bool, ◌≡◌, List, Option, Some, None}
use Rattle.mt_plan.specs.Plan.{IsAccepted}
use Rattle.mt_port.specs.Board.{Board}
use Rattle.mt_seq.specs.declared.sequence.Job.{Job}
use Rattle.mt_seq.specs.declared.sequence.Slice.{Slice}
use Rattle.mt_seq.specs.declared.sequence.Verdict.{Verdict}
use Rattle.mt_seq.specs.Laws.{left_words}
use Rattle.mt_window.specs.Serving.{Scene}
use Rattle.mt_window.specs.Slices.{Tried}
use Rattle.mt_window.specs.Events.{Running as Events, event, ran, opened, exchanged}
use Rattle.mt_blocks.specs.Slices.{Piece}
use Rattle.mt_blocks.specs.Accepted.{set_at}
use Rattle.mt_ram.specs.State.{Setting, RamTst}
use Rattle.mt_ram.specs.Event.{job_of, attempt_at, partial_test}

-- the words behind an attempt: the fill of a destructive block, where the sequence has ended; else the words before it
abbrev pub left_by : Option Verdict → List ℕ → Job → Slice → List ℕ
left_by None words job slice = words
left_by (Some verdict) words job slice = left_words words job.policy slice job.fill

-- an attempt that is as long as the one that is made, and comes to the same verdict, and touches nothing
abbrev pub untouching : Bool → RamTst → Piece → Board → Tried Verdict
untouching may r p b = record (attempt_at may r p b) { words = left_by (attempt_at may r p b).verdict b.words (job_of r p) p.slice }

abbrev pub untouched : Events RamTst Piece Verdict → Events RamTst Piece Verdict
untouched call = exchanged call untouching

-- each march of the configuration is an accepted one
abbrev pub HasAcceptedMarches : Setting → Type 0
HasAcceptedMarches setting = (set : ℕ) → IsAccepted (set_at setting.config.sets set).alg

-- On sound memory a running call comes to the same where its sequences touch nothing: the same words at each boundary and after it, the
-- same answers and entries, accesses and attempts, and the same module.
pub record LeavesNoTrace (call : Events RamTst Piece Verdict) : Type 0 where
  pub boundaries : (s : Scene RamTst) → s.board.fault ≡ None → HasAcceptedMarches s.callee.setting → ran call (opened call s) ≡ ran (untouched call) (opened (untouched call) s)
  pub event : (s : Scene RamTst) → s.board.fault ≡ None → HasAcceptedMarches s.callee.setting → event call s ≡ event (untouched call) s

abbrev pub PartialTestsLeaveNoTrace : Type 0
PartialTestsLeaveNoTrace = (block : ℕ) → LeavesNoTrace (partial_test block)
