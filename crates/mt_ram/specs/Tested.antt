-- What results and the mark are, from outside: by all that has ended since, and not by what one step makes of the step before.
use Rattle.std.specs.Prelude.{◌≡◌, ◌≢◌, ◌<◌, ◌↔◌, ◌||◌, ℕ, Bool, true, false, if◌then◌else◌, List, [], ◌∷◌, ◌++◌, length, replicate, fold, find, All, Contains, Option, Some, None, slice_index_or}
use Rattle.std.specs.List.{list_any}
use Rattle.mt_port.specs.declared.request.HandlerCall.{HandlerCall}
use Rattle.mt_port.specs.declared.request.HandlerCall.TheVariants.{RamStop, RamSuspend}
use Rattle.mt_seq.specs.declared.sequence.Verdict.{Verdict}
use Rattle.mt_window.specs.declared.reply.Reply.TheVariants as reply
use Rattle.mt_window.specs.declared.reply.TestResult.{TestResult}
use Rattle.mt_window.specs.declared.reply.TestResult.TheVariants.{NotTested, Ok, NotOk, Undefined}
use Rattle.mt_blocks.specs.Slices.{Piece}
use Rattle.mt_ram.specs.declared.state.State.TheVariants.{Uninit}
use Rattle.mt_ram.specs.State.{RamTst, IsRam, set_of}
use Rattle.mt_ram.specs.Results.{has_failed, result_after, failed_after, overall}
use Rattle.mt_ram.specs.Table.{Service, Init, SelectAlgParams, reply_to, after, ram_table}
use Rattle.mt_ram.specs.Event.{with_result, passed}

-- ---- results

-- the end of a slice of a block: the verdicts of the slices of its test before it, its own, and whether it is the last one
pub record End : Type 0 where
  pub before : List Verdict
  pub verdict : Verdict
  pub last : Bool

-- whether a slice of its test failed so far
abbrev pub failed_so_far : End → Bool
failed_so_far e = has_failed e.verdict || list_any has_failed e.before

-- an end decides the block's result where its slice failed or is the last of its test
abbrev pub decides : End → Bool
decides e = has_failed e.verdict || e.last

-- the result of a block by the ends of its slices since the results were reset, the latest first: the latest that decides says
-- whether its test has failed
abbrev pub result_by : Option End → List End → TestResult
result_by (Some e) ends = if failed_so_far e then NotOk else Ok
result_by None [] = NotTested
result_by None (e ∷ ends) = Undefined

-- what one end after another leaves
abbrev pub result_of : List End → TestResult
result_of [] = NotTested
result_of (e ∷ ends) = result_after (result_of ends) e.verdict (list_any has_failed e.before) e.last

-- A block is OK where the latest of its slices that decides ended a test all of whose slices passed, and NOT_OK where it or one
-- before it in its test failed. It is NOT_TESTED where no slice has ended, else UNDEFINED where none has decided.
abbrev pub ResultsAreOfTests : Type 0
ResultsAreOfTests = (ends : List End) → result_of ends ≡ result_by (find decides ends) ends

-- a test knows whether one of its slices failed, and after its last one nothing
pub record FailuresAreKept : Type 0 where
  pub kept : (before : List Verdict) → fold (λ failed v. failed_after v failed false) false before ≡ list_any has_failed before
  pub dropped : (v : Verdict) (failed : Bool) → failed_after v failed true ≡ false

-- the end of a slice leaves the results of other blocks
abbrev pub OtherBlocksStay : Type 0
OtherBlocksStay = (r : RamTst) (p : Piece) (v : Verdict) (failed : Bool) (block : ℕ) (d : TestResult) → block ≢ p.place.block
    → slice_index_or (with_result r p v failed).results block d ≡ slice_index_or r.results block d

-- the overall result is NOT_OK exactly where some block is, OK exactly where all are, and NOT_TESTED exactly where all are
pub record IsOverall (results : List TestResult) : Type 0 where
  pub not_ok : (overall results ≡ NotOk) ↔ Contains results NotOk
  pub ok : (overall results ≡ Ok) ↔ All (λ result. result ≡ Ok) results
  pub not_tested : (overall results ≡ NotTested) ↔ All (λ result. result ≡ NotTested) results

abbrev pub OverallIsOfAll : Type 0
OverallIsOfAll = (results : List TestResult) → 0 < length results → IsOverall results

-- ---- services

-- the services that reset the results
abbrev pub is_reset : Service → Bool
is_reset Init = true
is_reset (SelectAlgParams set) = true
is_reset service = false

-- an accepted reset makes each block of the set NOT_TESTED, and no other service changes a result
pub record ResultsAreReset : Type 0 where
  pub reset : (r : RamTst) (service : Service) → is_reset service ≡ true → reply_to r service ≡ reply.Done
      → (after r service).results ≡ replicate (length (set_of (after r service)).blocks) NotTested
  pub kept : (r : RamTst) (service : Service) → is_reset service ≡ false → (after r service).results ≡ r.results

-- after Init modules with one setting are the same, but for the mark, which each event clears
abbrev pub InitForgets : Type 0
InitForgets = (a b : RamTst) → IsRam a → IsRam b → a.setting ≡ b.setting → a.state ≡ Uninit → b.state ≡ Uninit
    → record (after a Init) { mark = false } ≡ record (after b Init) { mark = false }

-- ---- the mark

-- the calls that end the group of a tick where they are accepted
abbrev pub is_ending : HandlerCall → Bool
is_ending RamStop = true
is_ending RamSuspend = true
is_ending call = false

-- a module after some calls
abbrev pub after_calls : RamTst → List HandlerCall → RamTst
after_calls r calls = fold ram_table.next r calls

-- one of some calls is such a call, and is accepted where it comes
pub record AcceptsEnding (r : RamTst) (calls : List HandlerCall) : Type 0 where
  pub before : List HandlerCall
  pub call : HandlerCall
  pub later : List HandlerCall
  pub split : calls ≡ before ++ call ∷ later
  pub ending : is_ending call ≡ true
  pub accepted : ram_table.reply (after_calls r before) call ≡ reply.Done

-- the mark is set exactly by an accepted Stop or Suspend, and no slice sets or clears it
pub record MarksAreOfCalls : Type 0 where
  pub calls : (r : RamTst) (calls : List HandlerCall) → r.mark ≡ false → ((after_calls r calls).mark ≡ true) ↔ AcceptsEnding r calls
  pub slices : (r : RamTst) (p : Piece) (v : Verdict) → (passed r p v).mark ≡ r.mark
