-- What results, identifiers and the mark are, from outside: by all that has ended since, and not by what one step makes of the step
-- before.
use Rattle.std.specs.Prelude.{◌≡◌, ◌↔◌, ◌+◌, ◌%◌, ℕ, zero, suc, Bool, true, false, List, [], ◌∷◌, ◌++◌, fold, All, Any, is_some, Option, Some, None}
use Rattle.mt_port.specs.declared.request.HandlerCall.{HandlerCall}
use Rattle.mt_port.specs.declared.request.HandlerCall.TheVariants.{FlsAbort, FlsSuspend}
use Rattle.mt_window.specs.declared.reply.Reply.TheVariants as reply
use Rattle.mt_window.specs.declared.reply.TestResult.{TestResult}
use Rattle.mt_window.specs.declared.reply.TestResult.TheVariants.{Ok, NotOk}
use Rattle.mt_blocks.specs.Slices.{Piece, next_of}
use Rattle.mt_fls.specs.State.{FlsTst, bgnd_spans}
use Rattle.mt_fls.specs.Table.{Service, Init, reply_to, after, fls_table}
use Rattle.mt_fls.specs.Event.{identifier_after, passed, of_block}

-- ---- results

-- the end of a sequence: its slice, and the address of the first difference, if there is one
pub record End : Type 0 where
  pub piece : Piece
  pub found : Option ℕ

-- a result is OK exactly where no sequence found a difference, and NOT_OK exactly where some did
pub record IsResultOf (result : TestResult) (ends : List End) : Type 0 where
  pub ok : (result ≡ Ok) ↔ All (λ (e : End). e.found ≡ None) ends
  pub not_ok : (result ≡ NotOk) ↔ Any (λ (e : End). (addr : ℕ) × (e.found ≡ Some addr)) ends

-- a module after the ends of some sequences of its pass
abbrev pub passed_all : FlsTst → List End → FlsTst
passed_all f ends = fold (λ g (e : End). passed g e.piece e.found) f ends

-- the sequences of an interval: each but the last has a slice behind it in the pass
pub record AreOfInterval (f : FlsTst) (ends : List End) (last : End) : Type 0 where
  pub followed : All (λ (e : End). is_some (next_of f.setting.config.atomic (bgnd_spans f) e.piece.place) ≡ true) ends
  pub ends_pass : next_of f.setting.config.atomic (bgnd_spans f) last.piece.place ≡ None

-- An interval has the result of all its sequences, and nothing of it is shown before the last of them has ended.
pub record IsInterval (f : FlsTst) (ends : List End) (last : End) : Type 0 where
  pub result : IsResultOf ((passed_all f (ends ++ last ∷ [])).result) (ends ++ last ∷ [])
  pub shown : (passed_all f ends).result ≡ f.result
  pub identifier : (passed_all f ends).completed ≡ f.completed
  pub forgotten : (passed_all f (ends ++ last ∷ [])).failed ≡ false

abbrev pub IntervalsAreOfSequences : Type 0
IntervalsAreOfSequences = (f : FlsTst) (ends : List End) (last : End) → f.failed ≡ false → AreOfInterval f ends last → IsInterval f ends last

-- the identifiers of the intervals that are completed after Init, the first of which has the number 0
abbrev pub identifier : ℕ → ℕ → ℕ
identifier end zero = identifier_after end None
identifier end (suc k) = identifier_after end (Some (identifier end k))

abbrev pub IdentifiersCount : Type 0
IdentifiersCount = (end k : ℕ) → identifier end k ≡ k % (end + 1)

-- a module in a foreground test, and whether a sequence of the test failed, after the ends of some of its sequences
pub record Foreground : Type 0 where
  pub tested : FlsTst
  pub failed : Bool

abbrev pub compared_all : FlsTst → List End → Foreground
compared_all f ends =
    fold (λ g (e : End). record { tested = of_block.taken g.tested e.piece e.found g.failed; failed = of_block.failed e.piece e.found g.failed })
    (record { tested = f; failed = false }) ends

-- The foreground result is that of all sequences of its test, and stays until the last of them has ended.
pub record IsForegroundTest (f : FlsTst) (ends : List End) (last : End) : Type 0 where
  pub result : IsResultOf ((compared_all f (ends ++ last ∷ [])).tested.fgnd) (ends ++ last ∷ [])
  pub shown : (compared_all f ends).tested.fgnd ≡ f.fgnd

abbrev pub ForegroundTestsAreOfSequences : Type 0
ForegroundTestsAreOfSequences = (f : FlsTst) (ends : List End) (last : End) → All (λ (e : End). e.piece.last ≡ false) ends → last.piece.last ≡ true
    → IsForegroundTest f ends last

-- ---- services

-- after an accepted Init modules with one setting are the same, but for the mark, which each event clears
abbrev pub InitForgets : Type 0
InitForgets = (a b : FlsTst) → a.setting ≡ b.setting → reply_to a Init ≡ reply.Done → reply_to b Init ≡ reply.Done
    → record (after a Init) { mark = false } ≡ record (after b Init) { mark = false }

-- whether a service is Init
abbrev pub is_init : Service → Bool
is_init Init = true
is_init service = false

-- no other service changes what is shown of intervals and foreground tests
pub record ShowsTheSame (a b : FlsTst) : Type 0 where
  pub completed : b.completed ≡ a.completed
  pub result : b.result ≡ a.result
  pub fgnd : b.fgnd ≡ a.fgnd
  pub detail : b.detail ≡ a.detail

abbrev pub ServicesLeaveResults : Type 0
ServicesLeaveResults = (f : FlsTst) (service : Service) → is_init service ≡ false → ShowsTheSame f (after f service)

-- ---- the mark

-- the calls that end the group of a tick where they are accepted
abbrev pub is_ending : HandlerCall → Bool
is_ending FlsAbort = true
is_ending FlsSuspend = true
is_ending call = false

-- a module after some calls
abbrev pub after_calls : FlsTst → List HandlerCall → FlsTst
after_calls f calls = fold fls_table.next f calls

-- one of some calls is such a call, and is accepted where it comes
pub record AcceptsEnding (f : FlsTst) (calls : List HandlerCall) : Type 0 where
  pub before : List HandlerCall
  pub call : HandlerCall
  pub later : List HandlerCall
  pub split : calls ≡ before ++ call ∷ later
  pub ending : is_ending call ≡ true
  pub accepted : fls_table.reply (after_calls f before) call ≡ reply.Done

-- the mark is set exactly by an accepted Abort or Suspend
abbrev pub MarksAreOfCalls : Type 0
MarksAreOfCalls = (f : FlsTst) (calls : List HandlerCall) → f.mark ≡ false → ((after_calls f calls).mark ≡ true) ↔ AcceptsEnding f calls
