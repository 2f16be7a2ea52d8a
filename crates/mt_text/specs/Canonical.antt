-- Canonical lines.
use Rattle.std.specs.Prelude.{ℕ, codes, Bool, true, false, List, [], ◌∷◌, ◌++◌, Option, Some, None}
use Rattle.std.specs.Fmt.{decimal}
use Rattle.mt_word.specs.declared.Width.{Width}
use Rattle.mt_fault.specs.declared.fault.Spot.{Spot}
use Rattle.mt_fault.specs.declared.fault.Fault.{Fault}
use Rattle.mt_fault.specs.declared.fault.Fault.TheVariants.{StuckAt, CannotRise, CannotFall, Invert, Force, State, NoCell, Also, Instead}
use Rattle.mt_port.specs.declared.request.AppOp.{AppOp}
use Rattle.mt_port.specs.declared.request.AppOp.TheVariants.{Read, Write, Add, Copy, Flash}
use Rattle.mt_port.specs.declared.request.HandlerCall.{HandlerCall}
use Rattle.mt_port.specs.declared.request.HandlerCall.TheVariants as handler
use Rattle.mt_port.specs.declared.request.HandlerOp.{HandlerOp}
use Rattle.mt_port.specs.declared.request.HandlerOp.TheVariants as op
use Rattle.mt_port.specs.declared.request.Request.{Request}
use Rattle.mt_text.specs.declared.line.RamCall.{RamCall}
use Rattle.mt_text.specs.declared.line.RamCall.TheVariants as ram
use Rattle.mt_text.specs.declared.line.FlsCall.{FlsCall}
use Rattle.mt_text.specs.declared.line.FlsCall.TheVariants as fls
use Rattle.mt_text.specs.declared.line.Event.{Event}
use Rattle.mt_text.specs.declared.line.Event.TheVariants.{Nothing, Ram, Fls, TickRam, TickFls, App, Inject, Heal, Burn, Flip}
use Rattle.mt_text.specs.declared.line.Line.{Line}
use Rattle.mt_text.specs.declared.names.RamService.{RamService}
use Rattle.mt_text.specs.declared.names.RamService.TheVariants as ram_service
use Rattle.mt_text.specs.declared.names.FlsService.{FlsService}
use Rattle.mt_text.specs.declared.names.FlsService.TheVariants as fls_service
use Rattle.mt_text.specs.Values.{mark_byte}
use Rattle.mt_text.specs.RamServices.{ram_name}
use Rattle.mt_text.specs.FlsServices.{fls_name}
use Rattle.mt_hex.specs.Digits.{word_text}

-- ---- the words of an event

-- the service of a call, and its number
abbrev pub ram_parts : RamCall → RamService × Option ℕ
ram_parts ram.Init = (ram_service.Init, None)
ram_parts ram.DeInit = (ram_service.DeInit, None)
ram_parts ram.Stop = (ram_service.Stop, None)
ram_parts ram.Allow = (ram_service.Allow, None)
ram_parts ram.Suspend = (ram_service.Suspend, None)
ram_parts ram.Resume = (ram_service.Resume, None)
ram_parts ram.GetExecutionStatus = (ram_service.GetExecutionStatus, None)
ram_parts ram.GetTestResult = (ram_service.GetTestResult, None)
ram_parts (ram.GetTestResultPerBlock n) = (ram_service.GetTestResultPerBlock, Some n)
ram_parts ram.GetAlgParams = (ram_service.GetAlgParams, None)
ram_parts ram.GetTestAlgorithm = (ram_service.GetTestAlgorithm, None)
ram_parts ram.GetNumberOfTestedCells = (ram_service.GetNumberOfTestedCells, None)
ram_parts (ram.SelectAlgParams n) = (ram_service.SelectAlgParams, Some n)
ram_parts (ram.ChangeNumberOfTestedCells n) = (ram_service.ChangeNumberOfTestedCells, Some n)
ram_parts ram.RunFullTest = (ram_service.RunFullTest, None)
ram_parts (ram.RunPartialTest n) = (ram_service.RunPartialTest, Some n)
ram_parts ram.GetVersionInfo = (ram_service.GetVersionInfo, None)

-- the same of FlsTst
abbrev pub fls_parts : FlsCall → FlsService × Option ℕ
fls_parts fls.Init = (fls_service.Init, None)
fls_parts fls.DeInit = (fls_service.DeInit, None)
fls_parts (fls.StartFgnd n) = (fls_service.StartFgnd, Some n)
fls_parts fls.Abort = (fls_service.Abort, None)
fls_parts fls.Suspend = (fls_service.Suspend, None)
fls_parts fls.Resume = (fls_service.Resume, None)
fls_parts fls.GetCurrentState = (fls_service.GetCurrentState, None)
fls_parts fls.GetTestResultBgnd = (fls_service.GetTestResultBgnd, None)
fls_parts fls.GetTestResultFgnd = (fls_service.GetTestResultFgnd, None)
fls_parts fls.GetErrorDetails = (fls_service.GetErrorDetails, None)
fls_parts fls.GetVersionInfo = (fls_service.GetVersionInfo, None)

-- a number, where there is one
abbrev pub argument : Option ℕ → List (List ℕ)
argument None = []
argument (Some n) = decimal n ∷ []

-- a call of RamTst behind the word `ram`
abbrev pub ram_words : RamCall → List (List ℕ)
ram_words call = ram_name (ram_parts call).0 ∷ argument (ram_parts call).1

-- a call of FlsTst behind the word `fls`
abbrev pub fls_words : FlsCall → List (List ℕ)
fls_words call = fls_name (fls_parts call).0 ∷ argument (fls_parts call).1

-- an operation of the application, with its word written so
abbrev pub app_words_by : (ℕ → List ℕ) → AppOp → List (List ℕ)
app_words_by write (Read a) = codes "r" ∷ decimal a ∷ []
app_words_by write (Write a x) = codes "w" ∷ decimal a ∷ write x ∷ []
app_words_by write (Add a x) = codes "add" ∷ decimal a ∷ write x ∷ []
app_words_by write (Copy src dst) = codes "copy" ∷ decimal src ∷ decimal dst ∷ []
app_words_by write (Flash a) = codes "f" ∷ decimal a ∷ []

-- a word's address and a bit of it
abbrev pub spot_text : Spot → List ℕ
spot_text s = decimal s.word ++ codes "." ++ decimal s.bit

-- a bit
abbrev pub bit_text : Bool → List ℕ
bit_text true = codes "1"
bit_text false = codes "0"

-- a rise or a fall
abbrev pub direction_text : Bool → List ℕ
direction_text true = codes "up"
direction_text false = codes "down"

-- how two cells are wired
abbrev pub wiring_text : Bool → List ℕ
wiring_text true = codes "and"
wiring_text false = codes "or"

-- a fault behind the word `inject`
abbrev pub fault_words_by : (ℕ → List ℕ) → Fault → List (List ℕ)
fault_words_by write (StuckAt vic value) = codes "sa" ∷ spot_text vic ∷ bit_text value ∷ []
fault_words_by write (CannotRise vic) = codes "tf-up" ∷ spot_text vic ∷ []
fault_words_by write (CannotFall vic) = codes "tf-down" ∷ spot_text vic ∷ []
fault_words_by write (Invert agg rise vic) = codes "cfin" ∷ direction_text rise ∷ spot_text agg ∷ spot_text vic ∷ []
fault_words_by write (Force agg rise vic value) = codes "cfid" ∷ direction_text rise ∷ spot_text agg ∷ spot_text vic ∷ bit_text value ∷ []
fault_words_by write (State agg holds vic value) = codes "cfst" ∷ bit_text holds ∷ spot_text agg ∷ spot_text vic ∷ bit_text value ∷ []
fault_words_by write (NoCell addr seen) = codes "af-none" ∷ decimal addr ∷ write seen ∷ []
fault_words_by write (Also addr other wired_and) = codes "af-also" ∷ decimal addr ∷ decimal other ∷ wiring_text wired_and ∷ []
fault_words_by write (Instead addr other) = codes "af-instead" ∷ decimal addr ∷ decimal other ∷ []

-- an event; one that does nothing has no words
abbrev pub event_words_by : (ℕ → List ℕ) → Event → List (List ℕ)
event_words_by write Nothing = []
event_words_by write (Ram call) = codes "ram" ∷ ram_words call
event_words_by write (Fls call) = codes "fls" ∷ fls_words call
event_words_by write TickRam = codes "tick" ∷ codes "ram" ∷ []
event_words_by write TickFls = codes "tick" ∷ codes "fls" ∷ []
event_words_by write (App op) = codes "app" ∷ app_words_by write op
event_words_by write (Inject fault) = codes "inject" ∷ fault_words_by write fault
event_words_by write Heal = codes "heal" ∷ []
event_words_by write (Burn addr word) = codes "burn" ∷ decimal addr ∷ write word ∷ []
event_words_by write (Flip spot) = codes "flip" ∷ spot_text spot ∷ []

-- ---- the words of a request

-- a handler's call
abbrev pub call_words : HandlerCall → List (List ℕ)
call_words handler.RamAllow = codes "ram" ∷ ram_name ram_service.Allow ∷ []
call_words handler.RamStop = codes "ram" ∷ ram_name ram_service.Stop ∷ []
call_words handler.RamSuspend = codes "ram" ∷ ram_name ram_service.Suspend ∷ []
call_words handler.RamResume = codes "ram" ∷ ram_name ram_service.Resume ∷ []
call_words handler.RamGetExecutionStatus = codes "ram" ∷ ram_name ram_service.GetExecutionStatus ∷ []
call_words handler.RamGetTestResult = codes "ram" ∷ ram_name ram_service.GetTestResult ∷ []
call_words (handler.RamGetTestResultPerBlock n) = codes "ram" ∷ ram_name ram_service.GetTestResultPerBlock ∷ decimal n ∷ []
call_words handler.FlsSuspend = codes "fls" ∷ fls_name fls_service.Suspend ∷ []
call_words handler.FlsResume = codes "fls" ∷ fls_name fls_service.Resume ∷ []
call_words handler.FlsAbort = codes "fls" ∷ fls_name fls_service.Abort ∷ []
call_words handler.FlsGetCurrentState = codes "fls" ∷ fls_name fls_service.GetCurrentState ∷ []
call_words handler.FlsGetTestResultBgnd = codes "fls" ∷ fls_name fls_service.GetTestResultBgnd ∷ []
call_words handler.FlsGetTestResultFgnd = codes "fls" ∷ fls_name fls_service.GetTestResultFgnd ∷ []

-- an operation of a handler
abbrev pub op_words_by : (ℕ → List ℕ) → HandlerOp → List (List ℕ)
op_words_by write (op.App o) = app_words_by write o
op_words_by write (op.Call call) = call_words call

-- ---- with words in width divided by 4 digits

abbrev pub app_words : Width → AppOp → List (List ℕ)
app_words width o = app_words_by (word_text width) o

abbrev pub fault_words : Width → Fault → List (List ℕ)
fault_words width fault = fault_words_by (word_text width) fault

abbrev pub event_words : Width → Event → List (List ℕ)
event_words width event = event_words_by (word_text width) event

abbrev pub op_words : Width → HandlerOp → List (List ℕ)
op_words width o = op_words_by (word_text width) o

-- ---- spaces

-- a token, and whether a space stands before it
pub record Piece : Type 0 where
  pub spaced : Bool
  pub bytes : List ℕ

-- a token with a space before it, or without
abbrev pub shown : Bool → List ℕ → List ℕ
shown true bytes = 32 ∷ bytes
shown false bytes = bytes

-- the bytes of pieces, one after another
abbrev pub text_of : List Piece → List ℕ
text_of [] = []
text_of (p ∷ ps) = shown p.spaced p.bytes ++ text_of ps

-- a piece
abbrev pub piece : Bool → List ℕ → Piece
piece spaced bytes = record { spaced = spaced; bytes = bytes }

-- words with a space before each
abbrev pub spaced_words : List (List ℕ) → List Piece
spaced_words [] = []
spaced_words (w ∷ ws) = piece true w ∷ spaced_words ws

-- words with a space between each two, and one before the first or none
abbrev pub words : Bool → List (List ℕ) → List Piece
words spaced [] = []
words spaced (w ∷ ws) = piece spaced w ∷ spaced_words ws

-- a further operation stands behind a semicolon and a space
abbrev pub further_ops : Width → List HandlerOp → List Piece
further_ops width [] = piece false (codes "]") ∷ []
further_ops width (o ∷ ops) = piece false (codes ";") ∷ words true (op_words width o) ++ further_ops width ops

-- an empty handler is not written
abbrev pub handler_pieces : Width → List HandlerOp → List Piece
handler_pieces width [] = []
handler_pieces width (o ∷ ops) = piece false (codes "[") ∷ words false (op_words width o) ++ further_ops width ops

-- a request: its mark and offset in one word, and its handler
abbrev pub request_pieces : Width → Request → List Piece
request_pieces width request = piece true (mark_byte request.urgent ∷ decimal request.offset) ∷ handler_pieces width request.ops.items

-- requests, one after another
abbrev pub requests_pieces : Width → List Request → List Piece
requests_pieces width [] = []
requests_pieces width (r ∷ rs) = request_pieces width r ++ requests_pieces width rs

-- the canonical text of a line, without its line feed
unfoldable pub canonical : Width → Line → List ℕ
canonical width line = text_of (words false (event_words width line.event) ++ requests_pieces width line.requests.items)
