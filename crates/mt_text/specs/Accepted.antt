-- The lines that a reader gives and that a writer takes.
use Rattle.std.specs.Prelude.{◌≡◌, ℕ, ◌<◌, ◌≤◌, ◌^◌, List, [], length, All, Option, Some, None}
use Rattle.mt_word.specs.Word.{Fits}
use Rattle.mt_fault.specs.Placement.{IsSpot, IsWellPlaced}
use Rattle.mt_port.specs.declared.board.Shape.{Shape}
use Rattle.mt_port.specs.declared.request.Module.{Module}
use Rattle.mt_port.specs.declared.request.HandlerCall.{HandlerCall}
use Rattle.mt_port.specs.declared.request.HandlerCall.TheVariants.{RamGetTestResultPerBlock}
use Rattle.mt_port.specs.declared.request.HandlerOp.{HandlerOp}
use Rattle.mt_port.specs.declared.request.HandlerOp.TheVariants as op
use Rattle.mt_port.specs.declared.request.Request.{Request}
use Rattle.mt_port.specs.Board.{IsSoundOp, AreSoundRequests}
use Rattle.mt_window.specs.Calls.{module_of}
use Rattle.mt_text.specs.Lines.{running_module}
use Rattle.mt_text.specs.declared.line.RamCall.{RamCall}
use Rattle.mt_text.specs.declared.line.RamCall.TheVariants.{GetTestResultPerBlock, SelectAlgParams, ChangeNumberOfTestedCells, RunPartialTest}
use Rattle.mt_text.specs.declared.line.FlsCall.{FlsCall}
use Rattle.mt_text.specs.declared.line.FlsCall.TheVariants.{StartFgnd}
use Rattle.mt_text.specs.declared.line.Event.{Event}
use Rattle.mt_text.specs.declared.line.Event.TheVariants.{Nothing, Ram, Fls, TickRam, TickFls, App, Inject, Heal, Burn, Flip}
use Rattle.mt_text.specs.declared.line.Line.{Line}

-- a number of 32 bits
abbrev pub IsNumber : ℕ → Type 0
IsNumber n = n < 2 ^ 32

-- the number of a call of RamTst has 32 bits
abbrev pub IsRamCall : RamCall → Type 0
IsRamCall (GetTestResultPerBlock n) = IsNumber n
IsRamCall (SelectAlgParams n) = IsNumber n
IsRamCall (ChangeNumberOfTestedCells n) = IsNumber n
IsRamCall (RunPartialTest n) = IsNumber n
IsRamCall call = Unit {0}

-- the number of a call of FlsTst has 32 bits
abbrev pub IsFlsCall : FlsCall → Type 0
IsFlsCall (StartFgnd n) = IsNumber n
IsFlsCall call = Unit {0}

-- addresses and spots in range, words that fit, a fault that is well placed
abbrev pub IsSoundEvent : Shape → Event → Type 0
IsSoundEvent shape Nothing = Unit {0}
IsSoundEvent shape (Ram call) = IsRamCall call
IsSoundEvent shape (Fls call) = IsFlsCall call
IsSoundEvent shape TickRam = Unit {0}
IsSoundEvent shape TickFls = Unit {0}
IsSoundEvent shape (App op) = IsSoundOp shape op
IsSoundEvent shape (Inject fault) = IsWellPlaced shape.width shape.ram fault
IsSoundEvent shape Heal = Unit {0}
IsSoundEvent shape (Burn addr word) = (addr < shape.flash) × Fits shape.width word
IsSoundEvent shape (Flip spot) = IsSpot shape.width shape.flash spot

-- the number of a handler's call has 32 bits
abbrev pub IsHandlerCall : HandlerCall → Type 0
IsHandlerCall (RamGetTestResultPerBlock n) = IsNumber n
IsHandlerCall call = Unit {0}

-- an operation of the application, or a call of this module
abbrev pub IsFor : Module → HandlerOp → Type 0
IsFor callee (op.App op) = Unit {0}
IsFor callee (op.Call call) = (module_of call ≡ callee) × IsHandlerCall call

-- an offset of 32 bits and at most 8 operations, whose calls are of this module
pub record IsRequest (callee : Module) (request : Request) : Type 0 where
  pub number : IsNumber request.offset
  pub few : length request.ops.items ≤ 8
  pub calls : All (IsFor callee) request.ops.items

-- only a running event has requests
abbrev pub AreFor : Option Module → List Request → Type 0
AreFor None requests = requests ≡ []
AreFor (Some callee) requests = All (IsRequest callee) requests

-- an accepted line: its event is sound, its requests are sound, stand after a running event and call that event's module alone
pub record IsAccepted (shape : Shape) (line : Line) : Type 0 where
  pub event : IsSoundEvent shape line.event
  pub requests : AreSoundRequests shape line.requests.items
  pub callees : AreFor (running_module line.event) line.requests.items
