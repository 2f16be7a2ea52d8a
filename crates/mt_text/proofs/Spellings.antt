-- The words of a canonical line lead through the table.
use Rattle.std.proofs.Common.{◌≡◌, ℕ, List, ◌<◌, ◌≤◌, Bool, true, false, refl, arith}
use Rattle.std.specs.Fmt.{decimal}
use Rattle.mt_word.specs.declared.Width.{Width}
use Rattle.mt_fault.specs.declared.fault.Spot.{Spot}
use Rattle.mt_fault.specs.declared.fault.Fault.{Fault}
use Rattle.mt_fault.specs.declared.fault.Fault.TheVariants.{StuckAt, CannotRise, CannotFall, Invert, Force, State, NoCell, Also, Instead}
use Rattle.mt_fault.specs.Placement.{IsSpot, IsWellPlaced}
use Rattle.mt_port.specs.declared.board.Shape.{Shape}
use Rattle.mt_port.specs.Board.{IsWithinLimits, IsSoundOp}
use Rattle.mt_port.specs.declared.request.AppOp.{AppOp}
use Rattle.mt_port.specs.declared.request.AppOp.TheVariants.{Read, Write, Add, Copy, Flash}
use Rattle.mt_text.specs.declared.line.RamCall.{RamCall}
use Rattle.mt_text.specs.declared.line.RamCall.TheVariants as ram
use Rattle.mt_text.specs.declared.line.FlsCall.{FlsCall}
use Rattle.mt_text.specs.declared.line.FlsCall.TheVariants as fls
use Rattle.mt_text.specs.declared.line.Event.{Event}
use Rattle.mt_text.specs.declared.line.Event.TheVariants.{Nothing, Ram, Fls, TickRam, TickFls, App, Inject, Heal, Burn, Flip}
use Rattle.mt_text.specs.Values.{Num, Addr, FlashAddr, OtherAddr, Data, RamSpot, OtherSpot, FlashSpot, value_at}
use Rattle.mt_text.specs.Forms.{done}
use Rattle.mt_text.specs.RamServices.{ram_call}
use Rattle.mt_text.specs.FlsServices.{fls_call}
use Rattle.mt_text.specs.Lines.{app_op, fault, event}
use Rattle.mt_text.specs.Accepted.{IsRamCall, IsFlsCall, IsSoundEvent}
use Rattle.mt_text.specs.LineTokens.{IsWriting}
use Rattle.mt_text.specs.Canonical.{ram_words, fls_words, app_words, app_words_by, fault_words, fault_words_by, event_words, event_words_by, spot_text, bit_text, direction_text, wiring_text}
use Rattle.mt_text.proofs.Pieces.{AreWords, is_text}
use Rattle.mt_text.proofs.Leading.{Follows, follows_mapped, value_step, spot_step}
use Rattle.mt_text.proofs.Values.{decimal_is_text, word_is_text, spot_is_text, spot_small, num_reads, addr_reads, flash_reads, other_reads, written_reads, spot_reads, other_spot_reads, flash_spot_reads}

-- ---- services

pub ram_follows : (shape : Shape) (call : RamCall) → IsRamCall call → Follows shape ram_call (ram_words call) (done call)
unfolding ram_call
ram_follows shape ram.Init h = (_, refl, refl)
ram_follows shape ram.DeInit h = (_, refl, refl)
ram_follows shape ram.Stop h = (_, refl, refl)
ram_follows shape ram.Allow h = (_, refl, refl)
ram_follows shape ram.Suspend h = (_, refl, refl)
ram_follows shape ram.Resume h = (_, refl, refl)
ram_follows shape ram.GetExecutionStatus h = (_, refl, refl)
ram_follows shape ram.GetTestResult h = (_, refl, refl)
ram_follows shape (ram.GetTestResultPerBlock n) h = (_, refl, (_, value_step shape Num _ (decimal n) n (num_reads shape n h), refl))
ram_follows shape ram.GetAlgParams h = (_, refl, refl)
ram_follows shape ram.GetTestAlgorithm h = (_, refl, refl)
ram_follows shape ram.GetNumberOfTestedCells h = (_, refl, refl)
ram_follows shape (ram.SelectAlgParams n) h = (_, refl, (_, value_step shape Num _ (decimal n) n (num_reads shape n h), refl))
ram_follows shape (ram.ChangeNumberOfTestedCells n) h = (_, refl, (_, value_step shape Num _ (decimal n) n (num_reads shape n h), refl))
ram_follows shape ram.RunFullTest h = (_, refl, refl)
ram_follows shape (ram.RunPartialTest n) h = (_, refl, (_, value_step shape Num _ (decimal n) n (num_reads shape n h), refl))
ram_follows shape ram.GetVersionInfo h = (_, refl, refl)

pub fls_follows : (shape : Shape) (call : FlsCall) → IsFlsCall call → Follows shape fls_call (fls_words call) (done call)
unfolding fls_call
fls_follows shape fls.Init h = (_, refl, refl)
fls_follows shape fls.DeInit h = (_, refl, refl)
fls_follows shape (fls.StartFgnd n) h = (_, refl, (_, value_step shape Num _ (decimal n) n (num_reads shape n h), refl))
fls_follows shape fls.Abort h = (_, refl, refl)
fls_follows shape fls.Suspend h = (_, refl, refl)
fls_follows shape fls.Resume h = (_, refl, refl)
fls_follows shape fls.GetCurrentState h = (_, refl, refl)
fls_follows shape fls.GetTestResultBgnd h = (_, refl, refl)
fls_follows shape fls.GetTestResultFgnd h = (_, refl, refl)
fls_follows shape fls.GetErrorDetails h = (_, refl, refl)
fls_follows shape fls.GetVersionInfo h = (_, refl, refl)

pub ram_are_words : (call : RamCall) → IsRamCall call → AreWords (ram_words call)
ram_are_words ram.Init h = (refl, tt)
ram_are_words ram.DeInit h = (refl, tt)
ram_are_words ram.Stop h = (refl, tt)
ram_are_words ram.Allow h = (refl, tt)
ram_are_words ram.Suspend h = (refl, tt)
ram_are_words ram.Resume h = (refl, tt)
ram_are_words ram.GetExecutionStatus h = (refl, tt)
ram_are_words ram.GetTestResult h = (refl, tt)
ram_are_words (ram.GetTestResultPerBlock n) h = (refl, (decimal_is_text n h, tt))
ram_are_words ram.GetAlgParams h = (refl, tt)
ram_are_words ram.GetTestAlgorithm h = (refl, tt)
ram_are_words ram.GetNumberOfTestedCells h = (refl, tt)
ram_are_words (ram.SelectAlgParams n) h = (refl, (decimal_is_text n h, tt))
ram_are_words (ram.ChangeNumberOfTestedCells n) h = (refl, (decimal_is_text n h, tt))
ram_are_words ram.RunFullTest h = (refl, tt)
ram_are_words (ram.RunPartialTest n) h = (refl, (decimal_is_text n h, tt))
ram_are_words ram.GetVersionInfo h = (refl, tt)

pub fls_are_words : (call : FlsCall) → IsFlsCall call → AreWords (fls_words call)
fls_are_words fls.Init h = (refl, tt)
fls_are_words fls.DeInit h = (refl, tt)
fls_are_words (fls.StartFgnd n) h = (refl, (decimal_is_text n h, tt))
fls_are_words fls.Abort h = (refl, tt)
fls_are_words fls.Suspend h = (refl, tt)
fls_are_words fls.Resume h = (refl, tt)
fls_are_words fls.GetCurrentState h = (refl, tt)
fls_are_words fls.GetTestResultBgnd h = (refl, tt)
fls_are_words fls.GetTestResultFgnd h = (refl, tt)
fls_are_words fls.GetErrorDetails h = (refl, tt)
fls_are_words fls.GetVersionInfo h = (refl, tt)

-- ---- application operations

pub app_follows : (shape : Shape) (write : ℕ → List ℕ) → IsWriting shape.width write → (op : AppOp) → IsWithinLimits shape → IsSoundOp shape op → Follows shape app_op (app_words_by write op) (done op)
unfolding app_op
app_follows shape write writes (Read a) w h = (_, refl, (_, value_step shape Addr _ (decimal a) a (addr_reads shape a w h), refl))
app_follows shape write writes (Write a x) w h = (_, refl, (_, value_step shape Addr _ (decimal a) a (addr_reads shape a w h.0), (_, value_step shape Data _ (write x) x (written_reads shape write writes x h.1), refl)))
app_follows shape write writes (Add a x) w h = (_, refl, (_, value_step shape Addr _ (decimal a) a (addr_reads shape a w h.0), (_, value_step shape Data _ (write x) x (written_reads shape write writes x h.1), refl)))
app_follows shape write writes (Copy a b) w h = (_, refl, (_, value_step shape Addr _ (decimal a) a (addr_reads shape a w h.0), (_, value_step shape Addr _ (decimal b) b (addr_reads shape b w h.1), refl)))
app_follows shape write writes (Flash a) w h = (_, refl, (_, value_step shape FlashAddr _ (decimal a) a (flash_reads shape a w h), refl))

in_ram : (shape : Shape) (a : ℕ) → IsWithinLimits shape → a < shape.ram → is_text (decimal a) ≡ true
in_ram shape a w h = let l = w.ram in decimal_is_text a (omega arith)

in_flash : (shape : Shape) (a : ℕ) → IsWithinLimits shape → a < shape.flash → is_text (decimal a) ≡ true
in_flash shape a w h = let l = w.flash in decimal_is_text a (omega arith)

pub app_are_words : (shape : Shape) (op : AppOp) → IsWithinLimits shape → IsSoundOp shape op → AreWords (app_words shape.width op)
app_are_words shape (Read a) w h = (refl, (in_ram shape a w h, tt))
app_are_words shape (Write a x) w h = (refl, (in_ram shape a w h.0, (word_is_text shape.width x, tt)))
app_are_words shape (Add a x) w h = (refl, (in_ram shape a w h.0, (word_is_text shape.width x, tt)))
app_are_words shape (Copy a b) w h = (refl, (in_ram shape a w h.0, (in_ram shape b w h.1, tt)))
app_are_words shape (Flash a) w h = (refl, (in_flash shape a w h, tt))

-- ---- faults

pub fault_follows : (shape : Shape) (write : ℕ → List ℕ) → IsWriting shape.width write → (f : Fault) → IsWithinLimits shape → IsWellPlaced shape.width shape.ram f → Follows shape fault (fault_words_by write f) (done f)
unfolding fault value_at
fault_follows shape write writes (StuckAt v true) w h = (_, refl, (_, spot_step shape RamSpot _ (spot_text v) v (spot_reads shape v w h.inside.0), (_, refl, refl)))
fault_follows shape write writes (StuckAt v false) w h = (_, refl, (_, spot_step shape RamSpot _ (spot_text v) v (spot_reads shape v w h.inside.0), (_, refl, refl)))
fault_follows shape write writes (CannotRise v) w h = (_, refl, (_, spot_step shape RamSpot _ (spot_text v) v (spot_reads shape v w h.inside.0), refl))
fault_follows shape write writes (CannotFall v) w h = (_, refl, (_, spot_step shape RamSpot _ (spot_text v) v (spot_reads shape v w h.inside.0), refl))
fault_follows shape write writes (Invert a true v) w h = (_, refl, (_, refl, (_, spot_step shape RamSpot _ (spot_text a) a (spot_reads shape a w h.inside.0), (_, spot_step shape (OtherSpot a.word) _ (spot_text v) v (other_spot_reads shape a.word v w h.inside.1.0 h.apart), refl))))
fault_follows shape write writes (Invert a false v) w h = (_, refl, (_, refl, (_, spot_step shape RamSpot _ (spot_text a) a (spot_reads shape a w h.inside.0), (_, spot_step shape (OtherSpot a.word) _ (spot_text v) v (other_spot_reads shape a.word v w h.inside.1.0 h.apart), refl))))
fault_follows shape write writes (Force a true v true) w h = (_, refl, (_, refl, (_, spot_step shape RamSpot _ (spot_text a) a (spot_reads shape a w h.inside.0), (_, spot_step shape (OtherSpot a.word) _ (spot_text v) v (other_spot_reads shape a.word v w h.inside.1.0 h.apart), (_, refl, refl)))))
fault_follows shape write writes (Force a true v false) w h = (_, refl, (_, refl, (_, spot_step shape RamSpot _ (spot_text a) a (spot_reads shape a w h.inside.0), (_, spot_step shape (OtherSpot a.word) _ (spot_text v) v (other_spot_reads shape a.word v w h.inside.1.0 h.apart), (_, refl, refl)))))
fault_follows shape write writes (Force a false v true) w h = (_, refl, (_, refl, (_, spot_step shape RamSpot _ (spot_text a) a (spot_reads shape a w h.inside.0), (_, spot_step shape (OtherSpot a.word) _ (spot_text v) v (other_spot_reads shape a.word v w h.inside.1.0 h.apart), (_, refl, refl)))))
fault_follows shape write writes (Force a false v false) w h = (_, refl, (_, refl, (_, spot_step shape RamSpot _ (spot_text a) a (spot_reads shape a w h.inside.0), (_, spot_step shape (OtherSpot a.word) _ (spot_text v) v (other_spot_reads shape a.word v w h.inside.1.0 h.apart), (_, refl, refl)))))
fault_follows shape write writes (State a true v true) w h = (_, refl, (_, refl, (_, spot_step shape RamSpot _ (spot_text a) a (spot_reads shape a w h.inside.0), (_, spot_step shape (OtherSpot a.word) _ (spot_text v) v (other_spot_reads shape a.word v w h.inside.1.0 h.apart), (_, refl, refl)))))
fault_follows shape write writes (State a true v false) w h = (_, refl, (_, refl, (_, spot_step shape RamSpot _ (spot_text a) a (spot_reads shape a w h.inside.0), (_, spot_step shape (OtherSpot a.word) _ (spot_text v) v (other_spot_reads shape a.word v w h.inside.1.0 h.apart), (_, refl, refl)))))
fault_follows shape write writes (State a false v true) w h = (_, refl, (_, refl, (_, spot_step shape RamSpot _ (spot_text a) a (spot_reads shape a w h.inside.0), (_, spot_step shape (OtherSpot a.word) _ (spot_text v) v (other_spot_reads shape a.word v w h.inside.1.0 h.apart), (_, refl, refl)))))
fault_follows shape write writes (State a false v false) w h = (_, refl, (_, refl, (_, spot_step shape RamSpot _ (spot_text a) a (spot_reads shape a w h.inside.0), (_, spot_step shape (OtherSpot a.word) _ (spot_text v) v (other_spot_reads shape a.word v w h.inside.1.0 h.apart), (_, refl, refl)))))
fault_follows shape write writes (NoCell a x) w h = (_, refl, (_, value_step shape Addr _ (decimal a) a (addr_reads shape a w h.inside.0.0), (_, value_step shape Data _ (write x) x (written_reads shape write writes x h.inside.1.0.0), refl)))
fault_follows shape write writes (Also a b true) w h = (_, refl, (_, value_step shape Addr _ (decimal a) a (addr_reads shape a w h.inside.0.0), (_, value_step shape (OtherAddr a) _ (decimal b) b (other_reads shape a b w h.inside.1.0.0 h.apart), (_, refl, refl))))
fault_follows shape write writes (Also a b false) w h = (_, refl, (_, value_step shape Addr _ (decimal a) a (addr_reads shape a w h.inside.0.0), (_, value_step shape (OtherAddr a) _ (decimal b) b (other_reads shape a b w h.inside.1.0.0 h.apart), (_, refl, refl))))
fault_follows shape write writes (Instead a b) w h = (_, refl, (_, value_step shape Addr _ (decimal a) a (addr_reads shape a w h.inside.0.0), (_, value_step shape (OtherAddr a) _ (decimal b) b (other_reads shape a b w h.inside.1.0.0 h.apart), refl)))

bit_word : (b : Bool) → is_text (bit_text b) ≡ true
bit_word true = refl
bit_word false = refl

direction_word : (b : Bool) → is_text (direction_text b) ≡ true
direction_word true = refl
direction_word false = refl

wiring_word : (b : Bool) → is_text (wiring_text b) ≡ true
wiring_word true = refl
wiring_word false = refl

spot_word : (width : Width) (size : ℕ) (s : Spot) → size ≤ 65536 → IsSpot width size s → is_text (spot_text s) ≡ true
spot_word width size s l h = let m = spot_small width size s l h in spot_is_text s m.0 m.1

pub fault_are_words : (shape : Shape) (f : Fault) → IsWithinLimits shape → IsWellPlaced shape.width shape.ram f → AreWords (fault_words shape.width f)
fault_are_words shape (StuckAt v b) w h = (refl, (spot_word shape.width shape.ram v w.ram h.inside.0, (bit_word b, tt)))
fault_are_words shape (CannotRise v) w h = (refl, (spot_word shape.width shape.ram v w.ram h.inside.0, tt))
fault_are_words shape (CannotFall v) w h = (refl, (spot_word shape.width shape.ram v w.ram h.inside.0, tt))
fault_are_words shape (Invert a up v) w h = (refl, (direction_word up, (spot_word shape.width shape.ram a w.ram h.inside.0, (spot_word shape.width shape.ram v w.ram h.inside.1.0, tt))))
fault_are_words shape (Force a up v b) w h = (refl, (direction_word up, (spot_word shape.width shape.ram a w.ram h.inside.0, (spot_word shape.width shape.ram v w.ram h.inside.1.0, (bit_word b, tt)))))
fault_are_words shape (State a s v b) w h = (refl, (bit_word s, (spot_word shape.width shape.ram a w.ram h.inside.0, (spot_word shape.width shape.ram v w.ram h.inside.1.0, (bit_word b, tt)))))
fault_are_words shape (NoCell a x) w h = (refl, (in_ram shape a w h.inside.0.0, (word_is_text shape.width x, tt)))
fault_are_words shape (Also a b c) w h = (refl, (in_ram shape a w h.inside.0.0, (in_ram shape b w h.inside.1.0.0, (wiring_word c, tt))))
fault_are_words shape (Instead a b) w h = (refl, (in_ram shape a w h.inside.0.0, (in_ram shape b w h.inside.1.0.0, tt)))

-- ---- events

-- an event that has words
abbrev pub IsSome : Event → Type 0
IsSome Nothing = ⊥
IsSome ev = Unit {0}

pub event_follows : (shape : Shape) (write : ℕ → List ℕ) → IsWriting shape.width write → (ev : Event) → IsWithinLimits shape → IsSoundEvent shape ev → IsSome ev → Follows shape event (event_words_by write ev) (done ev)
unfolding event
event_follows shape write writes Nothing w h s = absurd s
event_follows shape write writes (Ram call) w h s = (_, refl, follows_mapped shape (λ c. Ram c) ram_call (ram_words call) (done call) (ram_follows shape call h))
event_follows shape write writes (Fls call) w h s = (_, refl, follows_mapped shape (λ c. Fls c) fls_call (fls_words call) (done call) (fls_follows shape call h))
event_follows shape write writes TickRam w h s = (_, refl, (_, refl, refl))
event_follows shape write writes TickFls w h s = (_, refl, (_, refl, refl))
event_follows shape write writes (App op) w h s = (_, refl, follows_mapped shape (λ c. App c) app_op (app_words_by write op) (done op) (app_follows shape write writes op w h))
event_follows shape write writes (Inject f) w h s = (_, refl, follows_mapped shape (λ c. Inject c) fault (fault_words_by write f) (done f) (fault_follows shape write writes f w h))
event_follows shape write writes Heal w h s = (_, refl, refl)
event_follows shape write writes (Burn a x) w h s = (_, refl, (_, value_step shape FlashAddr _ (decimal a) a (flash_reads shape a w h.0), (_, value_step shape Data _ (write x) x (written_reads shape write writes x h.1), refl)))
event_follows shape write writes (Flip v) w h s = (_, refl, (_, spot_step shape FlashSpot _ (spot_text v) v (flash_spot_reads shape v w h), refl))

pub event_are_words : (shape : Shape) (ev : Event) → IsWithinLimits shape → IsSoundEvent shape ev → AreWords (event_words shape.width ev)
event_are_words shape Nothing w h = tt
event_are_words shape (Ram call) w h = (refl, ram_are_words call h)
event_are_words shape (Fls call) w h = (refl, fls_are_words call h)
event_are_words shape TickRam w h = (refl, (refl, tt))
event_are_words shape TickFls w h = (refl, (refl, tt))
event_are_words shape (App op) w h = (refl, app_are_words shape op w h)
event_are_words shape (Inject f) w h = (refl, fault_are_words shape f w h)
event_are_words shape Heal w h = (refl, tt)
event_are_words shape (Burn a x) w h = (refl, (in_flash shape a w h.0, (word_is_text shape.width x, tt)))
event_are_words shape (Flip v) w h = (refl, (spot_word shape.width shape.flash v w.flash h, tt))
