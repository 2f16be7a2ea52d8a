-- The RAM of a replay is sound, and RamTst keeps a set of the configuration.
use Rattle.std.proofs.Common.{ℕ, ◌≡◌, ◌≤◌, Bool, true, false, not, cond, List, [], ◌∷◌, length, replicate, All, Option, Some, None, refl, sym, ap, ◌∙◌, subst, arith}
use Rattle.std.specs.Prelude.{is_some, slice_index, IsTrue, ◌↔◌, ◌&&◌}
use Rattle.std.proofs.lemmas.List.{length-set, length-replicate}
use Rattle.std.proofs.lemmas.List.Elements.{All-nil, All-append, All-head, All-tail}
use Rattle.mt_word.specs.declared.Width.{Width}
use Rattle.mt_word.specs.Word.{Fits, has_bit}
use Rattle.mt_fault.specs.declared.fault.Fault.{Fault}
use Rattle.mt_fault.specs.declared.fault.Fault.TheVariants as faults
use Rattle.mt_fault.specs.Faulty.{same}
use Rattle.mt_fault.specs.Placement.{IsWellPlaced, in_range, same_word}
use Rattle.mt_fault.specs.Memory as memory
use Rattle.mt_fault.specs.Memory.{first_words, set_spot}
use Rattle.mt_port.specs.declared.board.Shape.{Shape}
use Rattle.mt_port.specs.declared.request.HandlerCall.{HandlerCall}
use Rattle.mt_port.specs.declared.request.Request.{Request}
use Rattle.mt_port.specs.Board.{Board, IsSoundInHandler, IsWithinLimits, memory_of, injected, fitting, begun_words, powered_up}
use Rattle.mt_cover.specs.Detection.{HasSoundWords}
use Rattle.mt_window.specs.declared.reply.Reply.TheVariants as replies
use Rattle.mt_window.specs.declared.reply.TestResult.TheVariants.{NotTested}
use Rattle.mt_window.specs.Serving.{Scene, scene}
use Rattle.mt_window.specs.Events.{event as event_of}
use Rattle.mt_window.specs.Kept.{cond_case}
use Rattle.mt_blocks.specs.declared.config.ParamSet.{ParamSet}
use Rattle.mt_blocks.specs.Slices.{Piece}
use Rattle.mt_blocks.specs.Accepted.{set_at, IsAcceptedSet}
use Rattle.mt_ram.specs.State.{Setting, RamTst, set_of}
use Rattle.mt_ram.specs.Table.{Service}
use Rattle.mt_ram.specs.Event.{ticking, full_test}
use Rattle.mt_ram.specs.Laws.{LeavesSetting, PartialTestsLeaveSetting}
use Rattle.mt_fls.specs.State.{FlsTst}
use Rattle.mt_fls.specs.Table as fls_table
use Rattle.mt_text.specs.declared.line.Event.{Event}
use Rattle.mt_text.specs.declared.line.Event.TheVariants as event
use Rattle.mt_text.specs.declared.line.Line.{Line}
use Rattle.mt_text.specs.Accepted.{IsSoundEvent, IsAccepted}
use Rattle.mt_conf.specs.declared.config.Config.{Config}
use Rattle.mt_conf.specs.Accepted.{IsAcceptedConfig}
use Rattle.mt_machine.specs.declared.driven.Running.{Running}
use Rattle.mt_machine.specs.declared.driven.Running.TheVariants as rams
use Rattle.mt_machine.specs.declared.driven.FlsRunning.{FlsRunning}
use Rattle.mt_machine.specs.declared.driven.FlsRunning.TheVariants as fls_calls
use Rattle.mt_machine.specs.Machine.{Machine, events_of, fls_events_of, begun, replied, on_board, running_ram, running_fls, by_service, running_call, service_of, by_fls_service, fls_running_call, fls_service_of, by_event, step, started, played}
use Rattle.mt_laws.specs.Memory.{handled}
use Rattle.mt_laws.proofs.Scenes.{Handlers, NothingIsWrong, HasBoard, Stands, operation_sound}
use Rattle.mt_laws.proofs.SceneEvents.{Enters, Anything, fresh, any-event}
use Rattle.mt_laws.proofs.PassRows.{IsOn}
use Rattle.mt_laws.proofs.PassEvents.{IsTaken, IsSlice, tick_enters, full_enters, part_enters}
use Rattle.mt_laws.proofs.PassTicks.{PassLaws}
use Rattle.mt_laws.proofs.SetsStay.{IsSet, set_taken, set_low, service_stays}

-- ---- laws

abbrev pub FreshIsSound : Type 0
FreshIsSound = (width : Width) (size initial : ℕ) → size ≤ 65536 → Fits width initial → memory.IsSound (record { width = width; fault = None; words = replicate size initial })

abbrev pub InjectedIsSound : Type 0
InjectedIsSound =
    (m : memory.Memory) (fault : Fault) → memory.IsSound m → IsWellPlaced m.width (length m.words) fault
    → memory.IsSound (record m { fault = Some fault; words = first_words fault m.words })

abbrev pub HealedIsSound : Type 0
HealedIsSound = (m : memory.Memory) → memory.IsSound m → memory.IsSound (record m { fault = None })

abbrev pub PlacementIsTested : Type 0
PlacementIsTested = (width : Width) (size : ℕ) (fault : Fault) → IsTrue (in_range width size fault && not (same_word fault)) ↔ IsWellPlaced width size fault

-- what running calls leave, by the call
pub settings_left : LeavesSetting ticking → LeavesSetting full_test → PartialTestsLeaveSetting → (call : Running) → LeavesSetting (events_of call)
settings_left tick full partial rams.Tick = tick
settings_left tick full partial rams.Full = full
settings_left tick full partial (rams.Partial block) = partial block

-- what is known of memory, of attempts and of running calls
pub record BoardLaws : Type 0 where
  pub pass : PassLaws
  pub fresh : FreshIsSound
  pub injected : InjectedIsSound
  pub healed : HealedIsSound
  pub placed : PlacementIsTested
  pub settings : (call : Running) → LeavesSetting (events_of call)

-- ---- a fault comes and goes

first-length : (fault : Fault) (words : List ℕ) → length (first_words fault words) ≡ length words
first-length (faults.StuckAt vic value) words = length-set words vic.word _
first-length (faults.CannotRise vic) words = refl
first-length (faults.CannotFall vic) words = refl
first-length (faults.Invert agg rise vic) words = refl
first-length (faults.Force agg rise vic value) words = refl
first-length (faults.State agg holds vic value) words =
    cond_case (λ (l : List ℕ). length l ≡ length words) (same (has_bit (slice_index words agg.word) agg.bit) holds) (set_spot vic value words) words (length-set words vic.word _) refl
first-length (faults.NoCell addr seen) words = refl
first-length (faults.Also addr other wired_and) words = refl
first-length (faults.Instead addr other) words = refl

with_fault : BoardLaws → (b : Board) (fault : Fault) → HasSoundWords b → IsWellPlaced b.shape.width b.shape.ram fault → HasSoundWords (injected b fault)
with_fault laws b fault sound placed = record {
  sized = first-length fault b.words ∙ sound.sized;
  memory = laws.injected (memory_of b) fault sound.memory (subst (λ (n : ℕ). IsWellPlaced b.shape.width n fault) (sym sound.sized) placed);
}

-- the words at the start
started_words : BoardLaws → (shape : Shape) (initial : ℕ) (defect : Option Fault) → IsWithinLimits shape → Fits shape.width initial → HasSoundWords (powered_up shape initial defect)
unfolding powered_up
started_words laws shape initial defect limits fits = record { sized = sizes defect; memory = sounds defect }
  where
    none : memory.IsSound (record { width = shape.width; fault = None; words = replicate shape.ram initial })
    none = laws.fresh shape.width shape.ram initial limits.ram fits

    size_by : (fault : Fault) (there : Bool) → length (begun_words (cond there (Some fault) None) (replicate shape.ram initial)) ≡ shape.ram
    size_by fault true = first-length fault (replicate shape.ram initial) ∙ length-replicate shape.ram initial
    size_by fault false = length-replicate shape.ram initial

    sizes : (d : Option Fault) → length (begun_words (fitting shape d) (replicate shape.ram initial)) ≡ shape.ram
    sizes None = length-replicate shape.ram initial
    sizes (Some fault) = size_by fault (in_range shape.width shape.ram fault && not (same_word fault))

    sound_by : (fault : Fault) (there : Bool) → (IsTrue there → IsWellPlaced shape.width shape.ram fault)
        → memory.IsSound (record { width = shape.width; fault = cond there (Some fault) None; words = begun_words (cond there (Some fault) None) (replicate shape.ram initial) })
    sound_by fault true placed =
        laws.injected (record { width = shape.width; fault = None; words = replicate shape.ram initial }) fault none
        (subst (λ (n : ℕ). IsWellPlaced shape.width n fault) (sym (length-replicate shape.ram initial)) (placed refl))
    sound_by fault false placed = none

    sounds : (d : Option Fault) → memory.IsSound (record { width = shape.width; fault = fitting shape d; words = begun_words (fitting shape d) (replicate shape.ram initial) })
    sounds None = none
    sounds (Some fault) = sound_by fault (in_range shape.width shape.ram fault && not (same_word fault)) (laws.placed shape.width shape.ram fault).0

-- ---- running events

-- what handlers do in a line, where no call of theirs is excluded
abbrev pub free_handlers : Board → List Request → Handlers
free_handlers b requests = record { shape = b.shape; fault = b.fault; all = handled requests; bad = λ call. false; wrong = λ call reply. false }

abbrev pub AreSoundIn : Shape → List Request → Type 0
AreSoundIn shape requests = All (λ (r : Request). All (IsSoundInHandler shape) r.ops.items) requests

pub handled_sound : (shape : Shape) (requests : List Request) → AreSoundIn shape requests → All (IsSoundInHandler shape) (handled requests)
handled_sound shape [] all = All-nil (IsSoundInHandler shape)
handled_sound shape (r ∷ more) all =
    All-append (IsSoundInHandler shape) r.ops.items (handled more) (All-head (λ (r : Request). All (IsSoundInHandler shape) r.ops.items) r more all)
    (handled_sound shape more (All-tail (λ (r : Request). All (IsSoundInHandler shape) r.ops.items) r more all))

pub ram_enters : PassLaws → (call : Running) (h : Handlers) (set : ParamSet) (cells : ℕ) → IsTaken h.shape set → NothingIsWrong h → Enters h (events_of call) (IsOn set cells) (IsSlice set)
ram_enters laws rams.Tick h set cells taken replies = tick_enters laws.attempts h set cells taken replies
ram_enters laws rams.Full h set cells taken replies = full_enters laws.attempts h set cells taken replies
ram_enters laws (rams.Partial block) h set cells taken replies = part_enters laws.attempts h block set cells taken replies

pub cleared-on : (call : Running) (set : ParamSet) (cells : ℕ) (r : RamTst) → IsOn set cells r → IsOn set cells ((events_of call).cleared r)
cleared-on rams.Tick set cells r on = record { same = on.same; many = on.many; results = on.results }
cleared-on rams.Full set cells r on = record { same = on.same; many = on.many; results = on.results }
cleared-on (rams.Partial block) set cells r on = record { same = on.same; many = on.many; results = on.results }

-- What holds from line to line: the shape, the words, and the set of RamTst.
pub record IsSoundMachine (shape : Shape) (z : Setting) (m : Machine) : Type 0 where
  pub common : m.board.shape ≡ shape
  pub words : HasSoundWords m.board
  pub ram : IsSet z m.modules.ram

-- the module's set is one of the configuration's
pub own_set : (shape : Shape) (z : Setting) (m : Machine) → All (IsAcceptedSet shape) z.config.sets → IsSoundMachine shape z m → IsTaken m.board.shape (set_of m.modules.ram)
own_set shape z m all h =
    let r = m.modules.ram in
    subst (λ (s : Shape). IsTaken s (set_of r)) (sym h.common)
    (subst (λ (s : Setting). IsTaken shape (set_at s.config.sets r.selected)) (sym h.ram.setting) (set_taken shape z.config.sets r.selected all))

pub begins_on : (z : Setting) (r : RamTst) → IsSet z r → IsOn (set_of r) r.cells r
begins_on z r h = record { same = refl; many = refl; results = h.results }

ram-sound : BoardLaws → (shape : Shape) (z : Setting) → All (IsAcceptedSet shape) z.config.sets → (m : Machine) (call : Running) (requests : List Request) → AreSoundIn shape requests → IsSoundMachine shape z m
    → IsSoundMachine shape z (running_ram call m requests).after
ram-sound laws shape z all m call requests ops h =
    let r = m.modules.ram in
    let s : Scene RamTst = begun m.board r requests in
    let hs = free_handlers m.board requests in
    let set = set_of r in
    let enters = ram_enters laws.pass call hs set r.cells (own_set shape z m all h) (λ c reply. refl) in
    let board : HasBoard hs s.board = record { shape = refl; fault = refl; sound = record { sized = h.words.sized; memory = h.words.memory } } in
    let start : Stands hs (IsOn set r.cells) Anything (scene s.board ((events_of call).cleared r) []) =
    fresh hs (IsOn set r.cells) Anything s.board ((events_of call).cleared r) refl board (subst (λ (y : Shape). All (IsSoundInHandler y) (handled requests)) (sym h.common) (handled_sound shape requests ops))
    (cleared-on call set r.cells r (begins_on z r h.ram)) tt in
    let goes = any-event laws.pass.memory hs (events_of call) (IsOn set r.cells) (IsSlice set) enters s start in
    let same = goes.holds.same in
    let atomic : (set_of (event_of (events_of call) s).after.callee).atomic ≡ set.atomic = ap (λ (y : ParamSet). y.atomic) same in
    record {
      common = goes.board.shape ∙ h.common;
      words = record { sized = goes.board.sound.sized; memory = goes.board.sound.memory };
      ram = record {
        setting = laws.settings call s ∙ h.ram.setting;
        results = goes.holds.results ∙ ap (λ (y : ParamSet). length y.blocks) (sym same);
        low = omega (arith, atomic, goes.holds.many, h.ram.low);
      };
    }

-- FlsTst changes no word
pub fls_enters : (call : FlsRunning) (h : Handlers) → ((f : FlsTst) (c : HandlerCall) → h.wrong c ((fls_events_of call).tests.table.reply f c) ≡ false) → Enters h (fls_events_of call) (λ (f : FlsTst). Unit {0}) (λ (x : Piece). Unit {0})
fls_enters fls_calls.Tick h right = record {
  attempts = record { words = λ may f x b i q board. record { sized = board.sound.sized; memory = board.sound.memory }; taken = λ f x v failed i. tt };
  row = λ f call i. tt;
  work = λ f i k d low. tt;
  inside = λ f i. tt;
  back = λ o f i. tt;
  right = right;
}
fls_enters (fls_calls.Foreground block) h right = record {
  attempts = record { words = λ may f x b i q board. record { sized = board.sound.sized; memory = board.sound.memory }; taken = λ f x v failed i. tt };
  row = λ f call i. tt;
  work = λ f i k d low. tt;
  inside = λ f i. tt;
  back = λ o f i. tt;
  right = right;
}

-- it leaves the board sound, with its fault
pub fls-board : PassLaws → (m : Machine) (call : FlsRunning) (requests : List Request) → AreSoundIn m.board.shape requests → HasSoundWords m.board
    → HasBoard (free_handlers m.board requests) (event_of (fls_events_of call) (begun m.board m.modules.fls requests)).after.board
fls-board laws m call requests ops sound =
    let s : Scene FlsTst = begun m.board m.modules.fls requests in
    let hs = free_handlers m.board requests in
    let board : HasBoard hs s.board = record { shape = refl; fault = refl; sound = record { sized = sound.sized; memory = sound.memory } } in
    let start : Stands hs (λ (f : FlsTst). Unit {0}) Anything (scene s.board ((fls_events_of call).cleared m.modules.fls) []) =
    fresh hs (λ (f : FlsTst). Unit {0}) Anything s.board ((fls_events_of call).cleared m.modules.fls) refl board (handled_sound m.board.shape requests ops) tt tt in
    (any-event laws.memory hs (fls_events_of call) (λ (f : FlsTst). Unit {0}) (λ (x : Piece). Unit {0}) (fls_enters call hs (λ f c. refl)) s start).board

fls-sound : PassLaws → (shape : Shape) (z : Setting) (m : Machine) (call : FlsRunning) (requests : List Request) → AreSoundIn shape requests → IsSoundMachine shape z m → IsSoundMachine shape z (running_fls call m requests).after
fls-sound laws shape z m call requests ops h =
    let board = fls-board laws m call requests (subst (λ (y : Shape). AreSoundIn y requests) (sym h.common) ops) h.words in
    record { common = board.shape ∙ h.common; words = record { sized = board.sound.sized; memory = board.sound.memory }; ram = h.ram }

-- ---- lines

by_call-sound : BoardLaws → (shape : Shape) (z : Setting) → All (IsAcceptedSet shape) z.config.sets → (m : Machine) (service : Service) (call : Option Running) (requests : List Request) → AreSoundIn shape requests
    → IsSoundMachine shape z m → IsSoundMachine shape z (by_service m service call requests).after
by_call-sound laws shape z all m service None requests ops h = record { common = h.common; words = h.words; ram = service_stays z shape all m.modules.ram service h.ram }
by_call-sound laws shape z all m service (Some call) requests ops h = ram-sound laws shape z all m call requests ops h

by_fls-sound : PassLaws → (shape : Shape) (z : Setting) (m : Machine) (service : fls_table.Service) (call : Option FlsRunning) (requests : List Request) → AreSoundIn shape requests
    → IsSoundMachine shape z m → IsSoundMachine shape z (by_fls_service m service call requests).after
by_fls-sound laws shape z m service None requests ops h = record { common = h.common; words = h.words; ram = h.ram }
by_fls-sound laws shape z m service (Some call) requests ops h = fls-sound laws shape z m call requests ops h

inject-sound : BoardLaws → (shape : Shape) (z : Setting) (m : Machine) (fault : Fault) (there : Bool) → IsWellPlaced shape.width shape.ram fault → IsSoundMachine shape z m
    → IsSoundMachine shape z ((cond there (replied m replies.Present) (replied (on_board m (injected m.board fault)) replies.Done)).after)
inject-sound laws shape z m fault true placed h = h
inject-sound laws shape z m fault false placed h =
    let words = with_fault laws m.board fault h.words (subst (λ (y : Shape). IsWellPlaced y.width y.ram fault) (sym h.common) placed) in
    record { common = h.common; words = words; ram = h.ram }

event-sound : BoardLaws → (shape : Shape) (z : Setting) → All (IsAcceptedSet shape) z.config.sets → (m : Machine) (e : Event) (requests : List Request) → IsSoundEvent shape e → AreSoundIn shape requests
    → IsSoundMachine shape z m → IsSoundMachine shape z (by_event m e requests).after
event-sound laws shape z all m event.Nothing requests ok ops h = h
event-sound laws shape z all m (event.Ram call) requests ok ops h = by_call-sound laws shape z all m (service_of call) (running_call call) requests ops h
event-sound laws shape z all m (event.Fls call) requests ok ops h = by_fls-sound laws.pass shape z m (fls_service_of call) (fls_running_call call) requests ops h
event-sound laws shape z all m event.TickRam requests ok ops h = ram-sound laws shape z all m rams.Tick requests ops h
event-sound laws shape z all m event.TickFls requests ok ops h = fls-sound laws.pass shape z m fls_calls.Tick requests ops h
event-sound laws shape z all m (event.App op) requests ok ops h =
    let sound = operation_sound laws.pass.memory m.board op h.words (subst (λ (y : Shape). IsSoundEvent y (event.App op)) (sym h.common) ok) in
    record { common = h.common; words = record { sized = sound.sized; memory = sound.memory }; ram = h.ram }
event-sound laws shape z all m (event.Inject fault) requests ok ops h = inject-sound laws shape z m fault (is_some m.board.fault) ok h
event-sound laws shape z all m event.Heal requests ok ops h =
    record { common = h.common; words = record { sized = h.words.sized; memory = laws.healed (memory_of m.board) h.words.memory }; ram = h.ram }
event-sound laws shape z all m (event.Burn addr word) requests ok ops h = record { common = h.common; words = record { sized = h.words.sized; memory = h.words.memory }; ram = h.ram }
event-sound laws shape z all m (event.Flip at) requests ok ops h = record { common = h.common; words = record { sized = h.words.sized; memory = h.words.memory }; ram = h.ram }

pub step-sound : BoardLaws → (shape : Shape) (z : Setting) → All (IsAcceptedSet shape) z.config.sets → (m : Machine) (line : Line) → IsAccepted shape line → IsSoundMachine shape z m → IsSoundMachine shape z (step m line).after
unfolding step
step-sound laws shape z all m line ok h = event-sound laws shape z all m line.event line.requests.items ok.event ok.requests.sound h

pub played-sound : BoardLaws → (shape : Shape) (z : Setting) → All (IsAcceptedSet shape) z.config.sets → (m : Machine) (lines : List Line) → All (IsAccepted shape) lines → IsSoundMachine shape z m
    → IsSoundMachine shape z (played m lines).after
played-sound laws shape z all m [] ok h = h
played-sound laws shape z all m (line ∷ more) ok h =
    played-sound laws shape z all (step m line).after more (All-tail (IsAccepted shape) line more ok) (step-sound laws shape z all m line (All-head (IsAccepted shape) line more ok) h)

-- the machine at the start
pub started_sound : BoardLaws → (c : Config) (defect : Option Fault) → IsAcceptedConfig c → IsSoundMachine c.shape (started c defect).modules.ram.setting (started c defect)
unfolding powered_up
started_sound laws c defect ok = record {
  common = refl;
  words = started_words laws c.shape c.initial defect ok.limits ok.initial;
  ram = record { setting = refl; results = length-replicate (length (set_at c.ram_tst.sets 0).blocks) NotTested; low = set_low c.shape c.ram_tst.sets 0 ok.ram_tst.sets };
}
