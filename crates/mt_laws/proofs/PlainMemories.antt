-- On sound memory the application of a replay finds a plain memory.
use Rattle.std.proofs.Common.{ℕ, ◌≡◌, ◌≤◌, Bool, List, [], ◌∷◌, ◌++◌, ◌≢◌, length, map, All, Option, Some, None, refl, sym, ap, ◌∙◌, subst, arith, append-nil}
use Rattle.std.proofs.lemmas.List.Elements.{All-nil, All-push, All-head, All-tail}
use Rattle.mt_plan.specs.declared.algorithm.Policy.{Policy}
use Rattle.mt_plan.specs.declared.algorithm.Policy.TheVariants.{NonDestructive, Destructive}
use Rattle.mt_port.specs.Board.{Board}
use Rattle.mt_port.specs.declared.request.Answer.{Answer}
use Rattle.mt_port.specs.declared.request.HandlerCall.{HandlerCall}
use Rattle.mt_port.specs.declared.request.HandlerOp.{HandlerOp}
use Rattle.mt_port.specs.declared.request.Request.{Request}
use Rattle.mt_fault.specs.declared.fault.Fault.{Fault}
use Rattle.mt_text.specs.declared.line.Event.{Event}
use Rattle.mt_text.specs.declared.line.Event.TheVariants as event
use Rattle.mt_text.specs.declared.line.Line.{Line}
use Rattle.mt_seq.specs.declared.sequence.Verdict.{Verdict}
use Rattle.mt_seq.specs.Attempts.{attempt_words, attempt_verdict}
use Rattle.mt_seq.specs.Laws.{DroppedAttemptsStay, WholeAttemptsPass, left_words}
use Rattle.mt_window.specs.declared.log.Entry.TheVariants.{Own}
use Rattle.mt_window.specs.declared.reply.Reply.{Reply}
use Rattle.mt_window.specs.Serving.{Scene, given}
use Rattle.mt_window.specs.Events.{Running as Events, event as event_of}
use Rattle.mt_window.specs.Kept.{IsInvariant, EntersSound}
use Rattle.mt_blocks.specs.declared.config.ParamSet.{ParamSet}
use Rattle.mt_blocks.specs.Slices.{Piece}
use Rattle.mt_blocks.specs.Accepted.{block_at}
use Rattle.mt_ram.specs.State.{Setting, RamTst, set_of}
use Rattle.mt_ram.specs.Table.{Service, MainFunction, RunFullTest, RunPartialTest, ram_table}
use Rattle.mt_ram.specs.Moves.{row-moves}
use Rattle.mt_ram.specs.Kept.{cell_leaves}
use Rattle.mt_ram.specs.Laws.{IsSliceOf, TestsItsSet}
use Rattle.mt_ram.specs.Event.{job_of as test_of, of_pass, of_test}
use Rattle.mt_ram.specs.Plain.{HasAcceptedMarches}
use Rattle.mt_fls.specs.Table as fls_table
use Rattle.mt_fls.specs.Event as fls_event
use Rattle.mt_machine.specs.declared.driven.Running.{Running}
use Rattle.mt_machine.specs.declared.driven.Running.TheVariants as rams
use Rattle.mt_machine.specs.declared.driven.FlsRunning.{FlsRunning}
use Rattle.mt_machine.specs.declared.driven.FlsRunning.TheVariants as fls_calls
use Rattle.mt_machine.specs.Machine.{Machine, Step, with_ram, with_fls, events_of, fls_events_of, begun, running, by_service, running_call, service_of, by_fls_service, fls_running_call, fls_service_of, by_event, step, started, played}
use Rattle.mt_laws.specs.Plain.{InjectsNothing}
use Rattle.mt_laws.specs.Memory.{Deed, Operates, IsDeedOf, words_after, answers_of, operations_among, fills_among, handled, operations_in, operations_of, inner_replies, replies_in, replies_of, IsPlain, ArePlain, MemoryIsPlain}
use Rattle.mt_laws.proofs.Memories.{LeavesWords, IsLeft, Same, Filled, event-found, words-plain, answer-plain, inner-append}
use Rattle.mt_laws.proofs.Plain.{LeaveNoTrace, IsSound, step-sound, accepted-marches}

-- ---- the module

-- what holds of a module in an event: its marches are accepted, and the selected set is that one
abbrev Keeps : ParamSet → RamTst → Type 0
Keeps set r = HasAcceptedMarches r.setting × (set_of r ≡ set)

still-keeps : (set : ParamSet) (r q : RamTst) → q ≡ record r { state = q.state; failed = q.failed; mark = q.mark } → Keeps set r → Keeps set q
still-keeps set r q e h = subst (Keeps set) (sym e) h

row-keeps : (set : ParamSet) (r : RamTst) (call : HandlerCall) → Keeps set r → Keeps set (ram_table.next r call)
row-keeps set r call h = still-keeps set r (ram_table.next r call) (row-moves r call).still h

pass_kept : (set : ParamSet) → IsInvariant of_pass (Keeps set)
pass_kept set = record { taken = λ r p v failed h. h; row = row-keeps set }

test_kept : (set : ParamSet) → IsInvariant of_test (Keeps set)
test_kept set = record { taken = λ r p v failed h. h; row = row-keeps set }

-- ---- attempts

-- what is known of running calls, and of attempts on sound memory
pub record Attempts : Type 0 where
  pub tests : (call : Running) → TestsItsSet (events_of call)
  pub stays : DroppedAttemptsStay
  pub passes : WholeAttemptsPass

-- a whole attempt at a slice leaves the words, or its block's fill
left_by_policy : (set : ParamSet) (p : Piece) (policy : Policy) (words new : List ℕ) → IsSliceOf set p → (block_at set.blocks p.place.block).policy ≡ policy
    → new ≡ left_words words policy p.slice (block_at set.blocks p.place.block).fill → IsLeft set words new
left_by_policy set p NonDestructive words new inside policy e = Same e
left_by_policy set p Destructive words new inside policy e =
    Filled p.slice (block_at set.blocks p.place.block).fill (record { piece = p; inside = inside; same = refl; policy = policy; fill = refl }) e

attempt-leaves : Attempts → (set : ParamSet) (may : Bool) (r : RamTst) (p : Piece) (b : Board) → Keeps set r → IsSliceOf set p → b.fault ≡ None
    → IsLeft set b.words (attempt_words may b (test_of r p) p.slice)
attempt-leaves known set may r p b (marches, selected) inside sound = of (attempt_verdict may b (test_of r p) p.slice) refl
  where
    of : (v : Option Verdict) → attempt_verdict may b (test_of r p) p.slice ≡ v → IsLeft set b.words (attempt_words may b (test_of r p) p.slice)
    of None e = Same (known.stays may b (test_of r p) p.slice sound (marches r.selected) e)
    of (Some v) e =
        left_by_policy set p (block_at set.blocks p.place.block).policy b.words _ inside refl
        (subst (λ (q : ParamSet). attempt_words may b (test_of r p) p.slice ≡ left_words b.words (block_at q.blocks p.place.block).policy p.slice (block_at q.blocks p.place.block).fill) selected
        (known.passes may b (test_of r p) p.slice v sound (marches r.selected) e).1)

-- ---- running events

-- handlers find a plain memory
record HandlersFind (m : Machine) (s : Step) : Type 0 where
  deeds : List Deed
  operations : operations_among deeds ≡ operations_in (handled s.requests)
  fills : All (IsDeedOf (set_of m.modules.ram)) deeds
  few : fills_among deeds ≤ length s.attempts
  answers : replies_in (handled s.requests) (inner_replies s.entries) ≡ map given (answers_of m.board.shape m.board.words m.board.flash deeds)
  words : s.after.board.words ≡ words_after m.board.shape m.board.words m.board.flash deeds

running-finds : {C X V : Type 0} (with : Board → C → Machine) → ((b : Board) (c : C) → (with b c).board.words ≡ b.words) → (call : Events C X V) (I : C → Type 0) (J : X → Type 0)
    → (m : Machine) → LeavesWords call I J (set_of m.modules.ram) → EntersSound call I
    → (c : C) (requests : List Request) → m.board.fault ≡ None → I c → HandlersFind m (running with call (begun m.board c requests))
running-finds {C} with over call I J m leaves enters c requests fault holds =
    let s : Scene C = begun m.board c requests in
    let finds = event-found call I J (set_of m.modules.ram) leaves enters s refl fault holds in
    let after = (event_of call s).after in
    let whole : finds.done ≡ handled requests = sym (append-nil finds.done) ∙ sym finds.rest in
    let log : inner_replies (after.log ++ Own (event_of call s).reply ∷ []) ≡ inner_replies after.log = inner-append after.log (Own (event_of call s).reply ∷ []) ∙ append-nil (inner_replies after.log) in
    record {
      deeds = finds.deeds;
      operations = finds.operations ∙ ap (λ (l : List HandlerOp). operations_in l) whole;
      fills = finds.fills;
      few = finds.few;
      answers =
          ap (λ (l : List Reply). replies_in (handled requests) l) log
          ∙ subst (λ (d : List HandlerOp). replies_in d (inner_replies after.log) ≡ map given (answers_of m.board.shape m.board.words m.board.flash finds.deeds)) whole finds.answers;
      words = over (record (after.board) { count = 0 }) after.callee ∙ finds.words;
    }

abbrev Accepted : Machine → Type 0
Accepted m = HasAcceptedMarches m.modules.ram.setting

-- a running call tests slices of the set
slices-tested : (set : ParamSet) (call : Running) → TestsItsSet (events_of call) → (r : RamTst) → Keeps set r → All (IsSliceOf set) ((events_of call).work r)
slices-tested set call tests r h = subst (λ (q : ParamSet). All (IsSliceOf q) ((events_of call).work r)) h.1 (tests.work r)

leaves : Attempts → (set : ParamSet) (call : Running) → LeavesWords (events_of call) (Keeps set) (IsSliceOf set) set
leaves known set rams.Tick = record { words = attempt-leaves known set; work = slices-tested set rams.Tick (known.tests rams.Tick) }
leaves known set rams.Full = record { words = attempt-leaves known set; work = slices-tested set rams.Full (known.tests rams.Full) }
leaves known set (rams.Partial block) = record { words = attempt-leaves known set; work = slices-tested set (rams.Partial block) (known.tests (rams.Partial block)) }

-- and keeps the set and the marches
inside-keeps : (set : ParamSet) (r q : RamTst) → q.setting ≡ r.setting → set_of q ≡ set_of r → Keeps set r → Keeps set q
inside-keeps set r q setting selected h = (subst HasAcceptedMarches (sym setting) h.0, selected ∙ h.1)

enters : Attempts → (set : ParamSet) (call : Running) → EntersSound (events_of call) (Keeps set)
enters known set rams.Tick =
    record { tests = pass_kept set; cleared = λ r h. h; inside = λ r h. inside-keeps set r ((events_of rams.Tick).inside r) ((cell_leaves r MainFunction r.state).1 r).0 ((known.tests rams.Tick).inside r) h }
enters known set rams.Full =
    record { tests = test_kept set; cleared = λ r h. h; inside = λ r h. inside-keeps set r ((events_of rams.Full).inside r) ((cell_leaves r RunFullTest r.state).1 r).0 ((known.tests rams.Full).inside r) h }
enters known set (rams.Partial block) = record {
  tests = test_kept set;
  cleared = λ r h. h;
  inside = λ r h. inside-keeps set r ((events_of (rams.Partial block)).inside r) ((cell_leaves r (RunPartialTest block) r.state).1 r).0 ((known.tests (rams.Partial block)).inside r) h;
}

ram-event : Attempts → (call : Running) (m : Machine) (requests : List Request) → m.board.fault ≡ None → Accepted m
    → HandlersFind m (running (with_ram m.modules) (events_of call) (begun m.board m.modules.ram requests))
ram-event known call m requests fault holds =
    let set = set_of m.modules.ram in
    running-finds (with_ram m.modules) (λ b c. refl) (events_of call) (Keeps set) (IsSliceOf set) m (leaves known set call) (enters known set call) m.modules.ram requests fault (holds, refl)

-- a comparison leaves the words
abbrev Always : {X : Type 0} → X → Type 0
Always x = Unit {0}

always : {X : Type 0} (L : List X) → All Always L
always L k d h = tt

fls-event : (call : FlsRunning) (m : Machine) (requests : List Request) → m.board.fault ≡ None
    → HandlersFind m (running (with_fls m.modules) (fls_events_of call) (begun m.board m.modules.fls requests))
fls-event fls_calls.Tick m requests fault =
    let call = fls_events_of fls_calls.Tick in
    let kept : IsInvariant fls_event.of_pass Always = record { taken = λ f p v failed h. tt; row = λ f call h. tt } in
    running-finds (with_fls m.modules) (λ b c. refl) call Always Always m (record { words = λ may f p b h j e. Same refl; work = λ f h. always (call.work f) })
    (record { tests = kept; cleared = λ f h. tt; inside = λ f h. tt }) m.modules.fls requests fault tt
fls-event (fls_calls.Foreground block) m requests fault =
    let call = fls_events_of (fls_calls.Foreground block) in
    let kept : IsInvariant fls_event.of_block Always = record { taken = λ f p v failed h. tt; row = λ f call h. tt } in
    running-finds (with_fls m.modules) (λ b c. refl) call Always Always m (record { words = λ may f p b h j e. Same refl; work = λ f h. always (call.work f) })
    (record { tests = kept; cleared = λ f h. tt; inside = λ f h. tt }) m.modules.fls requests fault tt

-- ---- lines

record EventPlain (m : Machine) (e : Event) (s : Step) : Type 0 where
  deeds : List Deed
  operations : operations_among deeds ≡ operations_of e s.requests
  fills : All (IsDeedOf (set_of m.modules.ram)) deeds
  few : fills_among deeds ≤ length s.attempts
  answers : replies_of e s.requests s.entries ≡ map given (answers_of m.board.shape m.board.words m.board.flash deeds)
  words : s.after.board.words ≡ words_after m.board.shape m.board.words m.board.flash deeds

-- nothing is done to the memory
idle : (m : Machine) (s : Step) → s.requests ≡ [] → s.after.board.words ≡ m.board.words → HandlersFind m s
idle m s none same = record {
  deeds = [];
  operations = ap (λ (l : List Request). operations_in (handled l)) (sym none);
  fills = All-nil (IsDeedOf (set_of m.modules.ram));
  few = omega arith;
  answers = ap (λ (l : List Request). replies_in (handled l) (inner_replies s.entries)) none;
  words = same;
}

ram-plain : Attempts → (m : Machine) (service : Service) (call : Option Running) (requests : List Request) → m.board.fault ≡ None → Accepted m → HandlersFind m (by_service m service call requests)
ram-plain known m service None requests fault holds = idle m (by_service m service None requests) refl refl
ram-plain known m service (Some call) requests fault holds = ram-event known call m requests fault holds

fls-plain : (m : Machine) (service : fls_table.Service) (call : Option FlsRunning) (requests : List Request) → m.board.fault ≡ None → HandlersFind m (by_fls_service m service call requests)
fls-plain m service None requests fault = idle m (by_fls_service m service None requests) refl refl
fls-plain m service (Some call) requests fault = fls-event call m requests fault

-- a line whose operations are those of its handlers
by_handlers : (m : Machine) (e : Event) (s : Step) → operations_of e s.requests ≡ operations_in (handled s.requests) → replies_of e s.requests s.entries ≡ replies_in (handled s.requests) (inner_replies s.entries)
    → HandlersFind m s → EventPlain m e s
by_handlers m e s operations replies h =
    record { deeds = h.deeds; operations = h.operations ∙ sym operations; fills = h.fills; few = h.few; answers = replies ∙ h.answers; words = h.words }

event-plain : Attempts → (m : Machine) (e : Event) (requests : List Request) → ((fault : Fault) → e ≢ event.Inject fault) → m.board.fault ≡ None → Accepted m → EventPlain m e (by_event m e requests)
event-plain known m event.Nothing requests none fault holds = by_handlers m event.Nothing _ refl refl (idle m (by_event m event.Nothing requests) refl refl)
event-plain known m (event.Ram call) requests none fault holds = by_handlers m (event.Ram call) _ refl refl (ram-plain known m (service_of call) (running_call call) requests fault holds)
event-plain known m (event.Fls call) requests none fault holds = by_handlers m (event.Fls call) _ refl refl (fls-plain m (fls_service_of call) (fls_running_call call) requests fault)
event-plain known m event.TickRam requests none fault holds = by_handlers m event.TickRam _ refl refl (ram-plain known m MainFunction (Some rams.Tick) requests fault holds)
event-plain known m event.TickFls requests none fault holds = by_handlers m event.TickFls _ refl refl (fls-plain m fls_table.MainFunction (Some fls_calls.Tick) requests fault)
event-plain known m (event.App op) requests none fault holds = record {
  deeds = Operates op ∷ [];
  operations = refl;
  fills = All-push (IsDeedOf (set_of m.modules.ram)) [] (Operates op) (All-nil (IsDeedOf (set_of m.modules.ram))) tt;
  few = omega arith;
  answers = ap (λ (a : Answer). given a ∷ []) (answer-plain m.board op fault);
  words = words-plain m.board op fault;
}
event-plain known m (event.Inject fault) requests none sound holds = absurd (none fault refl)
event-plain known m event.Heal requests none fault holds = by_handlers m event.Heal _ refl refl (idle m (by_event m event.Heal requests) refl refl)
event-plain known m (event.Burn addr word) requests none fault holds = by_handlers m (event.Burn addr word) _ refl refl (idle m (by_event m (event.Burn addr word) requests) refl refl)
event-plain known m (event.Flip at) requests none fault holds = by_handlers m (event.Flip at) _ refl refl (idle m (by_event m (event.Flip at) requests) refl refl)

step-plain : Attempts → (m : Machine) (line : Line) → InjectsNothing line → m.board.fault ≡ None → Accepted m → IsPlain m line (step m line)
unfolding step
step-plain known m line none fault holds =
    let h = event-plain known m line.event line.requests.items none fault holds in
    record { deeds = h.deeds; operations = h.operations; fills = h.fills; few = h.few; answers = h.answers; words = h.words }

-- ---- a whole script

played-plain : LeaveNoTrace → Attempts → (z : Setting) → HasAcceptedMarches z → (m : Machine) (lines : List Line) → All InjectsNothing lines → IsSound z m → ArePlain m lines (played m lines).steps
played-plain known attempts z holds m [] none h = tt
played-plain known attempts z holds m (line ∷ more) none h =
    let injects = All-head InjectsNothing line more none in
    let accepted = subst (λ (s : Setting). HasAcceptedMarches s) (sym h.setting) holds in
    (step-plain attempts m line injects h.fault accepted, played-plain known attempts z holds (step m line).after more (All-tail InjectsNothing line more none) (step-sound known z m line injects h))

pub memory_plain : LeaveNoTrace → Attempts → MemoryIsPlain
memory_plain known attempts c defect lines accepted sound none =
    let m = started c defect in
    played-plain known attempts m.modules.ram.setting (accepted-marches c defect accepted) m lines none (record { fault = sound; setting = refl })
