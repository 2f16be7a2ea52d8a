-- The greatest slice for a wait bounds the waits of lines that run RamTst.
use Rattle.std.proofs.Common.{ℕ, zero, suc, ◌≡◌, ◌≤◌, ◌<◌, ◌+◌, ◌*◌, Bool, true, false, cond, List, [], ◌∷◌, length, All, Option, Some, None, refl, sym, ◌∙◌, subst, arith, inl, inr}
use Rattle.std.specs.Prelude.{is_some, map}
use Rattle.std.specs.List.{range_with_len}
use Rattle.std.proofs.lemmas.List.{length-map}
use Rattle.std.proofs.lemmas.List.Elements.{All-nil, All-cons, All-append, All-push, All-head, All-tail, All-contains_itself}
use Rattle.mt_fault.specs.declared.fault.Fault.{Fault}
use Rattle.mt_port.specs.declared.board.Shape.{Shape}
use Rattle.mt_port.specs.declared.request.Request.{Request}
use Rattle.mt_port.specs.Board.{AreOrdered, injected}
use Rattle.mt_text.specs.declared.line.Event.{Event}
use Rattle.mt_text.specs.declared.line.Event.TheVariants as event
use Rattle.mt_text.specs.declared.line.Line.{Line}
use Rattle.mt_text.specs.Accepted.{IsAccepted}
use Rattle.mt_window.specs.declared.log.Entry.{Entry}
use Rattle.mt_window.specs.declared.log.Entry.TheVariants.{Served, Inner, Own}
use Rattle.mt_window.specs.declared.reply.Reply.TheVariants as replies
use Rattle.mt_window.specs.Slices.{Attempt}
use Rattle.mt_window.specs.Events.{event as event_of, event_attempts}
use Rattle.mt_window.specs.Waits.{IsShort, IsFresh, MakesShortAttempts, ServesInTime}
use Rattle.mt_blocks.specs.declared.config.Block.{Block}
use Rattle.mt_blocks.specs.declared.config.ParamSet.{ParamSet}
use Rattle.mt_blocks.specs.declared.span.Span.{Span}
use Rattle.mt_blocks.specs.Slices.{Piece, piece, pieces, pieces_from, slice_count}
use Rattle.mt_blocks.specs.Accepted.{block_at, no_block, spans_of, set_at}
use Rattle.mt_cut.specs.Atomic.{LargestBoundsWaits}
use Rattle.mt_ram.specs.State.{Setting, set_of}
use Rattle.mt_ram.specs.Table.{Service, MainFunction}
use Rattle.mt_ram.specs.Laws.{IsSliceOf, IsAtSlice, TriesSlices, LeavesSetting, ServicesLeaveSetting}
use Rattle.mt_machine.specs.declared.driven.Running.{Running}
use Rattle.mt_machine.specs.declared.driven.Running.TheVariants as rams
use Rattle.mt_machine.specs.declared.driven.FlsRunning.{FlsRunning}
use Rattle.mt_machine.specs.declared.driven.FlsRunning.TheVariants as fls_calls
use Rattle.mt_fls.specs.Table as fls_table
use Rattle.mt_machine.specs.Machine.{Machine, on_board, begun, replied, running_ram, events_of, by_service, running_call, service_of, by_fls_service, fls_running_call, fls_service_of, by_event, step, started, played}
use Rattle.mt_laws.specs.Alarms.{OfEach}
use Rattle.mt_laws.specs.Latency.{IsCutFor, runs_ram, WaitsUpTo, LinesWaitUpTo, ScriptsWaitUpTo}

-- what is known of the running calls of RamTst, of its services, and of the greatest slice
pub record BoundLaws : Type 0 where
  pub served : (call : Running) → ServesInTime (events_of call)
  pub made : (call : Running) → MakesShortAttempts (events_of call)
  pub tries : (call : Running) → TriesSlices (events_of call)
  pub bounds : LargestBoundsWaits
  pub settings : (call : Running) → LeavesSetting (events_of call)
  pub services : ServicesLeaveSetting

-- ---- the slices of a set

-- a slice has at most so many words, and its block is one of those before a number
record IsWithin (K blocks : ℕ) (p : Piece) : Type 0 where
  small : p.slice.n ≤ K
  block : p.place.block < blocks

pieces-within : (K i blocks : ℕ) (s : Span) → i < blocks → (ks : List ℕ) → All (IsWithin K blocks) (map (λ (k : ℕ). piece K i s (k * K)) ks)
pieces-within K i blocks s there [] = All-nil (IsWithin K blocks)
pieces-within K i blocks s there (k ∷ ks) =
    All-cons (IsWithin K blocks) (piece K i s (k * K)) (map (λ (k : ℕ). piece K i s (k * K)) ks) (record { small = omega arith; block = there }) (pieces-within K i blocks s there ks)

later-within : (K i blocks : ℕ) (spans : List Span) → i + length spans ≤ blocks → All (IsWithin K blocks) (pieces_from K i spans)
later-within K i blocks [] few = All-nil (IsWithin K blocks)
later-within K i blocks (s ∷ more) few =
    All-append (IsWithin K blocks) (pieces K i s) (pieces_from K (i + 1) more)
    (pieces-within K i blocks s (omega (arith, few)) (range_with_len 0 (slice_count K s))) (later-within K (i + 1) blocks more (omega (arith, few)))

slice-within : (set : ParamSet) (p : Piece) → IsSliceOf set p → IsWithin set.atomic (length set.blocks) p
slice-within set p (k, there, same) =
    let many : length (spans_of set.blocks) ≡ length set.blocks = length-map set.blocks (λ (b : Block). b.span) in
    subst (IsWithin set.atomic (length set.blocks)) same (later-within set.atomic 0 (length set.blocks) (spans_of set.blocks) (omega (arith, many)) k p there)

-- ---- one entry

entry-bounded : LargestBoundsWaits → (set : ParamSet) (wait : ℕ) → IsCutFor wait set → (made : List Attempt) → All (λ (a : Attempt). a.made ≤ a.whole) made → All (IsAtSlice set) made
    → (e : Entry) → IsShort made e → WaitsUpTo wait e
entry-bounded bounds set wait cut made short slices (Inner reply) h = tt
entry-bounded bounds set wait cut made short slices (Own reply) h = tt
entry-bounded bounds set wait cut made short slices (Served number place waited) (inl none) = omega (arith, none)
entry-bounded bounds set wait cut made short slices (Served number place waited) (inr (k, a, there, same, met)) =
    let low : a.made ≤ a.whole = subst (λ (b : Attempt). b.made ≤ b.whole) same (short k a there) in
    let at : IsAtSlice set a = subst (IsAtSlice set) same (slices k a there) in
    let within = slice-within set at.slice at.inside in
    let block = block_at set.blocks at.slice.place.block in
    bounds set wait cut.words at.slice.slice.n waited block cut.largest (omega (arith, within.small, cut.atomic)) (All-contains_itself set.blocks at.slice.place.block no_block within.block)
    (omega (arith, met.1, low, at.whole))

-- ---- one line

running-bounded : BoundLaws → (m : Machine) (call : Running) (requests : List Request) (wait : ℕ) → AreOrdered requests → IsCutFor wait (set_of m.modules.ram)
    → All (WaitsUpTo wait) (running_ram call m requests).entries
running-bounded known m call requests wait ordered cut =
    let s = begun m.board m.modules.ram requests in
    let fresh : IsFresh s = record { empty = refl; start = refl; ordered = ordered } in
    let o = event_of (events_of call) s in
    let one = entry-bounded known.bounds (set_of m.modules.ram) wait cut (event_attempts (events_of call) s) (known.made call s) (known.tries call s) in
    All-push (WaitsUpTo wait) o.after.log (Own o.reply) (λ k d h. one _ ((known.served call).short s fresh k d h)) tt

service-bounded : BoundLaws → (m : Machine) (service : Service) (call : Option Running) (requests : List Request) (wait : ℕ) → AreOrdered requests → is_some call ≡ true → IsCutFor wait (set_of m.modules.ram)
    → All (WaitsUpTo wait) (by_service m service call requests).entries
service-bounded known m service None requests wait ordered runs cut = absurd cc
service-bounded known m service (Some call) requests wait ordered runs cut = running-bounded known m call requests wait ordered cut

event-bounded : BoundLaws → (m : Machine) (e : Event) (requests : List Request) (wait : ℕ) → AreOrdered requests → runs_ram e ≡ true → IsCutFor wait (set_of m.modules.ram)
    → All (WaitsUpTo wait) (by_event m e requests).entries
event-bounded known m event.TickRam requests wait ordered runs cut = running-bounded known m rams.Tick requests wait ordered cut
event-bounded known m (event.Ram call) requests wait ordered runs cut = service-bounded known m (service_of call) (running_call call) requests wait ordered runs cut
event-bounded known m event.Nothing requests wait ordered runs cut = absurd cc
event-bounded known m (event.Fls call) requests wait ordered runs cut = absurd cc
event-bounded known m event.TickFls requests wait ordered runs cut = absurd cc
event-bounded known m (event.App op) requests wait ordered runs cut = absurd cc
event-bounded known m (event.Inject fault) requests wait ordered runs cut = absurd cc
event-bounded known m event.Heal requests wait ordered runs cut = absurd cc
event-bounded known m (event.Burn addr word) requests wait ordered runs cut = absurd cc
event-bounded known m (event.Flip at) requests wait ordered runs cut = absurd cc

pub lines_wait : BoundLaws → LinesWaitUpTo
unfolding step
lines_wait known shape m line wait accepted runs cut = event-bounded known m line.event line.requests.items wait accepted.requests.ordered runs cut

-- ---- a whole script

service-setting : BoundLaws → (m : Machine) (service : Service) (call : Option Running) (requests : List Request) → (by_service m service call requests).after.modules.ram.setting ≡ m.modules.ram.setting
service-setting known m service None requests = known.services m.modules.ram service
service-setting known m service (Some call) requests = known.settings call (begun m.board m.modules.ram requests)

fls-setting : (m : Machine) (service : fls_table.Service) (call : Option FlsRunning) (requests : List Request) → (by_fls_service m service call requests).after.modules.ram.setting ≡ m.modules.ram.setting
fls-setting m service None requests = refl
fls-setting m service (Some call) requests = refl

inject-setting : (m : Machine) (fault : Fault) (there : Bool) → (cond there (replied m replies.Present) (replied (on_board m (injected m.board fault)) replies.Done)).after.modules.ram.setting ≡ m.modules.ram.setting
inject-setting m fault true = refl
inject-setting m fault false = refl

event-setting : BoundLaws → (m : Machine) (e : Event) (requests : List Request) → (by_event m e requests).after.modules.ram.setting ≡ m.modules.ram.setting
event-setting known m event.Nothing requests = refl
event-setting known m (event.Ram call) requests = service-setting known m (service_of call) (running_call call) requests
event-setting known m (event.Fls call) requests = fls-setting m (fls_service_of call) (fls_running_call call) requests
event-setting known m event.TickRam requests = service-setting known m MainFunction (Some rams.Tick) requests
event-setting known m event.TickFls requests = fls-setting m fls_table.MainFunction (Some fls_calls.Tick) requests
event-setting known m (event.App op) requests = refl
event-setting known m (event.Inject fault) requests = inject-setting m fault (is_some m.board.fault)
event-setting known m event.Heal requests = refl
event-setting known m (event.Burn addr word) requests = refl
event-setting known m (event.Flip at) requests = refl

step-setting : BoundLaws → (m : Machine) (line : Line) → (step m line).after.modules.ram.setting ≡ m.modules.ram.setting
unfolding step
step-setting known m line = event-setting known m line.event line.requests.items

-- each set with a number is cut for the wait, also one that is not there, which has no block
sets-cut : (wait : ℕ) (sets : List ParamSet) (n : ℕ) → All (IsCutFor wait) sets → IsCutFor wait (set_at sets n)
sets-cut wait [] n all = record {
  words = 64;
  largest = record { some = omega arith; small = omega arith; waits = λ k d h. absurd (omega (arith, h)); largest = λ more above below waits. omega (arith, above, below) };
  atomic = omega arith;
}
sets-cut wait (set ∷ sets) zero all = All-head (IsCutFor wait) set sets all
sets-cut wait (set ∷ sets) (suc n) all = sets-cut wait sets n (All-tail (IsCutFor wait) set sets all)

played-bounded : BoundLaws → (shape : Shape) (z : Setting) (wait : ℕ) → All (IsCutFor wait) z.config.sets → (m : Machine) (lines : List Line) → All (IsAccepted shape) lines → m.modules.ram.setting ≡ z
    → OfEach (λ line s. runs_ram line.event ≡ true → All (WaitsUpTo wait) s.entries) lines (played m lines).steps
played-bounded known shape z wait cut m [] accepted same = tt
played-bounded known shape z wait cut m (line ∷ more) accepted same =
    let selected = m.modules.ram.selected in
    let own : IsCutFor wait (set_of m.modules.ram) = subst (λ (y : Setting). IsCutFor wait (set_at y.config.sets selected)) (sym same) (sets-cut wait z.config.sets selected cut) in (
      λ runs. lines_wait known shape m line wait (All-head (IsAccepted shape) line more accepted) runs own,
      played-bounded known shape z wait cut (step m line).after more (All-tail (IsAccepted shape) line more accepted) (step-setting known m line ∙ same),
    )

pub scripts_wait : BoundLaws → ScriptsWaitUpTo
scripts_wait known c defect lines wait accepted cut =
    let m = started c defect in
    played-bounded known c.shape m.modules.ram.setting wait cut m lines accepted refl
