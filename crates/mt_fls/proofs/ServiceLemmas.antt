-- What Init and the other services leave, and which calls set the mark.
use Rattle.std.proofs.Common.{ℕ, ◌≡◌, Bool, true, false, List, [], ◌∷◌, length, refl, sym, ap, ◌∙◌, inl, inr}
use Rattle.std.specs.Prelude.{◌⊎◌, nat_lt}
use Rattle.std.proofs.lemmas.Bool.{cases_Bool}
use Rattle.std.proofs.lemmas.List.Sums.{fold-append}
use Rattle.mt_port.specs.declared.request.HandlerCall.{HandlerCall}
use Rattle.mt_port.specs.declared.request.HandlerCall.TheVariants as calls
use Rattle.mt_window.specs.declared.reply.Reply.TheVariants as reply
use Rattle.mt_window.specs.declared.reply.Refusal.TheVariants as refusal
use Rattle.mt_window.specs.Rows.{Refuses, Runs, reply_in, next_in}
use Rattle.mt_window.specs.Kept.{cond_case}
use Rattle.mt_blocks.specs.Slices.{pieces, span_at}
use Rattle.mt_fls.specs.declared.state.Back.{Back}
use Rattle.mt_fls.specs.declared.state.Back.TheVariants as back
use Rattle.mt_fls.specs.declared.state.State.{State}
use Rattle.mt_fls.specs.declared.state.State.TheVariants as state
use Rattle.mt_fls.specs.State.{Setting, FlsTst, fgnd_spans}
use Rattle.mt_fls.specs.Table.{Service, Init, DeInit, Abort, Suspend, Resume, StartFgnd, MainFunction, GetCurrentState, GetTestResultBgnd, GetTestResultFgnd, GetErrorDetails, GetVersionInfo, FlsCell, cell, in_state, state_of, comparing, initialised, fls_table}
use Rattle.mt_fls.specs.Tested.{InitForgets, is_init, ShowsTheSame, ServicesLeaveResults, is_ending, after_calls, AcceptsEnding, MarksAreOfCalls}

-- ---- what a cell leaves

-- the services that set the mark where they are accepted
abbrev is_end : Service → Bool
is_end Abort = true
is_end Suspend = true
is_end service = false

record Leaves (f : FlsTst) (service : Service) (c : FlsCell) : Type 0 where
  shows : is_init service ≡ false → ShowsTheSame f (next_in c f)
  mark : is_end service ≡ false → (next_in c f).mark ≡ f.mark

comparing_leaves : (f : FlsTst) (block : ℕ) (b : Back) → Leaves f (StartFgnd block) (comparing f block b)
comparing_leaves f block b =
    cond_case (Leaves f (StartFgnd block)) (nat_lt block (length f.setting.config.fgnd))
    (Runs (pieces f.setting.config.atomic block (span_at (fgnd_spans f) block)) (in_state (state.Foreground b)) (in_state (state_of b))) (Refuses refusal.Range)
    (record { shows = λ h. record { completed = refl; result = refl; fgnd = refl; detail = refl }; mark = λ h. refl })
    (record { shows = λ h. record { completed = refl; result = refl; fgnd = refl; detail = refl }; mark = λ h. refl })

cell_leaves : (f : FlsTst) (service : Service) (s : State) → Leaves f service (cell f service s)
cell_leaves f Init state.Uninit = record { shows = λ h. absurd cc; mark = λ h. refl }
cell_leaves f Init _ = record { shows = λ h. absurd cc; mark = λ h. refl }
cell_leaves f DeInit state.Uninit = record { shows = λ h. record { completed = refl; result = refl; fgnd = refl; detail = refl }; mark = λ h. refl }
cell_leaves f DeInit _ = record { shows = λ h. record { completed = refl; result = refl; fgnd = refl; detail = refl }; mark = λ h. refl }
cell_leaves f Abort state.Uninit = record { shows = λ h. record { completed = refl; result = refl; fgnd = refl; detail = refl }; mark = λ h. absurd cc }
cell_leaves f Abort _ = record { shows = λ h. record { completed = refl; result = refl; fgnd = refl; detail = refl }; mark = λ h. absurd cc }
cell_leaves f Suspend state.Uninit = record { shows = λ h. record { completed = refl; result = refl; fgnd = refl; detail = refl }; mark = λ h. absurd cc }
cell_leaves f Suspend _ = record { shows = λ h. record { completed = refl; result = refl; fgnd = refl; detail = refl }; mark = λ h. absurd cc }
cell_leaves f Resume state.Uninit = record { shows = λ h. record { completed = refl; result = refl; fgnd = refl; detail = refl }; mark = λ h. refl }
cell_leaves f Resume _ = record { shows = λ h. record { completed = refl; result = refl; fgnd = refl; detail = refl }; mark = λ h. refl }
cell_leaves f (StartFgnd block) state.Init = comparing_leaves f block back.Init
cell_leaves f (StartFgnd block) (state.Running p) = comparing_leaves f block (back.Running p)
cell_leaves f (StartFgnd block) (state.Suspended p) = comparing_leaves f block (back.Suspended p)
cell_leaves f (StartFgnd block) _ = record { shows = λ h. record { completed = refl; result = refl; fgnd = refl; detail = refl }; mark = λ h. refl }
cell_leaves f MainFunction state.Uninit = record { shows = λ h. record { completed = refl; result = refl; fgnd = refl; detail = refl }; mark = λ h. refl }
cell_leaves f MainFunction _ = record { shows = λ h. record { completed = refl; result = refl; fgnd = refl; detail = refl }; mark = λ h. refl }
cell_leaves f GetTestResultBgnd state.Uninit = record { shows = λ h. record { completed = refl; result = refl; fgnd = refl; detail = refl }; mark = λ h. refl }
cell_leaves f GetTestResultBgnd _ = record { shows = λ h. record { completed = refl; result = refl; fgnd = refl; detail = refl }; mark = λ h. refl }
cell_leaves f GetTestResultFgnd state.Uninit = record { shows = λ h. record { completed = refl; result = refl; fgnd = refl; detail = refl }; mark = λ h. refl }
cell_leaves f GetTestResultFgnd _ = record { shows = λ h. record { completed = refl; result = refl; fgnd = refl; detail = refl }; mark = λ h. refl }
cell_leaves f GetErrorDetails state.Uninit = record { shows = λ h. record { completed = refl; result = refl; fgnd = refl; detail = refl }; mark = λ h. refl }
cell_leaves f GetErrorDetails _ = record { shows = λ h. record { completed = refl; result = refl; fgnd = refl; detail = refl }; mark = λ h. refl }
cell_leaves f GetCurrentState _ = record { shows = λ h. record { completed = refl; result = refl; fgnd = refl; detail = refl }; mark = λ h. refl }
cell_leaves f GetVersionInfo _ = record { shows = λ h. record { completed = refl; result = refl; fgnd = refl; detail = refl }; mark = λ h. refl }

pub services_leave_results : ServicesLeaveResults
services_leave_results f service h = (cell_leaves f service f.state).shows h

-- ---- Init

made : (f : FlsTst) (s : State) → reply_in (cell f Init s) 0 ≡ reply.Done → record (next_in (cell f Init s) f) { mark = false } ≡ record (initialised f) { mark = false }
made f state.Uninit h = refl
made f state.Aborted h = refl
made f state.Init h = absurd cc
made f (state.Running p) h = absurd cc
made f (state.Suspended p) h = absurd cc
made f (state.Foreground b) h = absurd cc

pub init_forgets : InitForgets
init_forgets a b same done_a done_b = made a a.state done_a ∙ of_setting ∙ sym (made b b.state done_b)
  where
    -- what Init makes is of the setting alone
    of_setting : record (initialised a) { mark = false } ≡ record (initialised b) { mark = false }
    of_setting = ap (λ (x : Setting). record (initialised (record a { setting = x })) { mark = false }) same

-- ---- the mark

-- a mark that is set was set before, or by an accepted call
abbrev Tells : FlsTst → Service → State → Type 0
Tells f service s = ((next_in (cell f service s) f).mark ≡ f.mark) ⊎ (((next_in (cell f service s) f).mark ≡ true) × (reply_in (cell f service s) 0 ≡ reply.Done))

abort_tells : (f : FlsTst) (s : State) → Tells f Abort s
abort_tells f state.Init = inr (refl, refl)
abort_tells f (state.Running p) = inr (refl, refl)
abort_tells f (state.Suspended p) = inr (refl, refl)
abort_tells f _ = inl refl

suspend_tells : (f : FlsTst) (s : State) → Tells f Suspend s
suspend_tells f (state.Running p) = inr (refl, refl)
suspend_tells f _ = inl refl

abort_marks : (f : FlsTst) (s : State) → reply_in (cell f Abort s) 0 ≡ reply.Done → (next_in (cell f Abort s) f).mark ≡ true
abort_marks f state.Init h = refl
abort_marks f (state.Running p) h = refl
abort_marks f (state.Suspended p) h = refl
abort_marks f state.Uninit h = absurd cc
abort_marks f state.Aborted h = absurd cc
abort_marks f (state.Foreground b) h = absurd cc

suspend_marks : (f : FlsTst) (s : State) → reply_in (cell f Suspend s) 0 ≡ reply.Done → (next_in (cell f Suspend s) f).mark ≡ true
suspend_marks f (state.Running p) h = refl
suspend_marks f state.Init h = absurd cc
suspend_marks f (state.Suspended p) h = absurd cc
suspend_marks f state.Uninit h = absurd cc
suspend_marks f state.Aborted h = absurd cc
suspend_marks f (state.Foreground b) h = absurd cc

abbrev CallTells : FlsTst → HandlerCall → Type 0
CallTells f call = ((fls_table.next f call).mark ≡ f.mark) ⊎ (((fls_table.next f call).mark ≡ true) × (is_ending call ≡ true) × (fls_table.reply f call ≡ reply.Done))

ending : (f : FlsTst) (call : HandlerCall) (service : Service) (s : State) → is_ending call ≡ true → (fls_table.next f call).mark ≡ (next_in (cell f service s) f).mark → fls_table.reply f call ≡ reply_in (cell f service s) 0
    → Tells f service s → CallTells f call
ending f call service s is next told (inl same) = inl (next ∙ same)
ending f call service s is next told (inr set) = inr (next ∙ set.0, is, told ∙ set.1)

call_tells : (f : FlsTst) (call : HandlerCall) → CallTells f call
unfolding fls_table
call_tells f calls.FlsAbort = ending f calls.FlsAbort Abort f.state refl refl refl (abort_tells f f.state)
call_tells f calls.FlsSuspend = ending f calls.FlsSuspend Suspend f.state refl refl refl (suspend_tells f f.state)
call_tells f calls.FlsResume = inl ((cell_leaves f Resume f.state).mark refl)
call_tells f calls.FlsGetCurrentState = inl refl
call_tells f calls.FlsGetTestResultBgnd = inl ((cell_leaves f GetTestResultBgnd f.state).mark refl)
call_tells f calls.FlsGetTestResultFgnd = inl ((cell_leaves f GetTestResultFgnd f.state).mark refl)
call_tells f _ = inl refl

sets_mark : (f : FlsTst) (call : HandlerCall) → is_ending call ≡ true → fls_table.reply f call ≡ reply.Done → (fls_table.next f call).mark ≡ true
unfolding fls_table
sets_mark f calls.FlsAbort is h = abort_marks f f.state h
sets_mark f calls.FlsSuspend is h = suspend_marks f f.state h
sets_mark f call is h = absurd cc

keeps_mark : (f : FlsTst) (call : HandlerCall) → f.mark ≡ true → (fls_table.next f call).mark ≡ true
keeps_mark f call is = elim (call_tells f call) [ inl same ↦ same ∙ is | inr set ↦ set.0 ]

stays_set : (calls : List HandlerCall) (f : FlsTst) → f.mark ≡ true → (after_calls f calls).mark ≡ true
stays_set [] f is = is
stays_set (call ∷ more) f is = stays_set more (fls_table.next f call) (keeps_mark f call is)

-- a call that sets the mark is such a call, and accepted
was_accepted : (f : FlsTst) (call : HandlerCall) → f.mark ≡ false → (fls_table.next f call).mark ≡ true → (is_ending call ≡ true) × (fls_table.reply f call ≡ reply.Done)
was_accepted f call none is = elim (call_tells f call) [ inl same ↦ absurd (let no : true ≡ false = sym is ∙ same ∙ none in cc) | inr set ↦ (set.1, set.2) ]

found : (calls : List HandlerCall) (f : FlsTst) → f.mark ≡ false → (after_calls f calls).mark ≡ true → AcceptsEnding f calls
found [] f none is = absurd (let no : true ≡ false = sym is ∙ none in cc)
found (call ∷ more) f none is =
    elim (cases_Bool ((fls_table.next f call).mark)) [
      | inl set ↦ (let a = was_accepted f call none set in record { before = []; call = call; later = more; split = refl; ending = a.0; accepted = a.1 })
      | inr not ↦ (
          let m = found more (fls_table.next f call) not is in
          record { before = call ∷ m.before; call = m.call; later = m.later; split = ap (λ (l : List HandlerCall). call ∷ l) m.split; ending = m.ending; accepted = m.accepted })
    ]

marked : (f : FlsTst) (calls : List HandlerCall) → AcceptsEnding f calls → (after_calls f calls).mark ≡ true
marked f calls a =
    ap (λ (l : List HandlerCall). (after_calls f l).mark) a.split
    ∙ ap (λ (c : FlsTst). c.mark) (fold-append fls_table.next f a.before (a.call ∷ a.later))
    ∙ stays_set a.later (fls_table.next (after_calls f a.before) a.call) (sets_mark (after_calls f a.before) a.call a.ending a.accepted)

pub marks_are_of_calls : MarksAreOfCalls
marks_are_of_calls f calls none = (found calls f none, marked f calls)
