-- Which services reset the results, and which calls set the mark.
use Rattle.std.proofs.Common.{ℕ, ◌≡◌, Bool, true, false, List, [], ◌∷◌, length, replicate, Some, None, refl, sym, ap, subst, ◌∙◌, inl, inr}
use Rattle.std.specs.Prelude.{◌&&◌, ◌⊎◌, nat_lt, nat_le, slice_index_or}
use Rattle.std.proofs.lemmas.Bool.{cases_Bool}
use Rattle.std.proofs.lemmas.List.Sums.{fold-append}
use Rattle.mt_port.specs.declared.request.HandlerCall.{HandlerCall}
use Rattle.mt_port.specs.declared.request.HandlerCall.TheVariants as calls
use Rattle.mt_window.specs.declared.reply.Reply.TheVariants as reply
use Rattle.mt_window.specs.declared.reply.Refusal.TheVariants as refusal
use Rattle.mt_window.specs.declared.reply.Value.TheVariants as value
use Rattle.mt_window.specs.declared.reply.TestResult.TheVariants.{NotTested}
use Rattle.mt_window.specs.Rows.{Refuses, Goes, Answers, Runs, reply_in, next_in}
use Rattle.mt_window.specs.Kept.{cond_case}
use Rattle.mt_blocks.specs.Slices.{pieces, span_at}
use Rattle.mt_ram.specs.declared.state.State.{State}
use Rattle.mt_ram.specs.declared.state.State.TheVariants.{Uninit, Stopped, Running, Suspended, Full, Partial}
use Rattle.mt_ram.specs.State.{Setting, RamTst, IsRam, IsFailureOfPass, set_of, spans_in}
use Rattle.mt_ram.specs.Table.{Service, Init, DeInit, Allow, Stop, Suspend, Resume, SelectAlgParams, ChangeNumberOfTestedCells, RunFullTest, RunPartialTest, MainFunction, GetTestResultPerBlock, GetTestResult, GetAlgParams, GetTestAlgorithm, GetNumberOfTestedCells, GetExecutionStatus, GetVersionInfo, RamCell, cell, in_state, reply_to, after, selected, initialised, testing, ram_table}
use Rattle.mt_ram.specs.Tested.{is_reset, ResultsAreReset, InitForgets, is_ending, after_calls, AcceptsEnding, MarksAreOfCalls}

-- ---- what a cell leaves

-- the services that set the mark where they are accepted
abbrev is_end : Service → Bool
is_end Stop = true
is_end Suspend = true
is_end service = false

-- a service that is no reset leaves the results, and one that ends no group the mark
record Leaves (r : RamTst) (service : Service) (c : RamCell) : Type 0 where
  results : is_reset service ≡ false → (next_in c r).results ≡ r.results
  mark : is_end service ≡ false → (next_in c r).mark ≡ r.mark

testing_leaves : (r : RamTst) (block : ℕ) (inside back : State) → Leaves r (RunPartialTest block) (testing r block inside back)
testing_leaves r block inside back =
    cond_case (Leaves r (RunPartialTest block)) (nat_lt block (length (set_of r).blocks)) (Runs (pieces (set_of r).atomic block (span_at (spans_in r) block)) (in_state inside) (in_state back)) (Refuses refusal.Range)
    (record { results = λ h. refl; mark = λ h. refl }) (record { results = λ h. refl; mark = λ h. refl })

cell_leaves : (r : RamTst) (service : Service) (s : State) → Leaves r service (cell r service s)
cell_leaves r Init Uninit = record { results = λ h. absurd cc; mark = λ h. refl }
cell_leaves r Init _ = record { results = λ h. refl; mark = λ h. refl }
cell_leaves r DeInit Uninit = record { results = λ h. refl; mark = λ h. refl }
cell_leaves r DeInit _ = record { results = λ h. refl; mark = λ h. refl }
cell_leaves r Allow Uninit = record { results = λ h. refl; mark = λ h. refl }
cell_leaves r Allow _ = record { results = λ h. refl; mark = λ h. refl }
cell_leaves r Stop (Running p) = record { results = λ h. refl; mark = λ h. absurd cc }
cell_leaves r Stop (Suspended p) = record { results = λ h. refl; mark = λ h. absurd cc }
cell_leaves r Stop _ = record { results = λ h. refl; mark = λ h. refl }
cell_leaves r Suspend (Running p) = record { results = λ h. refl; mark = λ h. absurd cc }
cell_leaves r Suspend _ = record { results = λ h. refl; mark = λ h. refl }
cell_leaves r Resume Uninit = record { results = λ h. refl; mark = λ h. refl }
cell_leaves r Resume _ = record { results = λ h. refl; mark = λ h. refl }
cell_leaves r (SelectAlgParams set) Stopped =
    cond_case (Leaves r (SelectAlgParams set)) (nat_lt set (length r.setting.config.sets)) (Goes (selected r set)) (Refuses refusal.Range)
    (record { results = λ h. absurd cc; mark = λ h. refl }) (record { results = λ h. refl; mark = λ h. refl })
cell_leaves r (SelectAlgParams set) _ = record { results = λ h. refl; mark = λ h. refl }
cell_leaves r (ChangeNumberOfTestedCells cells) Stopped =
    cond_case (Leaves r (ChangeNumberOfTestedCells cells)) (nat_le (set_of r).atomic cells && nat_le cells 65536) (Goes (record r { cells = cells })) (Refuses refusal.Range)
    (record { results = λ h. refl; mark = λ h. refl }) (record { results = λ h. refl; mark = λ h. refl })
cell_leaves r (ChangeNumberOfTestedCells cells) _ = record { results = λ h. refl; mark = λ h. refl }
cell_leaves r RunFullTest Uninit = record { results = λ h. refl; mark = λ h. refl }
cell_leaves r RunFullTest _ = record { results = λ h. refl; mark = λ h. refl }
cell_leaves r (RunPartialTest block) Stopped = testing_leaves r block (Partial None) Stopped
cell_leaves r (RunPartialTest block) (Suspended p) = testing_leaves r block (Partial (Some p)) (Suspended p)
cell_leaves r (RunPartialTest block) _ = record { results = λ h. refl; mark = λ h. refl }
cell_leaves r MainFunction Uninit = record { results = λ h. refl; mark = λ h. refl }
cell_leaves r MainFunction _ = record { results = λ h. refl; mark = λ h. refl }
cell_leaves r (GetTestResultPerBlock block) Uninit = record { results = λ h. refl; mark = λ h. refl }
cell_leaves r (GetTestResultPerBlock block) _ =
    cond_case (Leaves r (GetTestResultPerBlock block)) (nat_lt block (length r.results)) (Answers (value.Result (slice_index_or r.results block NotTested))) (Refuses refusal.Range)
    (record { results = λ h. refl; mark = λ h. refl }) (record { results = λ h. refl; mark = λ h. refl })
cell_leaves r GetTestResult Uninit = record { results = λ h. refl; mark = λ h. refl }
cell_leaves r GetTestResult _ = record { results = λ h. refl; mark = λ h. refl }
cell_leaves r GetAlgParams Uninit = record { results = λ h. refl; mark = λ h. refl }
cell_leaves r GetAlgParams _ = record { results = λ h. refl; mark = λ h. refl }
cell_leaves r GetTestAlgorithm Uninit = record { results = λ h. refl; mark = λ h. refl }
cell_leaves r GetTestAlgorithm _ = record { results = λ h. refl; mark = λ h. refl }
cell_leaves r GetNumberOfTestedCells Uninit = record { results = λ h. refl; mark = λ h. refl }
cell_leaves r GetNumberOfTestedCells _ = record { results = λ h. refl; mark = λ h. refl }
cell_leaves r GetExecutionStatus _ = record { results = λ h. refl; mark = λ h. refl }
cell_leaves r GetVersionInfo _ = record { results = λ h. refl; mark = λ h. refl }

-- ---- resets

init_resets : (r : RamTst) (s : State) → reply_in (cell r Init s) 0 ≡ reply.Done → (next_in (cell r Init s) r).results ≡ replicate (length (set_of (next_in (cell r Init s) r)).blocks) NotTested
init_resets r Uninit h = refl
init_resets r Stopped h = absurd cc
init_resets r (Running p) h = absurd cc
init_resets r (Suspended p) h = absurd cc
init_resets r Full h = absurd cc
init_resets r (Partial back) h = absurd cc

abbrev IsReset : RamTst → RamCell → Type 0
IsReset r c = reply_in c 0 ≡ reply.Done → (next_in c r).results ≡ replicate (length (set_of (next_in c r)).blocks) NotTested

select_resets : (r : RamTst) (set : ℕ) (s : State) → IsReset r (cell r (SelectAlgParams set) s)
select_resets r set Uninit h = absurd cc
select_resets r set Stopped h = cond_case (IsReset r) (nat_lt set (length r.setting.config.sets)) (Goes (selected r set)) (Refuses refusal.Range) (λ e. refl) (λ e. absurd cc) h
select_resets r set (Running p) h = absurd cc
select_resets r set (Suspended p) h = absurd cc
select_resets r set Full h = absurd cc
select_resets r set (Partial back) h = absurd cc

resets : (r : RamTst) (service : Service) → is_reset service ≡ true → reply_to r service ≡ reply.Done → (after r service).results ≡ replicate (length (set_of (after r service)).blocks) NotTested
resets r Init is h = init_resets r r.state h
resets r (SelectAlgParams set) is h = select_resets r set r.state h
resets r service is h = absurd cc

pub results_are_reset : ResultsAreReset
results_are_reset = record { reset = resets; kept = λ r service h. (cell_leaves r service r.state).results h }

-- a module that Init has made, by its setting, its failure and its mark
unmarked : (a : RamTst) → IsRam a → a.state ≡ Uninit → record (after a Init) { mark = false } ≡ record (initialised a) { failed = false; mark = false }
unmarked a sound is =
    let none : a.failed ≡ false = subst (λ (s : State). IsFailureOfPass s a.failed) is sound.failure in
    ap (λ (s : State). record (next_in (cell a Init s) a) { mark = false }) is ∙ ap (λ (f : Bool). record (initialised a) { failed = f; mark = false }) none

pub init_forgets : InitForgets
init_forgets a b sound_a sound_b same is_a is_b = unmarked a sound_a is_a ∙ by_setting ∙ sym (unmarked b sound_b is_b)
  where
    -- what Init makes is of the setting alone
    by_setting : record (initialised a) { failed = false; mark = false } ≡ record (initialised b) { failed = false; mark = false }
    by_setting = ap (λ (x : Setting). record (initialised (record a { setting = x })) { failed = false; mark = false }) same

-- ---- the mark

stop_marks : (r : RamTst) (s : State) → reply_in (cell r Stop s) 0 ≡ reply.Done → (next_in (cell r Stop s) r).mark ≡ true
stop_marks r (Running p) h = refl
stop_marks r (Suspended p) h = refl
stop_marks r Uninit h = absurd cc
stop_marks r Stopped h = absurd cc
stop_marks r Full h = absurd cc
stop_marks r (Partial back) h = absurd cc

suspend_marks : (r : RamTst) (s : State) → reply_in (cell r Suspend s) 0 ≡ reply.Done → (next_in (cell r Suspend s) r).mark ≡ true
suspend_marks r (Running p) h = refl
suspend_marks r (Suspended p) h = absurd cc
suspend_marks r Uninit h = absurd cc
suspend_marks r Stopped h = absurd cc
suspend_marks r Full h = absurd cc
suspend_marks r (Partial back) h = absurd cc

-- a mark that is set was set before, or by an accepted call
abbrev Tells : RamTst → Service → State → Type 0
Tells r service s = ((next_in (cell r service s) r).mark ≡ r.mark) ⊎ (((next_in (cell r service s) r).mark ≡ true) × (reply_in (cell r service s) 0 ≡ reply.Done))

stop_tells : (r : RamTst) (s : State) → Tells r Stop s
stop_tells r (Running p) = inr (refl, refl)
stop_tells r (Suspended p) = inr (refl, refl)
stop_tells r _ = inl refl

suspend_tells : (r : RamTst) (s : State) → Tells r Suspend s
suspend_tells r (Running p) = inr (refl, refl)
suspend_tells r _ = inl refl

abbrev CallTells : RamTst → HandlerCall → Type 0
CallTells r call = ((ram_table.next r call).mark ≡ r.mark) ⊎ (((ram_table.next r call).mark ≡ true) × (is_ending call ≡ true) × (ram_table.reply r call ≡ reply.Done))

ending : (r : RamTst) (call : HandlerCall) (service : Service) (s : State) → is_ending call ≡ true → (ram_table.next r call).mark ≡ (next_in (cell r service s) r).mark → ram_table.reply r call ≡ reply_in (cell r service s) 0
    → Tells r service s → CallTells r call
ending r call service s is next told (inl same) = inl (next ∙ same)
ending r call service s is next told (inr set) = inr (next ∙ set.0, is, told ∙ set.1)

call_tells : (r : RamTst) (call : HandlerCall) → CallTells r call
unfolding ram_table
call_tells r calls.RamAllow = inl ((cell_leaves r Allow r.state).mark refl)
call_tells r calls.RamStop = ending r calls.RamStop Stop r.state refl refl refl (stop_tells r r.state)
call_tells r calls.RamSuspend = ending r calls.RamSuspend Suspend r.state refl refl refl (suspend_tells r r.state)
call_tells r calls.RamResume = inl ((cell_leaves r Resume r.state).mark refl)
call_tells r calls.RamGetExecutionStatus = inl refl
call_tells r calls.RamGetTestResult = inl ((cell_leaves r GetTestResult r.state).mark refl)
call_tells r (calls.RamGetTestResultPerBlock block) = inl ((cell_leaves r (GetTestResultPerBlock block) r.state).mark refl)
call_tells r calls.FlsSuspend = inl refl
call_tells r calls.FlsResume = inl refl
call_tells r calls.FlsAbort = inl refl
call_tells r calls.FlsGetCurrentState = inl refl
call_tells r calls.FlsGetTestResultBgnd = inl refl
call_tells r calls.FlsGetTestResultFgnd = inl refl

sets_mark : (r : RamTst) (call : HandlerCall) → is_ending call ≡ true → ram_table.reply r call ≡ reply.Done → (ram_table.next r call).mark ≡ true
unfolding ram_table
sets_mark r calls.RamStop is h = stop_marks r r.state h
sets_mark r calls.RamSuspend is h = suspend_marks r r.state h
sets_mark r call is h = absurd cc

keeps_mark : (r : RamTst) (call : HandlerCall) → r.mark ≡ true → (ram_table.next r call).mark ≡ true
keeps_mark r call is = elim (call_tells r call) [ inl same ↦ same ∙ is | inr set ↦ set.0 ]

stays_set : (calls : List HandlerCall) (r : RamTst) → r.mark ≡ true → (after_calls r calls).mark ≡ true
stays_set [] r is = is
stays_set (call ∷ more) r is = stays_set more (ram_table.next r call) (keeps_mark r call is)

-- a call that sets the mark is such a call, and accepted
was_accepted : (r : RamTst) (call : HandlerCall) → r.mark ≡ false → (ram_table.next r call).mark ≡ true → (is_ending call ≡ true) × (ram_table.reply r call ≡ reply.Done)
was_accepted r call none is = elim (call_tells r call) [ inl same ↦ absurd (let no : true ≡ false = sym is ∙ same ∙ none in cc) | inr set ↦ (set.1, set.2) ]

found : (calls : List HandlerCall) (r : RamTst) → r.mark ≡ false → (after_calls r calls).mark ≡ true → AcceptsEnding r calls
found [] r none is = absurd (let no : true ≡ false = sym is ∙ none in cc)
found (call ∷ more) r none is =
    elim (cases_Bool ((ram_table.next r call).mark)) [
      | inl set ↦ (let a = was_accepted r call none set in record { before = []; call = call; later = more; split = refl; ending = a.0; accepted = a.1 })
      | inr not ↦ (
          let m = found more (ram_table.next r call) not is in
          record { before = call ∷ m.before; call = m.call; later = m.later; split = ap (λ (l : List HandlerCall). call ∷ l) m.split; ending = m.ending; accepted = m.accepted })
    ]

marked : (r : RamTst) (calls : List HandlerCall) → AcceptsEnding r calls → (after_calls r calls).mark ≡ true
marked r calls a =
    ap (λ (l : List HandlerCall). (after_calls r l).mark) a.split
    ∙ ap (λ (c : RamTst). c.mark) (fold-append ram_table.next r a.before (a.call ∷ a.later))
    ∙ stays_set a.later (ram_table.next (after_calls r a.before) a.call) (sets_mark (after_calls r a.before) a.call a.ending a.accepted)

pub marks_are_of_calls : MarksAreOfCalls
marks_are_of_calls = record { calls = λ r calls none. (found calls r none, marked r calls); slices = λ r p v. refl }
