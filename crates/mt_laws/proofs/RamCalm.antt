-- RamTst reports no failure on sound memory.
use Rattle.std.proofs.Common.{ℕ, zero, suc, ◌≡◌, Bool, true, false, cond, List, [], ◌∷◌, All, Option, Some, None, refl, sym, ap, ◌∙◌, subst}
use Rattle.std.specs.Prelude.{◌&&◌, if◌then◌else◌, length, nat_lt, nat_le, replicate, slice_index_or, slice_set}
use Rattle.std.specs.List.{list_any}
use Rattle.std.proofs.lemmas.List.Elements.{All-nil, All-cons, All-head, All-tail}
use Rattle.mt_seq.specs.declared.sequence.Verdict.{Verdict}
use Rattle.mt_seq.specs.declared.sequence.Verdict.TheVariants.{Pass, Fail}
use Rattle.mt_seq.specs.Laws.{WholeAttemptsPass}
use Rattle.mt_window.specs.declared.reply.Refusal.TheVariants as refusal
use Rattle.mt_window.specs.declared.reply.TestResult.{TestResult}
use Rattle.mt_window.specs.declared.reply.TestResult.TheVariants.{NotTested, Ok, NotOk, Undefined}
use Rattle.mt_window.specs.declared.reply.Value.TheVariants as value
use Rattle.mt_window.specs.Rows.{Refuses, Goes, Answers, Runs}
use Rattle.mt_window.specs.Slices.{Tests}
use Rattle.mt_blocks.specs.Slices.{Piece, pieces, span_at}
use Rattle.mt_ram.specs.declared.state.State.{State}
use Rattle.mt_ram.specs.declared.state.State.TheVariants.{Uninit, Stopped, Running, Suspended, Full, Partial}
use Rattle.mt_ram.specs.State.{RamTst, set_of, spans_in}
use Rattle.mt_ram.specs.Table.{Service, Init, DeInit, Allow, Stop, Suspend, Resume, SelectAlgParams, ChangeNumberOfTestedCells, RunFullTest, RunPartialTest, MainFunction, GetTestResultPerBlock, GetTestResult, GetAlgParams, GetTestAlgorithm, GetNumberOfTestedCells, GetExecutionStatus, GetVersionInfo, cell, row, handled, handler_reply, handler_next, ram_table, selected, selecting, changing, testing, telling, in_state}
use Rattle.mt_ram.specs.Results.{result_after, failed_after, overall, is_result}
use Rattle.mt_ram.specs.Event.{of_pass, of_test, running as running_of, job_of}
use Rattle.mt_ram.specs.Plain.{HasAcceptedMarches}
use Rattle.mt_laws.specs.Alarms.{HasNoFailure, is_failure, reports_failure}
use Rattle.mt_laws.proofs.Calm.{CalmCell, CalmTable, CalmTests, CalmCall, Premise, cell_next, cell_reply, cell_inside, cell_back}

-- No result is NOT_OK, and no slice of the unfinished test failed; the marches are accepted.
pub record IsCalm (r : RamTst) : Type 0 where
  pub results : HasNoFailure r.results
  pub failed : r.failed ≡ false
  pub marches : HasAcceptedMarches r.setting

-- ---- results

pub none_tested : (n : ℕ) → HasNoFailure (replicate n NotTested)
none_tested zero = All-nil (λ (r : TestResult). is_failure r ≡ false)
none_tested (suc n) = All-cons (λ (r : TestResult). is_failure r ≡ false) NotTested (replicate n NotTested) refl (none_tested n)

result_at : (results : List TestResult) (i : ℕ) → HasNoFailure results → is_failure (slice_index_or results i NotTested) ≡ false
result_at [] i h = refl
result_at (r ∷ results) zero h = All-head (λ (r : TestResult). is_failure r ≡ false) r results h
result_at (r ∷ results) (suc i) h = result_at results i (All-tail (λ (r : TestResult). is_failure r ≡ false) r results h)

set_calm : (results : List TestResult) (i : ℕ) (new : TestResult) → HasNoFailure results → is_failure new ≡ false → HasNoFailure (slice_set results i new)
set_calm [] i new h n = h
set_calm (r ∷ results) zero new h n = All-cons (λ (r : TestResult). is_failure r ≡ false) new results n (All-tail (λ (r : TestResult). is_failure r ≡ false) r results h)
set_calm (r ∷ results) (suc i) new h n =
    All-cons (λ (r : TestResult). is_failure r ≡ false) r (slice_set results i new) (All-head (λ (r : TestResult). is_failure r ≡ false) r results h)
    (set_calm results i new (All-tail (λ (r : TestResult). is_failure r ≡ false) r results h) n)

same_failure : (r : TestResult) → is_result NotOk r ≡ is_failure r
same_failure NotTested = refl
same_failure Ok = refl
same_failure NotOk = refl
same_failure Undefined = refl

no_failure : (results : List TestResult) → HasNoFailure results → list_any (is_result NotOk) results ≡ false
no_failure [] h = refl
no_failure (r ∷ results) h = rw (same_failure r ∙ All-head (λ (r : TestResult). is_failure r ≡ false) r results h) (no_failure results (All-tail (λ (r : TestResult). is_failure r ≡ false) r results h))

overall_calm : (results : List TestResult) → HasNoFailure results → is_failure (overall results) ≡ false
overall_calm results h = rw (no_failure results h) (of _ _)
  where
    of : (all none : Bool) → is_failure (cond all Ok (cond none NotTested Undefined)) ≡ false
    of true none = refl
    of false true = refl
    of false false = refl

-- a slice that passed
passed_result : (old : TestResult) (last : Bool) → is_failure old ≡ false → is_failure (result_after old Pass false last) ≡ false
passed_result old true h = refl
passed_result NotTested false h = refl
passed_result Ok false h = refl
passed_result NotOk false h = h
passed_result Undefined false h = refl

passed_failed : (last : Bool) → failed_after Pass false last ≡ false
passed_failed true = refl
passed_failed false = refl

-- ---- the table

selecting_calm : (r : RamTst) (set : ℕ) → IsCalm r → CalmCell IsCalm (selecting r set)
selecting_calm r set h = of (nat_lt set (length r.setting.config.sets))
  where
    of : (b : Bool) → CalmCell {C = RamTst} {X = Piece} IsCalm (if b then Goes (selected r set) else Refuses refusal.Range)
    of true = record { results = none_tested _; failed = h.failed; marches = h.marches }
    of false = tt

changing_calm : (r : RamTst) (cells : ℕ) → IsCalm r → CalmCell IsCalm (changing r cells)
changing_calm r cells h = of (nat_le (set_of r).atomic cells && nat_le cells 65536)
  where
    of : (b : Bool) → CalmCell {C = RamTst} {X = Piece} IsCalm (if b then Goes (record r { cells = cells }) else Refuses refusal.Range)
    of true = record { results = h.results; failed = h.failed; marches = h.marches }
    of false = tt

runs_calm : (inside back : State) (r : RamTst) → IsCalm r → IsCalm (in_state inside r) × IsCalm (in_state back r)
runs_calm inside back r h = (record { results = h.results; failed = h.failed; marches = h.marches }, record { results = h.results; failed = h.failed; marches = h.marches })

testing_calm : (r : RamTst) (block : ℕ) (inside back : State) → CalmCell IsCalm (testing r block inside back)
testing_calm r block inside back = of (nat_lt block (length (set_of r).blocks))
  where
    of : (b : Bool) → CalmCell {C = RamTst} {X = Piece} IsCalm (if b then Runs (pieces (set_of r).atomic block (span_at (spans_in r) block)) (in_state inside) (in_state back) else Refuses refusal.Range)
    of true = runs_calm inside back
    of false = tt

telling_calm : (r : RamTst) (block : ℕ) → IsCalm r → CalmCell IsCalm (telling r block)
telling_calm r block h = of (nat_lt block (length r.results))
  where
    of : (b : Bool) → CalmCell {C = RamTst} {X = Piece} IsCalm (if b then Answers (value.Result (slice_index_or r.results block NotTested)) else Refuses refusal.Range)
    of true = result_at r.results block h.results
    of false = tt

pub cell_calm : (r : RamTst) (service : Service) (s : State) → IsCalm r → CalmCell IsCalm (cell r service s)
cell_calm r Init Uninit h = record { results = none_tested _; failed = h.failed; marches = h.marches }
cell_calm r Init _ h = tt
cell_calm r DeInit Uninit h = tt
cell_calm r DeInit _ h = record { results = h.results; failed = refl; marches = h.marches }
cell_calm r Allow Uninit h = tt
cell_calm r Allow Stopped h = record { results = h.results; failed = h.failed; marches = h.marches }
cell_calm r Allow _ h = tt
cell_calm r Stop Uninit h = tt
cell_calm r Stop (Running p) h = record { results = h.results; failed = refl; marches = h.marches }
cell_calm r Stop (Suspended p) h = record { results = h.results; failed = refl; marches = h.marches }
cell_calm r Stop _ h = tt
cell_calm r Suspend Uninit h = tt
cell_calm r Suspend (Running p) h = record { results = h.results; failed = h.failed; marches = h.marches }
cell_calm r Suspend _ h = tt
cell_calm r Resume Uninit h = tt
cell_calm r Resume (Suspended p) h = record { results = h.results; failed = h.failed; marches = h.marches }
cell_calm r Resume _ h = tt
cell_calm r (SelectAlgParams set) Uninit h = tt
cell_calm r (SelectAlgParams set) Stopped h = selecting_calm r set h
cell_calm r (SelectAlgParams set) _ h = tt
cell_calm r (ChangeNumberOfTestedCells cells) Uninit h = tt
cell_calm r (ChangeNumberOfTestedCells cells) Stopped h = changing_calm r cells h
cell_calm r (ChangeNumberOfTestedCells cells) _ h = tt
cell_calm r RunFullTest Uninit h = tt
cell_calm r RunFullTest Stopped h = runs_calm Full Stopped
cell_calm r RunFullTest _ h = tt
cell_calm r (RunPartialTest block) Uninit h = tt
cell_calm r (RunPartialTest block) Stopped h = testing_calm r block (Partial None) Stopped
cell_calm r (RunPartialTest block) (Suspended p) h = testing_calm r block (Partial (Some p)) (Suspended p)
cell_calm r (RunPartialTest block) _ h = tt
cell_calm r MainFunction Uninit h = tt
cell_calm r MainFunction (Running p) h = λ c i. (i, i)
cell_calm r MainFunction _ h = tt
cell_calm r (GetTestResultPerBlock block) Uninit h = tt
cell_calm r (GetTestResultPerBlock block) _ h = telling_calm r block h
cell_calm r GetTestResult Uninit h = tt
cell_calm r GetTestResult _ h = overall_calm r.results h.results
cell_calm r GetAlgParams Uninit h = tt
cell_calm r GetAlgParams _ h = refl
cell_calm r GetTestAlgorithm Uninit h = tt
cell_calm r GetTestAlgorithm _ h = refl
cell_calm r GetNumberOfTestedCells Uninit h = tt
cell_calm r GetNumberOfTestedCells _ h = refl
cell_calm r GetExecutionStatus s h = refl
cell_calm r GetVersionInfo _ h = refl

handler_next_calm : (r : RamTst) (service : Option Service) → IsCalm r → IsCalm (handler_next r service)
handler_next_calm r None h = h
handler_next_calm r (Some service) h = cell_next IsCalm (row r service) r (cell_calm r service r.state h) h

handler_reply_calm : (r : RamTst) (service : Option Service) → IsCalm r → reports_failure (handler_reply r service) ≡ false
handler_reply_calm r None h = refl
handler_reply_calm r (Some service) h = cell_reply IsCalm (row r service) 0 (cell_calm r service r.state h)

table_calm : CalmTable ram_table IsCalm
unfolding ram_table
table_calm = record {
  next = λ r call h. handler_next_calm r (handled call) h;
  reply = λ r call h. handler_reply_calm r (handled call) h;
}

-- ---- slices

-- on a board without a fault
abbrev pub Sound : Premise
Sound fault flash = fault ≡ None

abbrev pub Any : Piece → Type 0
Any p = Unit {0}

pass_taken : (r : RamTst) (p : Piece) (v : Verdict) → v ≡ Pass → IsCalm r → IsCalm (of_pass.taken r p v false) × (of_pass.failed p v false ≡ false)
pass_taken r p Fail e h = absurd cc
pass_taken r p Pass e h = (
  record {
    results = subst (λ (f : Bool). HasNoFailure (slice_set r.results p.place.block (result_after (slice_index_or r.results p.place.block NotTested) Pass f p.last))) (sym h.failed)
        (set_calm r.results p.place.block _ h.results (passed_result (slice_index_or r.results p.place.block NotTested) p.last (result_at r.results p.place.block h.results)));
    failed = ap (λ (f : Bool). failed_after Pass f p.last) h.failed ∙ passed_failed p.last;
    marches = h.marches;
  },
  refl,
)

test_taken : (r : RamTst) (p : Piece) (v : Verdict) → v ≡ Pass → IsCalm r → IsCalm (of_test.taken r p v false) × (of_test.failed p v false ≡ false)
test_taken r p Fail e h = absurd cc
test_taken r p Pass e h = (
  record {
    results = set_calm r.results p.place.block _ h.results (passed_result (slice_index_or r.results p.place.block NotTested) p.last (result_at r.results p.place.block h.results));
    failed = h.failed;
    marches = h.marches;
  },
  passed_failed p.last,
)

pass_calm : WholeAttemptsPass → CalmTests of_pass Sound IsCalm Any
pass_calm law = record {
  table = table_calm;
  taken = λ may r p b v h j sound is. pass_taken r p v (law may b (job_of r p) p.slice v sound (h.marches r.selected) is).0 h;
}

test_calm : WholeAttemptsPass → CalmTests of_test Sound IsCalm Any
test_calm law = record {
  table = table_calm;
  taken = λ may r p b v h j sound is. test_taken r p v (law may b (job_of r p) p.slice v sound (h.marches r.selected) is).0 h;
}

any_all : (work : List Piece) → All Any work
any_all work k d h = tt

-- ---- running calls

call_calm : (tests : Tests RamTst Piece Verdict) (service : Service) → CalmTests tests Sound IsCalm Any → CalmCall (running_of tests service) Sound IsCalm Any
call_calm tests service calm = record {
  tests = calm;
  cleared = λ r h. record { results = h.results; failed = h.failed; marches = h.marches };
  work = λ r h. any_all _;
  inside = λ r h. cell_inside IsCalm (row r service) r (cell_calm r service r.state h) h;
  back = λ o r i h. cell_back IsCalm (row o service) r (cell_calm o service o.state i) h;
  reply = λ o made i. cell_reply IsCalm (row o service) made (cell_calm o service o.state i);
}

pub tick_calm : WholeAttemptsPass → CalmCall (running_of of_pass MainFunction) Sound IsCalm Any
tick_calm law = call_calm of_pass MainFunction (pass_calm law)

pub full_calm : WholeAttemptsPass → CalmCall (running_of of_test RunFullTest) Sound IsCalm Any
full_calm law = call_calm of_test RunFullTest (test_calm law)

pub partial_calm : WholeAttemptsPass → (block : ℕ) → CalmCall (running_of of_test (RunPartialTest block)) Sound IsCalm Any
partial_calm law block = call_calm of_test (RunPartialTest block) (test_calm law)
