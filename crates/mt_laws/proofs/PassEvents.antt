-- What running calls of RamTst keep: its set, and the soundness of the RAM.
use Rattle.std.proofs.Common.{ℕ, ◌≡◌, ◌<◌, ◌≤◌, Bool, true, false, cond, List, length, All, Some, None, refl, sym, ◌∙◌, subst, arith}
use Rattle.std.specs.Prelude.{nat_lt}
use Rattle.std.proofs.lemmas.Bool.Decides.{nat_tests}
use Rattle.std.proofs.lemmas.List.{length-set, length-map}
use Rattle.std.proofs.lemmas.List.Elements.{All-nil, All-take}
use Rattle.mt_fault.specs.declared.fault.Fault.{Fault}
use Rattle.mt_fault.specs.Placement.{IsInside}
use Rattle.mt_port.specs.declared.board.Shape.{Shape}
use Rattle.mt_port.specs.Board.{Board, IsWithinLimits}
use Rattle.mt_seq.specs.declared.sequence.Verdict.{Verdict}
use Rattle.mt_seq.specs.declared.sequence.Verdict.TheVariants.{Fail}
use Rattle.mt_seq.specs.Sequence.{IsSoundJob, IsSoundSlice}
use Rattle.mt_seq.specs.Attempts.{attempt_words, attempt_verdict}
use Rattle.mt_cover.specs.Coverage.{IsTabled, class_of}
use Rattle.mt_cover.specs.Detection.{HasSoundWords, AttemptsDetect, AttemptsStaySound}
use Rattle.mt_window.specs.declared.reply.Refusal.TheVariants.{Range}
use Rattle.mt_window.specs.Rows.{Refuses, Runs, work_in, inside_of, back_from}
use Rattle.mt_blocks.specs.declared.config.ParamSet.{ParamSet}
use Rattle.mt_blocks.specs.Slices.{Piece, from_place, pieces, span_at}
use Rattle.mt_blocks.specs.Groups.{group_len}
use Rattle.mt_blocks.specs.Accepted.{spans_of, IsAcceptedSet}
use Rattle.mt_ram.specs.declared.state.State.{State}
use Rattle.mt_ram.specs.declared.state.State.TheVariants.{Uninit, Stopped, Running, Suspended, Full, Partial}
use Rattle.mt_ram.specs.State.{RamTst, set_of, spans_in}
use Rattle.mt_ram.specs.Table.{RamCell, ram_table, MainFunction, RunFullTest, RunPartialTest, cell, testing, in_state}
use Rattle.mt_ram.specs.Event.{job_in, job_of, of_pass, of_test, ticking, full_test, partial_test}
use Rattle.mt_ram.specs.Inner.Sets.{SlicesAreSound}
use Rattle.mt_laws.proofs.Pieces.{IsOf, block_there, from-of, pass-of, pieces-of}
use Rattle.mt_laws.proofs.Scenes.{Handlers, NothingIsWrong, HasBoard}
use Rattle.mt_laws.proofs.SceneEvents.{Attempts, Enters}
use Rattle.mt_laws.proofs.PassRows.{IsOn, row-on}

-- a set of an accepted configuration, or the one with no block
pub record IsTaken (shape : Shape) (set : ParamSet) : Type 0 where
  pub some : 1 ≤ set.atomic
  pub accepted : 0 < length set.blocks → IsAcceptedSet shape set

abbrev pub IsSlice : ParamSet → Piece → Type 0
IsSlice set x = IsOf set.atomic (spans_of set.blocks) x

-- ---- attempts

-- what is known of attempts
pub record AttemptLaws : Type 0 where
  pub detect : AttemptsDetect
  pub stay : AttemptsStaySound
  pub sound : SlicesAreSound

accepted : (shape : Shape) (set : ParamSet) (x : Piece) → IsTaken shape set → IsSlice set x → IsAcceptedSet shape set
accepted shape set x taken at = let there = block_there set x.place at.valid in taken.accepted (omega (arith, there))

-- the job and the slice of an attempt are sound
job_sound : AttemptLaws → (h : Handlers) (set : ParamSet) (cells : ℕ) (r : RamTst) (x : Piece) (b : Board) → IsTaken h.shape set → IsOn set cells r → IsSlice set x → HasBoard h b → IsSoundJob b.shape.width (job_of r x)
job_sound laws h set cells r x b taken on at board =
    subst (λ (s : ParamSet). IsSoundJob b.shape.width (job_in s x.place.block)) (sym on.same)
    (subst (λ (z : Shape). IsSoundJob z.width (job_in set x.place.block)) (sym board.shape) (laws.sound h.shape set x.place (accepted h.shape set x taken at) at.valid).job)

slice_sound : AttemptLaws → (h : Handlers) (set : ParamSet) (x : Piece) (b : Board) → IsTaken h.shape set → IsSlice set x → HasBoard h b → IsSoundSlice b.shape.ram x.slice
slice_sound laws h set x b taken at board =
    subst (λ (z : Shape). IsSoundSlice z.ram x.slice) (sym board.shape)
    (subst (λ (y : Piece). IsSoundSlice h.shape.ram y.slice) (sym at.is) (laws.sound h.shape set x.place (accepted h.shape set x taken at) at.valid).slice)

attempt_sound : AttemptLaws → (h : Handlers) (set : ParamSet) (cells : ℕ) → IsTaken h.shape set → (may : Bool) (r : RamTst) (x : Piece) (b : Board) → IsOn set cells r → IsSlice set x → HasBoard h b
    → HasSoundWords (record b { words = attempt_words may b (job_of r x) x.slice })
attempt_sound laws h set cells taken may r x b on at board = laws.stay may b (job_of r x) x.slice board.sound (job_sound laws h set cells r x b taken on at board) (slice_sound laws h set x b taken at board)

pub pass_attempts : AttemptLaws → (h : Handlers) (set : ParamSet) (cells : ℕ) → IsTaken h.shape set → Attempts h of_pass (IsOn set cells) (IsSlice set)
pass_attempts laws h set cells taken = record {
  words = attempt_sound laws h set cells taken;
  taken = λ r x v failed on. record { same = on.same; many = on.many; results = length-set r.results x.place.block _ ∙ on.results };
}

pub test_attempts : AttemptLaws → (h : Handlers) (set : ParamSet) (cells : ℕ) → IsTaken h.shape set → Attempts h of_test (IsOn set cells) (IsSlice set)
test_attempts laws h set cells taken = record {
  words = attempt_sound laws h set cells taken;
  taken = λ r x v failed on. record { same = on.same; many = on.many; results = length-set r.results x.place.block _ ∙ on.results };
}

-- What is known of a fault that is caught in a slice of a set.
pub record Caught (shape : Shape) (fault : Fault) (set : ParamSet) (p : Piece) : Type 0 where
  pub limits : IsWithinLimits shape
  pub accepted : IsAcceptedSet shape set
  pub stands : IsSlice set p
  pub inside : IsInside fault p.slice.first p.slice.n
  pub tabled : IsTabled set.alg (class_of fault)

pub caught_taken : (shape : Shape) (fault : Fault) (set : ParamSet) (p : Piece) → Caught shape fault set p → IsTaken shape set
caught_taken shape fault set p caught = record { some = caught.accepted.atomic_some; accepted = λ h. caught.accepted }

-- an attempt at that slice that comes to a verdict fails
pub detects : AttemptLaws → (h : Handlers) (fault : Fault) (set : ParamSet) (cells : ℕ) (p : Piece) → Caught h.shape fault set p → h.fault ≡ Some fault → (may : Bool) (r : RamTst) (x : Piece) (b : Board) (v : Verdict)
    → IsOn set cells r → HasBoard h b → x ≡ p → attempt_verdict may b (job_of r x) x.slice ≡ Some v → v ≡ Fail
detects laws h fault set cells p caught present may r x b v on board here e =
    let taken = caught_taken h.shape fault set p caught in
    let at : IsSlice set x = subst (IsSlice set) (sym here) caught.stands in
    let tabled : IsTabled (set_of r).alg (class_of fault) = subst (λ (s : ParamSet). IsTabled s.alg (class_of fault)) (sym on.same) caught.tabled in
    let inside : IsInside fault x.slice.first x.slice.n = subst (λ (y : Piece). IsInside fault y.slice.first y.slice.n) (sym here) caught.inside in
    laws.detect may b (job_of r x) x.slice fault v board.sound (board.fault ∙ present) (job_sound laws h set cells r x b taken on at board) (slice_sound laws h set x b taken at board) tabled inside e

-- ---- what is tested

abbrev IsIn : RamTst → Piece → Type 0
IsIn r x = IsSlice (set_of r) x

tick_work : (r : RamTst) (s : State) → 1 ≤ (set_of r).atomic → All (IsIn r) (work_in (cell r MainFunction s))
tick_work r Uninit some = All-nil (IsIn r)
tick_work r Stopped some = All-nil (IsIn r)
tick_work r (Running x) some = All-take (IsIn r) (group_len r.cells (from_place (set_of r).atomic (spans_in r) x)) (from_place (set_of r).atomic (spans_in r) x) (from-of (set_of r).atomic (spans_in r) x some)
tick_work r (Suspended x) some = All-nil (IsIn r)
tick_work r Full some = All-nil (IsIn r)
tick_work r (Partial back) some = All-nil (IsIn r)

full_work : (r : RamTst) (s : State) → 1 ≤ (set_of r).atomic → All (IsIn r) (work_in (cell r RunFullTest s))
full_work r Uninit some = All-nil (IsIn r)
full_work r Stopped some = pass-of (set_of r).atomic (spans_in r) some
full_work r (Running x) some = All-nil (IsIn r)
full_work r (Suspended x) some = All-nil (IsIn r)
full_work r Full some = All-nil (IsIn r)
full_work r (Partial back) some = All-nil (IsIn r)

testing_work : (r : RamTst) (block : ℕ) (inside back : State) → 1 ≤ (set_of r).atomic → All (IsIn r) (work_in (testing r block inside back))
testing_work r block inside back some = of (nat_lt block (length (set_of r).blocks)) refl
  where
    of : (b : Bool) → nat_lt block (length (set_of r).blocks) ≡ b
        → All (IsIn r) (work_in (cond b (Runs (pieces (set_of r).atomic block (span_at (spans_in r) block)) (in_state inside) (in_state back)) (Refuses Range)))
    of true e =
        let low : block < length (set_of r).blocks = grind (arith, nat_tests) in
        pieces-of (set_of r).atomic (spans_in r) block some (omega (arith, low, length-map (set_of r).blocks (λ b. b.span)))
    of false e = All-nil (IsIn r)

part_work : (r : RamTst) (block : ℕ) (s : State) → 1 ≤ (set_of r).atomic → All (IsIn r) (work_in (cell r (RunPartialTest block) s))
part_work r block Uninit some = All-nil (IsIn r)
part_work r block Stopped some = testing_work r block (Partial None) Stopped some
part_work r block (Running x) some = All-nil (IsIn r)
part_work r block (Suspended x) some = testing_work r block (Partial (Some x)) (Suspended x) some
part_work r block Full some = All-nil (IsIn r)
part_work r block (Partial back) some = All-nil (IsIn r)

-- the set of the module is that set
of_set : (set : ParamSet) (cells : ℕ) (shape : Shape) (r : RamTst) (L : List Piece) → IsTaken shape set → IsOn set cells r → (1 ≤ (set_of r).atomic → All (IsIn r) L) → All (IsSlice set) L
of_set set cells shape r L taken on all =
    subst (λ (s : ParamSet). All (IsSlice s) L) on.same (all (subst (λ (s : ParamSet). 1 ≤ s.atomic) (sym on.same) taken.some))

-- a cell changes no more than the module's state while its slices are tested, and after them
abbrev KeepsSet : RamCell → Type 0
KeepsSet cell = (set : ParamSet) (cells : ℕ) (r : RamTst) → IsOn set cells r → IsOn set cells (inside_of cell r) × IsOn set cells (back_from cell r)

same_set : (set : ParamSet) (cells : ℕ) (r : RamTst) → IsOn set cells r → IsOn set cells r × IsOn set cells r
same_set set cells r on = (on, on)

in_states : (set : ParamSet) (cells : ℕ) (r : RamTst) (s t : State) → IsOn set cells r → IsOn set cells (in_state s r) × IsOn set cells (in_state t r)
in_states set cells r s t on = (record { same = on.same; many = on.many; results = on.results }, record { same = on.same; many = on.many; results = on.results })

tick_keeps : (r : RamTst) (s : State) → KeepsSet (cell r MainFunction s)
tick_keeps r Uninit = same_set
tick_keeps r Stopped = same_set
tick_keeps r (Running x) = same_set
tick_keeps r (Suspended x) = same_set
tick_keeps r Full = same_set
tick_keeps r (Partial back) = same_set

full_keeps : (r : RamTst) (s : State) → KeepsSet (cell r RunFullTest s)
full_keeps r Uninit = same_set
full_keeps r Stopped = λ set cells q on. in_states set cells q Full Stopped on
full_keeps r (Running x) = same_set
full_keeps r (Suspended x) = same_set
full_keeps r Full = same_set
full_keeps r (Partial back) = same_set

testing_keeps : (r : RamTst) (block : ℕ) (inside back : State) → KeepsSet (testing r block inside back)
testing_keeps r block inside back = of (nat_lt block (length (set_of r).blocks))
  where
    of : (b : Bool) → KeepsSet (cond b (Runs (pieces (set_of r).atomic block (span_at (spans_in r) block)) (in_state inside) (in_state back)) (Refuses Range))
    of true = λ set cells q on. in_states set cells q inside back on
    of false = same_set

part_keeps : (r : RamTst) (block : ℕ) (s : State) → KeepsSet (cell r (RunPartialTest block) s)
part_keeps r block Uninit = same_set
part_keeps r block Stopped = testing_keeps r block (Partial None) Stopped
part_keeps r block (Running x) = same_set
part_keeps r block (Suspended x) = testing_keeps r block (Partial (Some x)) (Suspended x)
part_keeps r block Full = same_set
part_keeps r block (Partial back) = same_set

-- ---- the running calls

pub tick_enters : AttemptLaws → (h : Handlers) (set : ParamSet) (cells : ℕ) → IsTaken h.shape set → NothingIsWrong h → Enters h ticking (IsOn set cells) (IsSlice set)
tick_enters laws h set cells taken replies = record {
  attempts = pass_attempts laws h set cells taken;
  row = λ r call on. row-on set cells r call on;
  work = λ r on. of_set set cells h.shape r (work_in (cell r MainFunction r.state)) taken on (tick_work r r.state);
  inside = λ r on. (tick_keeps r r.state set cells r on).0;
  back = λ o r on. (tick_keeps o o.state set cells r on).1;
  right = λ r call. replies call (ram_table.reply r call);
}

pub full_enters : AttemptLaws → (h : Handlers) (set : ParamSet) (cells : ℕ) → IsTaken h.shape set → NothingIsWrong h → Enters h full_test (IsOn set cells) (IsSlice set)
full_enters laws h set cells taken replies = record {
  attempts = test_attempts laws h set cells taken;
  row = λ r call on. row-on set cells r call on;
  work = λ r on. of_set set cells h.shape r (work_in (cell r RunFullTest r.state)) taken on (full_work r r.state);
  inside = λ r on. (full_keeps r r.state set cells r on).0;
  back = λ o r on. (full_keeps o o.state set cells r on).1;
  right = λ r call. replies call (ram_table.reply r call);
}

pub part_enters : AttemptLaws → (h : Handlers) (block : ℕ) (set : ParamSet) (cells : ℕ) → IsTaken h.shape set → NothingIsWrong h → Enters h (partial_test block) (IsOn set cells) (IsSlice set)
part_enters laws h block set cells taken replies = record {
  attempts = test_attempts laws h set cells taken;
  row = λ r call on. row-on set cells r call on;
  work = λ r on. of_set set cells h.shape r (work_in (cell r (RunPartialTest block) r.state)) taken on (part_work r block r.state);
  inside = λ r on. (part_keeps r block r.state set cells r on).0;
  back = λ o r on. (part_keeps o block o.state set cells r on).1;
  right = λ r call. replies call (ram_table.reply r call);
}
