-- Full and partial tests in a pass over a fault that is caught.
use Rattle.std.proofs.Common.{ℕ, ◌≡◌, ◌<◌, ◌≤◌, Bool, true, false, cond, List, [], ◌∷◌, length, Contains, Option, Some, None, refl, sym, ap, ◌∙◌, subst, arith, inl, inr}
use Rattle.std.specs.Prelude.{◌⊎◌, IfSome, nat_lt}
use Rattle.std.proofs.lemmas.Bool.Decides.{nat_tests}
use Rattle.std.proofs.lemmas.List.{length-map}
use Rattle.mt_fault.specs.declared.fault.Fault.{Fault}
use Rattle.mt_port.specs.declared.request.HandlerCall.{HandlerCall}
use Rattle.mt_port.specs.Board.{Board}
use Rattle.mt_seq.specs.declared.sequence.Verdict.{Verdict}
use Rattle.mt_seq.specs.declared.sequence.Verdict.TheVariants.{Fail}
use Rattle.mt_seq.specs.Attempts.{attempt_verdict}
use Rattle.mt_window.specs.declared.reply.Refusal.TheVariants.{Range}
use Rattle.mt_window.specs.declared.reply.Reply.TheVariants.{Done}
use Rattle.mt_window.specs.Serving.{Scene, scene}
use Rattle.mt_window.specs.Slices.{started, slices}
use Rattle.mt_window.specs.Events.{ran, returned}
use Rattle.mt_window.specs.Rows.{Refuses, Runs, work_in, inside_of, back_from}
use Rattle.mt_blocks.specs.declared.config.ParamSet.{ParamSet}
use Rattle.mt_blocks.specs.declared.pass.Position.{Position}
use Rattle.mt_blocks.specs.Slices.{Piece, piece_at, pieces, span_at, from_place, or_start, IsValid, test_rest, next_in}
use Rattle.mt_blocks.specs.Groups.{ticks}
use Rattle.mt_blocks.specs.Laws.{BlocksBegin, block_start}
use Rattle.mt_blocks.specs.Accepted.{spans_of}
use Rattle.mt_ram.specs.declared.state.State.{State}
use Rattle.mt_ram.specs.declared.state.State.TheVariants.{Running, Suspended, Partial}
use Rattle.mt_ram.specs.State.{RamTst, IsInside}
use Rattle.mt_ram.specs.Results.{failed_after}
use Rattle.mt_ram.specs.Moves.{row-moves}
use Rattle.mt_ram.specs.Table.{RamCell, RunFullTest, RunPartialTest, cell, testing, in_state, ram_table}
use Rattle.mt_ram.specs.Event.{job_of, with_result, of_test, full_test, partial_test}
use Rattle.mt_laws.proofs.Pieces.{pieces-of}
use Rattle.mt_laws.proofs.Phases.{IsBehind}
use Rattle.mt_laws.proofs.Scenes.{Handlers, NothingIsWrong, Watches, HasBoard, Rows, Stands}
use Rattle.mt_laws.proofs.SceneEvents.{Passes, Walks, weakened, with_callee, slices-walk, any-middle}
use Rattle.mt_laws.proofs.PassRows.{IsOn, row-on, InPass, InSomePass, is_stop}
use Rattle.mt_laws.proofs.PassEvents.{Caught, IsSlice, caught_taken, detects, test_attempts, full_enters, part_enters}
use Rattle.mt_laws.proofs.PassTicks.{PassLaws, behind_next, valid_next, not_both, some_none, spoiled_or}

-- ---- the slices of a partial test

-- Where a pass is suspended: what is kept of it while the test of a block goes on.
pub record Suspension : Type 0 where
  pub at : Position
  pub failed : Bool

-- the pass is before the caught slice, or what it kept is right behind it
abbrev IsKept : Piece → Suspension → Type 0
IsKept p z = z.at.block ≡ p.place.block → p.place.offset < z.at.offset → z.failed ≡ true

-- A partial test in a suspended pass: the pass is before the caught slice, or the test leaves its block NOT_OK.
record AtPart (set : ParamSet) (p : Piece) (z : Suspension) (Before : Type 0) (L : List Piece) (r : RamTst) (failed : Bool) : Type 0 where
  place : Option Position
  split : L ≡ test_rest false set.atomic (spans_of set.blocks) place
  valid : IfSome place (IsValid set.atomic (spans_of set.blocks))
  state : r.state ≡ Partial (Some z.at)
  kept : r.failed ≡ z.failed
  phase : Before ⊎ IsBehind p.place (or_start place) r.results failed

part_row : (set : ParamSet) (p : Piece) (z : Suspension) (Before : Type 0) (L : List Piece) (failed : Bool) (r : RamTst) (call : HandlerCall) → AtPart set p z Before L r failed
    → ((is_stop call ≡ true) × (ram_table.reply r call ≡ Done)) ⊎ AtPart set p z Before L (ram_table.next r call) failed
part_row set p z Before L failed r call a =
    let inside : IsInside r.state = subst IsInside (sym a.state) tt in
    inr (subst (λ (q : RamTst). AtPart set p z Before L q failed) (sym ((row-moves r call).inside inside)) a)

part_slice : PassLaws → (h : Handlers) (fault : Fault) (set : ParamSet) (cells : ℕ) (p : Piece) → Caught h.shape fault set p → h.fault ≡ Some fault → (z : Suspension) (Before : Type 0) (x : Piece) (more : List Piece)
    → (may : Bool) (r : RamTst) (failed : Bool) (b : Board) (v : Verdict) → IsOn set cells r → HasBoard h b → AtPart set p z Before (x ∷ more) r failed → attempt_verdict may b (job_of r x) x.slice ≡ Some v
    → AtPart set p z Before more (with_result r x v failed) (failed_after v failed x.last)
part_slice laws h fault set cells p caught present z Before x more may r failed b v on board a e = of a.place refl
  where
    of : (o : Option Position) → a.place ≡ o → AtPart set p z Before more (with_result r x v failed) (failed_after v failed x.last)
    of None none =
        let empty : x ∷ more ≡ [] = a.split ∙ ap (λ (q : Option Position). test_rest false set.atomic (spans_of set.blocks) q) none in
        absurd cc
    of (Some y) here =
        let K = set.atomic in
        let spans = spans_of set.blocks in
        let valid : IsValid K spans y = subst (λ (q : Option Position). IfSome q (IsValid K spans)) here a.valid in
        let goes = laws.go K spans y (laws.cut h.shape set caught.limits caught.accepted) valid in
        let whole : x ∷ more ≡ piece_at K spans y ∷ test_rest false K spans (next_in false K spans y) = a.split ∙ ap (λ (q : Option Position). test_rest false K spans q) here ∙ goes.test false in
        let head : x ≡ piece_at K spans y = cc in
        let tail : more ≡ test_rest false K spans (next_in false K spans y) = cc in
        let fails : piece_at K spans y ≡ p → v ≡ Fail = λ is. detects laws.attempts h fault set cells p caught present may r x b v on board (head ∙ is) e in
        let next : AtPart set p z Before more (with_result r (piece_at K spans y) v failed) (failed_after v failed (piece_at K spans y).last) = record {
          place = next_in false K spans y;
          split = tail;
          valid = valid_next false K spans y goes;
          state = a.state;
          kept = a.kept;
          phase = phases y valid here fails a.phase;
        } in
        subst (λ (q : Piece). AtPart set p z Before more (with_result r q v failed) (failed_after v failed q.last)) (sym head) next
      where
        phases : (y : Position) → IsValid set.atomic (spans_of set.blocks) y → a.place ≡ Some y → (piece_at set.atomic (spans_of set.blocks) y ≡ p → v ≡ Fail)
            → Before ⊎ IsBehind p.place (or_start a.place) r.results failed
            → Before ⊎ IsBehind p.place (or_start (next_in false set.atomic (spans_of set.blocks) y)) (with_result r (piece_at set.atomic (spans_of set.blocks) y) v failed).results
            (failed_after v failed (piece_at set.atomic (spans_of set.blocks) y).last)
        phases y valid here fails (inl before) = inl before
        phases y valid here fails (inr behind) = inr (behind_next false set p y r.results v failed caught.stands valid fails (subst (λ (q : Option Position). IsBehind p.place (or_start q) r.results failed) here behind))

part_passes : PassLaws → (h : Handlers) (fault : Fault) (set : ParamSet) (cells : ℕ) (p : Piece) → Caught h.shape fault set p → h.fault ≡ Some fault → (z : Suspension) (Before : Type 0) (x : Piece) (more : List Piece)
    → Passes h of_test (IsOn set cells) x (λ r failed. AtPart set p z Before (x ∷ more) r failed) (λ r failed. AtPart set p z Before more r failed)
part_passes laws h fault set cells p caught present z Before x more = record {
  stopped = λ r failed a e. absurd (not_both e refl);
  takes = λ may r failed b v on board a goes e. part_slice laws h fault set cells p caught present z Before x more may r failed b v on board a e;
  ends = λ r failed b a e. absurd (some_none (laws.end b (job_of r x) x.slice).1 e);
}

-- ---- the whole test

-- what a call with a cell leaves before the requests left
abbrev pub test_scene : Scene RamTst → RamCell → Scene RamTst
test_scene o c =
    scene ((slices of_test (work_in c) (started false (scene o.board (inside_of c o.callee) o.log))).scene.board)
    (back_from c ((slices of_test (work_in c) (started false (scene o.board (inside_of c o.callee) o.log))).scene.callee))
    ((slices of_test (work_in c) (started false (scene o.board (inside_of c o.callee) o.log))).scene.log)

-- back in the suspended pass
part_back : (set : ParamSet) (p : Piece) (cells left : ℕ) (z : Suspension) → IsValid set.atomic (spans_of set.blocks) z.at → IsKept p z ⊎ (Contains (from_place set.atomic (spans_of set.blocks) z.at) p × (ticks cells (from_place set.atomic (spans_of set.blocks) z.at) ≤ left))
    → (r : RamTst) (failed : Bool) → AtPart set p z (Contains (from_place set.atomic (spans_of set.blocks) z.at) p × (ticks cells (from_place set.atomic (spans_of set.blocks) z.at) ≤ left)) [] r failed
    → InSomePass set p cells left (in_state (Suspended z.at) r)
part_back set p cells left z valid first r failed a = record { at = z.at; pass = record { valid = valid; state = inr refl; phase = of first a.phase } }
  where
    of : IsKept p z ⊎ (Contains (from_place set.atomic (spans_of set.blocks) z.at) p × (ticks cells (from_place set.atomic (spans_of set.blocks) z.at) ≤ left))
        → (Contains (from_place set.atomic (spans_of set.blocks) z.at) p × (ticks cells (from_place set.atomic (spans_of set.blocks) z.at) ≤ left)) ⊎ IsBehind p.place (or_start a.place) r.results failed
        → IsBehind p.place z.at r.results r.failed ⊎ (Contains (from_place set.atomic (spans_of set.blocks) z.at) p × (ticks cells (from_place set.atomic (spans_of set.blocks) z.at) ≤ left))
    of (inr before) q = inr before
    of (inl kept) (inl before) = inr before
    of (inl kept) (inr behind) = inl (record { result = behind.result; kept = λ same below. a.kept ∙ kept same below })

-- the test of a block that is there
block_test : PassLaws → BlocksBegin → (h : Handlers) (fault : Fault) (set : ParamSet) (cells left : ℕ) (p : Piece) → Caught h.shape fault set p → h.fault ≡ Some fault → Watches h is_stop
    → (block : ℕ) → block < length set.blocks → (o : Scene RamTst) → Stands h (IsOn set cells) (InSomePass set p cells left) o → (x : Position) → InPass set p cells left x o.callee → o.callee.state ≡ Suspended x
    → Stands h (IsOn set cells) (InSomePass set p cells left) (test_scene o (Runs (pieces set.atomic block (span_at (spans_of set.blocks) block)) (in_state (Partial (Some x))) (in_state (Suspended x))))
block_test laws begin h fault set cells left p caught present bad block there o w x i waits =
    let r = o.callee in
    let K = set.atomic in
    let spans = spans_of set.blocks in
    let z : Suspension = record { at = x; failed = r.failed } in
    let L = pieces K block (span_at spans block) in
    let many : block < length spans = omega (arith, there, length-map set.blocks (λ b. b.span)) in
    let begins = begin K spans block (laws.cut h.shape set caught.limits caught.accepted) many in
    let Before = Contains (from_place K spans x) p × (ticks cells (from_place K spans x) ≤ left) in
    let inside = in_state (Partial (Some x)) r in
    let rows : (l : List Piece) (failed : Bool) → Rows h ram_table (IsOn set cells) (λ q. AtPart set p z Before l q failed) =
    λ l failed. record { holds = λ q call on. row-on set cells q call on; row = λ q call a. subst (λ (f : HandlerCall → Bool). ((f call ≡ true) × (ram_table.reply q call ≡ Done)) ⊎ AtPart set p z Before l (ram_table.next q call) failed) (sym bad.calls) (part_row set p z Before l failed q call a); right = λ q call a. bad.replies call (ram_table.reply q call) } in
    let first : AtPart set p z Before L inside false = record {
      place = Some (block_start block);
      split = sym begins.block;
      valid = begins.valid;
      state = refl;
      kept = refl;
      phase = turned i.phase;
    } in
    let start : Walks h (IsOn set cells) (λ q failed. AtPart set p z Before L q failed) (started false (scene o.board inside o.log)) =
    with_callee h (IsOn set cells) (InSomePass set p cells left) (λ q. AtPart set p z Before L q false) o inside (λ on. record { same = on.same; many = on.many; results = on.results }) (λ q. first) w in
    let walk = slices-walk laws.memory h of_test (IsOn set cells) (IsSlice set) (λ (l : List Piece) (q : RamTst) (failed : Bool). AtPart set p z Before l q failed)
    (test_attempts laws.attempts h set cells (caught_taken h.shape fault set p caught)) rows (λ y l is. part_passes laws h fault set cells p caught present z Before y l)
    L (started false (scene o.board inside o.log)) (pieces-of K spans block caught.accepted.atomic_some many) start in
    let end = slices of_test L (started false (scene o.board inside o.log)) in
    with_callee h (IsOn set cells) (λ q. AtPart set p z Before [] q end.failed) (InSomePass set p cells left) end.scene (in_state (Suspended x) end.scene.callee)
    (λ on. record { same = on.same; many = on.many; results = on.results }) (λ a. part_back set p cells left z i.valid (held i.phase) end.scene.callee end.failed a) walk
  where
    turned : IsBehind p.place x o.callee.results o.callee.failed ⊎ (Contains (from_place set.atomic (spans_of set.blocks) x) p × (ticks cells (from_place set.atomic (spans_of set.blocks) x) ≤ left))
        → (Contains (from_place set.atomic (spans_of set.blocks) x) p × (ticks cells (from_place set.atomic (spans_of set.blocks) x) ≤ left)) ⊎ IsBehind p.place (block_start block) o.callee.results false
    turned (inl behind) = inr (record { result = behind.result; kept = λ same below. absurd (omega (arith, below)) })
    turned (inr before) = inl before

    held : IsBehind p.place x o.callee.results o.callee.failed ⊎ (Contains (from_place set.atomic (spans_of set.blocks) x) p × (ticks cells (from_place set.atomic (spans_of set.blocks) x) ≤ left))
        → IsKept p (record { at = x; failed = o.callee.failed }) ⊎ (Contains (from_place set.atomic (spans_of set.blocks) x) p × (ticks cells (from_place set.atomic (spans_of set.blocks) x) ≤ left))
    held (inl behind) = inl behind.kept
    held (inr before) = inr before

-- a partial test in a suspended pass, of a block that is there or not
suspended_test : PassLaws → BlocksBegin → (h : Handlers) (fault : Fault) (set : ParamSet) (cells left : ℕ) (p : Piece) → Caught h.shape fault set p → h.fault ≡ Some fault → Watches h is_stop
    → (block : ℕ) (o : Scene RamTst) → Stands h (IsOn set cells) (InSomePass set p cells left) o → (x : Position) → InPass set p cells left x o.callee → o.callee.state ≡ Suspended x → IsOn set cells o.callee
    → Stands h (IsOn set cells) (InSomePass set p cells left) (test_scene o (testing o.callee block (Partial (Some x)) (Suspended x)))
suspended_test laws begin h fault set cells left p caught present bad block o w x i waits on =
    subst (λ (s : ParamSet). Stands h (IsOn set cells) (InSomePass set p cells left)
    (test_scene o (cond (nat_lt block (length s.blocks)) (Runs (pieces s.atomic block (span_at (spans_of s.blocks) block)) (in_state (Partial (Some x))) (in_state (Suspended x))) (Refuses Range)))) (sym on.same)
    (of (nat_lt block (length set.blocks)) refl)
  where
    of : (b : Bool) → nat_lt block (length set.blocks) ≡ b
        → Stands h (IsOn set cells) (InSomePass set p cells left) (test_scene o (cond b (Runs (pieces set.atomic block (span_at (spans_of set.blocks) block)) (in_state (Partial (Some x))) (in_state (Suspended x))) (Refuses Range)))
    of true e = block_test laws begin h fault set cells left p caught present bad block (grind (arith, nat_tests)) o w x i waits
    of false e = w

pub part_middle : PassLaws → BlocksBegin → (h : Handlers) (fault : Fault) (set : ParamSet) (cells left : ℕ) (p : Piece) → Caught h.shape fault set p → h.fault ≡ Some fault → Watches h is_stop
    → (block : ℕ) (o : Scene RamTst) → Stands h (IsOn set cells) (InSomePass set p cells left) o
    → Stands h (IsOn set cells) (InSomePass set p cells left) (returned (partial_test block) o (ran (partial_test block) o).scene)
part_middle laws begin h fault set cells left p caught present bad block o w = of (spoiled_or h (IsOn set cells) (InSomePass set p cells left) o w)
  where
    by_state : (i : InSomePass set p cells left o.callee) → (o.callee.state ≡ Running i.at) ⊎ (o.callee.state ≡ Suspended i.at)
        → Stands h (IsOn set cells) (InSomePass set p cells left) (test_scene o (cell o.callee (RunPartialTest block) o.callee.state))
    by_state i (inl e) = subst (λ (s : State). Stands h (IsOn set cells) (InSomePass set p cells left) (test_scene o (cell o.callee (RunPartialTest block) s))) (sym e) w
    by_state i (inr e) =
        subst (λ (s : State). Stands h (IsOn set cells) (InSomePass set p cells left) (test_scene o (cell o.callee (RunPartialTest block) s))) (sym e)
        (suspended_test laws begin h fault set cells left p caught present bad block o w i.at i.pass e w.holds)

    of : Stands h (IsOn set cells) (λ r. ⊥) o ⊎ InSomePass set p cells left o.callee → Stands h (IsOn set cells) (InSomePass set p cells left) (test_scene o (cell o.callee (RunPartialTest block) o.callee.state))
    of (inl z) =
        let end = test_scene o (cell o.callee (RunPartialTest block) o.callee.state) in
        weakened h (IsOn set cells) (λ r. ⊥) (InSomePass set p cells left) end (λ q. absurd q)
        (any-middle laws.memory h (partial_test block) (IsOn set cells) (λ r. ⊥) (IsSlice set) ⊥ (part_enters laws.attempts h block set cells (caught_taken h.shape fault set p caught) bad.replies) o (λ q. q) z)
    of (inr i) = by_state i i.pass.state

-- a full test is refused in a pass
pub full_middle : PassLaws → (h : Handlers) (fault : Fault) (set : ParamSet) (cells left : ℕ) (p : Piece) → Caught h.shape fault set p → NothingIsWrong h → (o : Scene RamTst) → Stands h (IsOn set cells) (InSomePass set p cells left) o
    → Stands h (IsOn set cells) (InSomePass set p cells left) (returned full_test o (ran full_test o).scene)
full_middle laws h fault set cells left p caught replies o w = of (spoiled_or h (IsOn set cells) (InSomePass set p cells left) o w)
  where
    by_state : (i : InSomePass set p cells left o.callee) → (o.callee.state ≡ Running i.at) ⊎ (o.callee.state ≡ Suspended i.at)
        → Stands h (IsOn set cells) (InSomePass set p cells left) (test_scene o (cell o.callee RunFullTest o.callee.state))
    by_state i (inl e) = subst (λ (s : State). Stands h (IsOn set cells) (InSomePass set p cells left) (test_scene o (cell o.callee RunFullTest s))) (sym e) w
    by_state i (inr e) = subst (λ (s : State). Stands h (IsOn set cells) (InSomePass set p cells left) (test_scene o (cell o.callee RunFullTest s))) (sym e) w

    of : Stands h (IsOn set cells) (λ r. ⊥) o ⊎ InSomePass set p cells left o.callee → Stands h (IsOn set cells) (InSomePass set p cells left) (test_scene o (cell o.callee RunFullTest o.callee.state))
    of (inl z) =
        let end = test_scene o (cell o.callee RunFullTest o.callee.state) in
        weakened h (IsOn set cells) (λ r. ⊥) (InSomePass set p cells left) end (λ q. absurd q)
        (any-middle laws.memory h full_test (IsOn set cells) (λ r. ⊥) (IsSlice set) ⊥ (full_enters laws.attempts h set cells (caught_taken h.shape fault set p caught) replies) o (λ q. q) z)
    of (inr i) = by_state i i.pass.state
