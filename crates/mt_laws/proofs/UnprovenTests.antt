-- Full and partial tests over a fault that is caught.
use Rattle.std.proofs.Common.{ℕ, ◌≡◌, ◌<◌, Bool, true, false, cond, List, [], ◌∷◌, length, All, Option, Some, None, refl, sym, ap, ◌∙◌, subst, arith, inr}
use Rattle.std.specs.Prelude.{IfSome, nat_lt}
use Rattle.std.proofs.lemmas.Bool.Decides.{nat_tests}
use Rattle.std.proofs.lemmas.List.{length-map}
use Rattle.mt_fault.specs.declared.fault.Fault.{Fault}
use Rattle.mt_port.specs.declared.request.HandlerCall.{HandlerCall}
use Rattle.mt_port.specs.Board.{Board}
use Rattle.mt_seq.specs.declared.sequence.Verdict.{Verdict}
use Rattle.mt_seq.specs.declared.sequence.Verdict.TheVariants.{Fail}
use Rattle.mt_seq.specs.Attempts.{attempt_verdict}
use Rattle.mt_window.specs.declared.reply.Refusal.TheVariants.{Range}
use Rattle.mt_window.specs.Serving.{Scene, scene}
use Rattle.mt_window.specs.Slices.{started, slices}
use Rattle.mt_window.specs.Events.{ran, returned}
use Rattle.mt_window.specs.Rows.{Refuses, Runs}
use Rattle.mt_blocks.specs.declared.config.ParamSet.{ParamSet}
use Rattle.mt_blocks.specs.declared.pass.Position.{Position}
use Rattle.mt_blocks.specs.Slices.{Piece, piece_at, pass, pieces, span_at, or_start, start, IsValid, test_rest, next_in}
use Rattle.mt_blocks.specs.Laws.{BlocksBegin, PassesBegin, block_start}
use Rattle.mt_blocks.specs.Accepted.{spans_of}
use Rattle.mt_ram.specs.declared.state.State.{State}
use Rattle.mt_ram.specs.declared.state.State.TheVariants.{Uninit, Stopped, Running, Suspended, Full, Partial}
use Rattle.mt_ram.specs.State.{RamTst, IsInside, set_of}
use Rattle.mt_ram.specs.Results.{failed_after}
use Rattle.mt_ram.specs.Moves.{row-moves}
use Rattle.mt_ram.specs.Table.{RunFullTest, RunPartialTest, cell, testing, in_state, ram_table}
use Rattle.mt_ram.specs.Event.{job_of, with_result, of_test, full_test, partial_test}
use Rattle.mt_laws.proofs.Pieces.{pass-of, pieces-of}
use Rattle.mt_laws.proofs.Phases.{Knows}
use Rattle.mt_laws.proofs.Scenes.{Handlers, HasBoard, Rows, Stands}
use Rattle.mt_laws.proofs.SceneEvents.{Passes, Walks, with_callee, slices-walk}
use Rattle.mt_laws.proofs.PassRows.{IsOn, row-on}
use Rattle.mt_laws.proofs.PassEvents.{IsSlice, caught_taken, detects, test_attempts}
use Rattle.mt_laws.proofs.PassTicks.{valid_next, not_both, some_none}
use Rattle.mt_laws.proofs.PassParts.{test_scene}
use Rattle.mt_laws.proofs.Unproven.{IsUnproven, unproven_next}
use Rattle.mt_laws.proofs.UnprovenRows.{Unproven, IsPlaced, StandsSo, handler_right}
use Rattle.mt_laws.proofs.UnprovenTicks.{Hides, begins, surely}

-- ---- the slices of a test

-- A test: whether it goes on after a block, the state inside it, and the one after it; and what the module keeps of a pass meanwhile.
record Test : Type 0 where
  whole : Bool
  inside : State
  back : State
  kept : Bool

record AtTest (set : ParamSet) (p : Piece) (t : Test) (L : List Piece) (r : RamTst) (failed : Bool) : Type 0 where
  place : Option Position
  split : L ≡ test_rest t.whole set.atomic (spans_of set.blocks) place
  valid : IfSome place (IsValid set.atomic (spans_of set.blocks))
  state : r.state ≡ t.inside
  same : set_of r ≡ set
  kept : r.failed ≡ t.kept
  unproven : IsUnproven p.place (or_start place) r.results failed

test_row : (set : ParamSet) (p : Piece) (t : Test) → IsInside t.inside → (L : List Piece) (failed : Bool) (r : RamTst) (call : HandlerCall) → AtTest set p t L r failed → AtTest set p t L (ram_table.next r call) failed
test_row set p t is L failed r call a =
    let inside : IsInside r.state = subst IsInside (sym a.state) is in
    subst (λ (q : RamTst). AtTest set p t L q failed) (sym ((row-moves r call).inside inside)) a

test_slice : {h : Handlers} {fault : Fault} {set : ParamSet} {p : Piece} → Hides h fault set p → (cells : ℕ) (t : Test) (x : Piece) (more : List Piece)
    → (may : Bool) (r : RamTst) (failed : Bool) (b : Board) (v : Verdict) → IsOn set cells r → HasBoard h b → AtTest set p t (x ∷ more) r failed → attempt_verdict may b (job_of r x) x.slice ≡ Some v
    → AtTest set p t more (with_result r x v failed) (failed_after v failed x.last)
test_slice {h} {fault} {set} {p} k cells t x more may r failed b v on board a e = of a.place refl
  where
    of : (o : Option Position) → a.place ≡ o → AtTest set p t more (with_result r x v failed) (failed_after v failed x.last)
    of None none =
        let empty : x ∷ more ≡ [] = a.split ∙ ap (λ (q : Option Position). test_rest t.whole set.atomic (spans_of set.blocks) q) none in
        absurd cc
    of (Some y) here =
        let K = set.atomic in
        let spans = spans_of set.blocks in
        let valid : IsValid K spans y = subst (λ (q : Option Position). IfSome q (IsValid K spans)) here a.valid in
        let goes = k.laws.go K spans y (k.laws.cut h.shape set k.caught.limits k.caught.accepted) valid in
        let all : x ∷ more ≡ piece_at K spans y ∷ test_rest t.whole K spans (next_in t.whole K spans y) = a.split ∙ ap (λ (q : Option Position). test_rest t.whole K spans q) here ∙ goes.test t.whole in
        let head : x ≡ piece_at K spans y = cc in
        let tail : more ≡ test_rest t.whole K spans (next_in t.whole K spans y) = cc in
        let fails : y ≡ p.place → v ≡ Fail =
        λ is. detects k.laws.attempts h fault set cells p k.caught k.present may r x b v on board (head ∙ ap (λ (q : Position). piece_at K spans q) is ∙ sym k.caught.stands.is) e in
        let knows : Knows K spans p.place y v = record { at_valid = k.caught.stands.valid; valid = valid; fails = fails } in
        let before : IsUnproven p.place y r.results failed = subst (λ (q : Option Position). IsUnproven p.place (or_start q) r.results failed) here a.unproven in
        let next : AtTest set p t more (with_result r (piece_at K spans y) v failed) (failed_after v failed (piece_at K spans y).last) = record {
          place = next_in t.whole K spans y;
          split = tail;
          valid = valid_next t.whole K spans y goes;
          state = a.state;
          same = a.same;
          kept = a.kept;
          unproven = unproven_next t.whole K spans p.place y r.results v failed knows before;
        } in
        subst (λ (q : Piece). AtTest set p t more (with_result r q v failed) (failed_after v failed q.last)) (sym head) next

test_passes : {h : Handlers} {fault : Fault} {set : ParamSet} {p : Piece} → Hides h fault set p → (cells : ℕ) (t : Test) (x : Piece) (more : List Piece)
    → Passes h of_test (IsOn set cells) x (λ r failed. AtTest set p t (x ∷ more) r failed) (λ r failed. AtTest set p t more r failed)
test_passes {h} {fault} {set} {p} k cells t x more = record {
  stopped = λ r failed a e. absurd (not_both e refl);
  takes = λ may r failed b v on board a goes e. test_slice k cells t x more may r failed b v on board a e;
  ends = λ r failed b a e. absurd (some_none (k.laws.end b (job_of r x) x.slice).1 e);
}

-- ---- the whole test

-- A test of some slices, from the first of them on.
record Begins (set : ParamSet) (t : Test) (L : List Piece) : Type 0 where
  first : Position
  offset : first.offset ≡ 0
  valid : IsValid set.atomic (spans_of set.blocks) first
  split : L ≡ test_rest t.whole set.atomic (spans_of set.blocks) (Some first)
  slices : All (IsSlice set) L

whole_test : {h : Handlers} {fault : Fault} {set : ParamSet} {p : Piece} → Hides h fault set p → (cells : ℕ) (t : Test) → IsInside t.inside → (L : List Piece) → Begins set t L
    → (o : Scene RamTst) → StandsSo (IsPlaced set p.place t.kept) t.back → o.callee.failed ≡ t.kept → Stands h (IsOn set cells) (Unproven set p.place) o
    → Stands h (IsOn set cells) (Unproven set p.place) (test_scene o (Runs L (in_state t.inside) (in_state t.back)))
whole_test {h} {fault} {set} {p} k cells t is L b o stands kept w =
    let inside = in_state t.inside o.callee in
    let rows : (l : List Piece) (failed : Bool) → Rows h ram_table (IsOn set cells) (λ q. AtTest set p t l q failed) =
    λ l failed. record {
      holds = λ q call on. row-on set cells q call on;
      row = λ q call a. inr (test_row set p t is l failed q call a);
      right = λ q call a. subst (λ (f : HandlerCall → _). f call (ram_table.reply q call) ≡ false) (sym k.asks.wrong) (handler_right p.place q call a.unproven.result);
    } in
    let first : Unproven set p.place o.callee → AtTest set p t L inside false = λ u. record {
      place = Some b.first;
      split = b.split;
      valid = b.valid;
      state = refl;
      same = u.same;
      kept = kept;
      unproven = record { result = u.result; kept = λ same below. absurd (omega (arith, below, b.offset)) };
    } in
    let start : Walks h (IsOn set cells) (λ q failed. AtTest set p t L q failed) (started false (scene o.board inside o.log)) =
    with_callee h (IsOn set cells) (Unproven set p.place) (λ q. AtTest set p t L q false) o inside (λ on. record { same = on.same; many = on.many; results = on.results }) first w in
    let walk = slices-walk k.laws.memory h of_test (IsOn set cells) (IsSlice set) (λ (l : List Piece) (q : RamTst) (failed : Bool). AtTest set p t l q failed)
    (test_attempts k.laws.attempts h set cells (caught_taken h.shape fault set p k.caught)) rows (λ y l at. test_passes k cells t y l)
    L (started false (scene o.board inside o.log)) b.slices start in
    let end = slices of_test L (started false (scene o.board inside o.log)) in
    with_callee h (IsOn set cells) (λ q. AtTest set p t [] q end.failed) (Unproven set p.place) end.scene (in_state t.back end.scene.callee)
    (λ on. record { same = on.same; many = on.many; results = on.results }) (λ a. back end.scene.callee end.failed a) walk
  where
    back : (r : RamTst) (failed : Bool) → AtTest set p t [] r failed → Unproven set p.place (in_state t.back r)
    back r failed a = record { same = a.same; result = a.unproven.result; place = subst (λ (f : Bool). StandsSo (IsPlaced set p.place f) t.back) (sym a.kept) stands }

-- ---- a full test

pub full_unproven : {h : Handlers} {fault : Fault} {set : ParamSet} {p : Piece} → Hides h fault set p → PassesBegin → (cells : ℕ) (o : Scene RamTst) → Stands h (IsOn set cells) (Unproven set p.place) o
    → Stands h (IsOn set cells) (Unproven set p.place) (returned full_test o (ran full_test o).scene)
full_unproven {h} {fault} {set} {p} k laws cells o w = of o.callee.state
  where
    all_slices : Stands h (IsOn set cells) (Unproven set p.place) (test_scene o (Runs (pass set.atomic (spans_of set.blocks)) (in_state Full) (in_state Stopped)))
    all_slices =
        let K = set.atomic in
        let spans = spans_of set.blocks in
        let cut = k.laws.cut h.shape set k.caught.limits k.caught.accepted in
        let t : Test = record { whole = true; inside = Full; back = Stopped; kept = o.callee.failed } in
        let b : Begins set t (pass K spans) = record {
          first = start;
          offset = refl;
          valid = begins k;
          split = sym (laws K spans cut).0;
          slices = pass-of K spans k.caught.accepted.atomic_some;
        } in
        whole_test k cells t tt (pass K spans) b o tt refl w

    of : (s : State) → Stands h (IsOn set cells) (Unproven set p.place) (test_scene o (cell o.callee RunFullTest s))
    of Uninit = w
    of Stopped =
        subst (λ (s : ParamSet). Stands h (IsOn set cells) (Unproven set p.place) (test_scene o (Runs (pass s.atomic (spans_of s.blocks)) (in_state Full) (in_state Stopped)))) (sym w.holds.same) all_slices
    of (Running x) = w
    of (Suspended x) = w
    of Full = w
    of (Partial back) = w

-- ---- a partial test

block_test : {h : Handlers} {fault : Fault} {set : ParamSet} {p : Piece} → Hides h fault set p → BlocksBegin → (cells block : ℕ) (o : Scene RamTst) (inside back : State) → IsInside inside
    → StandsSo (IsPlaced set p.place o.callee.failed) back → Stands h (IsOn set cells) (Unproven set p.place) o → Stands h (IsOn set cells) (Unproven set p.place) (test_scene o (testing o.callee block inside back))
block_test {h} {fault} {set} {p} k laws cells block o inside back is stands w =
    subst (λ (s : ParamSet). Stands h (IsOn set cells) (Unproven set p.place)
    (test_scene o (cond (nat_lt block (length s.blocks)) (Runs (pieces s.atomic block (span_at (spans_of s.blocks) block)) (in_state inside) (in_state back)) (Refuses Range)))) (sym w.holds.same)
    (of (nat_lt block (length set.blocks)) refl)
  where
    of : (b : Bool) → nat_lt block (length set.blocks) ≡ b
        → Stands h (IsOn set cells) (Unproven set p.place) (test_scene o (cond b (Runs (pieces set.atomic block (span_at (spans_of set.blocks) block)) (in_state inside) (in_state back)) (Refuses Range)))
    of false e = w
    of true e =
        let K = set.atomic in
        let spans = spans_of set.blocks in
        let there : block < length set.blocks = grind (arith, nat_tests) in
        let many : block < length spans = omega (arith, there, length-map set.blocks (λ b. b.span)) in
        let from = laws K spans block (k.laws.cut h.shape set k.caught.limits k.caught.accepted) many in
        let t : Test = record { whole = false; inside = inside; back = back; kept = o.callee.failed } in
        let b : Begins set t (pieces K block (span_at spans block)) = record {
          first = block_start block;
          offset = refl;
          valid = from.valid;
          split = sym from.block;
          slices = pieces-of K spans block k.caught.accepted.atomic_some many;
        } in
        whole_test k cells t is (pieces K block (span_at spans block)) b o stands refl w

pub part_unproven : {h : Handlers} {fault : Fault} {set : ParamSet} {p : Piece} → Hides h fault set p → BlocksBegin → (cells block : ℕ) (o : Scene RamTst) → Stands h (IsOn set cells) (Unproven set p.place) o
    → Stands h (IsOn set cells) (Unproven set p.place) (returned (partial_test block) o (ran (partial_test block) o).scene)
part_unproven {h} {fault} {set} {p} k laws cells block o w = of o.callee.state refl
  where
    of : (s : State) → o.callee.state ≡ s → Stands h (IsOn set cells) (Unproven set p.place) (test_scene o (cell o.callee (RunPartialTest block) s))
    of Uninit e = w
    of Stopped e = block_test k laws cells block o (Partial None) Stopped tt tt w
    of (Running x) e = w
    of (Suspended x) e =
        let stands : IsPlaced set p.place o.callee.failed x = subst (StandsSo (IsPlaced set p.place o.callee.failed)) e (surely k cells o w).place in
        block_test k laws cells block o (Partial (Some x)) (Suspended x) tt stands w
    of Full e = w
    of (Partial back) e = w
