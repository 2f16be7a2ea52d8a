-- The attempts of running calls are at slices of a pass over the selected set.
use Rattle.std.proofs.Common.{ℕ, zero, suc, ◌≡◌, ◌+◌, ◌/◌, ◌<◌, Bool, true, false, cond, List, [], ◌∷◌, ◌++◌, length, drop, All, Option, Some, None, refl, ap, ◌∙◌, subst, arith}
use Rattle.std.specs.Prelude.{is_some, nat_lt}
use Rattle.std.proofs.Math.Seq.{take-append_seam, drop-append_seam}
use Rattle.std.proofs.lemmas.Bool.{ltb-true}
use Rattle.std.proofs.lemmas.List.{drop_more, length-map}
use Rattle.std.proofs.lemmas.List.Elements.{All-nil, All-push, All-head, All-tail, All-take, All-drop, All-contains_itself}
use Rattle.mt_plan.specs.Plan.{hold_of}
use Rattle.mt_seq.specs.declared.sequence.Verdict.{Verdict}
use Rattle.mt_seq.specs.Sequence.{sequence_hold}
use Rattle.mt_window.specs.declared.reply.Refusal.{Refusal}
use Rattle.mt_window.specs.declared.reply.Refusal.TheVariants as refusal
use Rattle.mt_window.specs.Serving.{Scene, scene, serve_due}
use Rattle.mt_window.specs.Slices.{Tests, Trail, taken_by, next_attempt, kept_attempt, scene_behind, after_attempt, tried, slices}
use Rattle.mt_window.specs.Events.{opened, entered}
use Rattle.mt_window.specs.Rows.{Refuses, Runs, work_in, inside_of}
use Rattle.mt_window.specs.Kept.{cond_case}
use Rattle.mt_blocks.specs.declared.config.Block.{Block}
use Rattle.mt_blocks.specs.declared.config.ParamSet.{ParamSet}
use Rattle.mt_blocks.specs.declared.span.Span.{Span}
use Rattle.mt_blocks.specs.declared.pass.Position.{Position}
use Rattle.mt_blocks.specs.Groups.{group_len}
use Rattle.mt_blocks.specs.Slices.{Piece, pieces, pieces_from, pass, from_place, span_at, no_span}
use Rattle.mt_blocks.specs.Accepted.{block_at, spans_of}
use Rattle.mt_ram.specs.declared.state.State.{State}
use Rattle.mt_ram.specs.declared.state.State.TheVariants.{Uninit, Stopped, Running, Suspended, Full, Partial}
use Rattle.mt_ram.specs.State.{RamTst, set_of, spans_in}
use Rattle.mt_ram.specs.Results.{failed_after}
use Rattle.mt_ram.specs.Table.{Service, MainFunction, RunFullTest, RunPartialTest, RamCell, cell, testing, in_state, ram_table}
use Rattle.mt_ram.specs.Event.{attempting, running, ticking, full_test, passed, with_result}
use Rattle.mt_ram.specs.Laws.{IsSliceOf, TestsItsSet, PartialTestsTestTheirSet, IsAtSlice, TriesSlices, PartialTestsTrySlices}
use Rattle.mt_ram.proofs.Moves.{boundaries_move}

-- ---- the slices of a set

all_behind : {X : Type 0} (P : X → Type 0) (xs ys : List X) → All P (xs ++ ys) → All P ys
all_behind P xs ys h = subst (All P) (drop-append_seam xs ys) (All-drop P (length xs) (xs ++ ys) h)

all_before : {X : Type 0} (P : X → Type 0) (xs ys : List X) → All P (xs ++ ys) → All P xs
all_before P xs ys h = subst (All P) (take-append_seam xs ys) (All-take P (length xs) (xs ++ ys) h)

-- the slices from a block on are among those from an earlier one on
later_slices : (P : Piece → Type 0) (K i b : ℕ) (spans : List Span) → All P (pieces_from K i spans) → All P (pieces_from K (i + b) (drop b spans))
later_slices P K i zero spans h = subst (λ (n : ℕ). All P (pieces_from K n spans)) (omega arith) h
later_slices P K i (suc b) [] h = All-nil P
later_slices P K i (suc b) (s ∷ spans) h =
    subst (λ (n : ℕ). All P (pieces_from K n (drop b spans))) (omega arith) (later_slices P K (i + 1) b spans (all_behind P (pieces K i s) (pieces_from K (i + 1) spans) h))

from_first : (set : ParamSet) (block : ℕ) → All (IsSliceOf set) (pieces_from set.atomic block (drop block (spans_of set.blocks)))
from_first set block =
    let K = set.atomic in
    let spans = spans_of set.blocks in
    let first : 0 + block ≡ block = omega arith in
    subst (λ (n : ℕ). All (IsSliceOf set) (pieces_from K n (drop block spans))) first (later_slices (IsSliceOf set) K 0 block spans (All-contains_itself (pass K spans)))

place_slices : (set : ParamSet) (x : Position) → All (IsSliceOf set) (from_place set.atomic (spans_of set.blocks) x)
unfolding from_place
place_slices set x =
    let K = set.atomic in
    let spans = spans_of set.blocks in
    All-drop (IsSliceOf set) (x.offset / K) (pieces_from K x.block (drop x.block spans)) (from_first set x.block)

block_slices : (set : ParamSet) (block : ℕ) → block < length (spans_of set.blocks) → All (IsSliceOf set) (pieces set.atomic block (span_at (spans_of set.blocks) block))
block_slices set block inside =
    let K = set.atomic in
    let spans = spans_of set.blocks in
    let own = span_at spans block in
    all_before (IsSliceOf set) (pieces K block own) (pieces_from K (block + 1) (drop (block + 1) spans))
    (subst (λ (l : List Span). All (IsSliceOf set) (pieces_from K block l)) (drop_more spans block no_span inside) (from_first set block))

-- ---- the cell of a running call

-- the set stays selected, and the slices are its own
record CellTests (r : RamTst) (c : RamCell) : Type 0 where
  inside : set_of (inside_of c r) ≡ set_of r
  work : All (IsSliceOf (set_of r)) (work_in c)

refused_tests : (r : RamTst) (why : Refusal) → CellTests r (Refuses why)
refused_tests r why = record { inside = refl; work = All-nil (IsSliceOf (set_of r)) }

tick_tests : (r : RamTst) (s : State) → CellTests r (cell r MainFunction s)
tick_tests r Uninit = refused_tests r refusal.Uninit
tick_tests r (Running x) =
    let slices = from_place (set_of r).atomic (spans_in r) x in
    record { inside = refl; work = All-take (IsSliceOf (set_of r)) (group_len r.cells slices) slices (place_slices (set_of r) x) }
tick_tests r Stopped = record { inside = refl; work = All-nil (IsSliceOf (set_of r)) }
tick_tests r (Suspended x) = record { inside = refl; work = All-nil (IsSliceOf (set_of r)) }
tick_tests r Full = record { inside = refl; work = All-nil (IsSliceOf (set_of r)) }
tick_tests r (Partial back) = record { inside = refl; work = All-nil (IsSliceOf (set_of r)) }

full_tests : (r : RamTst) (s : State) → CellTests r (cell r RunFullTest s)
full_tests r Uninit = refused_tests r refusal.Uninit
full_tests r Stopped = record { inside = refl; work = All-contains_itself (pass (set_of r).atomic (spans_in r)) }
full_tests r (Running x) = refused_tests r refusal.Status
full_tests r (Suspended x) = refused_tests r refusal.Status
full_tests r Full = refused_tests r refusal.Status
full_tests r (Partial back) = refused_tests r refusal.Status

one_tests : (r : RamTst) (block : ℕ) (inside back : State) → CellTests r (testing r block inside back)
one_tests r block inside back = of (nat_lt block (length (set_of r).blocks)) refl
  where
    of : (b : Bool) → nat_lt block (length (set_of r).blocks) ≡ b
        → CellTests r (cond b (Runs (pieces (set_of r).atomic block (span_at (spans_in r) block)) (in_state inside) (in_state back)) (Refuses refusal.Range))
    of true e =
        let few : block < length (set_of r).blocks = ltb-true block (length (set_of r).blocks) e in
        record { inside = refl; work = block_slices (set_of r) block (omega (arith, few, length-map (set_of r).blocks (λ (b : Block). b.span))) }
    of false e = refused_tests r refusal.Range

partial_tests : (r : RamTst) (block : ℕ) (s : State) → CellTests r (cell r (RunPartialTest block) s)
partial_tests r block Uninit = refused_tests r refusal.Uninit
partial_tests r block Stopped = one_tests r block (Partial None) Stopped
partial_tests r block (Running x) = refused_tests r refusal.Status
partial_tests r block (Suspended x) = one_tests r block (Partial (Some x)) (Suspended x)
partial_tests r block Full = refused_tests r refusal.Status
partial_tests r block (Partial back) = refused_tests r refusal.Status

pub tick_tests_set : TestsItsSet ticking
tick_tests_set = record { work = λ r. (tick_tests r r.state).work; inside = λ r. (tick_tests r r.state).inside }

pub full_tests_set : TestsItsSet full_test
full_tests_set = record { work = λ r. (full_tests r r.state).work; inside = λ r. (full_tests r r.state).inside }

pub partial_tests_set : PartialTestsTestTheirSet
partial_tests_set block = record { work = λ r. (partial_tests r block r.state).work; inside = λ r. (partial_tests r block r.state).inside }

-- ---- attempts

abbrev KeepsSet : (RamTst → Piece → Verdict → Bool → RamTst) → Type 0
KeepsSet taken = (r : RamTst) (p : Piece) (v : Verdict) (failed : Bool) → set_of (taken r p v failed) ≡ set_of r

-- so far the set is selected, and each attempt was at one of its slices
record Follows (set : ParamSet) (g : Trail RamTst) : Type 0 where
  selected : set_of g.scene.callee ≡ set
  attempts : All (IsAtSlice set) g.attempts

-- no boundary selects another set
boundary-set : (s : Scene RamTst) → set_of ((serve_due ram_table s).callee) ≡ set_of s.callee
boundary-set s = ap set_of (boundaries_move s).still

module _ (stops : RamTst → Bool) (taken : RamTst → Piece → Verdict → Bool → RamTst) (failed : Piece → Verdict → Bool → Bool) (keeps : KeepsSet taken) where
  abbrev these : Tests RamTst Piece Verdict
  these = attempting stops taken failed

  taken-set : (r : RamTst) (p : Piece) (before : Bool) (verdict : Option Verdict) → set_of (taken_by these r p before verdict) ≡ set_of r
  taken-set r p before None = refl
  taken-set r p before (Some v) = keeps r p v before

  attempt-follows : (set : ParamSet) (may : Bool) (p : Piece) (g : Trail RamTst) → IsSliceOf set p → Follows set g → Follows set (after_attempt these may g p)
  unfolding sequence_hold
  attempt-follows set may p g inside h =
      let r = g.scene.callee in
      record {
        selected = boundary-set (scene_behind these may g p) ∙ taken-set r p g.failed (next_attempt these may g p).verdict ∙ h.selected;
        attempts = All-push (IsAtSlice set) g.attempts (kept_attempt these may g p) h.attempts
            (record { slice = p; inside = inside; whole = ap (λ (q : ParamSet). hold_of q.alg (block_at q.blocks p.place.block).policy p.slice.n) h.selected });
      }

  tried-follows : (set : ParamSet) (n : ℕ) (p : Piece) (g : Trail RamTst) → IsSliceOf set p → Follows set g → Follows set (tried these n p g)
  tried-follows set zero p g inside h = cond_case (Follows set) (these.stops g.scene.callee) g (after_attempt these false g p) h (attempt-follows set false p g inside h)
  tried-follows set (suc n) p g inside h =
      let z = after_attempt these true g p in
      let some = is_some (next_attempt these true g p).verdict in
      let after = attempt-follows set true p g inside h in
      cond_case (Follows set) (these.stops g.scene.callee) g (cond some z (tried these n p z)) h
      (cond_case (Follows set) some z (tried these n p z) after (tried-follows set n p z inside after))

  slices-follow : (set : ParamSet) (L : List Piece) (g : Trail RamTst) → All (IsSliceOf set) L → Follows set g → Follows set (slices these L g)
  slices-follow set [] g all h = h
  slices-follow set (p ∷ more) g all h =
      slices-follow set more (tried these (these.retries g.scene.callee) p g) (All-tail (IsSliceOf set) p more all)
      (tried-follows set (these.retries g.scene.callee) p g (All-head (IsSliceOf set) p more all) h)

  -- an event that tests its set's slices
  event-follows : (service : Service) → TestsItsSet (running these service) → TriesSlices (running these service)
  event-follows service tests s =
      let call = running these service in
      let o = opened call s in
      let set = set_of s.callee in
      let selected : set_of o.callee ≡ set = boundary-set (scene s.board (call.cleared s.callee) s.log) in
      (slices-follow set (call.work o.callee) (entered call o) (subst (λ (q : ParamSet). All (IsSliceOf q) (call.work o.callee)) selected (tests.work o.callee))
      (record { selected = tests.inside o.callee ∙ selected; attempts = All-nil (IsAtSlice set) })).attempts

-- ---- the running calls

pub tick_tries_slices : TriesSlices ticking
tick_tries_slices = event-follows (λ r. r.mark) (λ r p v failed. passed r p v) (λ p v failed. failed) (λ r p v failed. refl) MainFunction tick_tests_set

pub full_tries_slices : TriesSlices full_test
full_tries_slices = event-follows (λ r. false) with_result (λ p v failed. failed_after v failed p.last) (λ r p v failed. refl) RunFullTest full_tests_set

pub partial_tries_slices : PartialTestsTrySlices
partial_tries_slices block = event-follows (λ r. false) with_result (λ p v failed. failed_after v failed p.last) (λ r p v failed. refl) (RunPartialTest block) (partial_tests_set block)
