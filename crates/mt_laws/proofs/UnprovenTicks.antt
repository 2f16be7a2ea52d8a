-- A tick over a fault that is caught, wherever the pass stands and whatever handlers do.
use Rattle.std.proofs.Common.{ℕ, ◌≡◌, Bool, true, false, List, [], ◌∷◌, ◌++◌, take, drop, Option, Some, None, refl, sym, ap, ◌∙◌, subst, inl, inr, arith}
use Rattle.std.specs.Prelude.{◌⊎◌, IfSome}
use Rattle.std.proofs.lemmas.List.{take-append-drop}
use Rattle.std.proofs.lemmas.List.Elements.{All-take}
use Rattle.mt_fault.specs.declared.fault.Fault.{Fault}
use Rattle.mt_port.specs.declared.request.HandlerCall.{HandlerCall}
use Rattle.mt_port.specs.Board.{Board}
use Rattle.mt_seq.specs.declared.sequence.Verdict.{Verdict}
use Rattle.mt_seq.specs.declared.sequence.Verdict.TheVariants.{Fail}
use Rattle.mt_seq.specs.Attempts.{attempt_verdict}
use Rattle.mt_window.specs.Serving.{Scene}
use Rattle.mt_window.specs.Slices.{started, slices}
use Rattle.mt_window.specs.Events.{ran, returned}
use Rattle.mt_blocks.specs.declared.config.ParamSet.{ParamSet}
use Rattle.mt_blocks.specs.declared.pass.Position.{Position}
use Rattle.mt_blocks.specs.Slices.{Piece, piece_at, from_place, from_next, next_of, or_start, IsValid}
use Rattle.mt_blocks.specs.Groups.{group_len}
use Rattle.mt_blocks.specs.Accepted.{spans_of}
use Rattle.mt_ram.specs.declared.state.State.{State}
use Rattle.mt_ram.specs.declared.state.State.TheVariants.{Uninit, Stopped, Running, Suspended, Full, Partial}
use Rattle.mt_ram.specs.State.{RamTst, set_of}
use Rattle.mt_ram.specs.Table.{ram_table}
use Rattle.mt_ram.specs.Event.{job_of, passed, of_pass, ticking}
use Rattle.mt_laws.proofs.Pieces.{start-valid, from-of}
use Rattle.mt_laws.proofs.Phases.{Knows}
use Rattle.mt_laws.proofs.Scenes.{Handlers, HasBoard, IsSpoiled, Rows, Stands}
use Rattle.mt_laws.proofs.SceneEvents.{Passes, Walks, weakened, slices-walk}
use Rattle.mt_laws.proofs.PassRows.{IsOn, row-on}
use Rattle.mt_laws.proofs.PassEvents.{Caught, IsSlice, caught_taken, detects, pass_attempts}
use Rattle.mt_laws.proofs.PassTicks.{PassLaws, valid_next, not_both, some_none, tick_scene}
use Rattle.mt_laws.proofs.Unproven.{IsUnproven, unproven_next}
use Rattle.mt_laws.proofs.UnprovenRows.{Unproven, IsPlaced, StandsSo, handler_unproven, handler_right, tick_call, mark_stays, tells_ok}

-- no call of a handler is excluded, and none is told that the slice's block is OK
pub record Asks (h : Handlers) (at : Position) : Type 0 where
  pub wrong : h.wrong ≡ tells_ok at.block
  pub free : (call : HandlerCall) → h.bad call ≡ false

-- What is known of the fault: it is there, and caught in a slice.
pub record Hides (h : Handlers) (fault : Fault) (set : ParamSet) (p : Piece) : Type 0 where
  pub laws : PassLaws
  pub caught : Caught h.shape fault set p
  pub present : h.fault ≡ Some fault
  pub asks : Asks h p.place

pub begins : {h : Handlers} {fault : Fault} {set : ParamSet} {p : Piece} → Hides h fault set p → IsValid set.atomic (spans_of set.blocks) (or_start None)
begins {h} {fault} {set} {p} k = start-valid set.atomic (spans_of set.blocks) k.caught.accepted.atomic_some (omega (arith, k.caught.stands.valid.block))

pub unproven_rows : {h : Handlers} {fault : Fault} {set : ParamSet} {p : Piece} → Hides h fault set p → (cells : ℕ) → Rows h ram_table (IsOn set cells) (Unproven set p.place)
unproven_rows {h} {fault} {set} {p} k cells = record {
  holds = λ r call on. row-on set cells r call on;
  row = λ r call u. inr (handler_unproven set p.place (begins k) r call u);
  right = λ r call u. subst (λ (f : HandlerCall → _). f call (ram_table.reply r call) ≡ false) (sym k.asks.wrong) (handler_right p.place r call u.result);
}

-- no event is spoiled
pub surely : {h : Handlers} {fault : Fault} {set : ParamSet} {p : Piece} → Hides h fault set p → (cells : ℕ) (s : Scene RamTst) → Stands h (IsOn set cells) (Unproven set p.place) s → Unproven set p.place s.callee
surely {h} {fault} {set} {p} k cells s g = of g.callee
  where
    of : IsSpoiled h g.done s.log ⊎ Unproven set p.place s.callee → Unproven set p.place s.callee
    of (inl z) = absurd (not_both z.bad (k.asks.free z.call))
    of (inr u) = u

-- ---- the slices of a tick

-- the pass stands before the slices that are left and those behind them
record AtTick (set : ParamSet) (p : Piece) (rest : List Piece) (L : List Piece) (r : RamTst) : Type 0 where
  place : Option Position
  split : L ++ rest ≡ from_next set.atomic (spans_of set.blocks) place
  valid : IfSome place (IsValid set.atomic (spans_of set.blocks))
  state : r.state ≡ Running (or_start place)
  same : set_of r ≡ set
  unproven : IsUnproven p.place (or_start place) r.results r.failed

-- that, or the tick ends at the next boundary
abbrev InTick : ParamSet → Piece → List Piece → List Piece → RamTst → Type 0
InTick set p rest L r = ((r.mark ≡ true) × Unproven set p.place r) ⊎ AtTick set p rest L r

placed : (set : ParamSet) (p : Piece) (place : Option Position) → IsValid set.atomic (spans_of set.blocks) (or_start None) → IfSome place (IsValid set.atomic (spans_of set.blocks)) → IsValid set.atomic (spans_of set.blocks) (or_start place)
placed set p None begin valid = begin
placed set p (Some y) begin valid = valid

at_rest : {h : Handlers} {fault : Fault} {set : ParamSet} {p : Piece} → Hides h fault set p → (rest L : List Piece) (r : RamTst) → AtTick set p rest L r → Unproven set p.place r
at_rest {h} {fault} {set} {p} k rest L r a =
    let stands : IsPlaced set p.place r.failed (or_start a.place) = record { valid = placed set p a.place (begins k) a.valid; kept = a.unproven.kept } in
    record { same = a.same; result = a.unproven.result; place = of r.state a.state stands }
  where
    of : (s : State) → s ≡ Running (or_start a.place) → IsPlaced set p.place r.failed (or_start a.place) → StandsSo (IsPlaced set p.place r.failed) s
    of s e stands = subst (λ (t : State). StandsSo (IsPlaced set p.place r.failed) t) (sym e) stands

tick_row : {h : Handlers} {fault : Fault} {set : ParamSet} {p : Piece} → Hides h fault set p → (rest L : List Piece) (r : RamTst) (call : HandlerCall) → InTick set p rest L r → InTick set p rest L (ram_table.next r call)
tick_row {h} {fault} {set} {p} k rest L r call (inl (marked, u)) = inl (mark_stays r call marked, handler_unproven set p.place (begins k) r call u)
tick_row {h} {fault} {set} {p} k rest L r call (inr a) = of (tick_call r (or_start a.place) call a.state)
  where
    of : (ram_table.next r call ≡ r) ⊎ ((ram_table.next r call).mark ≡ true) → InTick set p rest L (ram_table.next r call)
    of (inl same) = inr (subst (AtTick set p rest L) (sym same) a)
    of (inr marked) = inl (marked, handler_unproven set p.place (begins k) r call (at_rest k rest L r a))

tick_right : {h : Handlers} {fault : Fault} {set : ParamSet} {p : Piece} → Hides h fault set p → (rest L : List Piece) (r : RamTst) (call : HandlerCall) → InTick set p rest L r → h.wrong call (ram_table.reply r call) ≡ false
tick_right {h} {fault} {set} {p} k rest L r call (inl (marked, u)) = (unproven_rows k r.cells).right r call u
tick_right {h} {fault} {set} {p} k rest L r call (inr a) = (unproven_rows k r.cells).right r call (at_rest k rest L r a)

tick_slice : {h : Handlers} {fault : Fault} {set : ParamSet} {p : Piece} → Hides h fault set p → (cells : ℕ) (rest : List Piece) (x : Piece) (more : List Piece)
    → (may : Bool) (r : RamTst) (b : Board) (v : Verdict) → IsOn set cells r → HasBoard h b → AtTick set p rest (x ∷ more) r → attempt_verdict may b (job_of r x) x.slice ≡ Some v
    → AtTick set p rest more (passed r x v)
tick_slice {h} {fault} {set} {p} k cells rest x more may r b v on board a e = of a.place refl
  where
    of : (o : Option Position) → a.place ≡ o → AtTick set p rest more (passed r x v)
    of None none =
        let K = set.atomic in
        let spans = spans_of set.blocks in
        let empty : x ∷ (more ++ rest) ≡ [] = a.split ∙ ap (λ (q : Option Position). from_next K spans q) none in
        absurd cc
    of (Some y) here =
        let K = set.atomic in
        let spans = spans_of set.blocks in
        let valid : IsValid K spans y = subst (λ (q : Option Position). IfSome q (IsValid K spans)) here a.valid in
        let goes = k.laws.go K spans y (k.laws.cut h.shape set k.caught.limits k.caught.accepted) valid in
        let whole : x ∷ (more ++ rest) ≡ piece_at K spans y ∷ from_next K spans (next_of K spans y) = a.split ∙ ap (λ (q : Option Position). from_next K spans q) here ∙ goes.pass in
        let head : x ≡ piece_at K spans y = cc in
        let tail : more ++ rest ≡ from_next K spans (next_of K spans y) = cc in
        let fails : y ≡ p.place → v ≡ Fail =
        λ is. detects k.laws.attempts h fault set cells p k.caught k.present may r x b v on board (head ∙ ap (λ (q : Position). piece_at K spans q) is ∙ sym k.caught.stands.is) e in
        let knows : Knows K spans p.place y v = record { at_valid = k.caught.stands.valid; valid = valid; fails = fails } in
        let before : IsUnproven p.place y r.results r.failed = subst (λ (q : Option Position). IsUnproven p.place (or_start q) r.results r.failed) here a.unproven in
        let next : AtTick set p rest more (passed r (piece_at K spans y) v) = record {
          place = next_of K spans y;
          split = tail;
          valid = valid_next true K spans y goes;
          state = ap (λ (s : ParamSet). Running (or_start (next_of s.atomic (spans_of s.blocks) y))) on.same;
          same = on.same;
          unproven = unproven_next true K spans p.place y r.results v r.failed knows before;
        } in
        subst (λ (q : Piece). AtTick set p rest more (passed r q v)) (sym head) next

tick_passes : {h : Handlers} {fault : Fault} {set : ParamSet} {p : Piece} → Hides h fault set p → (cells : ℕ) (rest : List Piece) (x : Piece) (more : List Piece)
    → Passes h of_pass (IsOn set cells) x (λ r failed. InTick set p rest (x ∷ more) r) (λ r failed. InTick set p rest more r)
tick_passes {h} {fault} {set} {p} k cells rest x more = record {
  stopped = stopped;
  takes = takes;
  ends = λ r failed b a e. absurd (some_none (k.laws.end b (job_of r x) x.slice).1 e);
}
  where
    stopped : (r : RamTst) (failed : Bool) → InTick set p rest (x ∷ more) r → r.mark ≡ true → InTick set p rest more r
    stopped r failed (inl rests) e = inl rests
    stopped r failed (inr a) e = inl (e, at_rest k rest (x ∷ more) r a)

    takes : (may : Bool) (r : RamTst) (failed : Bool) (b : Board) (v : Verdict) → IsOn set cells r → HasBoard h b → InTick set p rest (x ∷ more) r → r.mark ≡ false
        → attempt_verdict may b (job_of r x) x.slice ≡ Some v → InTick set p rest more (passed r x v)
    takes may r failed b v on board (inl (marked, u)) goes e = absurd (not_both marked goes)
    takes may r failed b v on board (inr a) goes e = inr (tick_slice k cells rest x more may r b v on board a e)

-- ---- the whole tick

-- one where the pass runs
running_tick : {h : Handlers} {fault : Fault} {set : ParamSet} {p : Piece} → Hides h fault set p → (cells : ℕ) (o : Scene RamTst) → Stands h (IsOn set cells) (Unproven set p.place) o → (at : Position)
    → (Unproven set p.place o.callee → AtTick set p (drop (group_len cells (from_place set.atomic (spans_of set.blocks) at)) (from_place set.atomic (spans_of set.blocks) at))
    (take (group_len cells (from_place set.atomic (spans_of set.blocks) at)) (from_place set.atomic (spans_of set.blocks) at)) o.callee)
    → IsOn set cells o.callee → Stands h (IsOn set cells) (Unproven set p.place) (tick_scene o (Running at))
running_tick {h} {fault} {set} {p} k cells o w at first on =
    let r = o.callee in
    let K = set.atomic in
    let spans = spans_of set.blocks in
    let L = from_place K spans at in
    let n = group_len cells L in
    let rest = drop n L in
    let rows : (l : List Piece) (failed : Bool) → Rows h ram_table (IsOn set cells) (λ q. InTick set p rest l q) =
    λ l failed. record { holds = λ q call z. row-on set cells q call z; row = λ q call a. inr (tick_row k rest l q call a); right = λ q call a. tick_right k rest l q call a } in
    let start : Walks h (IsOn set cells) (λ q failed. InTick set p rest (take n L) q) (started false o) = weakened h (IsOn set cells) (Unproven set p.place) (InTick set p rest (take n L)) o (λ u. inr (first u)) w in
    let walk = slices-walk k.laws.memory h of_pass (IsOn set cells) (IsSlice set) (λ (l : List Piece) (q : RamTst) (failed : Bool). InTick set p rest l q)
    (pass_attempts k.laws.attempts h set cells (caught_taken h.shape fault set p k.caught)) rows (λ x l is. tick_passes k cells rest x l) (take n L) (started false o)
    (All-take (IsSlice set) n L (from-of K spans at k.caught.accepted.atomic_some)) start in
    let end = (slices of_pass (take n L) (started false o)).scene in
    let done : Stands h (IsOn set cells) (Unproven set p.place) end = weakened h (IsOn set cells) (InTick set p rest []) (Unproven set p.place) end (ended rest end.callee) walk in
    subst (λ (N : ℕ). Stands h (IsOn set cells) (Unproven set p.place) ((slices of_pass (take (group_len N (from_place (set_of r).atomic (spans_of (set_of r).blocks) at)) (from_place (set_of r).atomic (spans_of (set_of r).blocks) at)) (started false o)).scene)) (sym on.many)
    (subst (λ (s : ParamSet). Stands h (IsOn set cells) (Unproven set p.place) ((slices of_pass (take (group_len cells (from_place s.atomic (spans_of s.blocks) at)) (from_place s.atomic (spans_of s.blocks) at)) (started false o)).scene)) (sym on.same) done)
  where
    ended : (rest : List Piece) (r : RamTst) → InTick set p rest [] r → Unproven set p.place r
    ended rest r (inl (marked, u)) = u
    ended rest r (inr a) = at_rest k rest [] r a

-- where the pass stands before its group
before_group : (set : ParamSet) (p : Piece) (cells : ℕ) (at : Position) (r : RamTst) → r.state ≡ Running at → Unproven set p.place r
    → AtTick set p (drop (group_len cells (from_place set.atomic (spans_of set.blocks) at)) (from_place set.atomic (spans_of set.blocks) at))
    (take (group_len cells (from_place set.atomic (spans_of set.blocks) at)) (from_place set.atomic (spans_of set.blocks) at)) r
before_group set p cells at r runs u =
    let L = from_place set.atomic (spans_of set.blocks) at in
    let stands : IsPlaced set p.place r.failed at = subst (StandsSo (IsPlaced set p.place r.failed)) runs u.place in
    record {
      place = Some at;
      split = take-append-drop (group_len cells L) L;
      valid = stands.valid;
      state = runs;
      same = u.same;
      unproven = record { result = u.result; kept = stands.kept };
    }

-- any tick
pub tick_unproven : {h : Handlers} {fault : Fault} {set : ParamSet} {p : Piece} → Hides h fault set p → (cells : ℕ) (o : Scene RamTst) → Stands h (IsOn set cells) (Unproven set p.place) o
    → Stands h (IsOn set cells) (Unproven set p.place) (returned ticking o (ran ticking o).scene)
tick_unproven {h} {fault} {set} {p} k cells o w = of o.callee.state refl
  where
    of : (s : State) → o.callee.state ≡ s → Stands h (IsOn set cells) (Unproven set p.place) (tick_scene o s)
    of Uninit e = w
    of Stopped e = w
    of (Running at) e = running_tick k cells o w at (λ u. before_group set p cells at o.callee e u) w.holds
    of (Suspended at) e = w
    of Full e = w
    of (Partial back) e = w
