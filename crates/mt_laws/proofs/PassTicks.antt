-- A tick in a pass over a fault that is caught.
use Rattle.std.proofs.Common.{ℕ, zero, suc, ◌≡◌, ◌<◌, ◌≤◌, ◌+◌, Bool, true, false, List, [], ◌∷◌, ◌++◌, length, get_or, take, drop, Contains, Option, Some, None, refl, sym, ap, ◌∙◌, subst, arith, inl, inr}
use Rattle.std.specs.Prelude.{◌⊎◌, IfSome}
use Rattle.std.proofs.lemmas.List.{take-append-drop}
use Rattle.std.proofs.lemmas.List.Elements.{All-take}
use Rattle.mt_fault.specs.declared.fault.Fault.{Fault}
use Rattle.mt_port.specs.declared.request.HandlerCall.{HandlerCall}
use Rattle.mt_port.specs.Board.{Board}
use Rattle.mt_seq.specs.declared.sequence.Verdict.{Verdict}
use Rattle.mt_seq.specs.declared.sequence.Verdict.TheVariants.{Fail}
use Rattle.mt_seq.specs.Attempts.{attempt_verdict}
use Rattle.mt_cover.specs.Detection.{WholeAttemptsEnd}
use Rattle.mt_window.specs.declared.reply.Reply.TheVariants.{Done}
use Rattle.mt_window.specs.declared.reply.TestResult.{TestResult}
use Rattle.mt_window.specs.Serving.{Scene, scene}
use Rattle.mt_window.specs.Slices.{started, slices}
use Rattle.mt_window.specs.Events.{ran, returned}
use Rattle.mt_window.specs.Rows.{work_in, inside_of, back_from}
use Rattle.mt_blocks.specs.declared.config.ParamSet.{ParamSet}
use Rattle.mt_blocks.specs.declared.pass.Position.{Position}
use Rattle.mt_blocks.specs.declared.span.Span.{Span}
use Rattle.mt_blocks.specs.Slices.{Piece, piece_at, from_place, from_next, next_of, or_start, IsValid, next_in}
use Rattle.mt_blocks.specs.Groups.{ticks, group_len}
use Rattle.mt_blocks.specs.Laws.{GoesOn, PassesGoOn}
use Rattle.mt_blocks.specs.Accepted.{spans_of}
use Rattle.mt_ram.specs.declared.state.State.{State}
use Rattle.mt_ram.specs.declared.state.State.TheVariants.{Running, Suspended}
use Rattle.mt_ram.specs.State.{RamTst, set_of}
use Rattle.mt_ram.specs.Results.{failed_after}
use Rattle.mt_ram.specs.Table.{MainFunction, cell, resumed, ram_table}
use Rattle.mt_ram.specs.Event.{job_of, passed, of_pass, ticking}
use Rattle.mt_blocks.specs.Inner.Ticks.{GroupsTakeATick}
use Rattle.mt_ram.specs.Inner.Sets.{SetsAreCut}
use Rattle.mt_laws.proofs.Pieces.{block_there, start-valid, from-of}
use Rattle.mt_laws.proofs.Phases.{IsBehind, results_by, Knows, reaches, goes_on}
use Rattle.mt_laws.proofs.Scenes.{MemoryLaws, Handlers, Watches, HasBoard, IsSpoiled, Rows, Stands}
use Rattle.mt_laws.proofs.SceneEvents.{Passes, Walks, weakened, slices-walk, any-middle}
use Rattle.mt_laws.proofs.PassRows.{Turn, Stays, Stops, Suspends, Resumes, turn_running, IsOn, row-on, InSomePass, InTick, is_stop_or_suspend}
use Rattle.mt_laws.proofs.PassEvents.{AttemptLaws, Caught, IsSlice, caught_taken, detects, pass_attempts, tick_enters}

-- the laws of attempts and passes
pub record PassLaws : Type 0 where
  pub memory : MemoryLaws
  pub attempts : AttemptLaws
  pub end : WholeAttemptsEnd
  pub cut : SetsAreCut
  pub go : PassesGoOn
  pub group : GroupsTakeATick

-- where a pass or a test stands to the caught slice, of which so many slices are left: behind it, or before it where this holds
abbrev pub Phase : Piece → Option Position → List TestResult → Bool → List Piece → Type 0 → Type 0
Phase p place results failed L Before = IsBehind p.place (or_start place) results failed ⊎ (Contains L p × Before)

cons_cases : {A : Type 0} (x z : A) (xs : List A) (k : ℕ) → k < length (x ∷ xs) → get_or (x ∷ xs) k z ≡ z → (x ≡ z) ⊎ Contains xs z
cons_cases x z xs zero l e = inl e
cons_cases x z xs (suc k) l e = inr (k, omega (arith, l), e)

-- a slice behind the caught one
pub behind_next : (whole : Bool) (set : ParamSet) (p : Piece) (y : Position) (results : List TestResult) (v : Verdict) (failed : Bool)
    → IsSlice set p → IsValid set.atomic (spans_of set.blocks) y → (piece_at set.atomic (spans_of set.blocks) y ≡ p → v ≡ Fail) → IsBehind p.place y results failed
    → IsBehind p.place (or_start (next_in whole set.atomic (spans_of set.blocks) y)) (results_by results (piece_at set.atomic (spans_of set.blocks) y) v failed)
    (failed_after v failed (piece_at set.atomic (spans_of set.blocks) y).last)
behind_next whole set p y results v failed is valid fails behind =
    let K = set.atomic in
    let spans = spans_of set.blocks in
    let knows : Knows K spans p.place y v = record { at_valid = is.valid; valid = valid; fails = λ here. fails (ap (λ (q : Position). piece_at K spans q) here ∙ sym is.is) } in
    goes_on whole K spans p.place y results v failed knows behind

-- what one slice makes of it
pub next_phase : (whole : Bool) (set : ParamSet) (p : Piece) (y : Position) (results : List TestResult) (v : Verdict) (failed : Bool) (L : List Piece) (Before : Type 0)
    → IsSlice set p → IsValid set.atomic (spans_of set.blocks) y → length results ≡ length set.blocks → (piece_at set.atomic (spans_of set.blocks) y ≡ p → v ≡ Fail)
    → Phase p (Some y) results failed (piece_at set.atomic (spans_of set.blocks) y ∷ L) Before
    → Phase p (next_in whole set.atomic (spans_of set.blocks) y) (results_by results (piece_at set.atomic (spans_of set.blocks) y) v failed)
    (failed_after v failed (piece_at set.atomic (spans_of set.blocks) y).last) L Before
next_phase whole set p y results v failed L Before is valid long fails (inl behind) = inl (behind_next whole set p y results v failed is valid fails behind)
next_phase whole set p y results v failed L Before is valid long fails (inr (contains, before)) = of (cons_cases (piece_at set.atomic (spans_of set.blocks) y) p L contains.0 contains.1 contains.2)
  where
    of : (piece_at set.atomic (spans_of set.blocks) y ≡ p) ⊎ Contains L p
        → Phase p (next_in whole set.atomic (spans_of set.blocks) y) (results_by results (piece_at set.atomic (spans_of set.blocks) y) v failed)
        (failed_after v failed (piece_at set.atomic (spans_of set.blocks) y).last) L Before
    of (inl here) =
        let there = block_there set p.place is.valid in
        inl (reaches whole set.atomic (spans_of set.blocks) p.place y results v failed (ap (λ (q : Piece). q.place) here) (fails here) (omega (arith, there, long)))
    of (inr more) = inr (more, before)

-- ---- the slices of a tick

-- The pass stands before the slices that the tick has left and those behind them.
record AtTick (set : ParamSet) (p : Piece) (rest : List Piece) (Before : Type 0) (L : List Piece) (r : RamTst) : Type 0 where
  place : Option Position
  split : L ++ rest ≡ from_next set.atomic (spans_of set.blocks) place
  valid : IfSome place (IsValid set.atomic (spans_of set.blocks))
  state : r.state ≡ Running (or_start place)
  unmarked : r.mark ≡ false
  phase : Phase p place r.results r.failed (L ++ rest) Before

tick_row : (set : ParamSet) (p : Piece) (rest : List Piece) (Before : Type 0) (L : List Piece) (r : RamTst) (call : HandlerCall) → AtTick set p rest Before L r
    → ((is_stop_or_suspend call ≡ true) × (ram_table.reply r call ≡ Done)) ⊎ AtTick set p rest Before L (ram_table.next r call)
tick_row set p rest Before L r call a = of (turn_running r (or_start a.place) call a.state)
  where
    of : Turn r (or_start a.place) call → ((is_stop_or_suspend call ≡ true) × (ram_table.reply r call ≡ Done)) ⊎ AtTick set p rest Before L (ram_table.next r call)
    of (Stays e) = inr (subst (AtTick set p rest Before L) (sym e) a)
    of (Stops is done) = inl (ap is_stop_or_suspend is, done)
    of (Suspends is done e) = inl (ap is_stop_or_suspend is, done)
    of (Resumes e) =
        let z : AtTick set p rest Before L (resumed r (or_start a.place)) = record { place = a.place; split = a.split; valid = a.valid; state = refl; unmarked = a.unmarked; phase = a.phase } in
        inr (subst (AtTick set p rest Before L) (sym e) z)

-- the next position is that of a slice
pub valid_next : (whole : Bool) (K : ℕ) (spans : List Span) (y : Position) → GoesOn K spans y → IfSome (next_in whole K spans y) (IsValid K spans)
valid_next whole K spans y goes = of (next_in whole K spans y) refl
  where
    of : (o : Option Position) → next_in whole K spans y ≡ o → IfSome o (IsValid K spans)
    of None e = tt
    of (Some q) e = goes.next whole q e

tick_slice : PassLaws → (h : Handlers) (fault : Fault) (set : ParamSet) (cells : ℕ) (p : Piece) → Caught h.shape fault set p → h.fault ≡ Some fault → (rest : List Piece) (Before : Type 0) (x : Piece) (more : List Piece)
    → (may : Bool) (r : RamTst) (b : Board) (v : Verdict) → IsOn set cells r → HasBoard h b → AtTick set p rest Before (x ∷ more) r → attempt_verdict may b (job_of r x) x.slice ≡ Some v
    → AtTick set p rest Before more (passed r x v)
tick_slice laws h fault set cells p caught present rest Before x more may r b v on board a e = of a.place refl
  where
    of : (o : Option Position) → a.place ≡ o → AtTick set p rest Before more (passed r x v)
    of None none =
        let K = set.atomic in
        let spans = spans_of set.blocks in
        let empty : x ∷ (more ++ rest) ≡ [] = a.split ∙ ap (λ (q : Option Position). from_next K spans q) none in
        absurd cc
    of (Some y) here =
        let K = set.atomic in
        let spans = spans_of set.blocks in
        let valid : IsValid K spans y = subst (λ (q : Option Position). IfSome q (IsValid K spans)) here a.valid in
        let goes = laws.go K spans y (laws.cut h.shape set caught.limits caught.accepted) valid in
        let whole : x ∷ (more ++ rest) ≡ piece_at K spans y ∷ from_next K spans (next_of K spans y) = a.split ∙ ap (λ (q : Option Position). from_next K spans q) here ∙ goes.pass in
        let head : x ≡ piece_at K spans y = cc in
        let tail : more ++ rest ≡ from_next K spans (next_of K spans y) = cc in
        let phase : Phase p (Some y) r.results r.failed (piece_at K spans y ∷ (more ++ rest)) Before =
        subst (λ (q : Piece). Phase p (Some y) r.results r.failed (q ∷ (more ++ rest)) Before) head (subst (λ (q : Option Position). Phase p q r.results r.failed (x ∷ (more ++ rest)) Before) here a.phase) in
        let fails : piece_at K spans y ≡ p → v ≡ Fail = λ is. detects laws.attempts h fault set cells p caught present may r x b v on board (head ∙ is) e in
        let next : AtTick set p rest Before more (passed r (piece_at K spans y) v) = record {
          place = next_of K spans y;
          split = tail;
          valid = valid_next true K spans y goes;
          state = ap (λ (s : ParamSet). Running (or_start (next_of s.atomic (spans_of s.blocks) y))) on.same;
          unmarked = a.unmarked;
          phase = next_phase true set p y r.results v r.failed (more ++ rest) Before caught.stands valid on.results fails phase;
        } in
        subst (λ (q : Piece). AtTick set p rest Before more (passed r q v)) (sym head) next

-- neither of these can be
pub not_both : {b : Bool} → b ≡ true → b ≡ false → ⊥
not_both e f = (let h : true ≡ false = sym e ∙ f in cc)

pub some_none : {v : Verdict} {o : Option Verdict} → o ≡ Some v → o ≡ None → ⊥
some_none {v} e f = (let h : Some v ≡ None = sym e ∙ f in cc)

tick_passes : PassLaws → (h : Handlers) (fault : Fault) (set : ParamSet) (cells : ℕ) (p : Piece) → Caught h.shape fault set p → h.fault ≡ Some fault → (rest : List Piece) (Before : Type 0) (x : Piece) (more : List Piece)
    → Passes h of_pass (IsOn set cells) x (λ r failed. AtTick set p rest Before (x ∷ more) r) (λ r failed. AtTick set p rest Before more r)
tick_passes laws h fault set cells p caught present rest Before x more = record {
  stopped = λ r failed a e. absurd (not_both e a.unmarked);
  takes = λ may r failed b v on board a goes e. tick_slice laws h fault set cells p caught present rest Before x more may r b v on board a e;
  ends = λ r failed b a e. absurd (some_none (laws.end b (job_of r x) x.slice).1 e);
}

-- ---- the whole tick

-- behind the group of a tick
behind_group : (set : ParamSet) (p : Piece) (cells left : ℕ) (rest : List Piece) (Before : Type 0) → IsSlice set p → 1 ≤ set.atomic → (Before → ticks cells rest ≤ left) → (r : RamTst) → AtTick set p rest Before [] r → InSomePass set p cells left r
behind_group set p cells left rest Before is some low r a = of a.place refl
  where
    empty : Contains [] p → ⊥
    empty h = omega (arith, h.1)

    none : a.place ≡ None → Phase p a.place r.results r.failed rest Before → IsBehind p.place (or_start a.place) r.results r.failed
    none e (inl behind) = behind
    none e (inr (contains, before)) = absurd (empty (subst (λ (l : List Piece). Contains l p) (a.split ∙ ap (λ (q : Option Position). from_next set.atomic (spans_of set.blocks) q) e) contains))

    going : (y : Position) → a.place ≡ Some y → Phase p a.place r.results r.failed rest Before
        → IsBehind p.place y r.results r.failed ⊎ (Contains (from_place set.atomic (spans_of set.blocks) y) p × (ticks cells (from_place set.atomic (spans_of set.blocks) y) ≤ left))
    going y e (inl behind) = inl (subst (λ (q : Option Position). IsBehind p.place (or_start q) r.results r.failed) e behind)
    going y e (inr (contains, before)) =
        let same : rest ≡ from_place set.atomic (spans_of set.blocks) y = a.split ∙ ap (λ (q : Option Position). from_next set.atomic (spans_of set.blocks) q) e in
        inr (subst (λ (l : List Piece). Contains l p × (ticks cells l ≤ left)) same (contains, low before))

    of : (o : Option Position) → a.place ≡ o → InSomePass set p cells left r
    of None e =
        let start : IsValid set.atomic (spans_of set.blocks) (or_start None) = start-valid set.atomic (spans_of set.blocks) some (omega (arith, is.valid.block)) in
        let behind : IsBehind p.place (or_start None) r.results r.failed = subst (λ (q : Option Position). IsBehind p.place (or_start q) r.results r.failed) e (none e a.phase) in
        record { at = or_start None; pass = record { valid = start; state = inl (a.state ∙ ap (λ (q : Option Position). Running (or_start q)) e); phase = inl behind } }
    of (Some y) e =
        record { at = y; pass = record { valid = subst (λ (q : Option Position). IfSome q (IsValid set.atomic (spans_of set.blocks))) e a.valid; state = inl (a.state ∙ ap (λ (q : Option Position). Running (or_start q)) e); phase = going y e a.phase } }

-- what a tick leaves before the requests left, by the state just after boundary 0
abbrev pub tick_scene : Scene RamTst → State → Scene RamTst
tick_scene o s =
    scene ((slices of_pass (work_in (cell o.callee MainFunction s)) (started false (scene o.board (inside_of (cell o.callee MainFunction s) o.callee) o.log))).scene.board)
    (back_from (cell o.callee MainFunction s) ((slices of_pass (work_in (cell o.callee MainFunction s)) (started false (scene o.board (inside_of (cell o.callee MainFunction s) o.callee) o.log))).scene.callee))
    ((slices of_pass (work_in (cell o.callee MainFunction s)) (started false (scene o.board (inside_of (cell o.callee MainFunction s) o.callee) o.log))).scene.log)

-- one where the pass runs
running_tick : PassLaws → (h : Handlers) (fault : Fault) (set : ParamSet) (cells left less : ℕ) (p : Piece) → Caught h.shape fault set p → h.fault ≡ Some fault → Watches h is_stop_or_suspend → set.atomic ≤ cells → left ≤ less + 1
    → (o : Scene RamTst) → Stands h (IsOn set cells) (InTick set p cells left) o → (i : InTick set p cells left o.callee) → o.callee.state ≡ Running i.at → IsOn set cells o.callee
    → Stands h (IsOn set cells) (InSomePass set p cells less) (tick_scene o (Running i.at))
running_tick laws h fault set cells left less p caught present bad low more o w i runs on =
    let r = o.callee in
    let K = set.atomic in
    let spans = spans_of set.blocks in
    let L = from_place K spans i.at in
    let n = group_len cells L in
    let rest = drop n L in
    let Before = ticks cells L ≤ left in
    let one : ticks cells L ≡ suc (ticks cells rest) = laws.group K cells spans i.at (laws.cut h.shape set caught.limits caught.accepted) i.pass.valid low in
    let whole : take n L ++ rest ≡ L = take-append-drop n L in
    let fewer : Before → ticks cells rest ≤ less = λ before. omega (arith, before, one, more) in
    let At = λ (l : List Piece) (q : RamTst) (failed : Bool). AtTick set p rest Before l q in
    let rows : (l : List Piece) (failed : Bool) → Rows h ram_table (IsOn set cells) (λ q. AtTick set p rest Before l q) =
    λ l failed. record { holds = λ q call z. row-on set cells q call z; row = λ q call a. subst (λ (f : HandlerCall → Bool). ((f call ≡ true) × (ram_table.reply q call ≡ Done)) ⊎ AtTick set p rest Before l (ram_table.next q call)) (sym bad.calls) (tick_row set p rest Before l q call a); right = λ q call a. bad.replies call (ram_table.reply q call) } in
    let first : AtTick set p rest Before (take n L) r = record {
      place = Some i.at;
      split = whole;
      valid = i.pass.valid;
      state = runs;
      unmarked = i.unmarked;
      phase = subst (λ (l : List Piece). Phase p (Some i.at) r.results r.failed l Before) (sym whole) i.pass.phase;
    } in
    let start : Walks h (IsOn set cells) (λ q failed. AtTick set p rest Before (take n L) q) (started false o) = weakened h (IsOn set cells) (InTick set p cells left) (AtTick set p rest Before (take n L)) o (λ z. first) w in
    let walk = slices-walk laws.memory h of_pass (IsOn set cells) (IsSlice set) At (pass_attempts laws.attempts h set cells (caught_taken h.shape fault set p caught)) rows
    (λ x l is. tick_passes laws h fault set cells p caught present rest Before x l) (take n L) (started false o) (All-take (IsSlice set) n L (from-of K spans i.at caught.accepted.atomic_some)) start in
    let end = (slices of_pass (take n L) (started false o)).scene in
    let done : Stands h (IsOn set cells) (InSomePass set p cells less) end =
    weakened h (IsOn set cells) (AtTick set p rest Before []) (InSomePass set p cells less) end (λ a. behind_group set p cells less rest Before caught.stands caught.accepted.atomic_some fewer end.callee a) walk in
    subst (λ (N : ℕ). Stands h (IsOn set cells) (InSomePass set p cells less) ((slices of_pass (take (group_len N (from_place (set_of r).atomic (spans_of (set_of r).blocks) i.at)) (from_place (set_of r).atomic (spans_of (set_of r).blocks) i.at)) (started false o)).scene)) (sym on.many)
    (subst (λ (s : ParamSet). Stands h (IsOn set cells) (InSomePass set p cells less) ((slices of_pass (take (group_len cells (from_place s.atomic (spans_of s.blocks) i.at)) (from_place s.atomic (spans_of s.blocks) i.at)) (started false o)).scene)) (sym on.same) done)

-- a longer bound
pub longer_phase : (set : ParamSet) (p : Piece) (cells left less : ℕ) (x : Position) (results : List TestResult) (failed : Bool) → left ≤ less
    → IsBehind p.place x results failed ⊎ (Contains (from_place set.atomic (spans_of set.blocks) x) p × (ticks cells (from_place set.atomic (spans_of set.blocks) x) ≤ left))
    → IsBehind p.place x results failed ⊎ (Contains (from_place set.atomic (spans_of set.blocks) x) p × (ticks cells (from_place set.atomic (spans_of set.blocks) x) ≤ less))
longer_phase set p cells left less x results failed more (inl behind) = inl behind
longer_phase set p cells left less x results failed more (inr (contains, before)) = inr (contains, omega (arith, before, more))

longer : (set : ParamSet) (p : Piece) (cells left less : ℕ) (r : RamTst) → left ≤ less → InTick set p cells left r → InSomePass set p cells less r
longer set p cells left less r more i =
    record { at = i.at; pass = record { valid = i.pass.valid; state = i.pass.state; phase = longer_phase set p cells left less i.at r.results r.failed more i.pass.phase } }

-- a scene that is spoiled, or of which this holds
pub spoiled_or : (h : Handlers) (I P : RamTst → Type 0) (s : Scene RamTst) → Stands h I P s → Stands h I (λ r. ⊥) s ⊎ P s.callee
spoiled_or h I P s g = of g.callee
  where
    of : IsSpoiled h g.done s.log ⊎ P s.callee → Stands h I (λ r. ⊥) s ⊎ P s.callee
    of (inl z) = inl (record { done = g.done; rest = g.rest; entered = g.entered; board = g.board; ops = g.ops; holds = g.holds; callee = inl z; told = g.told })
    of (inr p) = inr p

-- A tick, where the pass runs just after boundary 0 or is suspended. What is still to come takes one tick less, where it runs.
pub tick_middle : PassLaws → (h : Handlers) (fault : Fault) (set : ParamSet) (cells left less : ℕ) (p : Piece) → Caught h.shape fault set p → h.fault ≡ Some fault → Watches h is_stop_or_suspend → set.atomic ≤ cells
    → (o : Scene RamTst) → ((x : Position) → o.callee.state ≡ Running x → left ≤ less + 1) → ((x : Position) → o.callee.state ≡ Suspended x → left ≤ less)
    → Stands h (IsOn set cells) (InTick set p cells left) o → Stands h (IsOn set cells) (InSomePass set p cells less) (returned ticking o (ran ticking o).scene)
tick_middle laws h fault set cells left less p caught present bad low o runs waits w = of (spoiled_or h (IsOn set cells) (InTick set p cells left) o w)
  where
    by_state : (i : InTick set p cells left o.callee) → (o.callee.state ≡ Running i.at) ⊎ (o.callee.state ≡ Suspended i.at) → Stands h (IsOn set cells) (InSomePass set p cells less) (tick_scene o o.callee.state)
    by_state i (inl e) =
        subst (λ (s : State). Stands h (IsOn set cells) (InSomePass set p cells less) (tick_scene o s)) (sym e)
        (running_tick laws h fault set cells left less p caught present bad low (runs i.at e) o w i e w.holds)
    by_state i (inr e) =
        let more = waits i.at e in
        subst (λ (s : State). Stands h (IsOn set cells) (InSomePass set p cells less) (tick_scene o s)) (sym e)
        (weakened h (IsOn set cells) (InTick set p cells left) (InSomePass set p cells less) o (λ z. longer set p cells left less o.callee more z) w)

    of : Stands h (IsOn set cells) (λ r. ⊥) o ⊎ InTick set p cells left o.callee → Stands h (IsOn set cells) (InSomePass set p cells less) (tick_scene o o.callee.state)
    of (inl z) =
        let end = tick_scene o o.callee.state in
        weakened h (IsOn set cells) (λ r. ⊥) (InSomePass set p cells less) end (λ q. absurd q)
        (any-middle laws.memory h ticking (IsOn set cells) (λ r. ⊥) (IsSlice set) ⊥ (tick_enters laws.attempts h set cells (caught_taken h.shape fault set p caught) bad.replies) o (λ q. q) z)
    of (inr i) = by_state i i.pass.state
