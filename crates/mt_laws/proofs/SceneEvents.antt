-- Running events in which some calls of handlers are not to be accepted.
use Rattle.std.proofs.Common.{ℕ, zero, suc, ◌≡◌, Bool, true, false, cond, List, [], ◌∷◌, All, Option, Some, None, refl, sym, ◌∙◌, subst, inl, inr}
use Rattle.std.specs.Prelude.{◌⊎◌, is_some}
use Rattle.std.proofs.lemmas.List.Elements.{All-nil, All-head, All-tail}
use Rattle.mt_port.specs.declared.request.HandlerCall.{HandlerCall}
use Rattle.mt_port.specs.Board.{Board, IsSoundInHandler}
use Rattle.mt_cover.specs.Detection.{HasSoundWords}
use Rattle.mt_window.specs.Serving.{Table, Scene, scene}
use Rattle.mt_window.specs.Slices.{Tests, Trail, taken_by, failed_by, next_attempt, scene_behind, after_attempt, tried, slices}
use Rattle.mt_window.specs.Events.{Running, opened, entered, ran, returned, event}
use Rattle.mt_laws.specs.Memory.{handled}
use Rattle.mt_laws.proofs.Scenes.{MemoryLaws, Handlers, HasBoard, IsSpoiled, IsRight, Goes, Rows, Stands, serve_due-stands, serve_left-goes}

-- ---- attempts

-- What attempts at slices of a kind leave: the words stay sound, and so does what holds of the module.
pub record Attempts {C X V : Type 0} (h : Handlers) (t : Tests C X V) (I : C → Type 0) (Q : X → Type 0) : Type 0 where
  pub words : (may : Bool) (c : C) (x : X) (b : Board) → I c → Q x → HasBoard h b → HasSoundWords (record b { words = (t.attempt may c x b).words })
  pub taken : (c : C) (x : X) (v : V) (failed : Bool) → I c → I (t.taken c x v failed)

-- What one slice makes of the module: this held before it, and that holds after it.
pub record Passes {C X V : Type 0} (h : Handlers) (t : Tests C X V) (I : C → Type 0) (x : X) (A B : C → Bool → Type 0) : Type 0 where
  pub stopped : (c : C) (failed : Bool) → A c failed → t.stops c ≡ true → B c failed
  pub takes : (may : Bool) (c : C) (failed : Bool) (b : Board) (v : V) → I c → HasBoard h b → A c failed → t.stops c ≡ false → (t.attempt may c x b).verdict ≡ Some v → B (t.taken c x v failed) (t.failed x v failed)
  pub ends : (c : C) (failed : Bool) (b : Board) → A c failed → (t.attempt false c x b).verdict ≡ None → B c failed

-- a trail whose scene is so, by whether a slice failed
abbrev pub Walks : {C : Type 0} → Handlers → (I : C → Type 0) → (A : C → Bool → Type 0) → Trail C → Type 0
Walks h I A g = Stands h I (λ c. A c g.failed) g.scene

-- the same scene, where another fact holds of the module
pub weakened : {C : Type 0} (h : Handlers) (I P Z : C → Type 0) (s : Scene C) → (P s.callee → Z s.callee) → Stands h I P s → Stands h I Z s
weakened {C} h I P Z s move g = record { done = g.done; rest = g.rest; entered = g.entered; board = g.board; ops = g.ops; holds = g.holds; callee = of g.callee; told = g.told }
  where
    of : IsSpoiled h g.done s.log ⊎ P s.callee → IsSpoiled h g.done s.log ⊎ Z s.callee
    of (inl z) = inl z
    of (inr p) = inr (move p)

-- the same scene, with another module
pub with_callee : {C : Type 0} (h : Handlers) (I P Z : C → Type 0) (s : Scene C) (c : C) → (I s.callee → I c) → (P s.callee → Z c) → Stands h I P s → Stands h I Z (scene s.board c s.log)
with_callee {C} h I P Z s c holds move g = record { done = g.done; rest = g.rest; entered = g.entered; board = g.board; ops = g.ops; holds = holds g.holds; callee = of g.callee; told = g.told }
  where
    of : IsSpoiled h g.done s.log ⊎ P s.callee → IsSpoiled h g.done s.log ⊎ Z c
    of (inl z) = inl z
    of (inr p) = inr (move p)

-- one attempt and its boundary
attempt-walks : {C X V : Type 0} → MemoryLaws → (h : Handlers) (t : Tests C X V) (I : C → Type 0) (Q : X → Type 0) (A B : C → Bool → Type 0) → Attempts h t I Q
    → ((failed : Bool) → Rows h t.table I (λ c. B c failed)) → (may : Bool) (x : X) (g : Trail C) → Q x
    → (HasBoard h g.scene.board → I g.scene.callee → A g.scene.callee g.failed
    → B (taken_by t g.scene.callee x g.failed (next_attempt t may g x).verdict) (failed_by t x g.failed (next_attempt t may g x).verdict))
    → Walks h I A g → Walks h I B (after_attempt t may g x)
attempt-walks {C} {X} {V} laws h t I Q A B kept rows may x g q move w =
    let a = next_attempt t may g x in
    let failed = failed_by t x g.failed a.verdict in
    let sound = kept.words may g.scene.callee x g.scene.board w.holds q w.board in
    let mid : Stands h I (λ c. B c failed) (scene_behind t may g x) = record {
      done = w.done;
      rest = w.rest;
      entered = w.entered;
      board = record { shape = w.board.shape; fault = w.board.fault; sound = record { sized = sound.sized; memory = sound.memory } };
      ops = w.ops;
      holds = holds a.verdict;
      callee = of w.callee;
      told = w.told;
    } in
    serve_due-stands laws h t.table I (λ c. B c failed) (rows failed) (scene_behind t may g x) mid
  where
    holds : (v : Option V) → I (taken_by t g.scene.callee x g.failed v)
    holds None = w.holds
    holds (Some v) = kept.taken g.scene.callee x v g.failed w.holds

    of : IsSpoiled h w.done g.scene.log ⊎ A g.scene.callee g.failed
        → IsSpoiled h w.done g.scene.log ⊎ B (taken_by t g.scene.callee x g.failed (next_attempt t may g x).verdict) (failed_by t x g.failed (next_attempt t may g x).verdict)
    of (inl z) = inl z
    of (inr p) = inr (move w.board w.holds p)

-- all that is known of a slice
pub record Slice {C X V : Type 0} (h : Handlers) (t : Tests C X V) (I : C → Type 0) (Q : X → Type 0) (x : X) (A B : C → Bool → Type 0) : Type 0 where
  pub attempts : Attempts h t I Q
  pub before : (failed : Bool) → Rows h t.table I (λ c. A c failed)
  pub after : (failed : Bool) → Rows h t.table I (λ c. B c failed)
  pub is : Q x
  pub passes : Passes h t I x A B

-- an attempt that came to a verdict, or that is the last
whole-walks : {C X V : Type 0} → MemoryLaws → (h : Handlers) (t : Tests C X V) (I : C → Type 0) (Q : X → Type 0) (A B : C → Bool → Type 0) (may : Bool) (x : X) (g : Trail C) → Slice h t I Q x A B
    → t.stops g.scene.callee ≡ false → ((next_attempt t may g x).verdict ≡ None → may ≡ false) → Walks h I A g → Walks h I B (after_attempt t may g x)
whole-walks {C} {X} {V} laws h t I Q A B may x g k goes last w =
    attempt-walks laws h t I Q A B k.attempts k.after may x g k.is
    (λ board holds a. of (next_attempt t may g x).verdict refl board holds a) w
  where
    of : (v : Option V) → (next_attempt t may g x).verdict ≡ v → HasBoard h g.scene.board → I g.scene.callee → A g.scene.callee g.failed
        → B (taken_by t g.scene.callee x g.failed v) (failed_by t x g.failed v)
    of None e board holds a =
        let e' : (t.attempt false g.scene.callee x g.scene.board).verdict ≡ None = subst (λ (m : Bool). (t.attempt m g.scene.callee x g.scene.board).verdict ≡ None) (last e) e in
        k.passes.ends g.scene.callee g.failed g.scene.board a e'
    of (Some v) e board holds a = k.passes.takes may g.scene.callee g.failed g.scene.board v holds board a goes e

-- ---- slices

pub tried-walks : {C X V : Type 0} → MemoryLaws → (h : Handlers) (t : Tests C X V) (I : C → Type 0) (Q : X → Type 0) (A B : C → Bool → Type 0) (n : ℕ) (x : X) (g : Trail C) → Slice h t I Q x A B
    → Walks h I A g → Walks h I B (tried t n x g)
tried-walks {C} {X} {V} laws h t I Q A B zero x g k w = of (t.stops g.scene.callee) refl
  where
    of : (m : Bool) → t.stops g.scene.callee ≡ m → Walks h I B (cond m g (after_attempt t false g x))
    of true e = weakened h I (λ c. A c g.failed) (λ c. B c g.failed) g.scene (λ a. k.passes.stopped g.scene.callee g.failed a e) w
    of false e = whole-walks laws h t I Q A B false x g k e (λ none. refl) w
tried-walks {C} {X} {V} laws h t I Q A B (suc n) x g k w = of (t.stops g.scene.callee) refl (λ z. tried-walks laws h t I Q A B n x (after_attempt t true g x) k z)
  where
    some_none : {v : V} → Some v ≡ None → ⊥
    some_none e = cc

    dropped : (next_attempt t true g x).verdict ≡ None → Walks h I A (after_attempt t true g x)
    dropped e =
        attempt-walks laws h t I Q A A k.attempts k.before true x g k.is
        (λ board holds a. subst (λ (v : Option V). A (taken_by t g.scene.callee x g.failed v) (failed_by t x g.failed v)) (sym e) a) w

    next : t.stops g.scene.callee ≡ false → (Walks h I A (after_attempt t true g x) → Walks h I B (tried t n x (after_attempt t true g x)))
        → (v : Option V) → (next_attempt t true g x).verdict ≡ v → Walks h I B (cond (is_some v) (after_attempt t true g x) (tried t n x (after_attempt t true g x)))
    next goes again None e = again (dropped e)
    next goes again (Some v) e = whole-walks laws h t I Q A B true x g k goes (λ none. absurd (some_none (sym e ∙ none))) w

    of : (m : Bool) → t.stops g.scene.callee ≡ m → (Walks h I A (after_attempt t true g x) → Walks h I B (tried t n x (after_attempt t true g x)))
        → Walks h I B (cond m g (cond (is_some (next_attempt t true g x).verdict) (after_attempt t true g x) (tried t n x (after_attempt t true g x))))
    of true e again = weakened h I (λ c. A c g.failed) (λ c. B c g.failed) g.scene (λ a. k.passes.stopped g.scene.callee g.failed a e) w
    of false e again = next e again (next_attempt t true g x).verdict refl

-- slices in their order, where what holds of the module goes by the slices that are left
pub slices-walk : {C X V : Type 0} → MemoryLaws → (h : Handlers) (t : Tests C X V) (I : C → Type 0) (Q : X → Type 0) (At : List X → C → Bool → Type 0) → Attempts h t I Q
    → ((L : List X) (failed : Bool) → Rows h t.table I (λ c. At L c failed)) → ((x : X) (more : List X) → Q x → Passes h t I x (At (x ∷ more)) (At more))
    → (L : List X) (g : Trail C) → All Q L → Walks h I (At L) g → Walks h I (At []) (slices t L g)
slices-walk laws h t I Q At kept rows passes [] g all w = w
slices-walk {C} {X} laws h t I Q At kept rows passes (x ∷ more) g all w =
    let is = All-head Q x more all in
    let n = t.retries g.scene.callee in
    slices-walk laws h t I Q At kept rows passes more (tried t n x g) (All-tail Q x more all)
    (tried-walks laws h t I Q (At (x ∷ more)) (At more) n x g (record { attempts = kept; before = rows (x ∷ more); after = rows more; is = is; passes = passes x more is }) w)

-- ---- an event

-- a scene with an empty log
pub fresh : {C : Type 0} (h : Handlers) (I P : C → Type 0) (board : Board) (c : C) → h.all ≡ handled board.left → HasBoard h board → All (IsSoundInHandler h.shape) (handled board.left) → I c → P c
    → Stands h I P (scene board c [])
fresh h I P board c all sound ops holds p = record { done = []; rest = all; entered = refl; board = sound; ops = ops; holds = holds; callee = inr p; told = inr (All-nil (IsRight h)) }

-- from its begin to its end
pub event-goes : {C X V : Type 0} → MemoryLaws → (h : Handlers) (r : Running C X V) (I P Z : C → Type 0) → Rows h r.tests.table I P → Rows h r.tests.table I Z → (s : Scene C)
    → Stands h I P (scene s.board (r.cleared s.callee) s.log)
    → (Stands h I P (opened r s) → Stands h I Z (returned r (opened r s) (ran r (opened r s)).scene))
    → Goes h I Z [] ((event r s).after)
event-goes {C} laws h r I P Z rows_p rows_z s start middle =
    let first : Scene C = scene s.board (r.cleared s.callee) s.log in
    let o = opened r s in
    serve_left-goes laws h r.tests.table I Z rows_z (returned r o (ran r o).scene) (middle (serve_due-stands laws h r.tests.table I P rows_p first start))

-- ---- any event

-- nothing but what always holds
abbrev pub Anything : {C : Type 0} → C → Type 0
Anything c = Unit {0}

pub any_rows : {C : Type 0} (h : Handlers) (t : Table C) (I : C → Type 0) → ((c : C) (call : HandlerCall) → I c → I (t.next c call)) → ((c : C) (call : HandlerCall) → h.wrong call (t.reply c call) ≡ false) → Rows h t I Anything
any_rows h t I holds none = record { holds = holds; row = λ c call p. inr tt; right = λ c call p. none c call }

-- what is known of an event whatever is accepted in it
pub record Enters {C X V : Type 0} (h : Handlers) (r : Running C X V) (I : C → Type 0) (Q : X → Type 0) : Type 0 where
  pub attempts : Attempts h r.tests I Q
  pub row : (c : C) (call : HandlerCall) → I c → I (r.tests.table.next c call)
  pub work : (c : C) → I c → All Q (r.work c)
  pub inside : (c : C) → I c → I (r.inside c)
  pub back : (o c : C) → I c → I (r.back o c)
  pub right : (c : C) (call : HandlerCall) → h.wrong call (r.tests.table.reply c call) ≡ false

-- the slices, where the event may be spoiled already
pub any-middle : {C X V : Type 0} → MemoryLaws → (h : Handlers) (r : Running C X V) (I P : C → Type 0) (Q : X → Type 0) (At : Type 0) → Enters h r I Q → (o : Scene C) → (P o.callee → At) → Stands h I P o
    → Stands h I (λ c. At) (returned r o (ran r o).scene)
any-middle {C} {X} laws h r I P Q At k o move w =
    let rows : Rows h r.tests.table I (λ (c : C). At) = record { holds = k.row; row = λ c call p. inr p; right = λ c call p. k.right c call } in
    let start : Walks h I (λ (c : C) (failed : Bool). At) (entered r o) = with_callee h I P (λ (c : C). At) o (r.inside o.callee) (k.inside o.callee) move w in
    let walk = slices-walk laws h r.tests I Q (λ (L : List X) (c : C) (failed : Bool). At) k.attempts (λ L failed. rows)
    (λ x more q. record { stopped = λ c failed p e. p; takes = λ may c failed b v holds board p goes e. p; ends = λ c failed b p e. p })
    (r.work o.callee) (entered r o) (k.work o.callee w.holds) start in
    let z = (ran r o).scene in
    with_callee h I (λ (c : C). At) (λ (c : C). At) z (r.back o.callee z.callee) (k.back o.callee z.callee) (λ p. p) walk

pub any-event : {C X V : Type 0} → MemoryLaws → (h : Handlers) (r : Running C X V) (I : C → Type 0) (Q : X → Type 0) → Enters h r I Q → (s : Scene C) → Stands h I Anything (scene s.board (r.cleared s.callee) s.log)
    → Goes h I Anything [] ((event r s).after)
any-event laws h r I Q k s start =
    event-goes laws h r I Anything Anything (any_rows h r.tests.table I k.row k.right) (any_rows h r.tests.table I k.row k.right) s start
    (λ w. any-middle laws h r I Anything Q (Unit {0}) k (opened r s) (λ p. tt) w)
