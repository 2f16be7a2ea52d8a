-- Relations between a module before and after that each of its steps keeps: the serving of requests and events keep them too.
-- These are lemmas for the crates above; no contract cites them.
use Rattle.std.specs.Prelude.{◌≡◌, ℕ, zero, suc, Bool, true, false, cond, if◌then◌else◌, is_some, List, [], ◌∷◌, ◌++◌, ◌+◌, ◌-◌, Option, Some, None, leb}
use Rattle.mt_port.specs.Board.{Board}
use Rattle.std.proofs.Common.{refl, sym, ap, ◌∙◌}
use Rattle.mt_port.specs.declared.request.HandlerCall.{HandlerCall}
use Rattle.mt_port.specs.declared.request.HandlerOp.{HandlerOp}
use Rattle.mt_port.specs.declared.request.HandlerOp.TheVariants.{App, Call}
use Rattle.mt_port.specs.declared.request.Request.{Request}
use Rattle.mt_window.specs.Serving.{Table, Scene, scene, operated, operated_all, callee_by, served, due_served, left_served, serve_due}
use Rattle.mt_window.specs.Slices.{Tests, Tried, Trail, attempted, taken_by, failed_by, next_attempt, scene_behind, after_attempt, tried, slices, unstopped}
use Rattle.mt_window.specs.Events.{Running, Outcome, opened, entered, ran, returned, closed, event, exchanged}
use Rattle.mt_window.specs.Rows.{Cell, by_row, CellKeeps}

-- A relation that each row of the table keeps is kept by the serving of requests.
pub record IsKept {C : Type 0} (t : Table C) (R : C → C → Type 0) : Type 0 where
  pub none : (c : C) → R c c
  pub both : (a b c : C) → R a b → R b c → R a c
  pub row : (c : C) (call : HandlerCall) → R c (t.next c call)

pub cond_case : {X : Type 0} (P : X → Type 0) (b : Bool) (x y : X) → P x → P y → P (cond b x y)
cond_case P true x y p q = p
cond_case P false x y p q = q

pub operated_all-moves : {C : Type 0} (t : Table C) (R : C → C → Type 0) → IsKept t R → (ops : List HandlerOp) (s : Scene C) → R s.callee ((operated_all t ops s).callee)
operated_all-moves t R k [] s = k.none s.callee
operated_all-moves {C} t R k (op ∷ ops) s = k.both s.callee ((operated t s op).callee) _ (one op) (operated_all-moves t R k ops (operated t s op))
  where
    one : (op : HandlerOp) → R s.callee (callee_by t s.callee op)
    one (App op) = k.none s.callee
    one (Call call) = k.row s.callee call

pub due_served-moves : {C : Type 0} (t : Table C) (R : C → C → Type 0) → IsKept t R → (rs : List Request) (s : Scene C) → R s.callee ((due_served t rs s).callee)
due_served-moves t R k [] s = k.none s.callee
due_served-moves {C} t R k (r ∷ rs) s =
    let z = served t r (s.board.count - r.offset) s in
    cond_case (λ (x : Scene C). R s.callee x.callee) (leb r.offset s.board.count) (due_served t rs z) s
    (k.both s.callee z.callee _ (operated_all-moves t R k r.ops.items _) (due_served-moves t R k rs z)) (k.none s.callee)

pub left_served-moves : {C : Type 0} (t : Table C) (R : C → C → Type 0) → IsKept t R → (rs : List Request) (s : Scene C) → R s.callee ((left_served t rs s).callee)
left_served-moves t R k [] s = k.none s.callee
left_served-moves t R k (r ∷ rs) s =
    k.both s.callee ((served t r 0 s).callee) _ (operated_all-moves t R k r.ops.items _) (left_served-moves t R k rs (served t r 0 s))

-- a module that is stopped goes no further
pub tried-stopped : {C X V : Type 0} (t : Tests C X V) (n : ℕ) (x : X) (g : Trail C) → t.stops g.scene.callee ≡ true → tried t n x g ≡ g
tried-stopped t zero x g e = ap (λ (b : Bool). cond b g (after_attempt t false g x)) e
tried-stopped t (suc n) x g e =
    ap (λ (b : Bool). cond b g (cond (is_some (next_attempt t true g x).verdict) (after_attempt t true g x) (tried t n x (after_attempt t true g x)))) e

pub slices-stopped : {C X V : Type 0} (t : Tests C X V) (L : List X) (g : Trail C) → t.stops g.scene.callee ≡ true → slices t L g ≡ g
slices-stopped t [] g e = refl
slices-stopped t (x ∷ more) g e = ap (slices t more) (tried-stopped t (t.retries g.scene.callee) x g e) ∙ slices-stopped t more g e

-- what each attempt keeps is kept by slices
pub tried-keeps : {C X V : Type 0} (t : Tests C X V) (P : Trail C → Type 0) → ((may : Bool) (x : X) (g : Trail C) → P g → P (after_attempt t may g x)) → (n : ℕ) (x : X) (g : Trail C) → P g → P (tried t n x g)
tried-keeps t P step zero x g p = cond_case P (t.stops g.scene.callee) g (after_attempt t false g x) p (step false x g p)
tried-keeps t P step (suc n) x g p =
    let z = after_attempt t true g x in
    let some = is_some (next_attempt t true g x).verdict in
    cond_case P (t.stops g.scene.callee) g (cond some z (tried t n x z)) p (cond_case P some z (tried t n x z) (step true x g p) (tried-keeps t P step n x z (step true x g p)))

pub slices-keeps : {C X V : Type 0} (t : Tests C X V) (P : Trail C → Type 0) → ((may : Bool) (x : X) (g : Trail C) → P g → P (after_attempt t may g x)) → (L : List X) (g : Trail C) → P g → P (slices t L g)
slices-keeps t P step [] g p = p
slices-keeps t P step (x ∷ more) g p = slices-keeps t P step more (tried t (t.retries g.scene.callee) x g) (tried-keeps t P step (t.retries g.scene.callee) x g p)

-- Where no attempt lets a stopped module go on, slices behind which the module is not stopped are those of one that never stops.
abbrev pub StaysStopped : {C X V : Type 0} → Tests C X V → Type 0
StaysStopped {C} {X} t = (may : Bool) (x : X) (g : Trail C) → t.stops ((after_attempt t may g x).scene.callee) ≡ false → t.stops g.scene.callee ≡ false

slices-unstopped : {C X V : Type 0} (t : Tests C X V) → StaysStopped t → (L : List X) (g : Trail C) → t.stops ((slices t L g).scene.callee) ≡ false → t.stops g.scene.callee ≡ false
slices-unstopped {C} t stays L g = slices-keeps t (λ (h : Trail C). t.stops h.scene.callee ≡ false → t.stops g.scene.callee ≡ false) (λ may x h k e. k (stays may x h e)) L g (λ e. e)

not_both : {x : Bool} → x ≡ true → x ≡ false → ⊥
not_both e f = (let h : true ≡ false = sym e ∙ f in cc)

tried-whole : {C X V : Type 0} (t : Tests C X V) (n : ℕ) (x : X) (g : Trail C) → t.stops ((tried t n x g).scene.callee) ≡ false → tried t n x g ≡ tried (unstopped t) n x g
tried-whole t zero x g e = of (t.stops g.scene.callee) refl e
  where
    of : (m : Bool) → t.stops g.scene.callee ≡ m → t.stops ((cond m g (after_attempt t false g x)).scene.callee) ≡ false → cond m g (after_attempt t false g x) ≡ after_attempt (unstopped t) false g x
    of true is e = absurd (not_both is e)
    of false is e = refl
tried-whole t (suc n) x g e = of (t.stops g.scene.callee) refl (tried-whole t n x (after_attempt t true g x)) e
  where
    next : (b : Bool) → (t.stops ((tried t n x (after_attempt t true g x)).scene.callee) ≡ false → tried t n x (after_attempt t true g x) ≡ tried (unstopped t) n x (after_attempt t true g x))
        → t.stops ((cond b (after_attempt t true g x) (tried t n x (after_attempt t true g x))).scene.callee) ≡ false
        → cond b (after_attempt t true g x) (tried t n x (after_attempt t true g x)) ≡ cond b (after_attempt (unstopped t) true g x) (tried (unstopped t) n x (after_attempt (unstopped t) true g x))
    next true more e = refl
    next false more e = more e

    of : (m : Bool) → t.stops g.scene.callee ≡ m → (t.stops ((tried t n x (after_attempt t true g x)).scene.callee) ≡ false → tried t n x (after_attempt t true g x) ≡ tried (unstopped t) n x (after_attempt t true g x))
        → t.stops ((cond m g (cond (is_some (next_attempt t true g x).verdict) (after_attempt t true g x) (tried t n x (after_attempt t true g x)))).scene.callee) ≡ false
        → cond m g (cond (is_some (next_attempt t true g x).verdict) (after_attempt t true g x) (tried t n x (after_attempt t true g x)))
        ≡ cond (is_some (next_attempt (unstopped t) true g x).verdict) (after_attempt (unstopped t) true g x) (tried (unstopped t) n x (after_attempt (unstopped t) true g x))
    of true is more e = absurd (not_both is e)
    of false is more e = next (is_some (next_attempt t true g x).verdict) more e

pub slices-whole : {C X V : Type 0} (t : Tests C X V) → StaysStopped t → (L : List X) (g : Trail C) → t.stops ((slices t L g).scene.callee) ≡ false → slices t L g ≡ slices (unstopped t) L g
slices-whole t stays [] g e = refl
slices-whole t stays (x ∷ more) g e =
    let n = t.retries g.scene.callee in
    let h = tried t n x g in
    slices-whole t stays more h e ∙ ap (slices (unstopped t) more) (tried-whole t n x g (slices-unstopped t stays more h e))

-- a relation that serving and each step of the module keep is kept by the event
pub record KeepsIn {C X V : Type 0} (r : Running C X V) (R : C → C → Type 0) : Type 0 where
  pub kept : IsKept r.tests.table R
  pub taken : (c : C) (x : X) (v : V) (failed : Bool) → R c (r.tests.taken c x v failed)
  pub cleared : (c : C) → R c (r.cleared c)
  pub inside : (c : C) → R c (r.inside c)
  pub back : (o c : C) → R c (r.back o c)

pub event-keeps : {C X V : Type 0} (r : Running C X V) (R : C → C → Type 0) → KeepsIn r R → (s : Scene C) → R s.callee ((event r s).after.callee)
event-keeps {C} {X} {V} r R k s =
    let t = r.tests in
    let first : Scene C = scene s.board (r.cleared s.callee) s.log in
    let o = opened r s in
    let i = (entered r o).scene.callee in
    let z = (ran r o).scene in
    let y = returned r o z in
    let a = k.kept.both s.callee first.callee o.callee (k.cleared s.callee) (due_served-moves t.table R k.kept s.board.left first) in
    let b = k.kept.both o.callee i z.callee (k.inside o.callee) (slices-keeps t (λ g. R i g.scene.callee) (step i) (r.work o.callee) (entered r o) (k.kept.none i)) in
    let c = k.kept.both z.callee y.callee _ (k.back o.callee z.callee) (left_served-moves t.table R k.kept z.board.left y) in
    k.kept.both s.callee o.callee _ a (k.kept.both o.callee z.callee _ b c)
  where
    one : (c : C) (x : X) (failed : Bool) (v : Option V) → R c (taken_by r.tests c x failed v)
    one c x failed None = k.kept.none c
    one c x failed (Some v) = k.taken c x v failed

    step : (i : C) (may : Bool) (x : X) (g : Trail C) → R i g.scene.callee → R i ((after_attempt r.tests may g x).scene.callee)
    step i may x g p =
        let mid = scene_behind r.tests may g x in
        k.kept.both i mid.callee _ (k.kept.both i g.scene.callee mid.callee p (one g.scene.callee x g.failed (next_attempt r.tests may g x).verdict))
        (due_served-moves r.tests.table R k.kept mid.board.left mid)

-- the same of a call by rows
pub row-keeps : {C X V : Type 0} (cleared : C → C) (row : C → Cell C X) (t : Tests C X V) (R : C → C → Type 0) → IsKept t.table R → ((c : C) (x : X) (v : V) (failed : Bool) → R c (t.taken c x v failed))
    → ((c : C) → R c (cleared c)) → ((c : C) → CellKeeps R c (row c)) → (s : Scene C) → R s.callee ((event (by_row cleared row t) s).after.callee)
row-keeps cleared row t R kept taken clears cells s =
    event-keeps (by_row cleared row t) R (record { kept = kept; taken = taken; cleared = clears; inside = λ c. ((cells c).1 c).0; back = λ o c. ((cells o).1 c).1 }) s

-- ---- attempts that come to the same

operated_all-fault : {C : Type 0} (t : Table C) (ops : List HandlerOp) (s : Scene C) → (operated_all t ops s).board.fault ≡ s.board.fault
operated_all-fault t [] s = refl
operated_all-fault t (op ∷ ops) s = operated_all-fault t ops (operated t s op)

due_served-fault : {C : Type 0} (t : Table C) (rs : List Request) (s : Scene C) → (due_served t rs s).board.fault ≡ s.board.fault
due_served-fault t [] s = refl
due_served-fault {C} t (r ∷ rs) s =
    let z = served t r (s.board.count - r.offset) s in
    cond_case (λ (x : Scene C). x.board.fault ≡ s.board.fault) (leb r.offset s.board.count) (due_served t rs z) s (due_served-fault t rs z ∙ operated_all-fault t r.ops.items _) refl

-- What holds of a module, whatever its handlers call and however its slices end.
pub record IsInvariant {C X V : Type 0} (t : Tests C X V) (I : C → Type 0) : Type 0 where
  pub taken : (c : C) (x : X) (v : V) (failed : Bool) → I c → I (t.taken c x v failed)
  pub row : (c : C) (call : HandlerCall) → I c → I (t.table.next c call)

-- a board without a fault, under such a module
pub record IsSoundScene {C : Type 0} (I : C → Type 0) (s : Scene C) : Type 0 where
  pub fault : s.board.fault ≡ None
  pub callee : I s.callee

-- these attempts come to the same as those of the tests, on such scenes
abbrev pub AreAlike : {C X V : Type 0} → Tests C X V → (Bool → C → X → Board → Tried V) → (C → Type 0) → Type 0
AreAlike {C} {X} t f I = (may : Bool) (c : C) (x : X) (b : Board) → I c → b.fault ≡ None → t.attempt may c x b ≡ f may c x b

due_served-sound : {C X V : Type 0} (t : Tests C X V) (I : C → Type 0) → IsInvariant t I → (rs : List Request) (s : Scene C) → IsSoundScene I s → IsSoundScene I (due_served t.table rs s)
due_served-sound t I k rs s h = record {
  fault = due_served-fault t.table rs s ∙ h.fault;
  callee = due_served-moves t.table (λ a b. I a → I b) (record { none = λ c p. p; both = λ a b c p q i. q (p i); row = k.row }) rs s h.callee;
}

taken_by-sound : {C X V : Type 0} (t : Tests C X V) (I : C → Type 0) → IsInvariant t I → (c : C) (x : X) (failed : Bool) (v : Option V) → I c → I (taken_by t c x failed v)
taken_by-sound t I k c x failed None h = h
taken_by-sound t I k c x failed (Some v) h = k.taken c x v failed h

after_attempt-sound : {C X V : Type 0} (t : Tests C X V) (I : C → Type 0) → IsInvariant t I → (may : Bool) (x : X) (g : Trail C) → IsSoundScene I g.scene → IsSoundScene I (after_attempt t may g x).scene
after_attempt-sound t I k may x g h =
    let mid = scene_behind t may g x in
    due_served-sound t I k mid.board.left mid (record { fault = h.fault; callee = taken_by-sound t I k g.scene.callee x g.failed (next_attempt t may g x).verdict h.callee })

-- what an attempt leaves, by what it came to
abbrev left_of : {C X V : Type 0} → Tests C X V → Bool → Trail C → X → Tried V → Trail C
left_of t may g x a = record {
  scene = serve_due t.table (scene (attempted a g.scene.board) (taken_by t g.scene.callee x g.failed a.verdict) g.scene.log);
  failed = failed_by t x g.failed a.verdict;
  touches = g.touches ++ a.touches;
  attempts = g.attempts ++ (record { finish = g.scene.board.count + a.count; made = a.count; whole = t.hold g.scene.callee x; restores = if may then t.restores g.scene.callee x else None }) ∷ [];
}

tried-alike : {C X V : Type 0} (t : Tests C X V) (f : Bool → C → X → Board → Tried V) (I : C → Type 0) → IsInvariant t I → AreAlike t f I → (n : ℕ) (x : X) (g : Trail C) → IsSoundScene I g.scene
    → tried t n x g ≡ tried (record t { attempt = f }) n x g
tried-alike {C} {X} {V} t f I k alike zero x g h =
    ap (λ (a : Tried V). cond (t.stops g.scene.callee) g (left_of t false g x a)) (alike false g.scene.callee x g.scene.board h.callee h.fault)
tried-alike {C} {X} {V} t f I k alike (suc n) x g h =
    let e = alike true g.scene.callee x g.scene.board h.callee h.fault in
    let z = after_attempt t true g x in
    ap (λ (y : Trail C). cond (t.stops g.scene.callee) g (cond (is_some (next_attempt t true g x).verdict) z y)) (tried-alike t f I k alike n x z (after_attempt-sound t I k true x g h))
    ∙ ap (λ (a : Tried V). cond (t.stops g.scene.callee) g (cond (is_some a.verdict) (left_of t true g x a) (tried (record t { attempt = f }) n x (left_of t true g x a)))) e

pub slices-alike : {C X V : Type 0} (t : Tests C X V) (f : Bool → C → X → Board → Tried V) (I : C → Type 0) → IsInvariant t I → AreAlike t f I → (L : List X) (g : Trail C) → IsSoundScene I g.scene
    → slices t L g ≡ slices (record t { attempt = f }) L g
slices-alike t f I k alike [] g h = refl
slices-alike {C} t f I k alike (x ∷ more) g h =
    let n = t.retries g.scene.callee in
    slices-alike t f I k alike more (tried t n x g) (tried-keeps t (λ (y : Trail C). IsSoundScene I y.scene) (λ may x y p. after_attempt-sound t I k may x y p) n x g h)
    ∙ ap (slices (record t { attempt = f }) more) (tried-alike t f I k alike n x g h)

-- A call keeps what holds of its module, up to its slices.
pub record EntersSound {C X V : Type 0} (r : Running C X V) (I : C → Type 0) : Type 0 where
  pub tests : IsInvariant r.tests I
  pub cleared : (c : C) → I c → I (r.cleared c)
  pub inside : (c : C) → I c → I (r.inside c)

-- from just after boundary 0 the slices come to the same
pub ran-alike : {C X V : Type 0} (r : Running C X V) (f : Bool → C → X → Board → Tried V) (I : C → Type 0) → EntersSound r I → AreAlike r.tests f I → (s : Scene C) → IsSoundScene I s
    → ran r (opened r s) ≡ ran (exchanged r f) (opened (exchanged r f) s)
ran-alike {C} r f I k alike s h =
    let first : Scene C = scene s.board (r.cleared s.callee) s.log in
    let o = opened r s in
    let sound = due_served-sound r.tests I k.tests s.board.left first (record { fault = h.fault; callee = k.cleared s.callee h.callee }) in
    slices-alike r.tests f I k.tests alike (r.work o.callee) (entered r o) (record { fault = sound.fault; callee = k.inside o.callee sound.callee })

pub event-alike : {C X V : Type 0} (r : Running C X V) (f : Bool → C → X → Board → Tried V) (I : C → Type 0) → EntersSound r I → AreAlike r.tests f I → (s : Scene C) → IsSoundScene I s
    → event r s ≡ event (exchanged r f) s
event-alike {C} r f I k alike s h =
    let o = opened r s in
    ap (λ (g : Trail C). let e : Outcome C = record { after = closed r o g.scene; reply = r.reply o.callee g.scene.board.count } in e) (ran-alike r f I k alike s h)
