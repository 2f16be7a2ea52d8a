-- Events of a module whose slices all pass: what holds of the module stays, and no entry is an alarm.
use Rattle.std.proofs.Common.{ℕ, zero, suc, ◌≡◌, ◌+◌, ◌-◌, Bool, true, false, cond, List, [], ◌∷◌, Option, Some, None, refl}
use Rattle.std.specs.Prelude.{All, is_some, leb}
use Rattle.std.proofs.lemmas.List.Elements.{All-push, All-head, All-tail}
use Rattle.mt_fault.specs.declared.fault.Fault.{Fault}
use Rattle.mt_port.specs.Board.{Board, op_answer}
use Rattle.mt_port.specs.declared.request.Answer.{Answer}
use Rattle.mt_port.specs.declared.request.Answer.TheVariants as answers
use Rattle.mt_port.specs.declared.request.HandlerCall.{HandlerCall}
use Rattle.mt_port.specs.declared.request.HandlerOp.{HandlerOp}
use Rattle.mt_port.specs.declared.request.HandlerOp.TheVariants.{App, Call}
use Rattle.mt_port.specs.declared.request.Request.{Request}
use Rattle.mt_window.specs.declared.log.Entry.{Entry}
use Rattle.mt_window.specs.declared.log.Entry.TheVariants.{Served, Inner}
use Rattle.mt_window.specs.Kept.{cond_case}
use Rattle.mt_window.specs.Serving.{Table, Scene, scene, given, operated, operated_all, served, due_served, left_served}
use Rattle.mt_window.specs.Slices.{Tests, Trail, taken_by, failed_by, next_attempt, scene_behind, after_attempt, tried, slices}
use Rattle.mt_window.specs.Events.{Running as Events, event as event_of, opened, entered, ran, returned}
use Rattle.mt_window.specs.Rows.{Cell, Refuses, Goes, Answers, Rests, Runs, reply_in, next_in, inside_of, back_from}
use Rattle.mt_laws.specs.Alarms.{HasNoAlarm, is_alarm, reports_failure, shows_failure}

-- what holds of a board by its fault and its flash, which no running call changes
abbrev pub Premise : Type 1
Premise = Option Fault → List ℕ → Type 0

abbrev pub On : Premise → Board → Type 0
On B b = B b.fault b.flash

-- ---- cells of a table

-- a cell keeps what holds of its module, and answers no failure
abbrev pub CalmCell : {C X : Type 0} → (C → Type 0) → Cell C X → Type 0
CalmCell I (Refuses why) = Unit {0}
CalmCell I (Goes next) = I next
CalmCell I (Answers what) = shows_failure what ≡ false
CalmCell I Rests = Unit {0}
CalmCell {C} I (Runs work inside back) = (c : C) → I c → I (inside c) × I (back c)

pub cell_next : {C X : Type 0} (I : C → Type 0) (cell : Cell C X) (c : C) → CalmCell I cell → I c → I (next_in cell c)
cell_next I (Refuses why) c calm h = h
cell_next I (Goes next) c calm h = calm
cell_next I (Answers what) c calm h = h
cell_next I Rests c calm h = h
cell_next I (Runs work inside back) c calm h = h

pub cell_reply : {C X : Type 0} (I : C → Type 0) (cell : Cell C X) (made : ℕ) → CalmCell I cell → reports_failure (reply_in cell made) ≡ false
cell_reply I (Refuses why) made calm = refl
cell_reply I (Goes next) made calm = refl
cell_reply I (Answers what) made calm = calm
cell_reply I Rests made calm = refl
cell_reply I (Runs work inside back) made calm = refl

pub cell_inside : {C X : Type 0} (I : C → Type 0) (cell : Cell C X) (c : C) → CalmCell I cell → I c → I (inside_of cell c)
cell_inside I (Refuses why) c calm h = h
cell_inside I (Goes next) c calm h = h
cell_inside I (Answers what) c calm h = h
cell_inside I Rests c calm h = h
cell_inside I (Runs work inside back) c calm h = (calm c h).0

pub cell_back : {C X : Type 0} (I : C → Type 0) (cell : Cell C X) (c : C) → CalmCell I cell → I c → I (back_from cell c)
cell_back I (Refuses why) c calm h = h
cell_back I (Goes next) c calm h = h
cell_back I (Answers what) c calm h = h
cell_back I Rests c calm h = h
cell_back I (Runs work inside back) c calm h = (calm c h).1

-- ---- handlers

-- each call of a handler keeps what holds of the module, and is answered without a failure
pub record CalmTable {C : Type 0} (t : Table C) (I : C → Type 0) : Type 0 where
  pub next : (c : C) (call : HandlerCall) → I c → I (t.next c call)
  pub reply : (c : C) (call : HandlerCall) → I c → reports_failure (t.reply c call) ≡ false

pub record IsCalmScene {C : Type 0} (B : Premise) (I : C → Type 0) (s : Scene C) : Type 0 where
  pub board : On B s.board
  pub callee : I s.callee
  pub log : HasNoAlarm s.log

given_calm : (a : Answer) → reports_failure (given a) ≡ false
given_calm answers.Done = refl
given_calm (answers.Word word) = refl

operated_calm : {C : Type 0} (t : Table C) (B : Premise) (I : C → Type 0) → CalmTable t I → (s : Scene C) (op : HandlerOp) → IsCalmScene B I s → IsCalmScene B I (operated t s op)
operated_calm t B I calm s (App op) h = record {
  board = h.board;
  callee = h.callee;
  log = All-push (λ (e : Entry). is_alarm e ≡ false) s.log (Inner (given (op_answer s.board op))) h.log (given_calm (op_answer s.board op));
}
operated_calm t B I calm s (Call call) h = record {
  board = h.board;
  callee = calm.next s.callee call h.callee;
  log = All-push (λ (e : Entry). is_alarm e ≡ false) s.log (Inner (t.reply s.callee call)) h.log (calm.reply s.callee call h.callee);
}

operated_all_calm : {C : Type 0} (t : Table C) (B : Premise) (I : C → Type 0) → CalmTable t I → (ops : List HandlerOp) (s : Scene C) → IsCalmScene B I s → IsCalmScene B I (operated_all t ops s)
operated_all_calm t B I calm [] s h = h
operated_all_calm t B I calm (op ∷ ops) s h = operated_all_calm t B I calm ops (operated t s op) (operated_calm t B I calm s op h)

served_calm : {C : Type 0} (t : Table C) (B : Premise) (I : C → Type 0) → CalmTable t I → (r : Request) (wait : ℕ) (s : Scene C) → IsCalmScene B I s → IsCalmScene B I (served t r wait s)
served_calm t B I calm r wait s h = operated_all_calm t B I calm r.ops.items _ (record {
  board = h.board;
  callee = h.callee;
  log = All-push (λ (e : Entry). is_alarm e ≡ false) s.log (Served (s.board.taken + 1) s.board.count wait) h.log refl;
})

due_served_calm : {C : Type 0} (t : Table C) (B : Premise) (I : C → Type 0) → CalmTable t I → (rs : List Request) (s : Scene C) → IsCalmScene B I s → IsCalmScene B I (due_served t rs s)
due_served_calm t B I calm [] s h = h
due_served_calm {C} t B I calm (r ∷ rs) s h =
    let z = served t r (s.board.count - r.offset) s in
    cond_case (λ (x : Scene C). IsCalmScene B I x) (leb r.offset s.board.count) (due_served t rs z) s (due_served_calm t B I calm rs z (served_calm t B I calm r (s.board.count - r.offset) s h)) h

left_served_calm : {C : Type 0} (t : Table C) (B : Premise) (I : C → Type 0) → CalmTable t I → (rs : List Request) (s : Scene C) → IsCalmScene B I s → IsCalmScene B I (left_served t rs s)
left_served_calm t B I calm [] s h = h
left_served_calm t B I calm (r ∷ rs) s h = left_served_calm t B I calm rs (served t r 0 s) (served_calm t B I calm r 0 s h)

-- ---- slices

-- Slices of which J holds pass on such a board: their end keeps what holds of the module, and no slice of the test has failed.
pub record CalmTests {C X V : Type 0} (t : Tests C X V) (B : Premise) (I : C → Type 0) (J : X → Type 0) : Type 0 where
  pub table : CalmTable t.table I
  pub taken : (may : Bool) (c : C) (x : X) (b : Board) (v : V) → I c → J x → On B b → (t.attempt may c x b).verdict ≡ Some v → I (t.taken c x v false) × (t.failed x v false ≡ false)

pub record IsCalmTrail {C : Type 0} (B : Premise) (I : C → Type 0) (g : Trail C) : Type 0 where
  pub scene : IsCalmScene B I g.scene
  pub failed : g.failed ≡ false

taken_calm : {C X V : Type 0} (t : Tests C X V) (B : Premise) (I : C → Type 0) (J : X → Type 0) → CalmTests t B I J → (may : Bool) (c : C) (x : X) (b : Board) (failed : Bool) (v : Option V) → I c → J x → On B b
    → failed ≡ false → (t.attempt may c x b).verdict ≡ v → I (taken_by t c x failed v) × (failed_by t x failed v ≡ false)
taken_calm t B I J calm may c x b failed None i j on e is = (i, e)
taken_calm t B I J calm may c x b failed (Some v) i j on e is = rw e (calm.taken may c x b v i j on is)

after_calm : {C X V : Type 0} (t : Tests C X V) (B : Premise) (I : C → Type 0) (J : X → Type 0) → CalmTests t B I J → (may : Bool) (x : X) (g : Trail C) → J x → IsCalmTrail B I g → IsCalmTrail B I (after_attempt t may g x)
after_calm t B I J calm may x g j h =
    let mid = scene_behind t may g x in
    let kept = taken_calm t B I J calm may g.scene.callee x g.scene.board g.failed (next_attempt t may g x).verdict h.scene.callee j h.scene.board h.failed refl in
    record {
      scene = due_served_calm t.table B I calm.table mid.board.left mid (record { board = h.scene.board; callee = kept.0; log = h.scene.log });
      failed = kept.1;
    }

tried_calm : {C X V : Type 0} (t : Tests C X V) (B : Premise) (I : C → Type 0) (J : X → Type 0) → CalmTests t B I J → (n : ℕ) (x : X) (g : Trail C) → J x → IsCalmTrail B I g → IsCalmTrail B I (tried t n x g)
tried_calm {C} t B I J calm zero x g j h = cond_case (λ (y : Trail C). IsCalmTrail B I y) (t.stops g.scene.callee) g (after_attempt t false g x) h (after_calm t B I J calm false x g j h)
tried_calm {C} t B I J calm (suc n) x g j h =
    let z = after_attempt t true g x in
    let some = is_some (next_attempt t true g x).verdict in
    let after = after_calm t B I J calm true x g j h in
    cond_case (λ (y : Trail C). IsCalmTrail B I y) (t.stops g.scene.callee) g (cond some z (tried t n x z)) h
    (cond_case (λ (y : Trail C). IsCalmTrail B I y) some z (tried t n x z) after (tried_calm t B I J calm n x z j after))

slices_calm : {C X V : Type 0} (t : Tests C X V) (B : Premise) (I : C → Type 0) (J : X → Type 0) → CalmTests t B I J → (work : List X) (g : Trail C) → All J work → IsCalmTrail B I g → IsCalmTrail B I (slices t work g)
slices_calm t B I J calm [] g all h = h
slices_calm t B I J calm (x ∷ more) g all h =
    slices_calm t B I J calm more (tried t (t.retries g.scene.callee) x g) (All-tail J x more all) (tried_calm t B I J calm (t.retries g.scene.callee) x g (All-head J x more all) h)

-- ---- a running call

pub record CalmCall {C X V : Type 0} (call : Events C X V) (B : Premise) (I : C → Type 0) (J : X → Type 0) : Type 0 where
  pub tests : CalmTests call.tests B I J
  pub cleared : (c : C) → I c → I (call.cleared c)
  pub work : (c : C) → I c → All J (call.work c)
  pub inside : (c : C) → I c → I (call.inside c)
  pub back : (o c : C) → I o → I c → I (call.back o c)
  pub reply : (o : C) (made : ℕ) → I o → reports_failure (call.reply o made) ≡ false

pub record IsCalmEvent {C X V : Type 0} (call : Events C X V) (B : Premise) (I : C → Type 0) (s : Scene C) : Type 0 where
  pub after : IsCalmScene B I ((event_of call s).after)
  pub reply : reports_failure ((event_of call s).reply) ≡ false

pub event_calm : {C X V : Type 0} (call : Events C X V) (B : Premise) (I : C → Type 0) (J : X → Type 0) → CalmCall call B I J → (s : Scene C) → IsCalmScene B I s → IsCalmEvent call B I s
event_calm {C} call B I J calm s h =
    let t = call.tests in
    let first : Scene C = scene s.board (call.cleared s.callee) s.log in
    let o = opened call s in
    let at = due_served_calm t.table B I calm.tests.table s.board.left first (record { board = h.board; callee = calm.cleared s.callee h.callee; log = h.log }) in
    let trail = slices_calm t B I J calm.tests (call.work o.callee) (entered call o) (calm.work o.callee at.callee)
    (record { scene = record { board = at.board; callee = calm.inside o.callee at.callee; log = at.log }; failed = refl }) in
    let z = (ran call o).scene in
    let y = returned call o z in
    record {
      after = left_served_calm t.table B I calm.tests.table z.board.left y (record { board = trail.scene.board; callee = calm.back o.callee z.callee at.callee trail.scene.callee; log = trail.scene.log });
      reply = calm.reply o.callee z.board.count at.callee;
    }
