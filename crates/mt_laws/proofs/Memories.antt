-- What the application finds in an event whose attempts leave the words, or fill slices.
use Rattle.std.proofs.Common.{ℕ, zero, suc, ◌≡◌, ◌≤◌, ◌+◌, ◌-◌, Bool, true, false, cond, List, [], ◌∷◌, ◌++◌, length, map, drop, All, Option, Some, None, refl, sym, ap, ◌∙◌, subst, arith, append_assoc, append-nil, length-append}
use Rattle.std.specs.Prelude.{nat_le, is_some}
use Rattle.std.proofs.lemmas.List.Elements.{All-nil, All-push, All-head, All-tail}
use Rattle.mt_seq.specs.declared.sequence.Slice.{Slice}
use Rattle.mt_seq.specs.Laws.{filled}
use Rattle.mt_blocks.specs.declared.config.ParamSet.{ParamSet}
use Rattle.mt_port.specs.declared.board.Shape.{Shape}
use Rattle.mt_fault.specs.declared.fault.Fault.{Fault}
use Rattle.mt_port.specs.declared.request.AppOp.{AppOp}
use Rattle.mt_port.specs.declared.request.AppOp.TheVariants as app
use Rattle.mt_port.specs.declared.request.Answer.{Answer}
use Rattle.mt_port.specs.declared.request.HandlerOp.{HandlerOp}
use Rattle.mt_port.specs.declared.request.HandlerOp.TheVariants.{App, Call}
use Rattle.mt_port.specs.declared.request.HandlerCall.{HandlerCall}
use Rattle.mt_port.specs.declared.request.Request.{Request}
use Rattle.mt_port.specs.Board.{Board, powered_up, op_words, op_answer}
use Rattle.mt_window.specs.declared.log.Entry.{Entry}
use Rattle.mt_window.specs.declared.log.Entry.TheVariants.{Served, Inner, Own}
use Rattle.mt_window.specs.declared.reply.Reply.{Reply}
use Rattle.mt_window.specs.Serving.{Table, Scene, scene, given, operated, operated_all, served, due_served, left_served, serve_due}
use Rattle.mt_window.specs.Slices.{Tests, Trail, taken_by, scene_behind, next_attempt, after_attempt, tried, slices}
use Rattle.mt_window.specs.Events.{Running, opened, entered, ran, returned, event}
use Rattle.mt_window.specs.Kept.{cond_case, IsInvariant, EntersSound, due_served-moves}
use Rattle.mt_laws.specs.Memory.{Deed, Operates, Fills, IsFillOf, IsDeedOf, plain, words_by_deed, words_after, answers_of, operations_among, fills_among, handled, operations_in, inner_replies, replies_in}

-- where the application began: the shape, the words and the flash, and the selected set
pub record Start : Type 0 where
  pub shape : Shape
  pub words : List ℕ
  pub flash : List ℕ
  pub set : ParamSet

abbrev words_at : Start → List Deed → List ℕ
words_at z deeds = words_after z.shape z.words z.flash deeds

abbrev answers_at : Start → List Deed → List Reply
answers_at z deeds = map given (answers_of z.shape z.words z.flash deeds)

-- Of all operations of handlers some were done, and the others are pending: so far the application found a plain memory, where slices were filled
-- at most so many times.
pub record Finds {C : Type 0} (z : Start) (most : ℕ) (all pending : List HandlerOp) (s : Scene C) : Type 0 where
  pub done : List HandlerOp
  pub rest : all ≡ done ++ pending
  pub entered : length (inner_replies s.log) ≡ length done
  pub deeds : List Deed
  pub operations : operations_among deeds ≡ operations_in done
  pub fills : All (IsDeedOf z.set) deeds
  pub few : fills_among deeds ≤ most
  pub answers : replies_in done (inner_replies s.log) ≡ answers_at z deeds
  pub words : s.board.words ≡ words_at z deeds
  pub fault : s.board.fault ≡ None
  pub shape : s.board.shape ≡ z.shape
  pub flash : s.board.flash ≡ z.flash

-- ---- lists

pub inner-append : (a b : List Entry) → inner_replies (a ++ b) ≡ inner_replies a ++ inner_replies b
inner-append [] b = refl
inner-append (Served number at wait ∷ a) b = inner-append a b
inner-append (Inner reply ∷ a) b = ap (λ (l : List Reply). reply ∷ l) (inner-append a b)
inner-append (Own reply ∷ a) b = inner-append a b

operations-append : (a b : List HandlerOp) → operations_in (a ++ b) ≡ operations_in a ++ operations_in b
operations-append [] b = refl
operations-append (App op ∷ a) b = ap (λ (l : List AppOp). op ∷ l) (operations-append a b)
operations-append (Call call ∷ a) b = operations-append a b

replies-append : (a b : List HandlerOp) (x y : List Reply) → length x ≡ length a → replies_in (a ++ b) (x ++ y) ≡ replies_in a x ++ replies_in b y
replies-append [] b [] y e = refl
replies-append [] b (r ∷ x) y e = absurd (omega (arith, e))
replies-append (App op ∷ a) b [] y e = absurd (omega (arith, e))
replies-append (App op ∷ a) b (r ∷ x) y e = ap (λ (l : List Reply). r ∷ l) (replies-append a b x y (omega (arith, e)))
replies-append (Call call ∷ a) b [] y e = absurd (omega (arith, e))
replies-append (Call call ∷ a) b (r ∷ x) y e = replies-append a b x y (omega (arith, e))

map-append : (a b : List Answer) → map given (a ++ b) ≡ map given a ++ map given b
map-append [] b = refl
map-append (x ∷ a) b = ap (λ (l : List Reply). given x ∷ l) (map-append a b)

-- ---- deeds

among-append : (a b : List Deed) → operations_among (a ++ b) ≡ operations_among a ++ operations_among b
among-append [] b = refl
among-append (Operates op ∷ a) b = ap (λ (l : List AppOp). op ∷ l) (among-append a b)
among-append (Fills slice word ∷ a) b = among-append a b

fills-append : (a b : List Deed) → fills_among (a ++ b) ≡ fills_among a + fills_among b
fills-append [] b = omega arith
fills-append (Operates op ∷ a) b = fills-append a b
fills-append (Fills slice word ∷ a) b = omega (arith, fills-append a b)

words-append : (shape : Shape) (words flash : List ℕ) (a b : List Deed) → words_after shape words flash (a ++ b) ≡ words_after shape (words_after shape words flash a) flash b
words-append shape words flash [] b = refl
words-append shape words flash (deed ∷ a) b = words-append shape (words_by_deed shape words flash deed) flash a b

answers-append : (shape : Shape) (words flash : List ℕ) (a b : List Deed)
    → answers_of shape words flash (a ++ b) ≡ answers_of shape words flash a ++ answers_of shape (words_after shape words flash a) flash b
answers-append shape words flash [] b = refl
answers-append shape words flash (Operates op ∷ a) b = ap (λ (l : List Answer). op_answer (plain shape words flash) op ∷ l) (answers-append shape (words_by_deed shape words flash (Operates op)) flash a b)
answers-append shape words flash (Fills slice word ∷ a) b = answers-append shape (words_by_deed shape words flash (Fills slice word)) flash a b

answers-more : (z : Start) (deeds : List Deed) (deed : Deed) → answers_at z (deeds ++ deed ∷ []) ≡ answers_at z deeds ++ map given (answers_of z.shape (words_at z deeds) z.flash (deed ∷ []))
answers-more z deeds deed =
    ap (λ (l : List Answer). map given l) (answers-append z.shape z.words z.flash deeds (deed ∷ []))
    ∙ map-append (answers_of z.shape z.words z.flash deeds) (answers_of z.shape (words_at z deeds) z.flash (deed ∷ []))

same-operations : (done : List HandlerOp) (call : HandlerCall) → operations_in (done ++ Call call ∷ []) ≡ operations_in done
same-operations done call = operations-append done (Call call ∷ []) ∙ append-nil (operations_in done)

-- ---- one operation

-- a board without a fault does what a plain memory does that holds its words
words-none : (b : Board) (op : AppOp) → op_words (record b { fault = None }) op ≡ op_words (plain b.shape b.words b.flash) op
unfolding powered_up
words-none b (app.Read a) = refl
words-none b (app.Write a x) = refl
words-none b (app.Add a x) = refl
words-none b (app.Copy src dst) = refl
words-none b (app.Flash a) = refl

answer-none : (b : Board) (op : AppOp) → op_answer (record b { fault = None }) op ≡ op_answer (plain b.shape b.words b.flash) op
unfolding powered_up
answer-none b (app.Read a) = refl
answer-none b (app.Write a x) = refl
answer-none b (app.Add a x) = refl
answer-none b (app.Copy src dst) = refl
answer-none b (app.Flash a) = refl

pub words-plain : (b : Board) (op : AppOp) → b.fault ≡ None → op_words b op ≡ op_words (plain b.shape b.words b.flash) op
words-plain b op e = ap (λ (f : Option Fault). op_words (record b { fault = f }) op) e ∙ words-none b op

pub answer-plain : (b : Board) (op : AppOp) → b.fault ≡ None → op_answer b op ≡ op_answer (plain b.shape b.words b.flash) op
answer-plain b op e = ap (λ (f : Option Fault). op_answer (record b { fault = f }) op) e ∙ answer-none b op

-- the same, where shape and flash are those of the start
words-found : (z : Start) (b : Board) (op : AppOp) → b.fault ≡ None → b.shape ≡ z.shape → b.flash ≡ z.flash → op_words b op ≡ op_words (plain z.shape b.words z.flash) op
words-found z b op fault shape flash =
    words-plain b op fault ∙ ap (λ (s : Shape). op_words (plain s b.words b.flash) op) shape ∙ ap (λ (f : List ℕ). op_words (plain z.shape b.words f) op) flash

answer-found : (z : Start) (b : Board) (op : AppOp) → b.fault ≡ None → b.shape ≡ z.shape → b.flash ≡ z.flash → op_answer b op ≡ op_answer (plain z.shape b.words z.flash) op
answer-found z b op fault shape flash =
    answer-plain b op fault ∙ ap (λ (s : Shape). op_answer (plain s b.words b.flash) op) shape ∙ ap (λ (f : List ℕ). op_answer (plain z.shape b.words f) op) flash

-- ---- one operation of a handler

pub moved : (a done : List HandlerOp) (op : HandlerOp) (more : List HandlerOp) → a ≡ done ++ op ∷ more → a ≡ (done ++ op ∷ []) ++ more
moved a done op more e = e ∙ sym (append_assoc done (op ∷ []) more)

pub counted : (done : List HandlerOp) (op : HandlerOp) (log : List Entry) (reply : Reply) → length (inner_replies log) ≡ length done
    → length (inner_replies (log ++ Inner reply ∷ [])) ≡ length (done ++ op ∷ [])
counted done op log reply e =
    ap (λ (l : List Reply). length l) (inner-append log (Inner reply ∷ [])) ∙ length-append (inner_replies log) (reply ∷ []) ∙ ap (λ (n : ℕ). n + 1) e ∙ sym (length-append done (op ∷ []))

replied : (done : List HandlerOp) (op : HandlerOp) (log : List Entry) (reply : Reply) → length (inner_replies log) ≡ length done
    → replies_in (done ++ op ∷ []) (inner_replies (log ++ Inner reply ∷ [])) ≡ replies_in done (inner_replies log) ++ replies_in (op ∷ []) (reply ∷ [])
replied done op log reply e =
    ap (λ (l : List Reply). replies_in (done ++ op ∷ []) l) (inner-append log (Inner reply ∷ [])) ∙ replies-append done (op ∷ []) (inner_replies log) (reply ∷ []) e

operated-finds : {C : Type 0} (t : Table C) (z : Start) (most : ℕ) (all : List HandlerOp) (op : HandlerOp) (more : List HandlerOp) (s : Scene C)
    → Finds z most all (op ∷ more) s → Finds z most all more (operated t s op)
operated-finds t z most all (App op) more s h = record {
  done = h.done ++ App op ∷ [];
  rest = moved all h.done (App op) more h.rest;
  entered = counted h.done (App op) s.log (given (op_answer s.board op)) h.entered;
  deeds = h.deeds ++ Operates op ∷ [];
  operations = among-append h.deeds (Operates op ∷ []) ∙ ap (λ (l : List AppOp). l ++ op ∷ []) h.operations ∙ sym (operations-append h.done (App op ∷ []));
  fills = All-push (IsDeedOf z.set) h.deeds (Operates op) h.fills tt;
  few = omega (arith, h.few, fills-append h.deeds (Operates op ∷ []));
  answers =
      replied h.done (App op) s.log (given (op_answer s.board op)) h.entered
      ∙ ap (λ (l : List Reply). l ++ given (op_answer s.board op) ∷ []) h.answers
      ∙ ap (λ (a : Answer). answers_at z h.deeds ++ given a ∷ []) (answer-found z s.board op h.fault h.shape h.flash ∙ ap (λ (w : List ℕ). op_answer (plain z.shape w z.flash) op) h.words)
      ∙ sym (answers-more z h.deeds (Operates op));
  words =
      words-found z s.board op h.fault h.shape h.flash ∙ ap (λ (w : List ℕ). op_words (plain z.shape w z.flash) op) h.words
      ∙ sym (words-append z.shape z.words z.flash h.deeds (Operates op ∷ []));
  fault = h.fault;
  shape = h.shape;
  flash = h.flash;
}
operated-finds t z most all (Call call) more s h = record {
  done = h.done ++ Call call ∷ [];
  rest = moved all h.done (Call call) more h.rest;
  entered = counted h.done (Call call) s.log (t.reply s.callee call) h.entered;
  deeds = h.deeds;
  operations = h.operations ∙ sym (same-operations h.done call);
  fills = h.fills;
  few = h.few;
  answers = replied h.done (Call call) s.log (t.reply s.callee call) h.entered ∙ append-nil (replies_in h.done (inner_replies s.log)) ∙ h.answers;
  words = h.words;
  fault = h.fault;
  shape = h.shape;
  flash = h.flash;
}

operated_all-finds : {C : Type 0} (t : Table C) (z : Start) (most : ℕ) (all ops more : List HandlerOp) (s : Scene C) → Finds z most all (ops ++ more) s → Finds z most all more (operated_all t ops s)
operated_all-finds t z most all [] more s h = h
operated_all-finds t z most all (op ∷ ops) more s h = operated_all-finds t z most all ops more (operated t s op) (operated-finds t z most all op (ops ++ more) s h)

pub operated_all-left : {C : Type 0} (t : Table C) (ops : List HandlerOp) (s : Scene C) → (operated_all t ops s).board.left ≡ s.board.left
operated_all-left t [] s = refl
operated_all-left t (op ∷ ops) s = operated_all-left t ops (operated t s op)

-- ---- requests

-- these requests are left, and what their handlers do is pending
pub record Waits {C : Type 0} (z : Start) (most : ℕ) (all : List HandlerOp) (rs : List Request) (s : Scene C) : Type 0 where
  pub left : s.board.left ≡ rs
  pub finds : Finds z most all (handled rs) s

served-waits : {C : Type 0} (t : Table C) (z : Start) (most : ℕ) (all : List HandlerOp) (r : Request) (rs : List Request) (wait : ℕ) (s : Scene C)
    → Waits z most all (r ∷ rs) s → Waits z most all rs (served t r wait s)
served-waits {C} t z most all r rs wait s h =
    let f = h.finds in
    let b : Board = record (s.board) { left = drop 1 s.board.left; taken = s.board.taken + 1 } in
    let entry = Served (s.board.taken + 1) s.board.count wait in
    let mid : Scene C = scene b s.callee (s.log ++ entry ∷ []) in
    let same : inner_replies (s.log ++ entry ∷ []) ≡ inner_replies s.log = inner-append s.log (entry ∷ []) ∙ append-nil (inner_replies s.log) in
    let begins : Finds z most all (r.ops.items ++ handled rs) mid = record {
      done = f.done;
      rest = f.rest;
      entered = ap (λ (l : List Reply). length l) same ∙ f.entered;
      deeds = f.deeds;
      operations = f.operations;
      fills = f.fills;
      few = f.few;
      answers = ap (λ (l : List Reply). replies_in f.done l) same ∙ f.answers;
      words = f.words;
      fault = f.fault;
      shape = f.shape;
      flash = f.flash;
    } in
    record { left = operated_all-left t r.ops.items mid ∙ ap (λ (l : List Request). drop 1 l) h.left; finds = operated_all-finds t z most all r.ops.items (handled rs) mid begins }

-- some requests are left
pub record Goes {C : Type 0} (z : Start) (most : ℕ) (all : List HandlerOp) (s : Scene C) : Type 0 where
  pub left : List Request
  pub waits : Waits z most all left s

due_served-goes : {C : Type 0} (t : Table C) (z : Start) (most : ℕ) (all : List HandlerOp) (rs : List Request) (s : Scene C) → Waits z most all rs s → Goes z most all (due_served t rs s)
due_served-goes t z most all [] s h = record { left = []; waits = h }
due_served-goes {C} t z most all (r ∷ rs) s h =
    let next = served t r (s.board.count - r.offset) s in
    cond_case (λ (x : Scene C). Goes z most all x) (nat_le r.offset s.board.count) (due_served t rs next) s
    (due_served-goes t z most all rs next (served-waits t z most all r rs (s.board.count - r.offset) s h)) (record { left = r ∷ rs; waits = h })

left_served-finds : {C : Type 0} (t : Table C) (z : Start) (most : ℕ) (all : List HandlerOp) (rs : List Request) (s : Scene C) → Waits z most all rs s → Finds z most all [] (left_served t rs s)
left_served-finds t z most all [] s h = h.finds
left_served-finds t z most all (r ∷ rs) s h = left_served-finds t z most all rs (served t r 0 s) (served-waits t z most all r rs 0 s h)

serve-goes : {C : Type 0} (t : Table C) (z : Start) (most : ℕ) (all : List HandlerOp) (s : Scene C) → Goes z most all s → Goes z most all (serve_due t s)
serve-goes {C} t z most all s h =
    subst (λ (l : List Request). Goes z most all (due_served t l s)) (sym h.waits.left) (due_served-goes t z most all h.left s h.waits)

-- ---- an attempt

-- the words after an attempt: those before it, or these with the fill of a slice of a set
pub data IsLeft (set : ParamSet) (words new : List ℕ) : Type 0 where
  Same : new ≡ words → IsLeft set words new
  Filled : (slice : Slice) (word : ℕ) → IsFillOf set slice word → new ≡ filled words slice word → IsLeft set words new

behind-finds : {C : Type 0} (z : Start) (most : ℕ) (all pending : List HandlerOp) (s t : Scene C) → Finds z most all pending s → IsLeft z.set s.board.words t.board.words
    → t.log ≡ s.log → t.board.fault ≡ s.board.fault → t.board.shape ≡ s.board.shape → t.board.flash ≡ s.board.flash → Finds z (most + 1) all pending t
behind-finds z most all pending s t f (Same same) log fault shape flash = record {
  done = f.done;
  rest = f.rest;
  entered = ap (λ (l : List Entry). length (inner_replies l)) log ∙ f.entered;
  deeds = f.deeds;
  operations = f.operations;
  fills = f.fills;
  few = omega (arith, f.few);
  answers = ap (λ (l : List Entry). replies_in f.done (inner_replies l)) log ∙ f.answers;
  words = same ∙ f.words;
  fault = fault ∙ f.fault;
  shape = shape ∙ f.shape;
  flash = flash ∙ f.flash;
}
behind-finds z most all pending s t f (Filled slice word is new) log fault shape flash = record {
  done = f.done;
  rest = f.rest;
  entered = ap (λ (l : List Entry). length (inner_replies l)) log ∙ f.entered;
  deeds = f.deeds ++ Fills slice word ∷ [];
  operations = among-append f.deeds (Fills slice word ∷ []) ∙ append-nil (operations_among f.deeds) ∙ f.operations;
  fills = All-push (IsDeedOf z.set) f.deeds (Fills slice word) f.fills is;
  few = omega (arith, f.few, fills-append f.deeds (Fills slice word ∷ []));
  answers = ap (λ (l : List Entry). replies_in f.done (inner_replies l)) log ∙ f.answers ∙ sym (answers-more z f.deeds (Fills slice word) ∙ append-nil (answers_at z f.deeds));
  words = new ∙ ap (λ (w : List ℕ). filled w slice word) f.words ∙ sym (words-append z.shape z.words z.flash f.deeds (Fills slice word ∷ []));
  fault = fault ∙ f.fault;
  shape = shape ∙ f.shape;
  flash = flash ∙ f.flash;
}

-- ---- an event

-- Each attempt at some slices, on a board without a fault, leaves the words or fills its slice, where this holds of the module, whatever its handlers
-- call and however its slices end; and an event tests only such slices.
pub record LeavesWords {C X V : Type 0} (r : Running C X V) (I : C → Type 0) (J : X → Type 0) (set : ParamSet) : Type 0 where
  pub words : (may : Bool) (c : C) (x : X) (b : Board) → I c → J x → b.fault ≡ None → IsLeft set b.words (r.tests.attempt may c x b).words
  pub work : (c : C) → I c → All J (r.work c)

-- so far, behind so many attempts, the application found a plain memory
pub record Found {C : Type 0} (I : C → Type 0) (z : Start) (all : List HandlerOp) (g : Trail C) : Type 0 where
  pub goes : Goes z (length g.attempts) all g.scene
  pub holds : I g.scene.callee

serve-holds : {C X V : Type 0} (t : Tests C X V) (I : C → Type 0) → IsInvariant t I → (s : Scene C) → I s.callee → I (serve_due t.table s).callee
serve-holds t I k s h = due_served-moves t.table (λ a b. I a → I b) (record { none = λ c p. p; both = λ a b c p q i. q (p i); row = k.row }) s.board.left s h

taken-holds : {C X V : Type 0} (t : Tests C X V) (I : C → Type 0) → IsInvariant t I → (c : C) (x : X) (failed : Bool) (v : Option V) → I c → I (taken_by t c x failed v)
taken-holds t I k c x failed None h = h
taken-holds t I k c x failed (Some v) h = k.taken c x v failed h

attempt-found : {C X V : Type 0} (r : Running C X V) (I : C → Type 0) (J : X → Type 0) (z : Start) → LeavesWords r I J z.set → IsInvariant r.tests I
    → (all : List HandlerOp) (may : Bool) (x : X) (g : Trail C) → J x → Found I z all g → Found I z all (after_attempt r.tests may g x)
attempt-found {C} r I J z k kept all may x g j h =
    let t = r.tests in
    let n = length g.attempts in
    let mid = scene_behind t may g x in
    let w = h.goes.waits in
    let behind : Goes z (n + 1) all mid = record {
      left = h.goes.left;
      waits = record {
        left = w.left;
        finds = behind-finds z n all (handled h.goes.left) g.scene mid w.finds (k.words may g.scene.callee x g.scene.board h.holds j w.finds.fault) refl refl refl refl;
      };
    } in
    record {
      goes = subst (λ (m : ℕ). Goes z m all (serve_due t.table mid)) (sym (length-append g.attempts _)) (serve-goes t.table z (n + 1) all mid behind);
      holds = serve-holds t I kept mid (taken-holds t I kept g.scene.callee x g.failed (next_attempt t may g x).verdict h.holds);
    }

-- what each attempt at a slice keeps is kept by all attempts at it, and by those at slices of a list
tried-found : {C X V : Type 0} (t : Tests C X V) (P : Trail C → Type 0) (x : X) → ((may : Bool) (g : Trail C) → P g → P (after_attempt t may g x)) → (n : ℕ) (g : Trail C) → P g → P (tried t n x g)
tried-found t P x step zero g p = cond_case P (t.stops g.scene.callee) g (after_attempt t false g x) p (step false g p)
tried-found t P x step (suc n) g p =
    let z = after_attempt t true g x in
    let some = is_some (next_attempt t true g x).verdict in
    cond_case P (t.stops g.scene.callee) g (cond some z (tried t n x z)) p (cond_case P some z (tried t n x z) (step true g p) (tried-found t P x step n z (step true g p)))

slices-found : {C X V : Type 0} (t : Tests C X V) (P : Trail C → Type 0) (J : X → Type 0) → ((may : Bool) (x : X) (g : Trail C) → J x → P g → P (after_attempt t may g x))
    → (L : List X) (g : Trail C) → All J L → P g → P (slices t L g)
slices-found t P J step [] g j p = p
slices-found t P J step (x ∷ more) g j p =
    let n = t.retries g.scene.callee in
    slices-found t P J step more (tried t n x g) (All-tail J x more j) (tried-found t P x (λ may h. step may x h (All-head J x more j)) n g p)

-- An event whose attempts leave the words or fill slices, from a scene with an empty log: its handlers find a plain memory.
pub event-found : {C X V : Type 0} (r : Running C X V) (I : C → Type 0) (J : X → Type 0) (set : ParamSet) → LeavesWords r I J set → EntersSound r I
    → (s : Scene C) → s.log ≡ [] → s.board.fault ≡ None → I s.callee
    → Finds (record { shape = s.board.shape; words = s.board.words; flash = s.board.flash; set = set }) (length (ran r (opened r s)).attempts) (handled s.board.left) [] ((event r s).after)
event-found {C} r I J set k enters s fresh fault holds =
    let z : Start = record { shape = s.board.shape; words = s.board.words; flash = s.board.flash; set = set } in
    let all = handled s.board.left in
    let first : Scene C = scene s.board (r.cleared s.callee) s.log in
    let none : inner_replies s.log ≡ [] = ap (λ (l : List Entry). inner_replies l) fresh in
    let start : Goes z 0 all first = record {
      left = s.board.left;
      waits = record {
        left = refl;
        finds = record {
          done = [];
          rest = refl;
          entered = ap (λ (l : List Reply). length l) none;
          deeds = [];
          operations = refl;
          fills = All-nil (IsDeedOf set);
          few = omega arith;
          answers = refl;
          words = refl;
          fault = fault;
          shape = refl;
          flash = refl;
        };
      };
    } in
    let o = opened r s in
    let opens = serve-goes r.tests.table z 0 all first start in
    let opened-holds = serve-holds r.tests I enters.tests first (enters.cleared s.callee holds) in
    let inside : Found I z all (entered r o) = record { goes = with_callee o (r.inside o.callee) opens; holds = enters.inside o.callee opened-holds } in
    let runs = slices-found r.tests (λ (g : Trail C). Found I z all g) J (λ may x g j h. attempt-found r I J z k enters.tests all may x g j h) (r.work o.callee) (entered r o) (k.work o.callee opened-holds) inside in
    let n = length (ran r o).attempts in
    let y = returned r o (ran r o).scene in
    let back = with_callee (ran r o).scene (r.back o.callee (ran r o).scene.callee) runs.goes in
    subst (λ (l : List Request). Finds z n all [] (left_served r.tests.table l y)) (sym back.waits.left) (left_served-finds r.tests.table z n all back.left y back.waits)
  where
    with_callee : {z : Start} {most : ℕ} {all : List HandlerOp} (s : Scene C) (c : C) → Goes z most all s → Goes z most all (scene s.board c s.log)
    with_callee s c h = record {
      left = h.left;
      waits = record {
        left = h.waits.left;
        finds = record {
          done = h.waits.finds.done;
          rest = h.waits.finds.rest;
          entered = h.waits.finds.entered;
          deeds = h.waits.finds.deeds;
          operations = h.waits.finds.operations;
          fills = h.waits.finds.fills;
          few = h.waits.finds.few;
          answers = h.waits.finds.answers;
          words = h.waits.finds.words;
          fault = h.waits.finds.fault;
          shape = h.waits.finds.shape;
          flash = h.waits.finds.flash;
        };
      };
    }
