-- Events in which some calls of handlers are not to be accepted: either one was, or what held of the module holds. The RAM stays sound.
use Rattle.std.proofs.Common.{ℕ, ◌≡◌, ◌+◌, ◌-◌, ◌<◌, ◌^◌, Bool, true, false, List, [], ◌∷◌, ◌++◌, length, zip, drop, All, Contains, Option, refl, sym, ap, ◌∙◌, subst, arith, inl, inr, append-nil}
use Rattle.std.specs.Prelude.{◌⊎◌, nat_le}
use Rattle.std.proofs.Math.Nat.{mod-lt}
use Rattle.std.proofs.lemmas.List.Elements.{All-head, All-tail, All-push, Contains-append_left, Contains-push}
use Rattle.mt_word.specs.Word.{width_bits, Fits}
use Rattle.mt_fault.specs.History.{Read, Write}
use Rattle.mt_fault.specs.declared.fault.Fault.{Fault}
use Rattle.mt_port.specs.declared.board.Shape.{Shape}
use Rattle.mt_port.specs.declared.request.AppOp.{AppOp}
use Rattle.mt_port.specs.declared.request.AppOp.TheVariants as app
use Rattle.mt_port.specs.declared.request.HandlerCall.{HandlerCall}
use Rattle.mt_port.specs.declared.request.HandlerOp.{HandlerOp}
use Rattle.mt_port.specs.declared.request.HandlerOp.TheVariants.{App, Call}
use Rattle.mt_port.specs.declared.request.Request.{Request}
use Rattle.mt_port.specs.Board.{Board, IsSoundOp, IsSoundInHandler, memory_of, op_words, after, answered}
use Rattle.mt_cover.specs.Detection.{HasSoundWords}
use Rattle.mt_cover.specs.Inner.MemoryLaws.{AnswersFit, StaysSound, KeepsSize}
use Rattle.mt_window.specs.declared.log.Entry.{Entry}
use Rattle.mt_window.specs.declared.log.Entry.TheVariants.{Served, Inner}
use Rattle.mt_window.specs.declared.reply.Reply.{Reply}
use Rattle.mt_window.specs.declared.reply.Reply.TheVariants.{Done}
use Rattle.mt_window.specs.Serving.{Table, Scene, scene, operated, operated_all, served, due_served, left_served, serve_due, serve_left, reply_by}
use Rattle.mt_window.specs.Kept.{cond_case}
use Rattle.mt_laws.specs.Memory.{handled, inner_replies}
use Rattle.mt_laws.proofs.Memories.{inner-append, moved, counted, operated_all-left}

-- ---- the RAM

-- the laws of memory
pub record MemoryLaws : Type 0 where
  pub stays : StaysSound
  pub size : KeepsSize
  pub fits : AnswersFit

abbrev with_words : Board → List ℕ → Board
with_words b words = record b { words = words }

written : MemoryLaws → (b : Board) (a x : ℕ) → HasSoundWords b → Fits b.shape.width x → HasSoundWords (with_words b (after b.fault b.words (Write a x)))
written laws b a x sound fit =
    record { sized = laws.size b.fault b.words (Write a x ∷ []) ∙ sound.sized; memory = laws.stays (memory_of b) (Write a x ∷ []) sound.memory (fit, tt) }

read : MemoryLaws → (b : Board) (a : ℕ) → HasSoundWords b → HasSoundWords (with_words b (after b.fault b.words (Read a)))
read laws b a sound = record { sized = laws.size b.fault b.words (Read a ∷ []) ∙ sound.sized; memory = laws.stays (memory_of b) (Read a ∷ []) sound.memory tt }

answers : MemoryLaws → (b : Board) (a : ℕ) → HasSoundWords b → a < b.shape.ram → Fits b.shape.width (answered b.fault b.words a)
answers laws b a sound low = laws.fits (memory_of b) sound.memory a (omega (arith, low, sound.sized))

-- an operation of the application leaves the RAM sound
pub operation_sound : MemoryLaws → (b : Board) (op : AppOp) → HasSoundWords b → IsSoundOp b.shape op → HasSoundWords (with_words b (op_words b op))
operation_sound laws b (app.Read a) sound low = read laws b a sound
operation_sound laws b (app.Write a x) sound ok = written laws b a x sound ok.1
operation_sound laws b (app.Add a x) sound ok =
    written laws (with_words b (after b.fault b.words (Read a))) a _ (read laws b a sound) (mod-lt (answered b.fault b.words a + x) {m = 2 ^ width_bits b.shape.width} (omega (arith, ok.1)))
operation_sound laws b (app.Copy src dst) sound ok =
    written laws (with_words b (after b.fault b.words (Read src))) dst _ (read laws b src sound) (answers laws b src sound ok.0)
operation_sound laws b (app.Flash a) sound low = record { sized = sound.sized; memory = sound.memory }

-- ---- what handlers do

-- where an event began: the shape, the fault, and what its handlers do; which of their calls are not to be accepted, and which replies are wrong
pub record Handlers : Type 0 where
  pub shape : Shape
  pub fault : Option Fault
  pub all : List HandlerOp
  pub bad : HandlerCall → Bool
  pub wrong : HandlerCall → Reply → Bool

-- no reply is wrong, or none is and these calls are not to be accepted
abbrev pub NothingIsWrong : Handlers → Type 0
NothingIsWrong h = (call : HandlerCall) (reply : Reply) → h.wrong call reply ≡ false

pub record Watches (h : Handlers) (bad : HandlerCall → Bool) : Type 0 where
  pub calls : h.bad ≡ bad
  pub replies : NothingIsWrong h

-- a reply that isn't wrong
abbrev pub IsRight : Handlers → HandlerOp × Reply → Type 0
IsRight h (App op, reply) = Unit {0}
IsRight h (Call call, reply) = h.wrong call reply ≡ false

pub record HasBoard (h : Handlers) (b : Board) : Type 0 where
  pub shape : b.shape ≡ h.shape
  pub fault : b.fault ≡ h.fault
  pub sound : HasSoundWords b

-- one of these calls was accepted among what was done
pub record IsSpoiled (h : Handlers) (done : List HandlerOp) (log : List Entry) : Type 0 where
  pub call : HandlerCall
  pub bad : h.bad call ≡ true
  pub accepted : Contains (zip done (inner_replies log)) (Call call, Done)

-- Of all operations of handlers some were done, and the others are pending: the board is sound, this holds of the module, and that does and no reply was wrong,
-- or the event is spoiled.
pub record Goes {C : Type 0} (h : Handlers) (I P : C → Type 0) (pending : List HandlerOp) (s : Scene C) : Type 0 where
  pub done : List HandlerOp
  pub rest : h.all ≡ done ++ pending
  pub entered : length (inner_replies s.log) ≡ length done
  pub board : HasBoard h s.board
  pub ops : All (IsSoundInHandler h.shape) pending
  pub holds : I s.callee
  pub callee : IsSpoiled h done s.log ⊎ P s.callee
  pub told : IsSpoiled h done s.log ⊎ All (IsRight h) (zip done (inner_replies s.log))

-- what each row of the table keeps
pub record Rows {C : Type 0} (h : Handlers) (t : Table C) (I P : C → Type 0) : Type 0 where
  pub holds : (c : C) (call : HandlerCall) → I c → I (t.next c call)
  pub row : (c : C) (call : HandlerCall) → P c → ((h.bad call ≡ true) × (t.reply c call ≡ Done)) ⊎ P (t.next c call)
  pub right : (c : C) (call : HandlerCall) → P c → h.wrong call (t.reply c call) ≡ false

-- ---- lists

zip-push : {A B : Type 0} (xs : List A) (ys : List B) (x : A) (y : B) → length ys ≡ length xs → zip (xs ++ x ∷ []) (ys ++ y ∷ []) ≡ zip xs ys ++ (x, y) ∷ []
zip-push [] [] x y e = refl
zip-push [] (b ∷ ys) x y e = absurd (omega (arith, e))
zip-push (a ∷ xs) [] x y e = absurd (omega (arith, e))
zip-push {A} {B} (a ∷ xs) (b ∷ ys) x y e = ap (λ (l : List (A × B)). (a, b) ∷ l) (zip-push xs ys x y (omega (arith, e)))

paired : (done : List HandlerOp) (op : HandlerOp) (log : List Entry) (reply : Reply) → length (inner_replies log) ≡ length done
    → zip (done ++ op ∷ []) (inner_replies (log ++ Inner reply ∷ [])) ≡ zip done (inner_replies log) ++ (op, reply) ∷ []
paired done op log reply e = ap (λ (l : List Reply). zip (done ++ op ∷ []) l) (inner-append log (Inner reply ∷ [])) ∙ zip-push done (inner_replies log) op reply e

still_spoiled : (h : Handlers) (done : List HandlerOp) (op : HandlerOp) (log : List Entry) (reply : Reply) → length (inner_replies log) ≡ length done → IsSpoiled h done log
    → IsSpoiled h (done ++ op ∷ []) (log ++ Inner reply ∷ [])
still_spoiled h done op log reply e s = record {
  call = s.call;
  bad = s.bad;
  accepted =
      subst (λ (l : List (HandlerOp × Reply)). Contains l (Call s.call, Done)) (sym (paired done op log reply e))
      (Contains-append_left (zip done (inner_replies log)) ((op, reply) ∷ []) (Call s.call, Done) s.accepted);
}

newly_spoiled : (h : Handlers) (done : List HandlerOp) (call : HandlerCall) (log : List Entry) (reply : Reply) → length (inner_replies log) ≡ length done → h.bad call ≡ true → reply ≡ Done
    → IsSpoiled h (done ++ Call call ∷ []) (log ++ Inner reply ∷ [])
newly_spoiled h done call log reply e bad is = record {
  call = call;
  bad = bad;
  accepted =
      subst (λ (r : Reply). Contains (zip (done ++ Call call ∷ []) (inner_replies (log ++ Inner reply ∷ []))) (Call call, r)) is
      (subst (λ (l : List (HandlerOp × Reply)). Contains l (Call call, reply)) (sym (paired done (Call call) log reply e)) (Contains-push (zip done (inner_replies log)) (Call call, reply)));
}

more_right : (h : Handlers) (done : List HandlerOp) (op : HandlerOp) (log : List Entry) (reply : Reply) → length (inner_replies log) ≡ length done → All (IsRight h) (zip done (inner_replies log)) → IsRight h (op, reply)
    → All (IsRight h) (zip (done ++ op ∷ []) (inner_replies (log ++ Inner reply ∷ [])))
more_right h done op log reply e all right =
    subst (All (IsRight h)) (sym (paired done op log reply e)) (All-push (IsRight h) (zip done (inner_replies log)) (op, reply) all right)

-- ---- one operation of a handler

with_operation : MemoryLaws → (h : Handlers) (b : Board) (op : AppOp) (n : ℕ) → IsSoundOp h.shape op → HasBoard h b → HasBoard h (record b { words = op_words b op; operations = n })
with_operation laws h b op n ok board =
    let sound = operation_sound laws b op board.sound (subst (λ (z : Shape). IsSoundOp z op) (sym board.shape) ok) in
    record { shape = board.shape; fault = board.fault; sound = record { sized = sound.sized; memory = sound.memory } }

operated-goes : {C : Type 0} → MemoryLaws → (h : Handlers) (t : Table C) (I P : C → Type 0) → Rows h t I P → (op : HandlerOp) (more : List HandlerOp) (s : Scene C) → Goes h I P (op ∷ more) s
    → Goes h I P more (operated t s op)
operated-goes {C} laws h t I P rows (App op) more s g = record {
  done = g.done ++ App op ∷ [];
  rest = moved h.all g.done (App op) more g.rest;
  entered = counted g.done (App op) s.log _ g.entered;
  board = with_operation laws h s.board op _ (All-head (IsSoundInHandler h.shape) (App op) more g.ops) g.board;
  ops = All-tail (IsSoundInHandler h.shape) (App op) more g.ops;
  holds = g.holds;
  callee = of g.callee;
  told = tell g.told;
}
  where
    of : IsSpoiled h g.done s.log ⊎ P s.callee → IsSpoiled h (g.done ++ App op ∷ []) (s.log ++ Inner (reply_by t s.board s.callee (App op)) ∷ []) ⊎ P s.callee
    of (inl z) = inl (still_spoiled h g.done (App op) s.log _ g.entered z)
    of (inr p) = inr p

    tell : IsSpoiled h g.done s.log ⊎ All (IsRight h) (zip g.done (inner_replies s.log))
        → IsSpoiled h (g.done ++ App op ∷ []) (s.log ++ Inner (reply_by t s.board s.callee (App op)) ∷ [])
        ⊎ All (IsRight h) (zip (g.done ++ App op ∷ []) (inner_replies (s.log ++ Inner (reply_by t s.board s.callee (App op)) ∷ [])))
    tell (inl z) = inl (still_spoiled h g.done (App op) s.log _ g.entered z)
    tell (inr all) = inr (more_right h g.done (App op) s.log _ g.entered all tt)
operated-goes {C} laws h t I P rows (Call call) more s g = record {
  done = g.done ++ Call call ∷ [];
  rest = moved h.all g.done (Call call) more g.rest;
  entered = counted g.done (Call call) s.log _ g.entered;
  board = record { shape = g.board.shape; fault = g.board.fault; sound = record { sized = g.board.sound.sized; memory = g.board.sound.memory } };
  ops = All-tail (IsSoundInHandler h.shape) (Call call) more g.ops;
  holds = rows.holds s.callee call g.holds;
  callee = of g.callee;
  told = tell g.callee g.told;
}
  where
    tell : IsSpoiled h g.done s.log ⊎ P s.callee → IsSpoiled h g.done s.log ⊎ All (IsRight h) (zip g.done (inner_replies s.log))
        → IsSpoiled h (g.done ++ Call call ∷ []) (s.log ++ Inner (t.reply s.callee call) ∷ [])
        ⊎ All (IsRight h) (zip (g.done ++ Call call ∷ []) (inner_replies (s.log ++ Inner (t.reply s.callee call) ∷ [])))
    tell (inl z) all = inl (still_spoiled h g.done (Call call) s.log (t.reply s.callee call) g.entered z)
    tell (inr p) (inl z) = inl (still_spoiled h g.done (Call call) s.log (t.reply s.callee call) g.entered z)
    tell (inr p) (inr all) = inr (more_right h g.done (Call call) s.log (t.reply s.callee call) g.entered all (rows.right s.callee call p))

    by_row : ((h.bad call ≡ true) × (t.reply s.callee call ≡ Done)) ⊎ P (t.next s.callee call)
        → IsSpoiled h (g.done ++ Call call ∷ []) (s.log ++ Inner (t.reply s.callee call) ∷ []) ⊎ P (t.next s.callee call)
    by_row (inl (bad, is)) = inl (newly_spoiled h g.done call s.log (t.reply s.callee call) g.entered bad is)
    by_row (inr p) = inr p

    of : IsSpoiled h g.done s.log ⊎ P s.callee → IsSpoiled h (g.done ++ Call call ∷ []) (s.log ++ Inner (t.reply s.callee call) ∷ []) ⊎ P (t.next s.callee call)
    of (inl z) = inl (still_spoiled h g.done (Call call) s.log (t.reply s.callee call) g.entered z)
    of (inr p) = by_row (rows.row s.callee call p)

operated_all-goes : {C : Type 0} → MemoryLaws → (h : Handlers) (t : Table C) (I P : C → Type 0) → Rows h t I P → (ops more : List HandlerOp) (s : Scene C) → Goes h I P (ops ++ more) s
    → Goes h I P more (operated_all t ops s)
operated_all-goes laws h t I P rows [] more s g = g
operated_all-goes laws h t I P rows (op ∷ ops) more s g = operated_all-goes laws h t I P rows ops more (operated t s op) (operated-goes laws h t I P rows op (ops ++ more) s g)

-- ---- requests

-- what the handlers of the requests left do is pending
abbrev pub Stands : {C : Type 0} → Handlers → (I P : C → Type 0) → Scene C → Type 0
Stands h I P s = Goes h I P (handled s.board.left) s

served-goes : {C : Type 0} → MemoryLaws → (h : Handlers) (t : Table C) (I P : C → Type 0) → Rows h t I P → (r : Request) (rs : List Request) (wait : ℕ) (s : Scene C)
    → Goes h I P (handled (r ∷ rs)) s → Goes h I P (handled rs) (served t r wait s)
served-goes {C} laws h t I P rows r rs wait s g =
    let b : Board = record (s.board) { left = drop 1 s.board.left; taken = s.board.taken + 1 } in
    let entry = Served (s.board.taken + 1) s.board.count wait in
    let mid : Scene C = scene b s.callee (s.log ++ entry ∷ []) in
    let same : inner_replies (s.log ++ entry ∷ []) ≡ inner_replies s.log = inner-append s.log (entry ∷ []) ∙ append-nil (inner_replies s.log) in
    let begins : Goes h I P (r.ops.items ++ handled rs) mid = record {
      done = g.done;
      rest = g.rest;
      entered = ap (λ (l : List Reply). length l) same ∙ g.entered;
      board = record { shape = g.board.shape; fault = g.board.fault; sound = record { sized = g.board.sound.sized; memory = g.board.sound.memory } };
      ops = g.ops;
      holds = g.holds;
      callee = of (s.log ++ entry ∷ []) same g.callee;
      told = tell (s.log ++ entry ∷ []) same g.told;
    } in
    operated_all-goes laws h t I P rows r.ops.items (handled rs) mid begins
  where
    longer : (log : List Entry) → inner_replies log ≡ inner_replies s.log → IsSpoiled h g.done s.log → IsSpoiled h g.done log
    longer log same z = record { call = z.call; bad = z.bad; accepted = subst (λ (l : List Reply). Contains (zip g.done l) (Call z.call, Done)) (sym same) z.accepted }

    of : (log : List Entry) → inner_replies log ≡ inner_replies s.log → IsSpoiled h g.done s.log ⊎ P s.callee → IsSpoiled h g.done log ⊎ P s.callee
    of log same (inl z) = inl (longer log same z)
    of log same (inr p) = inr p

    tell : (log : List Entry) → inner_replies log ≡ inner_replies s.log → IsSpoiled h g.done s.log ⊎ All (IsRight h) (zip g.done (inner_replies s.log))
        → IsSpoiled h g.done log ⊎ All (IsRight h) (zip g.done (inner_replies log))
    tell log same (inl z) = inl (longer log same z)
    tell log same (inr all) = inr (subst (λ (l : List Reply). All (IsRight h) (zip g.done l)) (sym same) all)

served-left : {C : Type 0} (t : Table C) (r : Request) (rs : List Request) (wait : ℕ) (s : Scene C) → s.board.left ≡ r ∷ rs → (served t r wait s).board.left ≡ rs
served-left {C} t r rs wait s e =
    let b : Board = record (s.board) { left = drop 1 s.board.left; taken = s.board.taken + 1 } in
    let mid : Scene C = scene b s.callee (s.log ++ Served (s.board.taken + 1) s.board.count wait ∷ []) in
    operated_all-left t r.ops.items mid ∙ ap (λ (l : List Request). drop 1 l) e

due_served-stands : {C : Type 0} → MemoryLaws → (h : Handlers) (t : Table C) (I P : C → Type 0) → Rows h t I P → (rs : List Request) (s : Scene C) → s.board.left ≡ rs → Stands h I P s → Stands h I P (due_served t rs s)
due_served-stands laws h t I P rows [] s e g = g
due_served-stands {C} laws h t I P rows (r ∷ rs) s e g =
    let wait = s.board.count - r.offset in
    let next = served t r wait s in
    let left = served-left t r rs wait s e in
    let goes = served-goes laws h t I P rows r rs wait s (subst (λ (l : List Request). Goes h I P (handled l) s) e g) in
    cond_case (λ (x : Scene C). Stands h I P x) (nat_le r.offset s.board.count) (due_served t rs next) s
    (due_served-stands laws h t I P rows rs next left (subst (λ (l : List Request). Goes h I P (handled l) next) (sym left) goes)) g

left_served-goes : {C : Type 0} → MemoryLaws → (h : Handlers) (t : Table C) (I P : C → Type 0) → Rows h t I P → (rs : List Request) (s : Scene C) → s.board.left ≡ rs → Goes h I P (handled rs) s
    → Goes h I P [] (left_served t rs s)
left_served-goes laws h t I P rows [] s e g = g
left_served-goes laws h t I P rows (r ∷ rs) s e g =
    left_served-goes laws h t I P rows rs (served t r 0 s) (served-left t r rs 0 s e) (served-goes laws h t I P rows r rs 0 s g)

-- a boundary, and an event's end
pub serve_due-stands : {C : Type 0} → MemoryLaws → (h : Handlers) (t : Table C) (I P : C → Type 0) → Rows h t I P → (s : Scene C) → Stands h I P s → Stands h I P (serve_due t s)
serve_due-stands laws h t I P rows s g = due_served-stands laws h t I P rows s.board.left s refl g

pub serve_left-goes : {C : Type 0} → MemoryLaws → (h : Handlers) (t : Table C) (I P : C → Type 0) → Rows h t I P → (s : Scene C) → Stands h I P s → Goes h I P [] (serve_left t s)
serve_left-goes laws h t I P rows s g = left_served-goes laws h t I P rows s.board.left s refl g
