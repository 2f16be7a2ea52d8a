-- The operations of handlers, one after another.
use Rattle.std.proofs.Common.{ℕ, suc, ◌+◌, ◌-◌, ◌%◌, ◌^◌, ◌<◌, ◌≤◌, ◌≡◌, Bool, leb, List, [], ◌∷◌, ◌++◌, drop, take, length, Some, refl, sym, ap, ◌∙◌, append_assoc, append-nil, length-append, arith, inl, inr}
use Rattle.std.specs.Prelude.{All, nat_le, filter, fold, slice_get}
use Rattle.std.proofs.Math.Nat.{add-mod-mod, add_comm}
use Rattle.std.proofs.Math.Seq.{take-append_seam}
use Rattle.std.proofs.lemmas.Bool.Decides.{leb_tells}
use Rattle.std.proofs.lemmas.List.Sums.{fold-append}
use Rattle.mt_port.specs.declared.request.AppOp.{AppOp}
use Rattle.mt_port.specs.declared.request.HandlerCall.{HandlerCall}
use Rattle.mt_port.specs.declared.request.HandlerOp.{HandlerOp}
use Rattle.mt_port.specs.declared.request.HandlerOp.TheVariants.{App, Call}
use Rattle.mt_port.specs.declared.request.Request.{Request}
use Rattle.mt_port.specs.Board.{Board, AreOrdered}
use Rattle.mt_window.specs.declared.log.Entry.{Entry}
use Rattle.mt_window.specs.declared.log.Entry.TheVariants.{Inner}
use Rattle.mt_window.specs.Serving.{Table, Scene, scene, operated, operated_all, reply_by, served, due_served, left_served}
use Rattle.mt_window.specs.Slices.{Tests, Trail, scene_behind, after_attempt, slices}
use Rattle.mt_window.specs.Events.{Running, opened, entered, ran, returned}
use Rattle.mt_window.specs.Handlers.{calls_in, apps_in, ops_of, called, applied, HandlersAreDone, CountsOperations, OpensWithDue, EndsWithLeft}
use Rattle.mt_window.specs.Kept.{cond_case, slices-keeps}
use Rattle.mt_window.proofs.Serving.{operated_all-keeps}

-- ---- one handler

board_step : {C : Type 0} (t : Table C) (s : Scene C) (op : HandlerOp) (ops : List HandlerOp) → applied ((operated t s op).board) ops ≡ applied s.board (op ∷ ops)
board_step t s (App op) ops = refl
board_step t s (Call call) ops = refl

callee_step : {C : Type 0} (t : Table C) (s : Scene C) (op : HandlerOp) (ops : List HandlerOp) → called t ((operated t s op).callee) ops ≡ called t s.callee (op ∷ ops)
callee_step t s (App op) ops = refl
callee_step t s (Call call) ops = refl

callee_done : {C : Type 0} (t : Table C) (ops : List HandlerOp) (s : Scene C) → (operated_all t ops s).callee ≡ called t s.callee ops
callee_done t [] s = refl
callee_done t (op ∷ ops) s = callee_done t ops (operated t s op) ∙ callee_step t s op ops

board_done : {C : Type 0} (t : Table C) (ops : List HandlerOp) (s : Scene C) → (operated_all t ops s).board ≡ applied s.board ops
board_done t [] s = refl
board_done t (op ∷ ops) s = board_done t ops (operated t s op) ∙ board_step t s op ops

-- the log goes on
log_more : {C : Type 0} (t : Table C) (ops : List HandlerOp) (s : Scene C) → (more : List Entry) × ((operated_all t ops s).log ≡ s.log ++ more)
log_more t [] s = ([], sym (append-nil s.log))
log_more t (op ∷ ops) s =
    let m = log_more t ops (operated t s op) in
    let here : Entry = Inner (reply_by t s.board s.callee op) in
    (here ∷ m.0, m.1 ∙ append_assoc s.log (here ∷ []) m.0)

at_seam : {X : Type 0} (xs : List X) (x : X) (more : List X) → slice_get ((xs ++ x ∷ []) ++ more) (length xs) ≡ Some x
at_seam [] x more = refl
at_seam (y ∷ ys) x more = at_seam ys x more

entry_at : {C : Type 0} (t : Table C) (before after : List HandlerOp) (op : HandlerOp) (s : Scene C)
    → slice_get (operated_all t (before ++ op ∷ after) s).log (length s.log + length before) ≡ Some (Inner (reply_by t (applied s.board before) (called t s.callee before) op))
entry_at t [] after op s =
    let m = log_more t after (operated t s op) in
    let none : length s.log + 0 ≡ length s.log = omega arith in
    let here : Entry = Inner (reply_by t s.board s.callee op) in
    ap (λ (k : ℕ). slice_get (operated_all t after (operated t s op)).log k) none ∙ ap (λ (l : List Entry). slice_get l (length s.log)) m.1 ∙ at_seam s.log here m.0
entry_at t (b ∷ before) after op s =
    let next = operated t s b in
    let place : length s.log + suc (length before) ≡ length next.log + length before = (let n = length-append s.log (Inner (reply_by t s.board s.callee b) ∷ []) in omega arith) in
    ap (λ (k : ℕ). slice_get (operated_all t (before ++ op ∷ after) next).log k) place
    ∙ entry_at t before after op next
    ∙ ap (λ (x : Board). Some (Inner (reply_by t x (called t next.callee before) op))) (board_step t s b before)
    ∙ ap (λ x. Some (Inner (reply_by t (applied s.board (b ∷ before)) x op))) (callee_step t s b before)

pub handlers_are_done : {C : Type 0} (t : Table C) → HandlersAreDone t
handlers_are_done t ops s = record {
  callee = callee_done t ops s;
  board = board_done t ops s;
  kept = (let m = log_more t ops s in ap (take (length s.log)) m.1 ∙ take-append_seam s.log m.0);
  size = (operated_all-keeps t ops s).log;
  entries = λ before after op e. ap (λ (l : List HandlerOp). slice_get (operated_all t l s).log (length s.log + length before)) e ∙ entry_at t before after op s;
}

-- ---- requests one after another

calls-append : (xs ys : List HandlerOp) → calls_in (xs ++ ys) ≡ calls_in xs ++ calls_in ys
calls-append [] ys = refl
calls-append (App op ∷ xs) ys = calls-append xs ys
calls-append (Call call ∷ xs) ys = ap (λ (l : List HandlerCall). call ∷ l) (calls-append xs ys)

apps-append : (xs ys : List HandlerOp) → apps_in (xs ++ ys) ≡ apps_in xs ++ apps_in ys
apps-append [] ys = refl
apps-append (App op ∷ xs) ys = ap (λ (l : List AppOp). op ∷ l) (apps-append xs ys)
apps-append (Call call ∷ xs) ys = apps-append xs ys

called-append : {C : Type 0} (t : Table C) (c : C) (xs ys : List HandlerOp) → called t c (xs ++ ys) ≡ called t (called t c xs) ys
called-append t c xs ys = ap (fold t.next c) (calls-append xs ys) ∙ fold-append t.next c (calls_in xs) (calls_in ys)

served_callee : {C : Type 0} (t : Table C) (r : Request) (rs : List Request) (w : ℕ) (s : Scene C) → called t ((served t r w s).callee) (ops_of rs) ≡ called t s.callee (ops_of (r ∷ rs))
served_callee t r rs w s = ap (λ c. called t c (ops_of rs)) (callee_done t r.ops.items _) ∙ sym (called-append t s.callee r.ops.items (ops_of rs))

left_callee : {C : Type 0} (t : Table C) (rs : List Request) (s : Scene C) → (left_served t rs s).callee ≡ called t s.callee (ops_of rs)
left_callee t [] s = refl
left_callee t (r ∷ rs) s = left_callee t rs (served t r 0 s) ∙ served_callee t r rs 0 s

pub ends_with_left : {C X V : Type 0} (r : Running C X V) → EndsWithLeft r
ends_with_left r s = let o = opened r s in let z = (ran r o).scene in left_callee r.tests.table z.board.left (returned r o z)

-- those that are due at a count
abbrev due : ℕ → List Request → List Request
due count rs = filter (λ (q : Request). nat_le q.offset count) rs

-- where a request is to come, so are all behind it
none_due : (count : ℕ) (r : Request) → count < r.offset → (rs : List Request) → All (λ (q : Request). r.offset ≤ q.offset) rs → due count rs ≡ []
none_due count r above [] all = refl
none_due count r above (q ∷ rs) all =
    let low : r.offset ≤ q.offset = all 0 q (omega arith) in
    let rest = none_due count r above rs (λ k d less. all (suc k) d (omega (arith, less))) in
    elim (leb_tells q.offset count) [
      | inl h ↦ absurd (omega (arith, h.1, low, above))
      | inr h ↦ rw h.0 rest
    ]

due_callee : {C : Type 0} (t : Table C) (rs : List Request) (s : Scene C) → AreOrdered rs → (due_served t rs s).callee ≡ called t s.callee (ops_of (due s.board.count rs))
due_callee t [] s order = refl
due_callee {C} t (r ∷ rs) s order =
    let w = s.board.count - r.offset in
    let z = served t r w s in
    let next = due_callee t rs z order.1
    ∙ ap (λ (n : ℕ). called t z.callee (ops_of (due n rs))) (operated_all-keeps t r.ops.items _).count
    ∙ served_callee t r (due s.board.count rs) w s in
    elim (leb_tells r.offset s.board.count) [
      | inl h ↦ rw h.0 next
      | inr h ↦ rw (h.0, none_due s.board.count r h.1 rs order.0) refl
    ]

pub opens_with_due : {C X V : Type 0} (r : Running C X V) → OpensWithDue r
opens_with_due r s fresh =
    let first = scene s.board (r.cleared s.callee) s.log in
    due_callee r.tests.table s.board.left first fresh.ordered
    ∙ ap (λ (n : ℕ). called r.tests.table (r.cleared s.callee) (ops_of (due n s.board.left))) fresh.start

-- ---- how many operations are done

plus_same : (a b n : ℕ) → a % 2 ^ 32 ≡ b % 2 ^ 32 → (a + n) % 2 ^ 32 ≡ (b + n) % 2 ^ 32
plus_same a b n e =
    ap (λ (k : ℕ). k % 2 ^ 32) (add_comm a n) ∙ sym (add-mod-mod n a (2 ^ 32)) ∙ ap (λ (k : ℕ). (n + k) % 2 ^ 32) e ∙ add-mod-mod n b (2 ^ 32) ∙ ap (λ (k : ℕ). k % 2 ^ 32) (add_comm n b)

one_more : (a n : ℕ) → ((a + 1) % 2 ^ 32 + n) % 2 ^ 32 ≡ (a + suc n) % 2 ^ 32
one_more a n =
    let s : n + (a + 1) ≡ a + suc n = omega arith in
    ap (λ (k : ℕ). k % 2 ^ 32) (add_comm ((a + 1) % 2 ^ 32) n) ∙ add-mod-mod n (a + 1) (2 ^ 32) ∙ ap (λ (k : ℕ). k % 2 ^ 32) s

no_more : (a : ℕ) → a % 2 ^ 32 ≡ (a + 0) % 2 ^ 32
no_more a = let s : a ≡ a + 0 = omega arith in ap (λ (k : ℕ). k % 2 ^ 32) s

handler_count : {C : Type 0} (t : Table C) (ops : List HandlerOp) (s : Scene C) → (operated_all t ops s).board.operations % 2 ^ 32 ≡ (s.board.operations + length (apps_in ops)) % 2 ^ 32
handler_count t [] s = no_more s.board.operations
handler_count t (App op ∷ ops) s = handler_count t ops (operated t s (App op)) ∙ one_more s.board.operations (length (apps_in ops))
handler_count t (Call call ∷ ops) s = handler_count t ops (operated t s (Call call))

-- what was counted, and what is to be counted
abbrev in_all : {C : Type 0} → Scene C → ℕ
in_all s = (s.board.operations + length (apps_in (ops_of s.board.left))) % 2 ^ 32

apps_of : (r : Request) (rs : List Request) → length (apps_in (ops_of (r ∷ rs))) ≡ length (apps_in r.ops.items) + length (apps_in (ops_of rs))
apps_of r rs = ap length (apps-append r.ops.items (ops_of rs)) ∙ length-append (apps_in r.ops.items) (apps_in (ops_of rs))

served_rest : {C : Type 0} (t : Table C) (r : Request) (rs : List Request) (w : ℕ) (s : Scene C) → s.board.left ≡ r ∷ rs → (served t r w s).board.left ≡ rs
served_rest t r rs w s e = (operated_all-keeps t r.ops.items _).left ∙ ap (drop 1) e

served_in_all : {C : Type 0} (t : Table C) (r : Request) (rs : List Request) (w : ℕ) (s : Scene C) → s.board.left ≡ r ∷ rs → in_all (served t r w s) ≡ in_all s
served_in_all t r rs w s e =
    let z = served t r w s in
    let n = length (apps_in r.ops.items) in
    let m = length (apps_in (ops_of rs)) in
    let sum : (s.board.operations + n) + m ≡ s.board.operations + (n + m) = omega arith in
    ap (λ (l : List Request). (z.board.operations + length (apps_in (ops_of l))) % 2 ^ 32) (served_rest t r rs w s e)
    ∙ plus_same z.board.operations (s.board.operations + n) m (handler_count t r.ops.items _)
    ∙ ap (λ (k : ℕ). k % 2 ^ 32) (sum ∙ ap (λ (k : ℕ). s.board.operations + k) (sym (apps_of r rs)))
    ∙ sym (ap (λ (l : List Request). (s.board.operations + length (apps_in (ops_of l))) % 2 ^ 32) e)

due_in_all : {C : Type 0} (t : Table C) (rs : List Request) (s : Scene C) → s.board.left ≡ rs → in_all (due_served t rs s) ≡ in_all s
due_in_all t [] s e = refl
due_in_all {C} t (r ∷ rs) s e =
    let w = s.board.count - r.offset in
    let z = served t r w s in
    cond_case (λ (x : Scene C). in_all x ≡ in_all s) (leb r.offset s.board.count) (due_served t rs z) s (due_in_all t rs z (served_rest t r rs w s e) ∙ served_in_all t r rs w s e) refl

left_count : {C : Type 0} (t : Table C) (rs : List Request) (s : Scene C) → s.board.left ≡ rs → (left_served t rs s).board.operations % 2 ^ 32 ≡ in_all s
left_count t [] s e = no_more s.board.operations ∙ sym (ap (λ (l : List Request). (s.board.operations + length (apps_in (ops_of l))) % 2 ^ 32) e)
left_count t (r ∷ rs) s e = left_count t rs (served t r 0 s) (served_rest t r rs 0 s e) ∙ served_in_all t r rs 0 s e

slices_in_all : {C X V : Type 0} (t : Tests C X V) (L : List X) (g : Trail C) → in_all (slices t L g).scene ≡ in_all g.scene
slices_in_all {C} {X} {V} t L g = slices-keeps t (λ (h : Trail C). in_all h.scene ≡ in_all g.scene) step L g refl
  where
    step : (may : Bool) (x : X) (h : Trail C) → in_all h.scene ≡ in_all g.scene → in_all (after_attempt t may h x).scene ≡ in_all g.scene
    step may x h e = (let mid = scene_behind t may h x in due_in_all t.table mid.board.left mid refl ∙ e)

pub counts_operations : {C X V : Type 0} (r : Running C X V) → CountsOperations r
counts_operations r s =
    let t = r.tests in
    let o = opened r s in
    let z = (ran r o).scene in
    let first = scene s.board (r.cleared s.callee) s.log in
    left_count t.table z.board.left (returned r o z) refl ∙ slices_in_all t (r.work o.callee) (entered r o) ∙ due_in_all t.table s.board.left first refl
