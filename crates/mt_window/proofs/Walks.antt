-- One attempt of a walk, and the requests at its boundary.
use Rattle.std.proofs.Common.{ℕ, suc, ◌+◌, ◌*◌, ◌-◌, ◌<◌, ◌≤◌, ◌≡◌, ◌||◌, ◌&&◌, Bool, true, false, cond, leb, List, [], ◌∷◌, drop, length, refl, sym, ap, ◌∙◌, subst, arith}
use Rattle.std.proofs.Math.Nat.{mul-le-mul_left, mul-suc}
use Rattle.std.proofs.lemmas.Bool.{leb-true, le-leb}
use Rattle.std.specs.Prelude.{All, nat_lt}
use Rattle.mt_port.specs.declared.request.HandlerCall.{HandlerCall}
use Rattle.mt_port.specs.declared.request.Request.{Request}
use Rattle.mt_port.specs.declared.request.Module.{Module}
use Rattle.mt_port.specs.Board.{Board, AreOrdered, is_urgent_due}
use Rattle.mt_window.specs.Serving.{Table, Scene, served, due_served, serve_due, serve_left, cost, IsReady}
use Rattle.mt_window.specs.Slices.{Tried, attempted}
use Rattle.mt_window.specs.Kept.{due_served-moves, cond_case}
use Rattle.mt_window.proofs.Serving.{Stays, due_served-stays, left_served-stays, operated_all-keeps}

-- a slice that is left
pub record Split {X : Type 0} (l : List X) : Type 0 where
  pub first : X
  pub more : List X
  pub split : l ≡ first ∷ more

pub split_some : {X : Type 0} (l : List X) → nat_lt 0 (length l) ≡ true → Split l
split_some [] e = cc
split_some (x ∷ more) e = record { first = x; more = more; split = refl }

-- what serving leaves of a walk
pub record IsSame {C W X : Type 0} (Fits : W → C → Type 0) (left : W → C → List X) (most : W → C → ℕ) (w : W) (a b : C) : Type 0 where
  pub fit : Fits w a → Fits w b
  pub rest : Fits w a → left w b ≡ left w a
  pub few : Fits w a → most w b ≡ most w a

pub served_walk : {C W X : Type 0} (t : Table C) (Fits : W → C → Type 0) (left : W → C → List X) (most : W → C → ℕ) (w : W)
    → ((c : C) (call : HandlerCall) → IsSame Fits left most w c (t.next c call)) → (s z : Scene C) → z ≡ serve_due t s
    → IsSame Fits left most w s.callee z.callee
served_walk t Fits left most w law s z e =
    subst (λ (y : Scene _). IsSame Fits left most w s.callee y.callee) (sym e) (due_served-moves t (IsSame Fits left most w) (record {
      none = λ c. record { fit = λ f. f; rest = λ f. refl; few = λ f. refl };
      both = λ a b c p q. record { fit = λ f. q.fit (p.fit f); rest = λ f. q.rest (p.fit f) ∙ p.rest f; few = λ f. q.few (p.fit f) ∙ p.few f };
      row = law;
    }) s.board.left s)

-- serving leaves shape and count
pub served_board : {C : Type 0} (t : Table C) (s z : Scene C) → z ≡ serve_due t s → Stays s z
served_board t s z e = subst (Stays s) (sym e) (due_served-stays t s.board.left s)

pub left_board : {C : Type 0} (t : Table C) (s z : Scene C) → z ≡ serve_left t s → Stays s z
left_board t s z e = subst (Stays s) (sym e) (left_served-stays t s.board.left s)

-- requests that were ready are so after an attempt
pub ready_attempted : {V : Type 0} (kind : Module) (a : Tried V) (b z : Board) (log : List _) → z ≡ attempted a b → IsReady kind b log → IsReady kind z log
ready_attempted kind a b z log e h = subst (λ (y : Board). IsReady kind y log) (sym e) (record { free = h.free; room = h.room; sound = h.sound; ordered = h.ordered })

-- no more requests are left after a boundary than before, and fewer where one was due
served_left : {C : Type 0} (t : Table C) (r : Request) (rs : List Request) (w : ℕ) (s : Scene C) → s.board.left ≡ r ∷ rs → (served t r w s).board.left ≡ rs
served_left t r rs w s e = (operated_all-keeps t r.ops.items _).left ∙ ap (drop 1) e

due_served-few : {C : Type 0} (t : Table C) (rs : List Request) (s : Scene C) → s.board.left ≡ rs → length ((due_served t rs s).board.left) ≤ length rs
due_served-few t [] s e = omega (arith, ap (λ (l : List Request). length l) e)
due_served-few {C} t (r ∷ rs) s e =
    let w = s.board.count - r.offset in
    let z = served t r w s in
    let next : length ((due_served t rs z).board.left) ≤ length rs = due_served-few t rs z (served_left t r rs w s e) in
    cond_case (λ (x : Scene C). length x.board.left ≤ suc (length rs)) (leb r.offset s.board.count) (due_served t rs z) s (omega arith) (omega (arith, ap (λ (l : List Request). length l) e))

-- where an urgent request is due, the first is
urgent_first : (count : ℕ) (r : Request) (rs : List Request) → All (λ (q : Request). r.offset ≤ q.offset) rs → is_urgent_due count (r ∷ rs) ≡ true → r.offset ≤ count
urgent_first count r rs low e = here r.urgent (leb r.offset count) refl e (rest rs low)
  where
    rest : (qs : List Request) → All (λ (q : Request). r.offset ≤ q.offset) qs → is_urgent_due count qs ≡ true → r.offset ≤ count
    rest [] all f = cc
    rest (q ∷ qs) all f = one q.urgent (leb q.offset count) refl f (λ g. rest qs (λ k d h. all (suc k) d (omega (arith, h))) g)
      where
        one : (u b : Bool) → leb q.offset count ≡ b → ((u && b) || is_urgent_due count qs) ≡ true → (is_urgent_due count qs ≡ true → r.offset ≤ count) → r.offset ≤ count
        one true true le g more = (let low : r.offset ≤ q.offset = all 0 q (omega arith) in let high : q.offset ≤ count = leb-true q.offset count le in omega arith)
        one true false le g more = more g
        one false b le g more = more g

    here : (u b : Bool) → leb r.offset count ≡ b → ((u && b) || is_urgent_due count rs) ≡ true → (is_urgent_due count rs ≡ true → r.offset ≤ count) → r.offset ≤ count
    here true true le g more = leb-true r.offset count le
    here true false le g more = more g
    here false b le g more = more g

due_served-fewer : {C : Type 0} (t : Table C) (rs : List Request) (s : Scene C) → s.board.left ≡ rs → AreOrdered rs → is_urgent_due s.board.count rs ≡ true
    → length ((due_served t rs s).board.left) < length rs
due_served-fewer t [] s e order urgent = cc
due_served-fewer {C} t (r ∷ rs) s e order urgent =
    let w = s.board.count - r.offset in
    let z = served t r w s in
    let low : r.offset ≤ s.board.count = urgent_first s.board.count r rs order.0 urgent in
    let next : length ((due_served t rs z).board.left) ≤ length rs = due_served-few t rs z (served_left t r rs w s e) in
    subst (λ (b : Bool). length ((cond b (due_served t rs z) s).board.left) < suc (length rs)) (sym (le-leb r.offset s.board.count low)) (omega arith)

pub few_left : {C : Type 0} (t : Table C) (s z : Scene C) → z ≡ serve_due t s → length z.board.left ≤ length s.board.left
few_left t s z e = subst (λ (y : Scene _). length y.board.left ≤ length s.board.left) (sym e) (due_served-few t s.board.left s refl)

pub fewer_left : {C : Type 0} (t : Table C) (s z : Scene C) → z ≡ serve_due t s → AreOrdered s.board.left → is_urgent_due s.board.count s.board.left ≡ true → length z.board.left < length s.board.left
fewer_left t s z e order urgent = subst (λ (y : Scene _). length y.board.left < length s.board.left) (sym e) (due_served-fewer t s.board.left s refl order urgent)

-- what a request left pays
pub pays : (k m n : ℕ) → m < n → k * m + k ≤ k * n
pays k m n h = omega (arith, mul-suc k m, mul-le-mul_left {m = suc m} {n = n} k h)

-- each request left makes an entry
pub length-cost : (rs : List Request) → length rs ≤ cost rs
length-cost [] = omega arith
length-cost (r ∷ rs) = omega (arith, length-cost rs)
