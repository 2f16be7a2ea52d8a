-- Requests are served in the order of their line, and none is left.
use Rattle.std.proofs.Common.{ℕ, ◌+◌, ◌-◌, ◌≡◌, Bool, true, false, cond, leb, List, [], ◌∷◌, ◌++◌, drop, map, Option, Some, None, refl, sym, ap, ◌∙◌, append_assoc, append-nil, length, arith}
use Rattle.mt_port.specs.declared.request.Request.{Request}
use Rattle.mt_port.specs.declared.request.HandlerOp.{HandlerOp}
use Rattle.mt_window.specs.declared.log.Entry.{Entry}
use Rattle.mt_window.specs.declared.log.Entry.TheVariants.{Served, Inner, Own}
use Rattle.mt_window.specs.Serving.{Table, Scene, scene, operated, operated_all, reply_by, served, due_served, left_served, begun}
use Rattle.mt_window.specs.Slices.{Tests, Trail, scene_behind, after_attempt, slices}
use Rattle.mt_window.specs.Events.{Running, opened, entered, ran, returned, event}
use Rattle.mt_window.specs.Waits.{kinds, line_kinds, ServesInOrder, TakesAll}
use Rattle.mt_window.specs.Kept.{cond_case, slices-keeps}
use Rattle.mt_window.proofs.Serving.{operated_all-keeps}

kinds-append : (xs ys : List Entry) → kinds (xs ++ ys) ≡ kinds xs ++ kinds ys
kinds-append [] ys = refl
kinds-append (Served n p w ∷ xs) ys = ap (λ (l : List (Option ℕ)). Some n ∷ l) (kinds-append xs ys)
kinds-append (Inner r ∷ xs) ys = ap (λ (l : List (Option ℕ)). None ∷ l) (kinds-append xs ys)
kinds-append (Own r ∷ xs) ys = kinds-append xs ys

abbrev marks : List HandlerOp → List (Option ℕ)
marks ops = map (λ (op : HandlerOp). None) ops

operated_all-kinds : {C : Type 0} (t : Table C) (ops : List HandlerOp) (s : Scene C) → kinds ((operated_all t ops s).log) ≡ kinds s.log ++ marks ops
operated_all-kinds t [] s = sym (append-nil (kinds s.log))
operated_all-kinds t (op ∷ ops) s =
    operated_all-kinds t ops (operated t s op)
    ∙ ap (λ (l : List (Option ℕ)). l ++ marks ops) (kinds-append s.log (Inner (reply_by t s.board s.callee op) ∷ []))
    ∙ append_assoc (kinds s.log) (None ∷ []) (marks ops)

-- what was entered, and what is to be entered
abbrev total : {C : Type 0} → Scene C → List (Option ℕ)
total s = kinds s.log ++ line_kinds (s.board.taken + 1) s.board.left

served-total : {C : Type 0} (t : Table C) (r : Request) (rs : List Request) (w : ℕ) (s : Scene C) → s.board.left ≡ r ∷ rs → total (served t r w s) ≡ total s
served-total {C} t r rs w s e =
    let b : Scene C = begun (record { number = s.board.taken + 1; at = s.board.count; request = r }) w
    (record (s.board) { left = drop 1 s.board.left; taken = s.board.taken + 1 }) s.callee s.log in
    let k = operated_all-keeps t r.ops.items b in
    let z = served t r w s in
    let rest = line_kinds ((s.board.taken + 1) + 1) rs in
    let left : z.board.left ≡ rs = k.left ∙ ap (drop 1) e in
    ap (λ (n : ℕ). kinds z.log ++ line_kinds (n + 1) z.board.left) k.taken
    ∙ ap (λ (l : List Request). kinds z.log ++ line_kinds ((s.board.taken + 1) + 1) l) left
    ∙ ap (λ (l : List (Option ℕ)). l ++ rest) (operated_all-kinds t r.ops.items b)
    ∙ ap (λ (l : List (Option ℕ)). (l ++ marks r.ops.items) ++ rest) (kinds-append s.log (Served (s.board.taken + 1) s.board.count w ∷ []))
    ∙ append_assoc (kinds s.log ++ Some (s.board.taken + 1) ∷ []) (marks r.ops.items) rest
    ∙ append_assoc (kinds s.log) (Some (s.board.taken + 1) ∷ []) (marks r.ops.items ++ rest)
    ∙ sym (ap (λ (l : List Request). kinds s.log ++ line_kinds (s.board.taken + 1) l) e)

served-rest : {C : Type 0} (t : Table C) (r : Request) (rs : List Request) (w : ℕ) (s : Scene C) → s.board.left ≡ r ∷ rs → (served t r w s).board.left ≡ rs
served-rest t r rs w s e = (operated_all-keeps t r.ops.items _).left ∙ ap (drop 1) e

due_served-total : {C : Type 0} (t : Table C) (rs : List Request) (s : Scene C) → s.board.left ≡ rs → total (due_served t rs s) ≡ total s
due_served-total t [] s e = refl
due_served-total {C} t (r ∷ rs) s e =
    let z = served t r (s.board.count - r.offset) s in
    of (leb r.offset s.board.count) (due_served-total t rs z (served-rest t r rs (s.board.count - r.offset) s e) ∙ served-total t r rs (s.board.count - r.offset) s e)
  where
    of : (b : Bool) → total (due_served t rs (served t r (s.board.count - r.offset) s)) ≡ total s
        → total (cond b (due_served t rs (served t r (s.board.count - r.offset) s)) s) ≡ total s
    of true h = h
    of false h = refl

left_served-total : {C : Type 0} (t : Table C) (rs : List Request) (s : Scene C) → s.board.left ≡ rs → total (left_served t rs s) ≡ total s
left_served-total t [] s e = refl
left_served-total t (r ∷ rs) s e = left_served-total t rs (served t r 0 s) (served-rest t r rs 0 s e) ∙ served-total t r rs 0 s e

left_served-none : {C : Type 0} (t : Table C) (rs : List Request) (s : Scene C) → s.board.left ≡ rs → (left_served t rs s).board.left ≡ []
left_served-none t [] s e = e
left_served-none t (r ∷ rs) s e = left_served-none t rs (served t r 0 s) (served-rest t r rs 0 s e)

slices-total : {C X V : Type 0} (t : Tests C X V) (L : List X) (g : Trail C) → total (slices t L g).scene ≡ total g.scene
slices-total {C} {X} {V} t L g = slices-keeps t (λ (h : Trail C). total h.scene ≡ total g.scene) step L g refl
  where
    step : (may : Bool) (x : X) (h : Trail C) → total h.scene ≡ total g.scene → total (after_attempt t may h x).scene ≡ total g.scene
    step may x h e = (let mid = scene_behind t may h x in due_served-total t.table mid.board.left mid refl ∙ e)

-- how many are taken and left
due_served-taken : {C : Type 0} (t : Table C) (rs : List Request) (s : Scene C) → s.board.left ≡ rs
    → (due_served t rs s).board.taken + length (due_served t rs s).board.left ≡ s.board.taken + length s.board.left
due_served-taken t [] s e = refl
due_served-taken {C} t (r ∷ rs) s e =
    let w = s.board.count - r.offset in
    let z = served t r w s in
    let left : z.board.left ≡ rs = served-rest t r rs w s e in
    let k : z.board.taken ≡ s.board.taken + 1 = (operated_all-keeps t r.ops.items _).taken in
    let next : (due_served t rs z).board.taken + length (due_served t rs z).board.left ≡ z.board.taken + length z.board.left = due_served-taken t rs z left in
    cond_case (λ (x : Scene C). x.board.taken + length x.board.left ≡ s.board.taken + length s.board.left) (leb r.offset s.board.count) (due_served t rs z) s
    (omega (arith, next, k, ap (λ (l : List Request). length l) left, ap (λ (l : List Request). length l) e)) refl

left_served-taken : {C : Type 0} (t : Table C) (rs : List Request) (s : Scene C) → s.board.left ≡ rs
    → (left_served t rs s).board.taken ≡ s.board.taken + length rs
left_served-taken t [] s e = omega arith
left_served-taken t (r ∷ rs) s e =
    let z = served t r 0 s in
    let k : z.board.taken ≡ s.board.taken + 1 = (operated_all-keeps t r.ops.items _).taken in
    omega (arith, left_served-taken t rs z (served-rest t r rs 0 s e), k)

slices-taken : {C X V : Type 0} (t : Tests C X V) (L : List X) (g : Trail C)
    → (slices t L g).scene.board.taken + length (slices t L g).scene.board.left ≡ g.scene.board.taken + length g.scene.board.left
slices-taken {C} {X} {V} t L g =
    slices-keeps t (λ (h : Trail C). h.scene.board.taken + length h.scene.board.left ≡ g.scene.board.taken + length g.scene.board.left) step L g refl
  where
    step : (may : Bool) (x : X) (h : Trail C) → h.scene.board.taken + length h.scene.board.left ≡ g.scene.board.taken + length g.scene.board.left
        → (after_attempt t may h x).scene.board.taken + length (after_attempt t may h x).scene.board.left ≡ g.scene.board.taken + length g.scene.board.left
    step may x h e = (let mid = scene_behind t may h x in due_served-taken t.table mid.board.left mid refl ∙ e)

event-left : {C X V : Type 0} (r : Running C X V) (s : Scene C) → (event r s).after.board.left ≡ []
event-left r s =
    let o = opened r s in
    let z = (ran r o).scene in
    left_served-none r.tests.table z.board.left (returned r o z) refl

pub event-none_left : {C X V : Type 0} (r : Running C X V) → TakesAll r
event-none_left {C} r s =
    let o = opened r s in
    let z = (ran r o).scene in
    let first : Scene C = scene s.board (r.cleared s.callee) s.log in
    let a : o.board.taken + length o.board.left ≡ s.board.taken + length s.board.left = due_served-taken r.tests.table s.board.left first refl in
    let b : z.board.taken + length z.board.left ≡ o.board.taken + length o.board.left = slices-taken r.tests (r.work o.callee) (entered r o) in
    record { none = event-left r s; taken = left_served-taken r.tests.table z.board.left (returned r o z) refl ∙ b ∙ a }

pub event-order : {C X V : Type 0} (r : Running C X V) → ServesInOrder r
event-order {C} r s empty =
    let o = opened r s in
    let z = (ran r o).scene in
    let first : Scene C = scene s.board (r.cleared s.callee) s.log in
    let after = (event r s).after in
    sym (append-nil (kinds after.log))
    ∙ sym (ap (λ (l : List Request). kinds after.log ++ line_kinds (after.board.taken + 1) l) (event-left r s))
    ∙ left_served-total r.tests.table z.board.left (returned r o z) refl
    ∙ slices-total r.tests (r.work o.callee) (entered r o)
    ∙ due_served-total r.tests.table s.board.left first refl
    ∙ ap (λ (l : List Entry). kinds l ++ line_kinds (s.board.taken + 1) s.board.left) empty
