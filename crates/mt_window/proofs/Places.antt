-- Where requests are served is told by their offsets.
use Rattle.std.proofs.Common.{ℕ, ◌+◌, ◌-◌, ◌<◌, ◌≤◌, ◌≡◌, Bool, true, false, cond, leb, List, [], ◌∷◌, ◌++◌, drop, Option, Some, None, refl, sym, ap, ◌∙◌, subst, arith, append_assoc, append-nil}
use Rattle.std.specs.Prelude.{find, nat_le}
use Rattle.std.specs.Option.{option_or}
use Rattle.std.proofs.lemmas.Bool.{leb-true, le-leb}
use Rattle.std.proofs.lemmas.List.{map-append}
use Rattle.std.proofs.lemmas.List.Folds.{find-append}
use Rattle.mt_port.specs.declared.request.Request.{Request}
use Rattle.mt_port.specs.declared.request.HandlerOp.{HandlerOp}
use Rattle.mt_window.specs.declared.log.Entry.{Entry}
use Rattle.mt_window.specs.declared.log.Entry.TheVariants.{Served, Inner, Own}
use Rattle.mt_window.specs.Serving.{Table, Scene, scene, operated, operated_all, reply_by, begun, served, due_served, left_served}
use Rattle.mt_window.specs.Slices.{Tests, Trail, Attempt, kept_attempt, scene_behind, after_attempt}
use Rattle.mt_window.specs.Events.{Running, opened, entered, ran, returned, event}
use Rattle.mt_window.specs.Waits.{boundaries, first_boundary, served_at, line_served, services, ServesByOffset}
use Rattle.mt_window.specs.Kept.{slices-keeps}
use Rattle.mt_window.proofs.Serving.{operated_all-keeps, due_served-stays, left_served-stays}
use Rattle.mt_window.proofs.Late.{Each, Each-map, Late, served_late}

services-append : (xs ys : List Entry) → services (xs ++ ys) ≡ services xs ++ services ys
services-append [] ys = refl
services-append (Served n p w ∷ xs) ys = ap (λ (l : List Entry). Served n p w ∷ l) (services-append xs ys)
services-append (Inner r ∷ xs) ys = services-append xs ys
services-append (Own r ∷ xs) ys = services-append xs ys

operated_all-services : {C : Type 0} (t : Table C) (ops : List HandlerOp) (s : Scene C) → services ((operated_all t ops s).log) ≡ services s.log
operated_all-services t [] s = refl
operated_all-services t (op ∷ ops) s =
    operated_all-services t ops (operated t s op) ∙ services-append s.log (Inner (reply_by t s.board s.callee op) ∷ []) ∙ append-nil (services s.log)

served-services : {C : Type 0} (t : Table C) (r : Request) (w : ℕ) (s : Scene C) → services ((served t r w s).log) ≡ services s.log ++ Served (s.board.taken + 1) s.board.count w ∷ []
served-services t r w s = operated_all-services t r.ops.items _ ∙ services-append s.log (Served (s.board.taken + 1) s.board.count w ∷ [])

-- where offsets are served, by boundaries that are known so far
abbrev pub told : List ℕ → ℕ → Option ℕ
told bounds offset = find (λ boundary. nat_le offset boundary) bounds

abbrev line : List ℕ → ℕ → ℕ → List Request → List Entry
line bounds last n [] = []
line bounds last n (r ∷ rs) = served_at (told bounds r.offset) last n r.offset ∷ line bounds last (n + 1) rs

line-same : (made : List Attempt) (last n : ℕ) (rs : List Request) → line (boundaries made) last n rs ≡ line_served made last n rs
line-same made last n [] = refl
line-same made last n (r ∷ rs) = ap (λ (l : List Entry). served_at (first_boundary made r.offset) last n r.offset ∷ l) (line-same made last (n + 1) rs)

-- what was entered, and what is to be entered
abbrev total : {C : Type 0} → List ℕ → ℕ → Scene C → List Entry
total bounds last s = services s.log ++ line bounds last (s.board.taken + 1) s.board.left

served-total : {C : Type 0} (t : Table C) (bounds : List ℕ) (last : ℕ) (r : Request) (rs : List Request) (w : ℕ) (s : Scene C) → s.board.left ≡ r ∷ rs
    → served_at (told bounds r.offset) last (s.board.taken + 1) r.offset ≡ Served (s.board.taken + 1) s.board.count w → total bounds last (served t r w s) ≡ total bounds last s
served-total {C} t bounds last r rs w s e here =
    let b : Scene C = begun (record { number = s.board.taken + 1; at = s.board.count; request = r }) w
    (record (s.board) { left = drop 1 s.board.left; taken = s.board.taken + 1 }) s.callee s.log in
    let k = operated_all-keeps t r.ops.items b in
    let z = served t r w s in
    let n = s.board.taken + 1 in
    let left : z.board.left ≡ rs = k.left ∙ ap (drop 1) e in
    ap (λ (m : ℕ). services z.log ++ line bounds last (m + 1) z.board.left) k.taken
    ∙ ap (λ (l : List Request). services z.log ++ line bounds last (n + 1) l) left
    ∙ ap (λ (l : List Entry). l ++ line bounds last (n + 1) rs) (served-services t r w s)
    ∙ append_assoc (services s.log) (Served n s.board.count w ∷ []) (line bounds last (n + 1) rs)
    ∙ sym (ap (λ (x : Entry). services s.log ++ x ∷ line bounds last (n + 1) rs) here)
    ∙ sym (ap (λ (l : List Request). services s.log ++ line bounds last n l) e)

served-rest : {C : Type 0} (t : Table C) (r : Request) (rs : List Request) (w : ℕ) (s : Scene C) → s.board.left ≡ r ∷ rs → (served t r w s).board.left ≡ rs
served-rest t r rs w s e = (operated_all-keeps t r.ops.items _).left ∙ ap (drop 1) e

due_served-total : {C : Type 0} (t : Table C) (bounds : List ℕ) (last : ℕ) (rs : List Request) (s : Scene C) → s.board.left ≡ rs
    → Each (λ (r : Request). r.offset ≤ s.board.count → told bounds r.offset ≡ Some s.board.count) rs → total bounds last (due_served t rs s) ≡ total bounds last s
due_served-total t bounds last [] s e each = refl
due_served-total {C} t bounds last (r ∷ rs) s e each =
    let w = s.board.count - r.offset in
    let z = served t r w s in
    let n = s.board.taken + 1 in
    let rest : Each (λ (r : Request). r.offset ≤ z.board.count → told bounds r.offset ≡ Some z.board.count) rs =
    subst (λ (n : ℕ). Each (λ (r : Request). r.offset ≤ n → told bounds r.offset ≡ Some n) rs) (sym (operated_all-keeps t r.ops.items _).count) each.1 in
    of (leb r.offset s.board.count) refl
    (λ low. due_served-total t bounds last rs z (served-rest t r rs w s e) rest ∙ served-total t bounds last r rs w s e (ap (λ (o : Option ℕ). served_at o last n r.offset) (each.0 low)))
  where
    of : (b : Bool) → leb r.offset s.board.count ≡ b
        → (r.offset ≤ s.board.count → total bounds last (due_served t rs (served t r (s.board.count - r.offset) s)) ≡ total bounds last s)
        → total bounds last (cond b (due_served t rs (served t r (s.board.count - r.offset) s)) s) ≡ total bounds last s
    of true f h = h (leb-true r.offset s.board.count f)
    of false f h = refl

left_served-total : {C : Type 0} (t : Table C) (bounds : List ℕ) (rs : List Request) (s : Scene C) → s.board.left ≡ rs
    → Each (λ (r : Request). told bounds r.offset ≡ None) rs → services ((left_served t rs s).log) ≡ total bounds s.board.count s
left_served-total t bounds [] s e each =
    sym (append-nil (services s.log)) ∙ sym (ap (λ (l : List Request). services s.log ++ line bounds s.board.count (s.board.taken + 1) l) e)
left_served-total {C} t bounds (r ∷ rs) s e each =
    let z = served t r 0 s in
    let n = s.board.taken + 1 in
    let count : z.board.count ≡ s.board.count = (operated_all-keeps t r.ops.items _).count in
    left_served-total t bounds rs z (served-rest t r rs 0 s e) each.1
    ∙ ap (λ (m : ℕ). total bounds m z) count
    ∙ served-total t bounds s.board.count r rs 0 s e (ap (λ (o : Option ℕ). served_at o s.board.count n r.offset) each.0)

-- the boundaries so far: none is as far as an offset above the count
pub record Bounds {C : Type 0} (g : Trail C) : Type 0 where
  pub none : (offset : ℕ) → g.scene.board.count < offset → first_boundary g.attempts offset ≡ None

not_reached : (a b : ℕ) → b < a → leb a b ≡ false
not_reached a b h = of (leb a b) refl
  where
    of : (x : Bool) → leb a b ≡ x → leb a b ≡ false
    of true e = absurd (let low = leb-true a b e in omega (arith, low, h))
    of false e = e

-- one boundary more
pub find-more : (made : List Attempt) (a : Attempt) (offset : ℕ) → first_boundary (made ++ a ∷ []) offset ≡ option_or (first_boundary made offset) (told (a.finish ∷ []) offset)
find-more made a offset =
    ap (λ (l : List ℕ). told (0 ∷ l) offset) (map-append (λ (b : Attempt). b.finish) made (a ∷ []))
    ∙ find-append (λ boundary. nat_le offset boundary) (boundaries made) (a.finish ∷ [])

pub not_told : (offset place : ℕ) → place < offset → told (place ∷ []) offset ≡ None
not_told offset place h = ap (λ (b : Bool). cond b (Some place) None) (not_reached offset place h)

pub is_told : (offset place : ℕ) (more : List ℕ) → offset ≤ place → told (place ∷ more) offset ≡ Some place
is_told offset place more h = ap (λ (b : Bool). cond b (Some place) (told more offset)) (le-leb offset place h)

pub attempt-bounds : {C X V : Type 0} (t : Tests C X V) (may : Bool) (x : X) (g : Trail C) → Bounds g → Bounds (after_attempt t may g x)
attempt-bounds t may x g h =
    let mid = scene_behind t may g x in
    let a = kept_attempt t may g x in
    let stays = due_served-stays t.table mid.board.left mid in
    record {
      none = λ offset above. find-more g.attempts a offset
          ∙ ap (λ (o : Option ℕ). option_or o (told (a.finish ∷ []) offset)) (h.none offset (omega (arith, stays.count, above)))
          ∙ not_told offset a.finish (omega (arith, stays.count, above));
    }

-- the requests that were taken are entered where their offsets say, whatever boundaries follow
record Places {C : Type 0} (n : ℕ) (all : List Request) (g : Trail C) : Type 0 where
  late : Late g.scene
  bounds : Bounds g
  told : (more : List ℕ) (last : ℕ) → total (boundaries g.attempts ++ more) last g.scene ≡ line (boundaries g.attempts ++ more) last n all

attempt-places : {C X V : Type 0} (t : Tests C X V) (n : ℕ) (all : List Request) (may : Bool) (x : X) (g : Trail C) → Places n all g → Places n all (after_attempt t may g x)
attempt-places {C} t n all may x g h =
    let mid = scene_behind t may g x in
    let a = kept_attempt t may g x in
    let bs = boundaries g.attempts in
    record {
      late = served_late t.table mid h.late.ordered;
      bounds = attempt-bounds t may x g h.bounds;
      told = λ more last.
          (let all_bounds : boundaries (g.attempts ++ a ∷ []) ++ more ≡ bs ++ a.finish ∷ more =
          ap (λ (l : List ℕ). (0 ∷ l) ++ more) (map-append (λ (b : Attempt). b.finish) g.attempts (a ∷ [])) ∙ append_assoc bs (a.finish ∷ []) more in
          let each : Each (λ (r : Request). r.offset ≤ mid.board.count → told (bs ++ a.finish ∷ more) r.offset ≡ Some mid.board.count) mid.board.left =
          Each-map (λ (r : Request). g.scene.board.count < r.offset) (λ (r : Request). r.offset ≤ mid.board.count → told (bs ++ a.finish ∷ more) r.offset ≡ Some mid.board.count)
          (λ r above low. find-append (λ boundary. nat_le r.offset boundary) bs (a.finish ∷ more)
          ∙ ap (λ (o : Option ℕ). option_or o (told (a.finish ∷ more) r.offset)) (h.bounds.none r.offset above) ∙ is_told r.offset a.finish more low)
          g.scene.board.left h.late.above in
          ap (λ (l : List ℕ). total l last (after_attempt t may g x).scene) all_bounds
          ∙ due_served-total t.table (bs ++ a.finish ∷ more) last mid.board.left mid refl each
          ∙ h.told (a.finish ∷ more) last
          ∙ sym (ap (λ (l : List ℕ). line l last n all) all_bounds));
    }

pub event-places : {C X V : Type 0} (r : Running C X V) → ServesByOffset r
event-places {C} r s fresh =
    let t = r.tests in
    let first : Scene C = scene s.board (r.cleared s.callee) s.log in
    let o = opened r s in
    let n = s.board.taken + 1 in
    let all = s.board.left in
    let late : Late o = served_late t.table first fresh.ordered in
    let count : o.board.count ≡ 0 = (due_served-stays t.table all first).count ∙ fresh.start in
    let each : (more : List ℕ) → Each (λ (q : Request). q.offset ≤ s.board.count → told (0 ∷ more) q.offset ≡ Some s.board.count) all =
    λ more. each_at more all in
    let start : Places n all (entered r o) = record {
      late = record { above = late.above; ordered = late.ordered };
      bounds = record { none = λ offset above. not_told offset 0 (omega (arith, above)) };
      told = λ more last. due_served-total t.table (0 ∷ more) last all first refl (each more) ∙ ap (λ (l : List Entry). services l ++ line (0 ∷ more) last n all) fresh.empty;
    } in
    let end = slices-keeps t (λ (g : Trail C). Places n all g) (attempt-places t n all) (r.work o.callee) (entered r o) start in
    let z = ran r o in
    let y = returned r o z.scene in
    let bs = boundaries z.attempts in
    let last : (event r s).after.board.count ≡ y.board.count = (left_served-stays t.table y.board.left y).count in
    left_served-total t.table bs y.board.left y refl (Each-map (λ (q : Request). z.scene.board.count < q.offset) (λ (q : Request). told bs q.offset ≡ None) (λ q above. end.bounds.none q.offset above) y.board.left end.late.above)
    ∙ sym (ap (λ (l : List ℕ). total l y.board.count y) (append-nil bs)) ∙ end.told [] y.board.count ∙ ap (λ (l : List ℕ). line l y.board.count n all) (append-nil bs)
    ∙ line-same z.attempts y.board.count n all
    ∙ sym (ap (λ (m : ℕ). line_served z.attempts m n all) last)
  where
    each_at : (more : List ℕ) (rs : List Request) → Each (λ (q : Request). q.offset ≤ s.board.count → told (0 ∷ more) q.offset ≡ Some s.board.count) rs
    each_at more [] = tt
    each_at more (q ∷ rs) = (λ low. is_told q.offset 0 more (omega (arith, low, fresh.start)) ∙ ap (λ (k : ℕ). Some k) (sym fresh.start), each_at more rs)
