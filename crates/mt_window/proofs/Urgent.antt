-- An urgent request waits at most the words that an attempt writes back.
use Rattle.std.proofs.Common.{ℕ, zero, suc, ◌+◌, ◌-◌, ◌<◌, ◌≤◌, ◌≡◌, Bool, true, false, cond, leb, List, [], ◌∷◌, ◌++◌, drop, length, get_or, Option, Some, None, refl, sym, ap, ◌∙◌, subst, arith, inl, inr}
use Rattle.std.specs.Prelude.{All, ◌⊎◌}
use Rattle.std.specs.Option.{option_or}
use Rattle.std.proofs.lemmas.Bool.{leb-true}
use Rattle.std.proofs.lemmas.List.Elements.{All-push}
use Rattle.mt_port.specs.declared.request.Request.{Request}
use Rattle.mt_window.specs.Serving.{Table, Scene, scene, served, due_served}
use Rattle.mt_window.specs.Slices.{Tests, Trail, Attempt, kept_attempt, scene_behind, after_attempt}
use Rattle.mt_window.specs.Events.{Running, opened, entered}
use Rattle.mt_window.specs.Waits.{DropsInTime, FallsIn, IsServedWithin, UrgentWaitsAreShortIn}
use Rattle.mt_window.specs.Kept.{slices-keeps}
use Rattle.mt_window.proofs.Serving.{operated_all-keeps, due_served-stays}
use Rattle.mt_window.proofs.Late.{All-each, Late, served_late}
use Rattle.mt_window.proofs.Places.{Bounds, attempt-bounds, told, find-more, is_told, not_told}

-- a request is one of those
abbrev In : Request → List Request → Type 0
In q [] = ⊥
In q (r ∷ rs) = (r ≡ q) ⊎ In q rs

In-all : (P : Request → Type 0) (q : Request) (rs : List Request) → In q rs → All P rs → P q
In-all P q [] h all = absurd h
In-all P q (r ∷ rs) (inl e) all = subst P e (all 0 r (omega arith))
In-all P q (r ∷ rs) (inr h) all = In-all P q rs h (λ k d low. all (suc k) d (omega (arith, low)))

In-at : (rs : List Request) (k : ℕ) (d : Request) → k < length rs → In (get_or rs k d) rs
In-at [] k d h = absurd (omega (arith, h))
In-at (r ∷ rs) zero d h = inl refl
In-at (r ∷ rs) (suc k) d h = inr (In-at rs k d (omega (arith, h)))

-- one that isn't due is left
due_served-in : {C : Type 0} (t : Table C) (q : Request) (rs : List Request) (s : Scene C) → s.board.left ≡ rs → s.board.count < q.offset → In q rs → In q ((due_served t rs s).board.left)
due_served-in t q [] s e above h = absurd h
due_served-in {C} t q (r ∷ rs) s e above h =
    let w = s.board.count - r.offset in
    let z = served t r w s in
    let k = operated_all-keeps t r.ops.items _ in
    let left : z.board.left ≡ rs = k.left ∙ ap (drop 1) e in
    of (leb r.offset s.board.count) refl (λ low. due_served-in t q rs z left (omega (arith, k.count, above)) (rest low h))
  where
    rest : r.offset ≤ s.board.count → In q (r ∷ rs) → In q rs
    rest low (inl same) = absurd (let o : r.offset ≡ q.offset = ap (λ (x : Request). x.offset) same in omega (arith, low, above, o))
    rest low (inr h) = h

    of : (b : Bool) → leb r.offset s.board.count ≡ b → (r.offset ≤ s.board.count → In q ((due_served t rs (served t r (s.board.count - r.offset) s)).board.left))
        → In q ((cond b (due_served t rs (served t r (s.board.count - r.offset) s)) s).board.left)
    of true f next = next (leb-true r.offset s.board.count f)
    of false f next = subst (In q) (sym e) h

abbrev Within : List Attempt → Request → Attempt → Type 0
Within made q a = (n : ℕ) → a.restores ≡ Some n → FallsIn a q → IsServedWithin made q a n

record Urgent {C : Type 0} (q : Request) (g : Trail C) : Type 0 where
  late : Late g.scene
  bounds : Bounds g
  inside : g.scene.board.count < q.offset → In q g.scene.board.left
  within : All (Within g.attempts q) g.attempts

within-more : (made : List Attempt) (b : Attempt) (q : Request) (a : Attempt) → Within made q a → Within (made ++ b ∷ []) q a
within-more made b q a h n e f = (let w = h n e f in record { place = find-more made b q.offset ∙ ap (λ (o : Option ℕ). option_or o (told (b.finish ∷ []) q.offset)) w.place; soon = w.soon })

-- an attempt that may not be dropped restores nothing
restored : {C X V : Type 0} (t : Tests C X V) (c : C) (x : X) (n : ℕ) (may : Bool) → cond may (t.restores c x) None ≡ Some n → (may ≡ true) × (t.restores c x ≡ Some n)
restored t c x n true e = (refl, e)
restored t c x n false e = cc

attempt-urgent : {C X V : Type 0} (t : Tests C X V) → DropsInTime t → (q : Request) → q.urgent ≡ true → (may : Bool) (x : X) (g : Trail C) → Urgent q g → Urgent q (after_attempt t may g x)
attempt-urgent {C} {X} t drops q urgent may x g h =
    let b = g.scene.board in
    let mid = scene_behind t may g x in
    let a = kept_attempt t may g x in
    let made = g.attempts ++ a ∷ [] in
    let stays = due_served-stays t.table mid.board.left mid in
    let new : Within made q a = λ n e falls.
    (let m = restored t g.scene.callee x n may e in
    let above : b.count < q.offset = omega (arith, falls.begun) in
    let late : All (λ (p : Request). b.count < p.offset) b.left = All-each (λ (p : Request). b.count < p.offset) b.left h.late.above in
    let soon : b.count + (t.attempt true g.scene.callee x b).count ≤ q.offset + n =
    In-all (λ (p : Request). p.urgent ≡ true → b.count + (t.attempt true g.scene.callee x b).count ≤ p.offset + n) q b.left (h.inside above) (drops g.scene.callee x b n m.1 late) urgent in
    let same : (t.attempt may g.scene.callee x b).count ≡ (t.attempt true g.scene.callee x b).count = ap (λ (y : Bool). (t.attempt y g.scene.callee x b).count) m.0 in
    record {
      place = find-more g.attempts a q.offset ∙ ap (λ (o : Option ℕ). option_or o (told (a.finish ∷ []) q.offset)) (h.bounds.none q.offset above) ∙ is_told q.offset a.finish [] falls.ended;
      soon = omega (arith, soon, same);
    }) in
    record {
      late = served_late t.table mid h.late.ordered;
      bounds = attempt-bounds t may x g h.bounds;
      inside = λ above. due_served-in t.table q mid.board.left mid refl (omega (arith, stays.count, above)) (h.inside (omega (arith, stays.count, above)));
      within = All-push (Within made q) g.attempts a (λ k d low. within-more g.attempts a q _ (h.within k d low)) new;
    }

pub event-urgent : {C X V : Type 0} (r : Running C X V) → DropsInTime r.tests → UrgentWaitsAreShortIn r
event-urgent {C} r drops s fresh = λ k d low urgent.
    (let t = r.tests in
    let q = get_or s.board.left k d in
    let first : Scene C = scene s.board (r.cleared s.callee) s.log in
    let o = opened r s in
    let late : Late o = served_late t.table first fresh.ordered in
    let stays = due_served-stays t.table s.board.left first in
    let start : Urgent q (entered r o) = record {
      late = record { above = late.above; ordered = late.ordered };
      bounds = record { none = λ offset above. not_told offset 0 (omega (arith, above)) };
      inside = λ above. due_served-in t.table q s.board.left first refl (omega (arith, stays.count, above)) (In-at s.board.left k d low);
      within = λ i a h. absurd (omega (arith, h));
    } in
    (slices-keeps t (λ (g : Trail C). Urgent q g) (attempt-urgent t drops q urgent) (r.work o.callee) (entered r o) start).within)
