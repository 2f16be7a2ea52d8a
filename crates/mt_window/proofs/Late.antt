-- After a boundary all requests left are to come.
use Rattle.std.proofs.Common.{ℕ, suc, ◌-◌, ◌<◌, ◌≤◌, ◌≡◌, Bool, true, false, cond, leb, List, [], ◌∷◌, drop, length, zero, get_or, refl, sym, ap, ◌∙◌, subst, arith, inl, inr}
use Rattle.std.specs.Prelude.{All, ◌⊎◌}
use Rattle.std.proofs.lemmas.Bool.Decides.{leb_tells}
use Rattle.mt_port.specs.Board.{AreOrdered}
use Rattle.mt_port.specs.declared.request.Request.{Request}
use Rattle.mt_window.specs.Serving.{Table, Scene, served, due_served, serve_due}
use Rattle.mt_window.proofs.Serving.{operated_all-keeps}

-- each item, by recursion
abbrev pub Each : {X : Type 0} → (X → Type 0) → List X → Type 0
Each P [] = Unit {0}
Each P (x ∷ xs) = P x × Each P xs

pub Each-map : {X : Type 0} (P Q : X → Type 0) → ((x : X) → P x → Q x) → (xs : List X) → Each P xs → Each Q xs
Each-map P Q f [] each = tt
Each-map P Q f (x ∷ xs) each = (f x each.0, Each-map P Q f xs each.1)

pub Each-all : {X : Type 0} (xs : List X) (P : X → Type 0) → ((x : X) → P x) → Each P xs
Each-all [] P f = tt
Each-all (x ∷ xs) P f = (f x, Each-all xs P f)

pub All-each : {X : Type 0} (P : X → Type 0) (xs : List X) → Each P xs → All P xs
All-each {X} P xs each = λ k d h. at d xs k each h
  where
    at : (d : X) (xs : List X) (k : ℕ) → Each P xs → k < length xs → P (get_or xs k d)
    at d [] k each h = absurd (omega (arith, h))
    at d (x ∷ xs) zero each h = each.0
    at d (x ∷ xs) (suc k) each h = at d xs k each.1 (omega (arith, h))

-- all requests left have offsets above the count, and these never fall
pub record Late {C : Type 0} (s : Scene C) : Type 0 where
  pub above : Each (λ r. s.board.count < r.offset) s.board.left
  pub ordered : AreOrdered s.board.left

Each-from : (n : ℕ) (r : Request) → n < r.offset → (rs : List Request) → All (λ q. r.offset ≤ q.offset) rs → Each (λ q. n < q.offset) rs
Each-from n r h [] all = tt
Each-from n r h (q ∷ rs) all = (let low : r.offset ≤ q.offset = all 0 q (omega arith) in omega arith, Each-from n r h rs (λ k d less. all (suc k) d (omega (arith, less))))

-- after a boundary the requests left are late
pub due_served-late : {C : Type 0} (t : Table C) (rs : List Request) (s : Scene C) → s.board.left ≡ rs → AreOrdered rs → Late (due_served t rs s)
due_served-late t [] s e order = record { above = subst (Each (λ r. s.board.count < r.offset)) (sym e) tt; ordered = subst AreOrdered (sym e) tt }
due_served-late {C} t (r ∷ rs) s e order =
    let z = served t r (s.board.count - r.offset) s in
    let left : z.board.left ≡ rs = (operated_all-keeps t r.ops.items _).left ∙ ap (drop 1) e in
    of (leb_tells r.offset s.board.count) (due_served-late t rs z left order.1)
  where
    of : ((leb r.offset s.board.count ≡ true) × (r.offset ≤ s.board.count)) ⊎ ((leb r.offset s.board.count ≡ false) × (s.board.count < r.offset))
        → Late (due_served t rs (served t r (s.board.count - r.offset) s)) → Late (cond (leb r.offset s.board.count) (due_served t rs (served t r (s.board.count - r.offset) s)) s)
    of (inl h) next = subst (λ (b : Bool). Late (cond b (due_served t rs (served t r (s.board.count - r.offset) s)) s)) (sym h.0) next
    of (inr h) next =
        let here : Late s = record {
          above = subst (Each (λ q. s.board.count < q.offset)) (sym e) (h.1, Each-from s.board.count r h.1 rs order.0);
          ordered = subst AreOrdered (sym e) order;
        } in
        subst (λ (b : Bool). Late (cond b (due_served t rs (served t r (s.board.count - r.offset) s)) s)) (sym h.0) here

pub served_late : {C : Type 0} (t : Table C) (s : Scene C) → AreOrdered s.board.left → Late (serve_due t s)
served_late t s order = due_served-late t s.board.left s refl order
