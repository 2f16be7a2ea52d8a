-- Each wait is 0 or below the length of the attempt that it meets.
use Rattle.std.proofs.Common.{ℕ, suc, ◌+◌, ◌-◌, ◌*◌, ◌<◌, ◌≤◌, ◌≡◌, Bool, true, false, cond, leb, List, [], ◌∷◌, ◌++◌, length, length-append, refl, sym, ◌∙◌, subst, arith, inl, inr}
use Rattle.std.specs.Prelude.{All, Any}
use Rattle.std.proofs.lemmas.Bool.{leb-true}
use Rattle.std.proofs.lemmas.List.{get_or_append_left}
use Rattle.std.proofs.lemmas.List.Elements.{All-push}
use Rattle.std.proofs.lemmas.List.Quantifiers.{Any-push}
use Rattle.mt_port.specs.declared.request.Request.{Request}
use Rattle.mt_port.specs.declared.request.HandlerOp.{HandlerOp}
use Rattle.mt_window.specs.declared.reply.Reply.{Reply}
use Rattle.mt_window.specs.declared.log.Entry.{Entry}
use Rattle.mt_window.specs.declared.log.Entry.TheVariants.{Served, Inner, Own}
use Rattle.mt_window.specs.Serving.{Table, Scene, scene, operated, operated_all, reply_by, served, due_served, left_served, cost}
use Rattle.mt_window.specs.Slices.{Tests, Trail, Attempt, kept_attempt, scene_behind, after_attempt}
use Rattle.mt_window.specs.Events.{Running, opened, entered, ran, returned}
use Rattle.mt_window.specs.Waits.{IsShort, WaitsAreShortIn, AttemptsAreWithin, MakesShortAttempts, AnEventHasRoom}
use Rattle.mt_window.specs.Kept.{slices-keeps}
use Rattle.mt_window.proofs.Serving.{operated_all-keeps}
use Rattle.mt_window.proofs.Late.{Each, Each-map, Each-all, Late, served_late}

operated_all-log : {C : Type 0} (t : Table C) (P : Entry → Type 0) → ((r : Reply) → P (Inner r)) → (ops : List HandlerOp) (s : Scene C) → All P s.log → All P ((operated_all t ops s).log)
operated_all-log t P inner [] s all = all
operated_all-log t P inner (op ∷ ops) s all =
    operated_all-log t P inner ops (operated t s op) (All-push P s.log (Inner (reply_by t s.board s.callee op)) all (inner (reply_by t s.board s.callee op)))

served-log : {C : Type 0} (t : Table C) (P : Entry → Type 0) → ((r : Reply) → P (Inner r)) → (r : Request) (w : ℕ) (s : Scene C) → P (Served (s.board.taken + 1) s.board.count w)
    → All P s.log → All P ((served t r w s).log)
served-log t P inner r w s one all = operated_all-log t P inner r.ops.items _ (All-push P s.log (Served (s.board.taken + 1) s.board.count w) all one)

due_served-log : {C : Type 0} (t : Table C) (P : Entry → Type 0) → ((r : Reply) → P (Inner r)) → (rs : List Request) (s : Scene C)
    → Each (λ r. r.offset ≤ s.board.count → (n : ℕ) → P (Served n s.board.count (s.board.count - r.offset))) rs → All P s.log → All P ((due_served t rs s).log)
due_served-log t P inner [] s each all = all
due_served-log {C} t P inner (r ∷ rs) s each all =
    let z = served t r (s.board.count - r.offset) s in
    of (leb r.offset s.board.count) refl (λ low. due_served-log t P inner rs z
    (subst (λ (n : ℕ). Each (λ r. r.offset ≤ n → (m : ℕ) → P (Served m n (n - r.offset))) rs) (sym (operated_all-keeps t r.ops.items _).count) each.1)
    (served-log t P inner r (s.board.count - r.offset) s (each.0 low (s.board.taken + 1)) all))
  where
    of : (b : Bool) → leb r.offset s.board.count ≡ b
        → (r.offset ≤ s.board.count → All P ((due_served t rs (served t r (s.board.count - r.offset) s)).log)) → All P ((cond b (due_served t rs (served t r (s.board.count - r.offset) s)) s).log)
    of true e next = next (leb-true r.offset s.board.count e)
    of false e next = all

left_served-log : {C : Type 0} (t : Table C) (P : Entry → Type 0) → ((r : Reply) → P (Inner r)) → ((n b : ℕ) → P (Served n b 0)) → (rs : List Request) (s : Scene C) → All P s.log → All P ((left_served t rs s).log)
left_served-log t P inner none [] s all = all
left_served-log t P inner none (r ∷ rs) s all = left_served-log t P inner none rs (served t r 0 s) (served-log t P inner r 0 s (none (s.board.taken + 1) s.board.count) all)

-- a wait that is short stays so when another attempt is made
Any-more : {X : Type 0} (P : X → Type 0) (xs : List X) (y : X) → Any P xs → Any P (xs ++ y ∷ [])
Any-more P xs y (k, x, low, at, p) =
    let n : length (xs ++ y ∷ []) ≡ length xs + 1 = length-append xs (y ∷ []) in
    (k, x, omega (arith, low, n), get_or_append_left xs (y ∷ []) x k low ∙ at, p)

short-more : (made : List Attempt) (a : Attempt) (e : Entry) → IsShort made e → IsShort (made ++ a ∷ []) e
short-more made a (Served number place wait) (inl none) = inl none
short-more made a (Served number place wait) (inr some) = inr (Any-more _ made a some)
short-more made a (Inner reply) h = tt
short-more made a (Own reply) h = tt

record Waits {C : Type 0} (g : Trail C) : Type 0 where
  late : Late g.scene
  short : All (IsShort g.attempts) g.scene.log

attempt-waits : {C X V : Type 0} (t : Tests C X V) (may : Bool) (x : X) (g : Trail C) → Waits g → Waits (after_attempt t may g x)
attempt-waits t may x g h =
    let mid = scene_behind t may g x in
    let a = kept_attempt t may g x in
    let P : Entry → Type 0 = IsShort (g.attempts ++ a ∷ []) in
    let each : Each (λ (r : Request). r.offset ≤ mid.board.count → (n : ℕ) → P (Served n mid.board.count (mid.board.count - r.offset))) mid.board.left =
    Each-map (λ (r : Request). g.scene.board.count < r.offset) (λ (r : Request). r.offset ≤ mid.board.count → (n : ℕ) → P (Served n mid.board.count (mid.board.count - r.offset)))
    (λ r above low n. inr (Any-push (λ (b : Attempt). (b.finish ≡ mid.board.count) × (mid.board.count - r.offset < b.made)) g.attempts a (refl, omega arith)))
    g.scene.board.left h.late.above in
    record {
      late = served_late t.table mid h.late.ordered;
      short = due_served-log t.table P (λ q. tt) mid.board.left mid each (λ k d low. short-more g.attempts a _ (h.short k d low));
    }

pub event-waits : {C X V : Type 0} (r : Running C X V) → WaitsAreShortIn r
event-waits {C} {X} {V} r s fresh =
    let t = r.tests in
    let first : Scene C = scene s.board (r.cleared s.callee) s.log in
    let o = opened r s in
    let none : All (IsShort []) s.log = subst (All (IsShort [])) (sym fresh.empty) (λ k d h. absurd (omega (arith, h))) in
    let each : Each (λ q. q.offset ≤ s.board.count → (n : ℕ) → IsShort [] (Served n s.board.count (s.board.count - q.offset))) s.board.left =
    Each-all s.board.left (λ (q : Request). q.offset ≤ s.board.count → (n : ℕ) → IsShort [] (Served n s.board.count (s.board.count - q.offset))) (λ q low n. inl (omega (arith, fresh.start))) in
    let late : Late o = served_late t.table first fresh.ordered in
    let start : Waits (entered r o) = record {
      late = record { above = late.above; ordered = late.ordered };
      short = due_served-log t.table (IsShort []) (λ q. tt) s.board.left first each none;
    } in
    let end = slices-keeps t (λ (g : Trail C). Waits g) (attempt-waits t) (r.work o.callee) (entered r o) start in
    let z = ran r o in
    left_served-log t.table (IsShort z.attempts) (λ q. tt) (λ n b. inl refl) z.scene.board.left (returned r o z.scene) end.short

-- no attempt of an event has more accesses than the sequence of its slice
pub event-within : {C X V : Type 0} (r : Running C X V) → AttemptsAreWithin r.tests → MakesShortAttempts r
event-within {C} {X} {V} r within s =
    let o = opened r s in
    slices-keeps r.tests (λ (g : Trail C). All (λ (a : Attempt). a.made ≤ a.whole) g.attempts) step (r.work o.callee) (entered r o) (λ k d h. absurd (omega (arith, h)))
  where
    step : (may : Bool) (x : X) (g : Trail C) → All (λ (a : Attempt). a.made ≤ a.whole) g.attempts → All (λ (a : Attempt). a.made ≤ a.whole) (after_attempt r.tests may g x).attempts
    step may x g all = All-push (λ (a : Attempt). a.made ≤ a.whole) g.attempts (kept_attempt r.tests may g x) all (within may g.scene.callee x g.scene.board)

pub event-room : AnEventHasRoom
event-room [] few short = omega arith
event-room (r ∷ rs) few short =
    let here : length r.ops.items ≤ 8 = short 0 r (omega arith) in
    let rest = cost-few rs (λ k d h. short (suc k) d (omega (arith, h))) in
    omega (arith, here, rest, few)
  where
    cost-few : (rs : List Request) → All (λ (r : Request). length r.ops.items ≤ 8) rs → cost rs ≤ 9 * length rs
    cost-few [] short = omega arith
    cost-few (r ∷ rs) short =
        let here : length r.ops.items ≤ 8 = short 0 r (omega arith) in
        let rest = cost-few rs (λ k d h. short (suc k) d (omega (arith, h))) in
        omega (arith, here, rest)
