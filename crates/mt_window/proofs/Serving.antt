-- What operations leave of the board.
use Rattle.std.proofs.Common.{ℕ, suc, ◌+◌, ◌-◌, ◌<◌, ◌≤◌, ◌≡◌, Bool, true, false, cond, leb, List, [], ◌∷◌, ◌++◌, drop, length, get_or, Some, None, refl, sym, ap, ◌∙◌, subst, arith, length-append}
use Rattle.std.proofs.lemmas.List.{at_drop_more}
use Rattle.std.proofs.lemmas.Bool.{le-leb}
use Rattle.std.proofs.lemmas.Bool.Decides.{nat_tests}
use Rattle.mt_port.specs.declared.board.Shape.{Shape}
use Rattle.std.specs.Prelude.{All}
use Rattle.mt_port.specs.declared.request.Request.{Request}
use Rattle.mt_port.specs.declared.request.Due.{Due}
use Rattle.mt_port.specs.declared.request.HandlerOp.{HandlerOp}
use Rattle.mt_port.specs.declared.request.Module.{Module}
use Rattle.mt_port.specs.Board.{Board, AreOrdered, first_due, first_left, after_take}
use Rattle.mt_window.specs.declared.log.Entry.TheVariants.{Served, Inner}
use Rattle.mt_window.specs.Kept.{cond_case}
use Rattle.mt_window.specs.Serving.{Table, Scene, operated, operated_all, reply_by, begun, served, due_served, left_served, cost, IsReady, IsSoundHandlerOp}

-- one more operation
pub operated_all-step : {C : Type 0} (t : Table C) (ops : List HandlerOp) (i : ℕ) (d : HandlerOp) (s s' : Scene C) → i < length ops
    → s' ≡ operated t s (get_or ops i d) → operated_all t (drop (i + 1) ops) s' ≡ operated_all t (drop i ops) s
operated_all-step t ops i d s s' h e =
    ap (operated_all t (drop (i + 1) ops)) e ∙ sym (at_drop_more (λ xs. operated_all t xs s) ops i d h)

-- the board but for its words, and the length of the log
pub record Keeps {C : Type 0} (n : ℕ) (a b : Scene C) : Type 0 where
  pub shape : b.board.shape ≡ a.board.shape
  pub fault : b.board.fault ≡ a.board.fault
  pub flash : b.board.flash ≡ a.board.flash
  pub held : b.board.held ≡ a.board.held
  pub defect : b.board.defect ≡ a.board.defect
  pub count : b.board.count ≡ a.board.count
  pub left : b.board.left ≡ a.board.left
  pub taken : b.board.taken ≡ a.board.taken
  pub log : length b.log ≡ length a.log + n

pub operated_all-keeps : {C : Type 0} (t : Table C) (ops : List HandlerOp) (s : Scene C) → Keeps (length ops) s (operated_all t ops s)
operated_all-keeps t [] s = record { shape = refl; fault = refl; flash = refl; held = refl; defect = refl; count = refl; left = refl; taken = refl; log = omega arith }
operated_all-keeps t (op ∷ ops) s =
    let k = operated_all-keeps t ops (operated t s op) in
    record {
      shape = k.shape;
      fault = k.fault;
      flash = k.flash;
      held = k.held;
      defect = k.defect;
      count = k.count;
      left = k.left;
      taken = k.taken;
      log = omega (arith, k.log, length-append s.log (Inner (reply_by t s.board s.callee op) ∷ []));
    }

-- a request as it is handed out
abbrev pub due_of : Board → Request → Due
due_of b r = record { number = b.taken + 1; at = b.count; request = r }

-- a request was handed out
pub record Handed (b : Board) (due : Due) : Type 0 where
  pub rest : List Request
  pub split : b.left ≡ due.request ∷ rest
  pub whole : due ≡ record { number = b.taken + 1; at = b.count; request = due.request }

pub due_handed : (b : Board) (due : Due) → Some due ≡ first_due b.count b.taken b.left → Handed b due × (due.request.offset ≤ b.count)
due_handed b due = of b.left refl
  where
    at : (r : Request) (rs : List Request) → b.left ≡ r ∷ rs → (x : Bool) → leb r.offset b.count ≡ x → Some due ≡ cond x (Some (due_of b r)) None → Handed b due × (due.request.offset ≤ b.count)
    at r rs e true h f =
        let d : due ≡ due_of b r = cc in
        let q : due.request ≡ r = ap (λ (x : Due). x.request) d in
        let low : r.offset ≤ b.count = grind (arith, nat_tests) in
        (record { rest = rs; split = e ∙ ap (λ (x : Request). x ∷ rs) (sym q); whole = d ∙ ap (due_of b) (sym q) }, subst (λ (x : Request). x.offset ≤ b.count) (sym q) low)
    at r rs e false h f = absurd cc

    of : (left : List Request) → b.left ≡ left → Some due ≡ first_due b.count b.taken left → Handed b due × (due.request.offset ≤ b.count)
    of [] e f = absurd cc
    of (r ∷ rs) e f = at r rs e (leb r.offset b.count) refl f

pub left_handed : (b : Board) (due : Due) → Some due ≡ first_left b.count b.taken b.left → Handed b due
left_handed b due = of b.left refl
  where
    of : (left : List Request) → b.left ≡ left → Some due ≡ first_left b.count b.taken left → Handed b due
    of [] e f = absurd cc
    of (r ∷ rs) e f =
        let d : due ≡ due_of b r = cc in
        let q : due.request ≡ r = ap (λ (x : Due). x.request) d in
        record { rest = rs; split = e ∙ ap (λ (x : Request). x ∷ rs) (sym q); whole = d ∙ ap (due_of b) (sym q) }

-- the scene once a request that was handed out is served
pub handed_served : {C : Type 0} (t : Table C) (a z : Scene C) (b : Board) (due : Due) (wait w : ℕ) → Handed a.board due → wait ≡ w
    → b ≡ after_take a.board (Some due) → z ≡ operated_all t due.request.ops.items (begun due wait b a.callee a.log)
    → z ≡ served t due.request w a
handed_served {C} t a z b due wait w h e f g =
    let make : Due → ℕ → Board → Scene C = λ d n x. operated_all t due.request.ops.items (begun d n x a.callee a.log) in
    g ∙ ap (λ (d : Due). make d wait b) h.whole ∙ ap (λ (n : ℕ). make (record { number = a.board.taken + 1; at = a.board.count; request = due.request }) n b) e
    ∙ ap (make (record { number = a.board.taken + 1; at = a.board.count; request = due.request }) w) f

pub served-left : {C : Type 0} (t : Table C) (a z : Scene C) (due : Due) (w : ℕ) (h : Handed a.board due) → z ≡ served t due.request w a → z.board.left ≡ h.rest
served-left t a z due w h e =
    ap (λ (s : Scene _). s.board.left) e
    ∙ (operated_all-keeps t due.request.ops.items _).left
    ∙ ap (drop 1) h.split

pub due_step : {C : Type 0} (t : Table C) (a z : Scene C) (due : Due) → (h : Handed a.board due) → due.request.offset ≤ a.board.count
    → z ≡ served t due.request (a.board.count - due.request.offset) a → due_served t z.board.left z ≡ due_served t a.board.left a
due_step t a z due h low e =
    let r = due.request in
    ap (λ (l : List Request). due_served t l z) (served-left t a z due _ h e)
    ∙ ap (due_served t h.rest) e
    ∙ ap (λ (x : Bool). cond x (due_served t h.rest (served t r (a.board.count - r.offset) a)) a) (sym (le-leb r.offset a.board.count low))
    ∙ sym (ap (λ (l : List Request). due_served t l a) h.split)

pub left_step : {C : Type 0} (t : Table C) (a z : Scene C) (due : Due) → (h : Handed a.board due)
    → z ≡ served t due.request 0 a → left_served t z.board.left z ≡ left_served t a.board.left a
left_step t a z due h e =
    ap (λ (l : List Request). left_served t l z) (served-left t a z due _ h e)
    ∙ ap (left_served t h.rest) e
    ∙ sym (ap (λ (l : List Request). left_served t l a) h.split)

pub ready_step : {C : Type 0} (t : Table C) (kind : Module) (a z : Scene C) (due : Due) (w : ℕ) → (h : Handed a.board due)
    → z ≡ served t due.request w a → IsReady kind a.board a.log → IsReady kind z.board z.log
ready_step t kind a z due w h e ready =
    let k = operated_all-keeps t due.request.ops.items _ in
    let left = served-left t a z due w h e in
    let shape : z.board.shape ≡ a.board.shape = ap (λ (s : Scene _). s.board.shape) e ∙ k.shape in
    let sound : All (λ r. All (IsSoundHandlerOp a.board.shape kind) r.ops.items) (due.request ∷ h.rest) =
    subst (λ (l : List Request). All (λ r. All (IsSoundHandlerOp a.board.shape kind) r.ops.items) l) h.split ready.sound in
    let ordered : AreOrdered (due.request ∷ h.rest) = subst AreOrdered h.split ready.ordered in
    let long : length z.log ≡ length (a.log ++ Served (a.board.taken + 1) a.board.count w ∷ []) + length due.request.ops.items = ap (λ (s : Scene _). length s.log) e ∙ k.log in
    let more = length-append a.log (Served (a.board.taken + 1) a.board.count w ∷ []) in
    let paid : cost a.board.left ≡ 1 + length due.request.ops.items + cost h.rest = ap cost h.split in
    record {
      free = ap (λ (s : Scene _). s.board.held) e ∙ k.held ∙ ready.free;
      room = omega (arith, long, more, paid, ap cost left, ready.room);
      sound = subst (λ (l : List Request). All (λ r. All (IsSoundHandlerOp z.board.shape kind) r.ops.items) l) (sym left)
          (subst (λ (x : Shape). All (λ r. All (IsSoundHandlerOp x kind) r.ops.items) h.rest) (sym shape) (λ i d low. sound (suc i) d (omega arith)));
      ordered = subst AreOrdered (sym left) ordered.1;
    }

-- the handler of a request that was handed out is sound
pub handler_sound : (kind : Module) (b : Board) (due : Due) → Handed b due
    → All (λ r. All (IsSoundHandlerOp b.shape kind) r.ops.items) b.left → All (IsSoundHandlerOp b.shape kind) due.request.ops.items
handler_sound kind b due h all =
    let sound : All (λ r. All (IsSoundHandlerOp b.shape kind) r.ops.items) (due.request ∷ h.rest) =
    subst (λ (l : List Request). All (λ r. All (IsSoundHandlerOp b.shape kind) r.ops.items) l) h.split all in
    sound 0 due.request (omega arith)

-- what the serving of requests leaves of the board
pub record Stays {C : Type 0} (a b : Scene C) : Type 0 where
  pub shape : b.board.shape ≡ a.board.shape
  pub fault : b.board.fault ≡ a.board.fault
  pub flash : b.board.flash ≡ a.board.flash
  pub held : b.board.held ≡ a.board.held
  pub defect : b.board.defect ≡ a.board.defect
  pub count : b.board.count ≡ a.board.count

pub Stays-refl : {C : Type 0} (a : Scene C) → Stays a a
Stays-refl a = record { shape = refl; fault = refl; flash = refl; held = refl; defect = refl; count = refl }

pub Stays-trans : {C : Type 0} {a b c : Scene C} → Stays a b → Stays b c → Stays a c
Stays-trans p q =
    record { shape = q.shape ∙ p.shape; fault = q.fault ∙ p.fault; flash = q.flash ∙ p.flash; held = q.held ∙ p.held; defect = q.defect ∙ p.defect; count = q.count ∙ p.count }

pub served-stays : {C : Type 0} (t : Table C) (r : Request) (w : ℕ) (s : Scene C) → Stays s (served t r w s)
served-stays t r w s =
    let k = operated_all-keeps t r.ops.items (begun (record { number = s.board.taken + 1; at = s.board.count; request = r }) w
    (record (s.board) { left = drop 1 s.board.left; taken = s.board.taken + 1 }) s.callee s.log) in
    record { shape = k.shape; fault = k.fault; flash = k.flash; held = k.held; defect = k.defect; count = k.count }

pub due_served-stays : {C : Type 0} (t : Table C) (rs : List Request) (s : Scene C) → Stays s (due_served t rs s)
due_served-stays t [] s = Stays-refl s
due_served-stays {C} t (r ∷ rs) s =
    let z = served t r (s.board.count - r.offset) s in
    cond_case (λ (x : Scene C). Stays s x) (leb r.offset s.board.count) (due_served t rs z) s
    (Stays-trans (served-stays t r (s.board.count - r.offset) s) (due_served-stays t rs z)) (Stays-refl s)

pub left_served-stays : {C : Type 0} (t : Table C) (rs : List Request) (s : Scene C) → Stays s (left_served t rs s)
left_served-stays t [] s = Stays-refl s
left_served-stays t (r ∷ rs) s = Stays-trans (served-stays t r 0 s) (left_served-stays t rs (served t r 0 s))
