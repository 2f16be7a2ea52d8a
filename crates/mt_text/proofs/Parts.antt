-- The parts of a line that its tokens lead to are good, and a whole line is accepted.
use Rattle.std.proofs.Common.{◌≡◌, ℕ, ◌+◌, ◌<◌, ◌≤◌, nat_le, Bool, true, false, List, [], ◌∷◌, ◌++◌, length, Option, Some, None, Result, Ok, Err, refl, sym, subst, arith, length-append, IfOk}
use Rattle.std.specs.List.{All}
use Rattle.std.proofs.lemmas.Bool.Decides.{nat_tests}
use Rattle.std.proofs.lemmas.List.Elements.{All-nil, All-head, All-push}
use Rattle.mt_port.specs.declared.board.Shape.{Shape}
use Rattle.mt_port.specs.declared.request.Module.{Module}
use Rattle.mt_port.specs.declared.request.Module.TheVariants.{RamTst, FlsTst}
use Rattle.mt_port.specs.declared.request.HandlerOp.{HandlerOp}
use Rattle.mt_port.specs.declared.request.Request.{Request}
use Rattle.mt_port.specs.Board.{IsSoundInHandler, AreOrdered}
use Rattle.mt_text.specs.declared.request.Mark.{Mark}
use Rattle.mt_text.specs.Tokens.{Token, tokens}
use Rattle.mt_text.specs.Forms.{Form, done, none, row, barred, value, spot, mark}
use Rattle.mt_text.specs.Lines.{event, app_op, op_form, running_module, Part, Start, Ended, Requests, Handler, Open, Operation, Separator, part_form, follows, followed, request, line, last_offset, whole, whole_at, settled, Leads, SpellsAt, Spells, is_comment, line_of}
use Rattle.mt_text.specs.declared.line.Event.{Event}
use Rattle.mt_text.specs.declared.line.Event.TheVariants.{Nothing}
use Rattle.mt_text.specs.declared.line.Line.{Line}
use Rattle.mt_text.specs.declared.line.LineRefusal.{LineRefusal}
use Rattle.mt_text.proofs.Readings.{spells_from}
use Rattle.mt_text.specs.Accepted.{IsNumber, IsSoundEvent, IsFor, IsRequest, IsAccepted}
use Rattle.mt_text.proofs.Accepts.{Every, every_mapped, every_step}
use Rattle.mt_text.proofs.Sound.{IsGoodOp, events, operations}

-- the requests of a running event
record AreGood (shape : Shape) (callee : Module) (rs : List Request) : Type 0 where
  few : length rs ≤ 16
  ordered : AreOrdered rs
  sound : All (λ (r : Request). All (IsSoundInHandler shape) r.ops.items) rs
  calls : All (IsRequest callee) rs

record Runs (shape : Shape) (callee : Module) (ev : Event) (rs : List Request) : Type 0 where
  event : IsSoundEvent shape ev
  callee_of : running_module ev ≡ Some callee
  requests : AreGood shape callee rs

-- an offset that may come next
record Comes (rs : List Request) (n : ℕ) : Type 0 where
  number : IsNumber n
  least : last_offset rs ≤ n
  room : length rs < 16

record AreOps (shape : Shape) (callee : Module) (ops : List HandlerOp) : Type 0 where
  few : length ops ≤ 8
  good : All (IsGoodOp shape callee) ops

abbrev IsGoodPart : Shape → Part → Type 0
IsGoodPart shape Start = Unit {0}
IsGoodPart shape (Ended ev) = IsSoundEvent shape ev × (running_module ev ≡ None)
IsGoodPart shape (Requests m ev rs) = Runs shape m ev rs
IsGoodPart shape (Handler m ev rs n) = Runs shape m ev rs × Comes rs n.offset
IsGoodPart shape (Open m ev rs n) = Runs shape m ev rs × Comes rs n.offset
IsGoodPart shape (Operation m ev rs n ops) = Runs shape m ev rs × Comes rs n.offset × AreOps shape m ops
IsGoodPart shape (Separator m ev rs n ops) = Runs shape m ev rs × Comes rs n.offset × AreOps shape m ops

-- ---- one more request

first_least : (r : Request) (rs : List Request) (n : ℕ) → AreOrdered (r ∷ rs) → last_offset (r ∷ rs) ≤ n → r.offset ≤ n
first_least r [] n o l = l
first_least r (s ∷ rs) n o l = let m = first_least s rs n o.1 l in let k : r.offset ≤ s.offset = All-head (λ (q : Request). r.offset ≤ q.offset) s rs o.0 in omega arith

ordered_more : (rs : List Request) (n : Mark) (ops : List HandlerOp) → AreOrdered rs → last_offset rs ≤ n.offset → AreOrdered (rs ++ request n ops ∷ [])
ordered_more [] n ops o l = (All-nil _, tt)
ordered_more (r ∷ []) n ops o l = (All-push (λ (q : Request). r.offset ≤ q.offset) [] (request n ops) (All-nil _) l, (All-nil _, tt))
ordered_more (r ∷ s ∷ rs) n ops o l =
    (All-push (λ (q : Request). r.offset ≤ q.offset) (s ∷ rs) (request n ops) o.0 (first_least r (s ∷ rs) n.offset o l), ordered_more (s ∷ rs) n ops o.1 l)

sound_ops : (shape : Shape) (callee : Module) (ops : List HandlerOp) → All (IsGoodOp shape callee) ops → All (IsSoundInHandler shape) ops
sound_ops shape callee ops h k d lt = (h k d lt).0

own_calls : (shape : Shape) (callee : Module) (ops : List HandlerOp) → All (IsGoodOp shape callee) ops → All (IsFor callee) ops
own_calls shape callee ops h k d lt = (h k d lt).1

one_more : (shape : Shape) (callee : Module) (ev : Event) (rs : List Request) (n : Mark) (ops : List HandlerOp) → Runs shape callee ev rs → Comes rs n.offset → AreOps shape callee ops → Runs shape callee ev (rs ++ request n ops ∷ [])
one_more shape callee ev rs n ops r c o = record {
  event = r.event;
  callee_of = r.callee_of;
  requests = record {
    few = (let k = c.room in let m : length (rs ++ request n ops ∷ []) ≡ length rs + 1 = length-append rs (request n ops ∷ []) in omega arith);
    ordered = ordered_more rs n ops r.requests.ordered c.least;
    sound = All-push (λ (q : Request). All (IsSoundInHandler shape) q.ops.items) rs (request n ops) r.requests.sound (sound_ops shape callee ops o.good);
    calls = All-push (IsRequest callee) rs (request n ops) r.requests.calls (record { number = c.number; few = o.few; calls = own_calls shape callee ops o.good });
  };
}

no_ops : (shape : Shape) (callee : Module) → AreOps shape callee []
no_ops shape callee = record { few = omega arith; good = All-nil (IsGoodOp shape callee) }

op_more : (shape : Shape) (callee : Module) (ops : List HandlerOp) (op : HandlerOp) → length ops < 8 → AreOps shape callee ops → IsGoodOp shape callee op → AreOps shape callee (ops ++ op ∷ [])
op_more shape callee ops op lt o g = record {
  few = (let m : length (ops ++ op ∷ []) ≡ length ops + 1 = length-append ops (op ∷ []) in omega arith);
  good = All-push (IsGoodOp shape callee) ops op o.good g;
}

-- ---- each part leads to good ones

begun : (shape : Shape) (ev : Event) (o : Option Module) → IsSoundEvent shape ev → running_module ev ≡ o → IsGoodPart shape (followed ev o)
begun shape ev None h e = (h, e)
begun shape ev (Some m) h e = record { event = h; callee_of = e; requests = record { few = omega arith; ordered = tt; sound = All-nil _; calls = All-nil (IsRequest m) } }

weaker : {X : Type 0} (shape : Shape) (P Q : X → Type 0) (F : Form X) → ((x : X) → P x → Q x) → Every shape P F → Every shape Q F
weaker shape P Q (done x) w h = w x h
weaker shape P Q none w h = tt
weaker shape P Q (row u g k) w h = (weaker shape P Q g w h.0, weaker shape P Q k w h.1)
weaker shape P Q (barred u b g k) w h = weaker shape P Q k w h
weaker shape P Q (value s g) w h = λ n i. weaker shape P Q (g n) w (h n i)
weaker shape P Q (spot s g) w h = λ n i. weaker shape P Q (g n) w (h n i)
weaker shape P Q (mark l c g) w h = λ n i. weaker shape P Q (g n) w (h n i)

-- what an operation leads to, where the handler isn't full; a full one takes none
operation_leads : (shape : Shape) (m : Module) (full : Bool) (ops : List HandlerOp) → nat_le 8 (length ops) ≡ full → AreOps shape m ops → Every shape (λ op. AreOps shape m (ops ++ op ∷ [])) (op_form m full)
unfolding op_form app_op
operation_leads shape RamTst true ops e o = tt
operation_leads shape FlsTst true ops e o = tt
operation_leads shape RamTst false ops e o = weaker shape (IsGoodOp shape RamTst) (λ op. AreOps shape RamTst (ops ++ op ∷ [])) (op_form RamTst false) (λ op g. op_more shape RamTst ops op (grind (arith, nat_tests)) o g) (operations shape RamTst false)
operation_leads shape FlsTst false ops e o = weaker shape (IsGoodOp shape FlsTst) (λ op. AreOps shape FlsTst (ops ++ op ∷ [])) (op_form FlsTst false) (λ op g. op_more shape FlsTst ops op (grind (arith, nat_tests)) o g) (operations shape FlsTst false)

after_operation : (shape : Shape) (m : Module) (ev : Event) (rs : List Request) (n : Mark) (ops : List HandlerOp) → Runs shape m ev rs → Comes rs n.offset → AreOps shape m ops
    → Every shape (IsGoodPart shape) (part_form (Operation m ev rs n ops))
after_operation shape m ev rs n ops r c o =
    every_mapped shape (IsGoodPart shape) (λ op. Separator m ev rs n (ops ++ op ∷ [])) (op_form m (nat_le 8 (length ops)))
    (weaker shape (λ op. AreOps shape m (ops ++ op ∷ [])) (λ op. IsGoodPart shape (Separator m ev rs n (ops ++ op ∷ []))) (op_form m (nat_le 8 (length ops))) (λ op k. (r, c, k)) (operation_leads shape m (nat_le 8 (length ops)) ops refl o))

after_mark : (shape : Shape) (m : Module) (ev : Event) (rs : List Request) → Runs shape m ev rs → Every shape (IsGoodPart shape) (part_form (Requests m ev rs))
after_mark shape m ev rs r = λ n i. (r, record { number = i.0; least = i.1; room = i.2 })

after_part : (shape : Shape) (p : Part) → IsGoodPart shape p → Every shape (IsGoodPart shape) (part_form p)
after_part shape Start h = every_mapped shape (IsGoodPart shape) follows event (weaker shape (IsSoundEvent shape) (λ ev. IsGoodPart shape (follows ev)) event (λ ev k. begun shape ev (running_module ev) k refl) (events shape))
after_part shape (Ended ev) h = tt
after_part shape (Requests m ev rs) h = after_mark shape m ev rs h
after_part shape (Handler m ev rs n) h = (h, after_mark shape m ev (rs ++ request n [] ∷ []) (one_more shape m ev rs n [] h.0 h.1 (no_ops shape m)))
after_part shape (Open m ev rs n) h = (one_more shape m ev rs n [] h.0 h.1 (no_ops shape m), after_operation shape m ev rs n [] h.0 h.1 (no_ops shape m))
after_part shape (Operation m ev rs n ops) h = after_operation shape m ev rs n ops h.0 h.1 h.2
after_part shape (Separator m ev rs n ops) h = (h, (one_more shape m ev rs n ops h.0 h.1 h.2, tt))

after_settled : (shape : Shape) (f : Form Part) → Every shape (IsGoodPart shape) f → Every shape (IsGoodPart shape) (settled f)
after_settled shape (done p) h = after_part shape p h
after_settled shape none h = h
after_settled shape (row w g k) h = h
after_settled shape (barred w b g k) h = h
after_settled shape (value s g) h = h
after_settled shape (spot s g) h = h
after_settled shape (mark l c g) h = h

led : (shape : Shape) (f g : Form Part) (ts : List Token) → Leads shape f ts g → Every shape (IsGoodPart shape) f → Every shape (IsGoodPart shape) g
unfolding Leads
led shape f g [] l h = subst (Every shape (IsGoodPart shape)) l h
led shape f g (t ∷ ts) l h = led shape l.0 g ts l.2 (every_step shape (IsGoodPart shape) (settled f) t.bytes l.0 (after_settled shape f h) l.1)

-- ---- the whole line

without_requests : (shape : Shape) (ev : Event) → IsSoundEvent shape ev → running_module ev ≡ None → IsAccepted shape (line ev [])
without_requests shape ev h e = record { event = h; requests = record { few = omega arith; ordered = tt; sound = All-nil _ }; callees = rw e refl }

with_requests : (shape : Shape) (callee : Module) (ev : Event) (rs : List Request) → Runs shape callee ev rs → IsAccepted shape (line ev rs)
with_requests shape callee ev rs r = record {
  event = r.event;
  requests = record { few = r.requests.few; ordered = r.requests.ordered; sound = r.requests.sound };
  callees = rw r.callee_of r.requests.calls;
}

ended : (shape : Shape) (p : Part) (l : Line) → IsGoodPart shape p → whole p ≡ Some l → IsAccepted shape l
ended shape Start l h e = let same : line Nothing [] ≡ l = cc in subst (IsAccepted shape) same (without_requests shape Nothing tt refl)
ended shape (Ended ev) l h e = let same : line ev [] ≡ l = cc in subst (IsAccepted shape) same (without_requests shape ev h.0 h.1)
ended shape (Requests m ev rs) l h e = let same : line ev rs ≡ l = cc in subst (IsAccepted shape) same (with_requests shape m ev rs h)
ended shape (Handler m ev rs n) l h e = let same : line ev (rs ++ request n [] ∷ []) ≡ l = cc in subst (IsAccepted shape) same (with_requests shape m ev (rs ++ request n [] ∷ []) (one_more shape m ev rs n [] h.0 h.1 (no_ops shape m)))
ended shape (Open m ev rs n) l h e = absurd cc
ended shape (Operation m ev rs n ops) l h e = absurd cc
ended shape (Separator m ev rs n ops) l h e = absurd cc

ended_at : (shape : Shape) (f : Form Part) (l : Line) → Every shape (IsGoodPart shape) f → whole_at f ≡ Some l → IsAccepted shape l
ended_at shape (done p) l h e = ended shape p l h e
ended_at shape none l h e = absurd cc
ended_at shape (row w g k) l h e = absurd cc
ended_at shape (barred w b g k) l h e = absurd cc
ended_at shape (value s g) l h e = absurd cc
ended_at shape (spot s g) l h e = absurd cc
ended_at shape (mark n c g) l h e = absurd cc

spelled_at : (shape : Shape) (comment : Bool) (ts : List Token) (l : Line) → SpellsAt comment shape ts l → IsAccepted shape l
spelled_at shape true ts l h = subst (IsAccepted shape) (sym h) (without_requests shape Nothing tt refl)
spelled_at shape false ts l h = ended_at shape h.last l (led shape (done Start) h.last ts h.leads tt) h.ends

pub spelled_is_accepted : (shape : Shape) (text : List ℕ) (l : Line) → Spells shape text l → IsAccepted shape l
unfolding Spells
spelled_is_accepted shape text l h = spelled_at shape (is_comment (tokens 1 text)) (tokens 1 text) l h

pub ok_accepted : (shape : Shape) (text : List ℕ) (r : Result Line LineRefusal) → line_of shape text ≡ r → IfOk r (λ l. IsAccepted shape l)
ok_accepted shape text (Ok l) h = spelled_is_accepted shape text l (spells_from shape text l h)
ok_accepted shape text (Err e) h = tt
