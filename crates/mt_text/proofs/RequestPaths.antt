-- The words of canonical requests lead from part to part.
use Rattle.std.proofs.Common.{◌≡◌, ℕ, ◌+◌, ◌<◌, ◌≤◌, nat_le, nat_lt, Bool, true, false, List, [], ◌∷◌, ◌++◌, length, Some, Ok, refl, sym, ap, subst, ◌∙◌, ◌⊎◌, inl, inr, arith, codes, append_assoc, length-append}
use Rattle.std.proofs.lemmas.List.{append-nil}
use Rattle.std.proofs.lemmas.Bool.Decides.{nat_tests}
use Rattle.std.proofs.lemmas.List.Elements.{All-head, All-tail}
use Rattle.std.specs.List.{All}
use Rattle.std.specs.Str.{bytes_eq}
use Rattle.std.specs.Fmt.{decimal}
use Rattle.mt_word.specs.declared.Width.{Width}
use Rattle.mt_port.specs.declared.board.Shape.{Shape}
use Rattle.mt_port.specs.declared.request.Module.{Module}
use Rattle.mt_port.specs.declared.request.Module.TheVariants.{RamTst, FlsTst}
use Rattle.mt_port.specs.declared.request.AppOp.{AppOp}
use Rattle.mt_port.specs.declared.request.AppOp.TheVariants.{Read, Write, Add, Copy, Flash}
use Rattle.mt_port.specs.declared.request.HandlerCall.{HandlerCall}
use Rattle.mt_port.specs.declared.request.HandlerCall.TheVariants.{RamAllow, RamStop, RamSuspend, RamResume, RamGetExecutionStatus, RamGetTestResult, RamGetTestResultPerBlock, FlsSuspend, FlsResume, FlsAbort, FlsGetCurrentState, FlsGetTestResultBgnd, FlsGetTestResultFgnd}
use Rattle.mt_port.specs.declared.request.HandlerOp.{HandlerOp}
use Rattle.mt_port.specs.declared.request.HandlerOp.TheVariants as op
use Rattle.mt_port.specs.declared.request.Request.{Request}
use Rattle.mt_port.specs.Board.{IsWithinLimits, IsSoundInHandler, AreOrdered}
use Rattle.mt_window.specs.Calls.{module_of}
use Rattle.mt_text.specs.declared.request.Mark.{Mark}
use Rattle.mt_text.specs.declared.line.Event.{Event}
use Rattle.mt_text.specs.Tokens.{begins_word}
use Rattle.mt_text.specs.Values.{Num, mark_byte, mark_at}
use Rattle.mt_text.specs.Forms.{Form, done, row, step, mapped}
use Rattle.mt_text.specs.RamServices.{ram_handler_call}
use Rattle.mt_text.specs.FlsServices.{fls_handler_call}
use Rattle.mt_text.specs.Lines.{app_op, op_form, Part, Requests, Handler, Open, Operation, Separator, part_form, request_form, operation_form, request, line, last_offset, whole}
use Rattle.mt_text.specs.Accepted.{IsNumber, IsHandlerCall, IsFor, IsRequest}
use Rattle.mt_hex.specs.Digits.{word_text}
use Rattle.mt_text.specs.LineTokens.{IsWriting}
use Rattle.mt_text.specs.Canonical.{Piece, app_words_by, call_words, op_words, op_words_by, words, text_of, further_ops, handler_pieces, requests_pieces}
use Rattle.mt_text.proofs.Numbers.{number_of_text}
use Rattle.mt_text.proofs.Pieces.{pieces_of, pieces_of_words, AreWords, AreApart, apart_words}
use Rattle.mt_text.proofs.Leading.{Follows, follows_mapped, value_step, Path, from_part, path_append}
use Rattle.mt_text.proofs.Values.{canonical_writes, decimal_is_text, mark_is_text, num_reads}
use Rattle.mt_text.proofs.Spellings.{app_follows, app_are_words}

-- an operation that a handler of the module may have
pub record IsGoodOp (shape : Shape) (callee : Module) (o : HandlerOp) : Type 0 where
  pub sound : IsSoundInHandler shape o
  pub own : IsFor callee o

-- ---- one operation

call_follows : (shape : Shape) (callee : Module) (call : HandlerCall) → module_of call ≡ callee → IsHandlerCall call → Follows shape (op_form callee false) (call_words call) (done (op.Call call))
unfolding op_form ram_handler_call fls_handler_call
call_follows shape RamTst RamAllow e h = (_, refl, (_, refl, refl))
call_follows shape RamTst RamStop e h = (_, refl, (_, refl, refl))
call_follows shape RamTst RamSuspend e h = (_, refl, (_, refl, refl))
call_follows shape RamTst RamResume e h = (_, refl, (_, refl, refl))
call_follows shape RamTst RamGetExecutionStatus e h = (_, refl, (_, refl, refl))
call_follows shape RamTst RamGetTestResult e h = (_, refl, (_, refl, refl))
call_follows shape RamTst (RamGetTestResultPerBlock n) e h = (_, refl, (_, refl, (_, value_step shape Num _ (decimal n) n (num_reads shape n h), refl)))
call_follows shape RamTst FlsSuspend e h = absurd cc
call_follows shape RamTst FlsResume e h = absurd cc
call_follows shape RamTst FlsAbort e h = absurd cc
call_follows shape RamTst FlsGetCurrentState e h = absurd cc
call_follows shape RamTst FlsGetTestResultBgnd e h = absurd cc
call_follows shape RamTst FlsGetTestResultFgnd e h = absurd cc
call_follows shape FlsTst FlsSuspend e h = (_, refl, (_, refl, refl))
call_follows shape FlsTst FlsResume e h = (_, refl, (_, refl, refl))
call_follows shape FlsTst FlsAbort e h = (_, refl, (_, refl, refl))
call_follows shape FlsTst FlsGetCurrentState e h = (_, refl, (_, refl, refl))
call_follows shape FlsTst FlsGetTestResultBgnd e h = (_, refl, (_, refl, refl))
call_follows shape FlsTst FlsGetTestResultFgnd e h = (_, refl, (_, refl, refl))
call_follows shape FlsTst RamAllow e h = absurd cc
call_follows shape FlsTst RamStop e h = absurd cc
call_follows shape FlsTst RamSuspend e h = absurd cc
call_follows shape FlsTst RamResume e h = absurd cc
call_follows shape FlsTst RamGetExecutionStatus e h = absurd cc
call_follows shape FlsTst RamGetTestResult e h = absurd cc
call_follows shape FlsTst (RamGetTestResultPerBlock n) e h = absurd cc

-- the first word of an application operation is found behind the modules' words
same_first : (shape : Shape) (write : ℕ → List ℕ) (callee : Module) (o : AppOp) (w : List ℕ) (ws : List (List ℕ)) → app_words_by write o ≡ w ∷ ws → step shape (op_form callee false) w ≡ step shape (mapped (λ x. op.App x) app_op) w
unfolding op_form app_op
same_first shape write RamTst (Read a) w ws e = let s : codes "r" ≡ w = cc in rw (← s) refl
same_first shape write RamTst (Write a x) w ws e = let s : codes "w" ≡ w = cc in rw (← s) refl
same_first shape write RamTst (Add a x) w ws e = let s : codes "add" ≡ w = cc in rw (← s) refl
same_first shape write RamTst (Copy a b) w ws e = let s : codes "copy" ≡ w = cc in rw (← s) refl
same_first shape write RamTst (Flash a) w ws e = let s : codes "f" ≡ w = cc in rw (← s) refl
same_first shape write FlsTst (Read a) w ws e = let s : codes "r" ≡ w = cc in rw (← s) refl
same_first shape write FlsTst (Write a x) w ws e = let s : codes "w" ≡ w = cc in rw (← s) refl
same_first shape write FlsTst (Add a x) w ws e = let s : codes "add" ≡ w = cc in rw (← s) refl
same_first shape write FlsTst (Copy a b) w ws e = let s : codes "copy" ≡ w = cc in rw (← s) refl
same_first shape write FlsTst (Flash a) w ws e = let s : codes "f" ≡ w = cc in rw (← s) refl

over : {X : Type 0} (shape : Shape) (F G H : Form X) (ws : List (List ℕ)) → ((w : List ℕ) (us : List (List ℕ)) → ws ≡ w ∷ us → step shape F w ≡ step shape G w) → F ≡ G ⊎ ((w : List ℕ) × (us : List (List ℕ)) × (ws ≡ w ∷ us)) → Follows shape G ws H → Follows shape F ws H
over shape F G H [] same some h = elim some [ inl e ↦ e ∙ h | inr m ↦ absurd (let q = m.2 in cc) ]
over shape F G H (w ∷ ws) same some h = (h.0, same w ws refl ∙ h.1, h.2)

app_some : (write : ℕ → List ℕ) (o : AppOp) → (w : List ℕ) × (us : List (List ℕ)) × (app_words_by write o ≡ w ∷ us)
app_some write (Read a) = (_, _, refl)
app_some write (Write a x) = (_, _, refl)
app_some write (Add a x) = (_, _, refl)
app_some write (Copy a b) = (_, _, refl)
app_some write (Flash a) = (_, _, refl)

op_follows : (shape : Shape) (write : ℕ → List ℕ) → IsWriting shape.width write → (callee : Module) (o : HandlerOp) → IsWithinLimits shape → IsGoodOp shape callee o → Follows shape (op_form callee false) (op_words_by write o) (done o)
op_follows shape write writes callee (op.App o) w g =
    over shape (op_form callee false) (mapped (λ x. op.App x) app_op) (done (op.App o)) (app_words_by write o) (same_first shape write callee o) (inr (app_some write o))
    (follows_mapped shape (λ x. op.App x) app_op (app_words_by write o) (done o) (app_follows shape write writes o w g.sound))
op_follows shape write writes callee (op.Call call) w g = call_follows shape callee call (g.own).0 (g.own).1

call_are_words : (call : HandlerCall) → IsHandlerCall call → AreWords (call_words call)
call_are_words RamAllow h = (refl, (refl, tt))
call_are_words RamStop h = (refl, (refl, tt))
call_are_words RamSuspend h = (refl, (refl, tt))
call_are_words RamResume h = (refl, (refl, tt))
call_are_words RamGetExecutionStatus h = (refl, (refl, tt))
call_are_words RamGetTestResult h = (refl, (refl, tt))
call_are_words (RamGetTestResultPerBlock n) h = (refl, (refl, (decimal_is_text n h, tt)))
call_are_words FlsSuspend h = (refl, (refl, tt))
call_are_words FlsResume h = (refl, (refl, tt))
call_are_words FlsAbort h = (refl, (refl, tt))
call_are_words FlsGetCurrentState h = (refl, (refl, tt))
call_are_words FlsGetTestResultBgnd h = (refl, (refl, tt))
call_are_words FlsGetTestResultFgnd h = (refl, (refl, tt))

op_are_words : (shape : Shape) (callee : Module) (o : HandlerOp) → IsWithinLimits shape → IsGoodOp shape callee o → AreWords (op_words shape.width o)
op_are_words shape callee (op.App o) w g = app_are_words shape o w g.sound
op_are_words shape callee (op.Call call) w g = call_are_words call (g.own).1

-- ---- handlers

-- the first word of an operation closes no handler
op_first : (write : ℕ → List ℕ) (o : HandlerOp) → (w : List ℕ) × (us : List (List ℕ)) × (op_words_by write o ≡ w ∷ us) × (bytes_eq w (codes "]") ≡ false)
op_first write (op.App (Read a)) = (_, _, refl, refl)
op_first write (op.App (Write a x)) = (_, _, refl, refl)
op_first write (op.App (Add a x)) = (_, _, refl, refl)
op_first write (op.App (Copy a b)) = (_, _, refl, refl)
op_first write (op.App (Flash a)) = (_, _, refl, refl)
op_first write (op.Call RamAllow) = (_, _, refl, refl)
op_first write (op.Call RamStop) = (_, _, refl, refl)
op_first write (op.Call RamSuspend) = (_, _, refl, refl)
op_first write (op.Call RamResume) = (_, _, refl, refl)
op_first write (op.Call RamGetExecutionStatus) = (_, _, refl, refl)
op_first write (op.Call RamGetTestResult) = (_, _, refl, refl)
op_first write (op.Call (RamGetTestResultPerBlock n)) = (_, _, refl, refl)
op_first write (op.Call FlsSuspend) = (_, _, refl, refl)
op_first write (op.Call FlsResume) = (_, _, refl, refl)
op_first write (op.Call FlsAbort) = (_, _, refl, refl)
op_first write (op.Call FlsGetCurrentState) = (_, _, refl, refl)
op_first write (op.Call FlsGetTestResultBgnd) = (_, _, refl, refl)
op_first write (op.Call FlsGetTestResultFgnd) = (_, _, refl, refl)

path_from : (shape : Shape) (p : Part) (ws : List (List ℕ)) (g : Form Part) → (w : List ℕ) (us : List (List ℕ)) → ws ≡ w ∷ us → Follows shape (part_form p) ws g → Path shape (done p) ws g
path_from shape p [] g w us e h = absurd cc
path_from shape p (v ∷ vs) g w us e h = from_part shape p v vs g h

operation_follows : (shape : Shape) (write : ℕ → List ℕ) → IsWriting shape.width write → (m : Module) (ev : Event) (rs : List Request) (n : Mark) (before : List HandlerOp) (o : HandlerOp) → IsWithinLimits shape → IsGoodOp shape m o → length before < 8
    → Follows shape (operation_form m ev rs n before) (op_words_by write o) (done (Separator m ev rs n (before ++ o ∷ [])))
operation_follows shape write writes m ev rs n before o w g lt =
    let f : nat_le 8 (length before) ≡ false = grind (arith, nat_tests) in
    let E : Bool → Form Part = λ b. mapped (λ x. Separator m ev rs n (before ++ x ∷ [])) (op_form m b) in
    subst (λ (b : Bool). Follows shape (E b) (op_words_by write o) (done (Separator m ev rs n (before ++ o ∷ [])))) (sym f)
    (follows_mapped shape (λ x. Separator m ev rs n (before ++ x ∷ [])) (op_form m false) (op_words_by write o) (done o) (op_follows shape write writes m o w g))

pub operation_path : (shape : Shape) (write : ℕ → List ℕ) → IsWriting shape.width write → (m : Module) (ev : Event) (rs : List Request) (n : Mark) (before : List HandlerOp) (o : HandlerOp) → IsWithinLimits shape → IsGoodOp shape m o → length before < 8
    → Path shape (done (Operation m ev rs n before)) (op_words_by write o) (done (Separator m ev rs n (before ++ o ∷ [])))
operation_path shape write writes m ev rs n before o w g lt =
    let f = op_first write o in
    path_from shape (Operation m ev rs n before) (op_words_by write o) (done (Separator m ev rs n (before ++ o ∷ []))) f.0 f.1 f.2 (operation_follows shape write writes m ev rs n before o w g lt)

not_closing : (shape : Shape) (A B : Form Part) (u w : List ℕ) → u ≡ w → bytes_eq u (codes "]") ≡ false → step shape (row (codes "]") A B) w ≡ step shape B w
not_closing shape A B u w e h = let k : bytes_eq w (codes "]") ≡ false = subst (λ (x : List ℕ). bytes_eq x (codes "]") ≡ false) e h in rw k refl

head_same : (ws : List (List ℕ)) (u w : List ℕ) (us vs : List (List ℕ)) → ws ≡ u ∷ us → ws ≡ w ∷ vs → u ≡ w
head_same ws u w us vs e h = cc

pub open_path : (shape : Shape) (write : ℕ → List ℕ) → IsWriting shape.width write → (m : Module) (ev : Event) (rs : List Request) (n : Mark) (o : HandlerOp) → IsWithinLimits shape → IsGoodOp shape m o
    → Path shape (done (Open m ev rs n)) (op_words_by write o) (done (Separator m ev rs n (o ∷ [])))
open_path shape write writes m ev rs n o w g =
    let f = op_first write o in
    let A : Form Part = done (Requests m ev (rs ++ request n [] ∷ [])) in
    path_from shape (Open m ev rs n) (op_words_by write o) (done (Separator m ev rs n (o ∷ []))) f.0 f.1 f.2
    (over shape (part_form (Open m ev rs n)) (operation_form m ev rs n []) (done (Separator m ev rs n (o ∷ []))) (op_words_by write o)
    (λ v us e. not_closing shape A (operation_form m ev rs n []) f.0 v (head_same (op_words_by write o) f.0 v f.1 us f.2 e) f.3)
    (inr (f.0, f.1, f.2)) (operation_follows shape write writes m ev rs n [] o w g (omega arith)))

further_path : (shape : Shape) (m : Module) (ev : Event) (rs : List Request) (n : Mark) (before ops : List HandlerOp) → IsWithinLimits shape → All (IsGoodOp shape m) ops → length before + length ops ≤ 8
    → Path shape (done (Separator m ev rs n before)) (pieces_of (further_ops shape.width ops)) (done (Requests m ev (rs ++ request n (before ++ ops) ∷ [])))
further_path shape m ev rs n before [] w g lt = (_, refl, ap (λ (x : List HandlerOp). done (Requests m ev (rs ++ request n x ∷ []))) (sym (append-nil before)))
further_path shape m ev rs n before (o ∷ ops) w g lt =
    let l : length (before ++ o ∷ []) ≡ length before + 1 = length-append before (o ∷ []) in
    let E : List HandlerOp → Form Part = λ x. done (Requests m ev (rs ++ request n x ∷ [])) in
    let one = operation_path shape (word_text shape.width) (canonical_writes shape.width) m ev rs n before o w (All-head (IsGoodOp shape m) o ops g) (omega arith) in
    let more = further_path shape m ev rs n (before ++ o ∷ []) ops w (All-tail (IsGoodOp shape m) o ops g) (omega arith) in
    let whole_ = path_append shape (done (Operation m ev rs n before)) (op_words shape.width o) (done (Separator m ev rs n (before ++ o ∷ []))) (pieces_of (further_ops shape.width ops)) (E ((before ++ o ∷ []) ++ ops)) one more in (
      done (Operation m ev rs n before),
      refl,
      subst (λ (ws : List (List ℕ)). Path shape (done (Operation m ev rs n before)) ws (E (before ++ o ∷ ops))) (sym (pieces_of_words true (op_words shape.width o) (further_ops shape.width ops)))
          (subst (λ (x : List HandlerOp). Path shape (done (Operation m ev rs n before)) (op_words shape.width o ++ pieces_of (further_ops shape.width ops)) (E x)) (append_assoc before (o ∷ []) ops) whole_),
    )

handler_path : (shape : Shape) (m : Module) (ev : Event) (rs : List Request) (n : Mark) (o : HandlerOp) (ops : List HandlerOp) → IsWithinLimits shape → All (IsGoodOp shape m) (o ∷ ops) → length (o ∷ ops) ≤ 8
    → Path shape (done (Handler m ev rs n)) (pieces_of (handler_pieces shape.width (o ∷ ops))) (done (Requests m ev (rs ++ request n (o ∷ ops) ∷ [])))
handler_path shape m ev rs n o ops w g lt =
    let E : Form Part = done (Requests m ev (rs ++ request n (o ∷ ops) ∷ [])) in
    let one = open_path shape (word_text shape.width) (canonical_writes shape.width) m ev rs n o w (All-head (IsGoodOp shape m) o ops g) in
    let more = further_path shape m ev rs n (o ∷ []) ops w (All-tail (IsGoodOp shape m) o ops g) (omega arith) in
    let whole_ = path_append shape (done (Open m ev rs n)) (op_words shape.width o) (done (Separator m ev rs n (o ∷ []))) (pieces_of (further_ops shape.width ops)) E one more in
    (done (Open m ev rs n), refl, subst (λ (ws : List (List ℕ)). Path shape (done (Open m ev rs n)) ws E) (sym (pieces_of_words false (op_words shape.width o) (further_ops shape.width ops))) whole_)

-- ---- requests

-- the mark of a request
abbrev pub mark_of : Request → Mark
mark_of r = record { offset = r.offset; urgent = r.urgent }

-- a mark as it is written
abbrev pub mark_text : Mark → List ℕ
mark_text n = mark_byte n.urgent ∷ decimal n.offset

-- a place where the line may end and a further mark may stand
pub record Waits (shape : Shape) (m : Module) (ev : Event) (rs : List Request) (p : Part) : Type 0 where
  pub ends : whole p ≡ Some (line ev rs)
  pub marks : (n : Mark) → step shape (part_form p) (mark_text n) ≡ step shape (request_form m ev rs) (mark_text n)

-- what holds of the requests that are still to be written
pub record AreNext (shape : Shape) (m : Module) (before after : List Request) : Type 0 where
  pub room : length before + length after ≤ 16
  pub ordered : AreOrdered after
  pub least : All (λ (q : Request). last_offset before ≤ q.offset) after
  pub calls : All (IsRequest m) after
  pub sound : All (λ (r : Request). All (IsSoundInHandler shape) r.ops.items) after

mark_step : (shape : Shape) (m : Module) (ev : Event) (rs : List Request) (offset : ℕ) (urgent : Bool) → IsNumber offset → last_offset rs ≤ offset → length rs < 16
    → step shape (request_form m ev rs) (mark_byte urgent ∷ decimal offset) ≡ Ok (done (Handler m ev rs (record { offset = offset; urgent = urgent })))
unfolding mark_at
mark_step shape m ev rs n true lt le few =
    let a : nat_lt n (last_offset rs) ≡ false = grind (arith, nat_tests) in
    let b : nat_le 16 (length rs) ≡ false = grind (arith, nat_tests) in
    rw (number_of_text n lt, a, b) refl
mark_step shape m ev rs n false lt le few =
    let a : nat_lt n (last_offset rs) ≡ false = grind (arith, nat_tests) in
    let b : nat_le 16 (length rs) ≡ false = grind (arith, nat_tests) in
    rw (number_of_text n lt, a, b) refl

pub good_ops : (shape : Shape) (m : Module) (ops : List HandlerOp) → All (IsSoundInHandler shape) ops → All (IsFor m) ops → All (IsGoodOp shape m) ops
good_ops shape m ops h k i d lt = record { sound = h i d lt; own = k i d lt }

last_more : (rs : List Request) (r : Request) → last_offset (rs ++ r ∷ []) ≡ r.offset
last_more [] r = refl
last_more (q ∷ []) r = refl
last_more (q ∷ s ∷ rs) r = last_more (s ∷ rs) r

pub one_less : (shape : Shape) (m : Module) (before : List Request) (r : Request) (rs : List Request) → AreNext shape m before (r ∷ rs) → AreNext shape m (before ++ r ∷ []) rs
one_less shape m before r rs h = record {
  room = (let l : length (before ++ r ∷ []) ≡ length before + 1 = length-append before (r ∷ []) in let k = h.room in omega arith);
  ordered = (h.ordered).1;
  least = subst (λ (n : ℕ). All (λ (q : Request). n ≤ q.offset) rs) (sym (last_more before r)) (h.ordered).0;
  calls = All-tail (IsRequest m) r rs h.calls;
  sound = All-tail (λ (q : Request). All (IsSoundInHandler shape) q.ops.items) r rs h.sound;
}

pub record Leads (shape : Shape) (ev : Event) (p : Part) (ws : List (List ℕ)) (rs : List Request) : Type 0 where
  pub last : Part
  pub path : Path shape (done p) ws (done last)
  pub ends : whole last ≡ Some (line ev rs)

pieces_of_append : (ps qs : List Piece) → pieces_of (ps ++ qs) ≡ pieces_of ps ++ pieces_of qs
pieces_of_append [] qs = refl
pieces_of_append (p ∷ ps) qs = ap (λ (x : List (List ℕ)). p.bytes ∷ x) (pieces_of_append ps qs)

pub joined : (shape : Shape) (ev : Event) (p q : Part) (ws us : List (List ℕ)) (rs : List Request) → Path shape (done p) ws (done q) → Leads shape ev q us rs → Leads shape ev p (ws ++ us) rs
joined shape ev p q ws us rs h k = record { last = k.last; path = path_append shape (done p) ws (done q) us (done k.last) h k.path; ends = k.ends }

pub marked : (shape : Shape) (m : Module) (ev : Event) (p : Part) (before : List Request) (n : Mark) (ws : List (List ℕ)) (rs : List Request) → Waits shape m ev before p → IsNumber n.offset → last_offset before ≤ n.offset → length before < 16
    → Leads shape ev (Handler m ev before n) ws rs → Leads shape ev p (mark_text n ∷ ws) rs
marked shape m ev p before n ws rs w lt le few k = record { last = k.last; path = (done (Handler m ev before n), (w.marks n ∙ mark_step shape m ev before n.offset n.urgent lt le few), k.path); ends = k.ends }

no_bracket : (urgent : Bool) (bs : List ℕ) → bytes_eq (mark_byte urgent ∷ bs) (codes "[") ≡ false
no_bracket true bs = refl
no_bracket false bs = refl

pub waits_behind_mark : (shape : Shape) (m : Module) (ev : Event) (rs : List Request) (n : Mark) → Waits shape m ev (rs ++ request n [] ∷ []) (Handler m ev rs n)
waits_behind_mark shape m ev rs n = record { ends = refl; marks = λ k. rw (no_bracket k.urgent (decimal k.offset)) refl }

pub waits : (shape : Shape) (m : Module) (ev : Event) (rs : List Request) → Waits shape m ev rs (Requests m ev rs)
waits shape m ev rs = record { ends = refl; marks = λ k. refl }

behind_mark : (shape : Shape) (m : Module) (ev : Event) (before : List Request) (r : Request) (ops : List HandlerOp) (ps : List Piece) (rs : List Request) → r.ops.items ≡ ops → IsWithinLimits shape → AreNext shape m before (r ∷ rs)
    → ((q : Part) → Waits shape m ev (before ++ r ∷ []) q → Leads shape ev q (pieces_of ps) (before ++ r ∷ rs)) → Leads shape ev (Handler m ev before (mark_of r)) (pieces_of (handler_pieces shape.width ops ++ ps)) (before ++ r ∷ rs)
behind_mark shape m ev before r [] ps rs e w h more =
    let same : before ++ request (mark_of r) [] ∷ [] ≡ before ++ r ∷ [] = ap (λ (x : List HandlerOp). before ++ request (mark_of r) x ∷ []) (sym e) in
    more (Handler m ev before (mark_of r)) (subst (λ (x : List Request). Waits shape m ev x (Handler m ev before (mark_of r))) same (waits_behind_mark shape m ev before (mark_of r)))
behind_mark shape m ev before r (o ∷ ops) ps rs e w h more =
    let c = All-head (IsRequest m) r rs h.calls in
    let s = All-head (λ (q : Request). All (IsSoundInHandler shape) q.ops.items) r rs h.sound in
    let good : All (IsGoodOp shape m) (o ∷ ops) = subst (λ (x : List HandlerOp). All (IsGoodOp shape m) x) e (good_ops shape m r.ops.items s c.calls) in
    let few : length (o ∷ ops) ≤ 8 = subst (λ (x : List HandlerOp). length x ≤ 8) e c.few in
    let path = handler_path shape m ev before (mark_of r) o ops w good few in
    let same : before ++ request (mark_of r) (o ∷ ops) ∷ [] ≡ before ++ r ∷ [] = ap (λ (x : List HandlerOp). before ++ request (mark_of r) x ∷ []) (sym e) in
    let q = Requests m ev (before ++ request (mark_of r) (o ∷ ops) ∷ []) in
    let rest = more q (subst (λ (x : List Request). Waits shape m ev x q) same (waits shape m ev (before ++ request (mark_of r) (o ∷ ops) ∷ []))) in
    subst (λ (ws : List (List ℕ)). Leads shape ev (Handler m ev before (mark_of r)) ws (before ++ r ∷ rs)) (sym (pieces_of_append (handler_pieces shape.width (o ∷ ops)) ps))
    (joined shape ev (Handler m ev before (mark_of r)) q (pieces_of (handler_pieces shape.width (o ∷ ops))) (pieces_of ps) (before ++ r ∷ rs) path rest)

requests_path : (shape : Shape) (m : Module) (ev : Event) (p : Part) (before after : List Request) → IsWithinLimits shape → Waits shape m ev before p → AreNext shape m before after → Leads shape ev p (pieces_of (requests_pieces shape.width after)) (before ++ after)
requests_path shape m ev p before [] w v h = record { last = p; path = refl; ends = v.ends ∙ ap (λ (x : List Request). Some (line ev x)) (sym (append-nil before)) }
requests_path shape m ev p before (r ∷ rs) w v h =
    let c = All-head (IsRequest m) r rs h.calls in
    let k = h.room in
    marked shape m ev p before (mark_of r) (pieces_of (handler_pieces shape.width r.ops.items ++ requests_pieces shape.width rs)) (before ++ r ∷ rs) v c.number (All-head (λ (q : Request). last_offset before ≤ q.offset) r rs h.least) (omega arith)
    (behind_mark shape m ev before r r.ops.items (requests_pieces shape.width rs) rs refl w h
    (λ q u. subst (λ (x : List Request). Leads shape ev q (pieces_of (requests_pieces shape.width rs)) x) (append_assoc before (r ∷ []) rs) (requests_path shape m ev q (before ++ r ∷ []) rs w u (one_less shape m before r rs h))))

pub least_of : (rs : List Request) → All (λ (q : Request). 0 ≤ q.offset) rs
least_of rs k d lt = omega arith

pub all_requests : (shape : Shape) (m : Module) (ev : Event) (rs : List Request) → IsWithinLimits shape → length rs ≤ 16 → AreOrdered rs → All (IsRequest m) rs → All (λ (r : Request). All (IsSoundInHandler shape) r.ops.items) rs
    → Leads shape ev (Requests m ev []) (pieces_of (requests_pieces shape.width rs)) rs
all_requests shape m ev rs w few o c s = requests_path shape m ev (Requests m ev []) [] rs w (waits shape m ev []) (record { room = (let z : length {A = Request} [] ≡ 0 = refl in omega arith); ordered = o; least = least_of rs; calls = c; sound = s })

-- ---- the pieces are apart

further_begins : (width : Width) (ops : List HandlerOp) (ps : List Piece) → begins_word (text_of (further_ops width ops ++ ps)) ≡ false
further_begins width [] ps = refl
further_begins width (o ∷ ops) ps = refl

op_apart : (shape : Shape) (m : Module) (spaced : Bool) (o : HandlerOp) (fs ps : List Piece) → IsWithinLimits shape → IsGoodOp shape m o → begins_word (text_of (fs ++ ps)) ≡ false → AreApart (fs ++ ps) → AreApart ((words spaced (op_words shape.width o) ++ fs) ++ ps)
op_apart shape m spaced o fs ps w g b h =
    subst AreApart (sym (append_assoc (words spaced (op_words shape.width o)) fs ps)) (apart_words spaced (op_words shape.width o) (fs ++ ps) (op_are_words shape m o w g) b h)

further_apart : (shape : Shape) (m : Module) (ops : List HandlerOp) (ps : List Piece) → IsWithinLimits shape → All (IsGoodOp shape m) ops → AreApart ps → AreApart (further_ops shape.width ops ++ ps)
further_apart shape m [] ps w g h = (inr (refl, refl, refl), (λ i. absurd cc), h)
further_apart shape m (o ∷ ops) ps w g h =
    (inr (refl, refl, refl), (λ i. absurd cc), op_apart shape m true o (further_ops shape.width ops) ps w (All-head (IsGoodOp shape m) o ops g) (further_begins shape.width ops ps) (further_apart shape m ops ps w (All-tail (IsGoodOp shape m) o ops g) h))

handler_apart : (shape : Shape) (m : Module) (ops : List HandlerOp) (ps : List Piece) → IsWithinLimits shape → All (IsGoodOp shape m) ops → AreApart ps → AreApart (handler_pieces shape.width ops ++ ps)
handler_apart shape m [] ps w g h = h
handler_apart shape m (o ∷ ops) ps w g h =
    (inr (refl, refl, refl), (λ i. absurd cc), op_apart shape m false o (further_ops shape.width ops) ps w (All-head (IsGoodOp shape m) o ops g) (further_begins shape.width ops ps) (further_apart shape m ops ps w (All-tail (IsGoodOp shape m) o ops g) h))

pub requests_begin : (width : Width) (rs : List Request) → begins_word (text_of (requests_pieces width rs)) ≡ false
requests_begin width [] = refl
requests_begin width (r ∷ rs) = refl

handler_begins : (width : Width) (ops : List HandlerOp) (ps : List Piece) → begins_word (text_of ps) ≡ false → begins_word (text_of (handler_pieces width ops ++ ps)) ≡ false
handler_begins width [] ps h = h
handler_begins width (o ∷ ops) ps h = refl

pub requests_apart : (shape : Shape) (m : Module) (rs : List Request) → IsWithinLimits shape → All (IsRequest m) rs → All (λ (r : Request). All (IsSoundInHandler shape) r.ops.items) rs → AreApart (requests_pieces shape.width rs)
requests_apart shape m [] w c s = tt
requests_apart shape m (r ∷ rs) w c s =
    let h = All-head (IsRequest m) r rs c in
    let k = All-head (λ (q : Request). All (IsSoundInHandler shape) q.ops.items) r rs s in
    let rest = requests_apart shape m rs w (All-tail (IsRequest m) r rs c) (All-tail (λ (q : Request). All (IsSoundInHandler shape) q.ops.items) r rs s) in (
      inl (mark_is_text r.urgent r.offset h.number),
      (λ i. handler_begins shape.width r.ops.items (requests_pieces shape.width rs) (requests_begin shape.width rs)),
      handler_apart shape m r.ops.items (requests_pieces shape.width rs) w (good_ops shape m r.ops.items k h.calls) rest,
    )
