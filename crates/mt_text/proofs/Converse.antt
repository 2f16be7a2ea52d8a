-- The tokens of an accepted line spell it, in whatever digits its words are written, and with brackets round an empty handler or none.
use Rattle.std.proofs.Common.{◌≡◌, ℕ, ◌+◌, ◌≤◌, List, [], ◌∷◌, ◌++◌, length, Option, Some, None, refl, sym, ap, subst, ◌∙◌, inl, inr, arith, append_assoc, length-append}
use Rattle.std.proofs.lemmas.List.{append-nil}
use Rattle.std.proofs.lemmas.List.Elements.{All-head, All-tail}
use Rattle.std.specs.List.{All}
use Rattle.mt_port.specs.declared.board.Shape.{Shape}
use Rattle.mt_port.specs.declared.request.Module.{Module}
use Rattle.mt_port.specs.declared.request.HandlerOp.{HandlerOp}
use Rattle.mt_port.specs.declared.request.Request.{Request}
use Rattle.mt_port.specs.Board.{AreSoundRequests, IsWithinLimits, IsSoundInHandler}
use Rattle.mt_text.specs.declared.request.Mark.{Mark}
use Rattle.mt_text.specs.declared.line.Event.{Event}
use Rattle.mt_text.specs.declared.line.Event.TheVariants.{Nothing, Ram, Fls, TickRam, TickFls, App, Inject, Heal, Burn, Flip}
use Rattle.mt_text.specs.declared.line.Line.{Line}
use Rattle.mt_text.specs.Tokens.{Token}
use Rattle.mt_text.specs.Kinds as kinds
use Rattle.mt_text.specs.Forms.{Form, done}
use Rattle.mt_text.specs.Lines.{Part, Start, Ended, Requests, Handler, Open, Operation, Separator, event, follows, followed, running_module, request, line, last_offset, SpellsTokens}
use Rattle.mt_text.specs.Accepted.{AreFor, IsAccepted, IsRequest, IsSoundEvent}
use Rattle.mt_text.specs.Canonical.{event_words_by}
use Rattle.mt_text.specs.LineTokens.{AreOfEvent, AreOfLine, AreOfFurther, AreOfOpened, AreOfRequests}
use Rattle.mt_text.proofs.Leading.{Follows, follows_mapped, from_part, leads_of_path, Path, path_append}
use Rattle.mt_text.proofs.Pieces.{bytes_of}
use Rattle.mt_text.proofs.Spellings.{event_follows, IsSome}
use Rattle.mt_text.proofs.RequestPaths.{IsGoodOp, AreNext, Leads, Waits, operation_path, open_path, good_ops, one_less, joined, marked, waits_behind_mark, waits, least_of, mark_of}

module _ (shape : Shape) (m : Module) (ev : Event) (limits : IsWithinLimits shape) where
  -- further operations of a handler
  further : (rs : List Request) (n : Mark) (before ops : List HandlerOp) (tokens : List (List ℕ)) → All (IsGoodOp shape m) ops → length before + length ops ≤ 8 → AreOfFurther shape.width ops tokens
      → Path shape (done (Separator m ev rs n before)) tokens (done (Requests m ev (rs ++ request n (before ++ ops) ∷ [])))
  further rs n before [] tokens good few h =
      subst (λ (ws : List (List ℕ)). Path shape (done (Separator m ev rs n before)) ws (done (Requests m ev (rs ++ request n (before ++ []) ∷ [])))) (sym h)
      (_, refl, ap (λ (x : List HandlerOp). done (Requests m ev (rs ++ request n x ∷ []))) (sym (append-nil before)))
  further rs n before (o ∷ ops) tokens good few (own, more, same, of_op, rest) =
      let l : length (before ++ o ∷ []) ≡ length before + 1 = length-append before (o ∷ []) in
      let E : List HandlerOp → Form Part = λ x. done (Requests m ev (rs ++ request n x ∷ [])) in
      let one : Path shape (done (Operation m ev rs n before)) own (done (Separator m ev rs n (before ++ o ∷ []))) =
      subst (λ (ws : List (List ℕ)). Path shape (done (Operation m ev rs n before)) ws (done (Separator m ev rs n (before ++ o ∷ [])))) (sym of_op.words)
      (operation_path shape of_op.write of_op.writes m ev rs n before o limits (All-head (IsGoodOp shape m) o ops good) (omega arith)) in
      let later = further rs n (before ++ o ∷ []) ops more (All-tail (IsGoodOp shape m) o ops good) (omega arith) rest in
      subst (λ (ws : List (List ℕ)). Path shape (done (Separator m ev rs n before)) ws (E (before ++ o ∷ ops))) (sym same) (
        done (Operation m ev rs n before),
        refl,
        subst (λ (x : List HandlerOp). Path shape (done (Operation m ev rs n before)) (own ++ more) (E x)) (append_assoc before (o ∷ []) ops)
            (path_append shape (done (Operation m ev rs n before)) own (done (Separator m ev rs n (before ++ o ∷ []))) more (E ((before ++ o ∷ []) ++ ops)) one later),
      )

  -- a handler behind its opening bracket
  opened : (rs : List Request) (n : Mark) (ops : List HandlerOp) (tokens : List (List ℕ)) → All (IsGoodOp shape m) ops → length ops ≤ 8 → AreOfOpened shape.width ops tokens
      → Path shape (done (Open m ev rs n)) tokens (done (Requests m ev (rs ++ request n ops ∷ [])))
  opened rs n [] tokens good few h =
      subst (λ (ws : List (List ℕ)). Path shape (done (Open m ev rs n)) ws (done (Requests m ev (rs ++ request n [] ∷ [])))) (sym h) (_, refl, refl)
  opened rs n (o ∷ ops) tokens good few (own, more, same, of_op, rest) =
      let E : Form Part = done (Requests m ev (rs ++ request n (o ∷ ops) ∷ [])) in
      let one : Path shape (done (Open m ev rs n)) own (done (Separator m ev rs n (o ∷ []))) =
      subst (λ (ws : List (List ℕ)). Path shape (done (Open m ev rs n)) ws (done (Separator m ev rs n (o ∷ [])))) (sym of_op.words)
      (open_path shape of_op.write of_op.writes m ev rs n o limits (All-head (IsGoodOp shape m) o ops good)) in
      subst (λ (ws : List (List ℕ)). Path shape (done (Open m ev rs n)) ws E) (sym same)
      (path_append shape (done (Open m ev rs n)) own (done (Separator m ev rs n (o ∷ []))) more E one
      (further rs n (o ∷ []) ops more (All-tail (IsGoodOp shape m) o ops good) (omega arith) rest))

  -- requests
  pub all_requests_of : (p : Part) (before after : List Request) (tokens : List (List ℕ)) → Waits shape m ev before p → AreNext shape m before after → AreOfRequests shape.width after tokens → Leads shape ev p tokens (before ++ after)
  all_requests_of p before [] tokens v h of_line =
      subst (λ (ws : List (List ℕ)). Leads shape ev p ws (before ++ [])) (sym of_line)
      (record { last = p; path = refl; ends = v.ends ∙ ap (λ (x : List Request). Some (line ev x)) (sym (append-nil before)) })
  all_requests_of p before (r ∷ rs) tokens v h (own, more, same, handler, rest) =
      let c = All-head (IsRequest m) r rs h.calls in
      let s = All-head (λ (q : Request). All (IsSoundInHandler shape) q.ops.items) r rs h.sound in
      let k = h.room in
      let n : Mark = mark_of r in
      let later : (q : Part) → Waits shape m ev (before ++ r ∷ []) q → Leads shape ev q more (before ++ r ∷ rs) =
      λ q u. subst (λ (x : List Request). Leads shape ev q more x) (append_assoc before (r ∷ []) rs) (all_requests_of q (before ++ r ∷ []) rs more u (one_less shape m before r rs h) rest) in
      let after_mark : Leads shape ev (Handler m ev before n) (own ++ more) (before ++ r ∷ rs) =
      elim handler [
        | inl (none, empty) ↦ (
            let as_is : before ++ request n [] ∷ [] ≡ before ++ r ∷ [] = ap (λ (x : List HandlerOp). before ++ request n x ∷ []) (sym none) in
            subst (λ (ws : List (List ℕ)). Leads shape ev (Handler m ev before n) (ws ++ more) (before ++ r ∷ rs)) (sym empty)
            (later (Handler m ev before n) (subst (λ (x : List Request). Waits shape m ev x (Handler m ev before n)) as_is (waits_behind_mark shape m ev before n))))
        | inr (inside, bracket, of_opened) ↦ (
            let q : Part = Requests m ev (before ++ r ∷ []) in
            let path : Path shape (done (Handler m ev before n)) own (done q) =
            subst (λ (ws : List (List ℕ)). Path shape (done (Handler m ev before n)) ws (done q)) (sym bracket)
            (done (Open m ev before n), refl, opened before n r.ops.items inside (good_ops shape m r.ops.items s c.calls) c.few of_opened) in
            joined shape ev (Handler m ev before n) q own more (before ++ r ∷ rs) path (later q (waits shape m ev (before ++ r ∷ []))))
      ] in
      subst (λ (ws : List (List ℕ)). Leads shape ev p ws (before ++ r ∷ rs)) (sym same)
      (marked shape m ev p before n (own ++ more) (before ++ r ∷ rs) v c.number (All-head (λ (q : Request). last_offset before ≤ q.offset) r rs h.least) (omega arith) after_mark)

-- ---- whole lines

start_path : (shape : Shape) (ev : Event) (ws : List (List ℕ)) (w : List ℕ) (us : List (List ℕ)) → ws ≡ w ∷ us → Follows shape event ws (done ev) → Path shape (done Start) ws (done (follows ev))
start_path shape ev [] w us e h = absurd cc
start_path shape ev (v ∷ vs) w us e h = from_part shape Start v vs (done (follows ev)) (follows_mapped shape follows event (v ∷ vs) (done ev) h)

some_words : (write : ℕ → List ℕ) (ev : Event) → IsSome ev → (w : List ℕ) × (us : List (List ℕ)) × (event_words_by write ev ≡ w ∷ us)
some_words write Nothing s = absurd s
some_words write (Ram call) s = (_, _, refl)
some_words write (Fls call) s = (_, _, refl)
some_words write TickRam s = (_, _, refl)
some_words write TickFls s = (_, _, refl)
some_words write (App op) s = (_, _, refl)
some_words write (Inject f) s = (_, _, refl)
some_words write Heal s = (_, _, refl)
some_words write (Burn a x) s = (_, _, refl)
some_words write (Flip v) s = (_, _, refl)

behind_event : (shape : Shape) (ev : Event) (o : Option Module) (rs : List Request) (tokens : List (List ℕ)) → IsWithinLimits shape → AreSoundRequests shape rs → AreFor o rs → AreOfRequests shape.width rs tokens
    → Leads shape ev (followed ev o) tokens rs
behind_event shape ev None rs tokens limits r none of_line =
    let empty : tokens ≡ [] = subst (λ (x : List Request). AreOfRequests shape.width x tokens) none of_line in
    subst (λ (x : List Request). Leads shape ev (Ended ev) tokens x) (sym none)
    (subst (λ (ws : List (List ℕ)). Leads shape ev (Ended ev) ws []) (sym empty) (record { last = Ended ev; path = refl; ends = refl }))
behind_event shape ev (Some m) rs tokens limits r callees of_line =
    all_requests_of shape m ev limits (Requests m ev []) [] rs tokens (waits shape m ev [])
    (record { room = (let z : length {A = Request} [] ≡ 0 = refl in let few = r.few in omega arith); ordered = r.ordered; least = least_of rs; calls = callees; sound = r.sound }) of_line

same_bytes : (ts : List Token) → kinds.bytes_of ts ≡ bytes_of ts
same_bytes [] = refl
same_bytes (t ∷ ts) = ap (λ (ws : List (List ℕ)). t.bytes ∷ ws) (same_bytes ts)

some_line : (shape : Shape) (ev : Event) (rs : List Request) (ts : List Token) (own more : List (List ℕ)) → IsWithinLimits shape → IsSoundEvent shape ev → AreSoundRequests shape rs → AreFor (running_module ev) rs → IsSome ev
    → kinds.bytes_of ts ≡ own ++ more → AreOfEvent shape.width ev own → AreOfRequests shape.width rs more → SpellsTokens shape ts (line ev rs)
some_line shape ev rs ts own more limits sound r callees some split of_event of_requests =
    let f = some_words of_event.write ev some in
    let path : Path shape (done Start) own (done (follows ev)) =
    subst (λ (ws : List (List ℕ)). Path shape (done Start) ws (done (follows ev))) (sym of_event.words)
    (start_path shape ev (event_words_by of_event.write ev) f.0 f.1 f.2 (event_follows shape of_event.write of_event.writes ev limits sound some)) in
    let rest = behind_event shape ev (running_module ev) rs more limits r callees of_requests in
    record {
      last = done rest.last;
      leads = leads_of_path shape (done Start) ts (own ++ more) (done rest.last) (sym (same_bytes ts) ∙ split) (path_append shape (done Start) own (done (follows ev)) more (done rest.last) path rest.path);
      ends = rest.ends;
    }

nothing : (shape : Shape) (rs : List Request) (ts : List Token) (own more : List (List ℕ)) → rs ≡ [] → kinds.bytes_of ts ≡ own ++ more → own ≡ [] → AreOfRequests shape.width rs more → SpellsTokens shape ts (line Nothing rs)
nothing shape rs ts own more none split no_words of_requests =
    let empty : more ≡ [] = subst (λ (x : List Request). AreOfRequests shape.width x more) none of_requests in
    let bytes : bytes_of ts ≡ [] = sym (same_bytes ts) ∙ split ∙ rw (no_words, empty) in
    subst (λ (x : List Request). SpellsTokens shape ts (line Nothing x)) (sym none)
    (record { last = done Start; leads = leads_of_path shape (done Start) ts [] (done Start) bytes refl; ends = refl })

by_event : (shape : Shape) (ev : Event) (rs : List Request) (ts : List Token) (own more : List (List ℕ)) → IsWithinLimits shape → IsSoundEvent shape ev → AreSoundRequests shape rs → AreFor (running_module ev) rs
    → kinds.bytes_of ts ≡ own ++ more → AreOfEvent shape.width ev own → AreOfRequests shape.width rs more → SpellsTokens shape ts (line ev rs)
by_event shape Nothing rs ts own more w h r f split e q = nothing shape rs ts own more f split e.words q
by_event shape (Ram call) rs ts own more w h r f split e q = some_line shape (Ram call) rs ts own more w h r f tt split e q
by_event shape (Fls call) rs ts own more w h r f split e q = some_line shape (Fls call) rs ts own more w h r f tt split e q
by_event shape TickRam rs ts own more w h r f split e q = some_line shape TickRam rs ts own more w h r f tt split e q
by_event shape TickFls rs ts own more w h r f split e q = some_line shape TickFls rs ts own more w h r f tt split e q
by_event shape (App op) rs ts own more w h r f split e q = some_line shape (App op) rs ts own more w h r f tt split e q
by_event shape (Inject fault) rs ts own more w h r f split e q = some_line shape (Inject fault) rs ts own more w h r f tt split e q
by_event shape Heal rs ts own more w h r f split e q = some_line shape Heal rs ts own more w h r f tt split e q
by_event shape (Burn a x) rs ts own more w h r f split e q = some_line shape (Burn a x) rs ts own more w h r f tt split e q
by_event shape (Flip v) rs ts own more w h r f split e q = some_line shape (Flip v) rs ts own more w h r f tt split e q

pub tokens_spell : (shape : Shape) (ts : List Token) (l : Line) → IsWithinLimits shape → IsAccepted shape l → AreOfLine shape.width l (kinds.bytes_of ts) → SpellsTokens shape ts l
tokens_spell shape ts l limits is of_line = by_event shape l.event l.requests.items ts of_line.own of_line.more limits is.event is.requests is.callees of_line.split of_line.event of_line.requests
