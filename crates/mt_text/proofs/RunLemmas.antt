-- Token by token, from one part of a line to the next.
use Rattle.std.proofs.Common.{◌≡◌, ℕ, ◌<◌, Bool, true, false, nat_le, List, [], ◌∷◌, ◌++◌, length, None, Result, Ok, Err, refl, sym, ap, subst, ◌∙◌, codes, arith}
use Rattle.std.specs.Str.{bytes_eq}
use Rattle.std.specs.Prelude.{if◌then◌else◌}
use Rattle.mt_port.specs.declared.board.Shape.{Shape}
use Rattle.mt_port.specs.declared.request.Module.{Module}
use Rattle.mt_port.specs.declared.request.Request.{Request}
use Rattle.mt_port.specs.declared.request.HandlerOp.{HandlerOp}
use Rattle.mt_text.specs.declared.cursor.Cursor.{Cursor}
use Rattle.mt_text.specs.declared.request.Mark.{Mark}
use Rattle.mt_text.specs.declared.line.Event.{Event}
use Rattle.mt_text.specs.declared.line.Line.{Line}
use Rattle.mt_text.specs.declared.line.LineKind.{LineKind}
use Rattle.mt_text.specs.declared.line.LineKind.TheVariants.{Spelling}
use Rattle.mt_text.specs.declared.line.LineRefusal.{LineRefusal}
use Rattle.mt_text.specs.declared.token.Token.{Token as CodeToken}
use Rattle.mt_text.specs.Tokens.{Token}
use Rattle.mt_text.specs.Cursors.{left, end_of, token_view, Takes, first_is, behind, no_token}
use Rattle.mt_text.specs.Values.{mark_at}
use Rattle.mt_text.specs.Forms.{Form, done, mark, refused, mapped, mapped_ok, ◌>>=◌, at_place, step}
use Rattle.mt_text.specs.Lines.{Part, Start, Ended, Requests, Handler, Open, Operation, Separator, part_form, op_form, event, follows, run, settled, whole, ends_with, request, line, last_offset}
use Rattle.mt_text.specs.Reader.{read, is_done, Continues, Reads, ReadsFrom, rest_from}
use Rattle.mt_text.proofs.Accepts.{mark_is_in}
use Rattle.mt_text.proofs.FormLemmas.{read_end, read_mapped, is_done_of_mapped}
use Rattle.mt_text.proofs.LineLemmas.{event_goes_on, op_form_goes_on}

-- ---- a part, and the form that stands there

not_done_settled : (f : Form Part) → is_done f ≡ false → settled f ≡ f
not_done_settled (done p) d = absurd cc
not_done_settled f d = refl

-- a form is read, and then the line goes on from the part that its value tells
abbrev After : {X : Type 0} → Shape → ℕ → (X → Part) → Result (X × List Token) LineRefusal → Result Line LineRefusal
After shape end f r = r >>= λ x. run shape end (done (f x.0)) x.1

run_read : (shape : Shape) (end : ℕ) (form : Form Part) (ts : List Token) → run shape end form ts ≡ After shape end (λ p. p) (read shape end form ts)
unfolding run read
run_read shape end (done p) ts = refl
run_read shape end form [] = refl
run_read shape end form (t ∷ ts) =
    elim (step shape form t.bytes) as (λ r. (at_place t.place r >>= λ g. run shape end g ts) ≡ After shape end (λ p. p) (at_place t.place r >>= λ g. read shape end g ts)) [ Ok g ↦ run_read shape end g ts | Err kind ↦ refl ]

run_token : (shape : Shape) (end : ℕ) (p : Part) (t : Token) (ts : List Token) → is_done (part_form p) ≡ false → run shape end (done p) (t ∷ ts) ≡ run shape end (part_form p) (t ∷ ts)
unfolding run
run_token shape end p t ts d = ap (λ (f : Form Part). at_place t.place (step shape f t.bytes) >>= λ g. run shape end g ts) (sym (not_done_settled (part_form p) d))

after_mapped : {X : Type 0} (shape : Shape) (end : ℕ) (f : X → Part) (r : Result (X × List Token) LineRefusal) → After shape end (λ p. p) (r >>= λ x. Ok (f x.0, x.1)) ≡ After shape end f r
after_mapped shape end f (Ok x) = refl
after_mapped shape end f (Err e) = refl

run_mapped : {X : Type 0} (shape : Shape) (end : ℕ) (p : Part) (f : X → Part) (form : Form X) (t : Token) (ts : List Token) → part_form p ≡ mapped f form → is_done form ≡ false → run shape end (done p) (t ∷ ts) ≡ After shape end f (read shape end form (t ∷ ts))
run_mapped shape end p f form t ts e d =
    run_token shape end p t ts (ap is_done e ∙ is_done_of_mapped f form d) ∙ ap (λ (g : Form Part). run shape end g (t ∷ ts)) e ∙ run_read shape end (mapped f form) (t ∷ ts) ∙ ap (After shape end (λ p. p)) (read_mapped shape end f form (t ∷ ts))
    ∙ after_mapped shape end f (read shape end form (t ∷ ts))

ran_ok : {X : Type 0} (shape : Shape) (end : ℕ) (p : Part) (f : X → Part) (form : Form X) (ts : List Token) (x : X) (rest : List Token) → part_form p ≡ mapped f form → is_done form ≡ false → read shape end form ts ≡ Ok (x, rest)
    → run shape end (done p) ts ≡ run shape end (done (f x)) rest
ran_ok shape end p f form [] x rest e d h = absurd (let q = sym (read_end shape end form d) ∙ h in cc)
ran_ok shape end p f form (t ∷ ts) x rest e d h = run_mapped shape end p f form t ts e d ∙ ap (After shape end f) h

ran_err : {X : Type 0} (shape : Shape) (end : ℕ) (p : Part) (f : X → Part) (form : Form X) (ts : List Token) (r : LineRefusal) → part_form p ≡ mapped f form → is_done form ≡ false → (no_token ts ≡ true → whole p ≡ None) → read shape end form ts ≡ Err r
    → run shape end (done p) ts ≡ Err r
unfolding run
ran_err {X} shape end p f form [] r e d w h =
    let E : LineRefusal → Result Line LineRefusal = λ x. Err x in
    let early : refused {A = X × List Token} Spelling end ≡ Err r = sym (read_end shape end form d) ∙ h in
    let same : record { kind = Spelling; place = end } ≡ r = cc in
    ap (ends_with end) (w refl) ∙ ap E same
ran_err shape end p f form (t ∷ ts) r e d w h = run_mapped shape end p f form t ts e d ∙ ap (After shape end f) h

-- the form was read
part_ok : {X : Type 0} (shape : Shape) (p : Part) (f : X → Part) (form : Form X) (old new : Cursor) (x : X) → part_form p ≡ mapped f form → is_done form ≡ false → Reads shape form old new (Ok x) → rest_from shape old p ≡ rest_from shape new (f x)
part_ok shape p f form old new x e d h = ran_ok shape (end_of old) p f form (left old) x (left new) e d h.value ∙ ap (λ (n : ℕ). run shape n (done (f x)) (left new)) (sym h.end)

part_err : {X : Type 0} (shape : Shape) (p : Part) (f : X → Part) (form : Form X) (old new : Cursor) (e : LineRefusal) → part_form p ≡ mapped f form → is_done form ≡ false → (no_token (left old) ≡ true → whole p ≡ None) → Reads shape form old new (Err e)
    → rest_from shape old p ≡ Err e
part_err shape p f form old new e s d w h = ran_err shape (end_of old) p f form (left old) e s d w h.value

-- ---- a part, and a token that the code takes

token_at : (shape : Shape) (p : Part) (old new : Cursor) (token : CodeToken) → Takes old new (Ok token) → end_of new ≡ end_of old → rest_from shape old p ≡ run shape (end_of new) (done p) (token_view token ∷ left new)
token_at shape p old new token t s = ap (run shape (end_of old) (done p)) t ∙ ap (λ (n : ℕ). run shape n (done p) (token_view token ∷ left new)) (sym s)

none_at : (shape : Shape) (p : Part) (old new : Cursor) (e : LineRefusal) → Takes old new (Err e) → rest_from shape old p ≡ ends_with (end_of old) (whole p)
unfolding run
none_at shape p old new e t = ap (run shape (end_of old) (done p)) t.0

moved : (shape : Shape) (p : Part) (old new : Cursor) (ts : List Token) → left new ≡ ts → end_of new ≡ end_of old → run shape (end_of old) (done p) ts ≡ rest_from shape new p
moved shape p old new ts l s = ap (run shape (end_of old) (done p)) (sym l) ∙ ap (λ (n : ℕ). run shape n (done p) (left new)) (sym s)

-- ---- events

pub event_ok : (shape : Shape) (old new : Cursor) (word : CodeToken) (ev : Event) → ReadsFrom shape event word old new (Ok ev) → run shape (end_of old) (done Start) (token_view word ∷ left old) ≡ rest_from shape new (follows ev)
event_ok shape old new word ev h =
    ran_ok shape (end_of old) Start follows event (token_view word ∷ left old) ev (left new) refl event_goes_on h.value ∙ ap (λ (n : ℕ). run shape n (done (follows ev)) (left new)) (sym h.end)

pub event_err : (shape : Shape) (old new : Cursor) (word : CodeToken) (e : LineRefusal) → ReadsFrom shape event word old new (Err e) → run shape (end_of old) (done Start) (token_view word ∷ left old) ≡ Err e
event_err shape old new word e h = ran_err shape (end_of old) Start follows event (token_view word ∷ left old) e refl event_goes_on (λ n. absurd cc) h.value

pub ended_end : (shape : Shape) (ev : Event) (old new : Cursor) (e : LineRefusal) → Takes old new (Err e) → rest_from shape old (Ended ev) ≡ Ok (line ev [])
ended_end shape ev old new e t = none_at shape (Ended ev) old new e t

pub ended_token : (shape : Shape) (ev : Event) (old new : Cursor) (token : CodeToken) → Takes old new (Ok token) → end_of new ≡ end_of old → rest_from shape old (Ended ev) ≡ refused Spelling token.place
unfolding run
ended_token shape ev old new token t s = token_at shape (Ended ev) old new token t s

-- ---- requests

finished_at : (shape : Shape) (end : ℕ) (m : Module) (ev : Event) (rs : List Request) (ts : List Token) → no_token ts ≡ true → run shape end (done (Requests m ev rs)) ts ≡ Ok (line ev rs)
unfolding run
finished_at shape end m ev rs [] h = refl
finished_at shape end m ev rs (t ∷ ts) h = absurd cc

pub finished : (shape : Shape) (c : Cursor) (m : Module) (ev : Event) (rs : List Request) → no_token (left c) ≡ true → rest_from shape c (Requests m ev rs) ≡ Ok (line ev rs)
finished shape c m ev rs h = finished_at shape (end_of c) m ev rs (left c) h

pub mark_ok : (shape : Shape) (m : Module) (ev : Event) (rs : List Request) (last count : ℕ) (old new : Cursor) (k : Mark) → last ≡ last_offset rs → count ≡ length rs → Reads shape (mark last count (λ k. done k)) old new (Ok k)
    → rest_from shape old (Requests m ev rs) ≡ rest_from shape new (Handler m ev rs k)
mark_ok shape m ev rs last count old new k l c h =
    part_ok shape (Requests m ev rs) (λ k. Handler m ev rs k) (mark last count (λ k. done k)) old new k (rw (l, c) refl) refl h

pub mark_err : (shape : Shape) (m : Module) (ev : Event) (rs : List Request) (last count : ℕ) (old new : Cursor) (e : LineRefusal) → no_token (left old) ≡ false → last ≡ last_offset rs → count ≡ length rs → Reads shape (mark last count (λ k. done k)) old new (Err e)
    → rest_from shape old (Requests m ev rs) ≡ Err e
mark_err shape m ev rs last count old new e some l c h =
    part_err shape (Requests m ev rs) (λ k. Handler m ev rs k) (mark last count (λ k. done k)) old new e (rw (l, c) refl) refl (λ n. absurd (let q : true ≡ false = sym n ∙ some in cc)) h

one_mark : (shape : Shape) (end last count : ℕ) (ts : List Token) (k : Mark) (rest : List Token) → read shape end (mark last count (λ k. done k)) ts ≡ Ok (k, rest) → (count < 16) × (length rest < length ts)
unfolding read
one_mark shape end last count [] k rest h = absurd cc
one_mark shape end last count (t ∷ ts) k rest h = by (mark_at last count t.bytes) refl h
  where
    by : (r : Result Mark LineKind) → mark_at last count t.bytes ≡ r → (at_place t.place (mapped_ok (λ k. done k) r) >>= λ g. read shape end g ts) ≡ Ok (k, rest) → (count < 16) × (length rest < length (t ∷ ts))
    by (Ok j) e i = let same : (j, ts) ≡ (k, rest) = cc in let n = ap (λ (p : Mark × List Token). length p.1) same in ((mark_is_in last count t.bytes j e).2, omega (arith, n))
    by (Err kind) e i = absurd cc

-- a mark is read where there is room for its request
pub mark_has_room : (shape : Shape) (last count : ℕ) (old new : Cursor) (k : Mark) → Reads shape (mark last count (λ k. done k)) old new (Ok k) → count < 16
mark_has_room shape last count old new k h = (one_mark shape (end_of old) last count (left old) k (left new) h.value).0

pub mark_is_shorter : (shape : Shape) (last count : ℕ) (old new : Cursor) (k : Mark) → Reads shape (mark last count (λ k. done k)) old new (Ok k) → length (left new) < length (left old)
mark_is_shorter shape last count old new k h = (one_mark shape (end_of old) last count (left old) k (left new) h.value).1

pub last_offset_more : (rs : List Request) (n : Mark) (ops : List HandlerOp) → last_offset (rs ++ request n ops ∷ []) ≡ n.offset
last_offset_more [] n ops = refl
last_offset_more (r ∷ []) n ops = refl
last_offset_more (r ∷ s ∷ rs) n ops = last_offset_more (s ∷ rs) n ops

-- ---- handlers

open_at : (shape : Shape) (end : ℕ) (m : Module) (ev : Event) (rs : List Request) (n : Mark) (ts : List Token) → first_is (codes "[") ts ≡ true → run shape end (done (Handler m ev rs n)) ts ≡ run shape end (done (Open m ev rs n)) (behind ts)
unfolding run
open_at shape end m ev rs n [] h = absurd cc
open_at shape end m ev rs n (t ∷ ts) h = rw h refl

none_open_at : (shape : Shape) (end : ℕ) (m : Module) (ev : Event) (rs : List Request) (n : Mark) (ts : List Token) → first_is (codes "[") ts ≡ false → run shape end (done (Handler m ev rs n)) ts ≡ run shape end (done (Requests m ev (rs ++ request n [] ∷ []))) ts
unfolding run
none_open_at shape end m ev rs n [] h = refl
none_open_at shape end m ev rs n (t ∷ ts) h = rw h refl

close_at : (shape : Shape) (end : ℕ) (m : Module) (ev : Event) (rs : List Request) (n : Mark) (ts : List Token) → first_is (codes "]") ts ≡ true → run shape end (done (Open m ev rs n)) ts ≡ run shape end (done (Requests m ev (rs ++ request n [] ∷ []))) (behind ts)
unfolding run
close_at shape end m ev rs n [] h = absurd cc
close_at shape end m ev rs n (t ∷ ts) h = rw h refl

op_at : (shape : Shape) (end : ℕ) (m : Module) (ev : Event) (rs : List Request) (n : Mark) (ts : List Token) → first_is (codes "]") ts ≡ false → run shape end (done (Open m ev rs n)) ts ≡ run shape end (done (Operation m ev rs n [])) ts
unfolding run
op_at shape end m ev rs n [] h = refl
op_at shape end m ev rs n (t ∷ ts) h = rw h refl

-- a bracket that the code took, or left
pub record Took (bracket : List ℕ) (old new : Cursor) (taken : Bool) : Type 0 where
  pub word : taken ≡ first_is bracket (left old)
  pub rest : left new ≡ (if taken then behind (left old) else left old)
  pub end : end_of new ≡ end_of old

pub not_taken : (bracket : List ℕ) (old new : Cursor) (taken : Bool) → Took bracket old new taken → taken ≡ false → left new ≡ left old
not_taken bracket old new taken t is = t.rest ∙ rw is refl

pub opened : (shape : Shape) (m : Module) (ev : Event) (rs : List Request) (n : Mark) (old new : Cursor) (taken : Bool) → Took (codes "[") old new taken → taken ≡ true → rest_from shape old (Handler m ev rs n) ≡ rest_from shape new (Open m ev rs n)
opened shape m ev rs n old new taken t is = open_at shape (end_of old) m ev rs n (left old) (sym t.word ∙ is) ∙ moved shape (Open m ev rs n) old new (behind (left old)) (t.rest ∙ rw is refl) t.end

pub not_opened : (shape : Shape) (m : Module) (ev : Event) (rs : List Request) (n : Mark) (old new : Cursor) (taken : Bool) (ops : List HandlerOp) → Took (codes "[") old new taken → taken ≡ false → ops ≡ []
    → rest_from shape old (Handler m ev rs n) ≡ rest_from shape new (Requests m ev (rs ++ request n ops ∷ []))
not_opened shape m ev rs n old new taken ops t is none =
    none_open_at shape (end_of old) m ev rs n (left old) (sym t.word ∙ is) ∙ moved shape (Requests m ev (rs ++ request n [] ∷ [])) old new (left old) (not_taken _ old new taken t is) t.end
    ∙ ap (λ (os : List HandlerOp). rest_from shape new (Requests m ev (rs ++ request n os ∷ []))) (sym none)

pub closed : (shape : Shape) (m : Module) (ev : Event) (rs : List Request) (n : Mark) (old new : Cursor) (taken : Bool) (ops : List HandlerOp) → Took (codes "]") old new taken → taken ≡ true → ops ≡ []
    → rest_from shape old (Open m ev rs n) ≡ rest_from shape new (Requests m ev (rs ++ request n ops ∷ []))
closed shape m ev rs n old new taken ops t is none =
    close_at shape (end_of old) m ev rs n (left old) (sym t.word ∙ is) ∙ moved shape (Requests m ev (rs ++ request n [] ∷ [])) old new (behind (left old)) (t.rest ∙ rw is refl) t.end
    ∙ ap (λ (os : List HandlerOp). rest_from shape new (Requests m ev (rs ++ request n os ∷ []))) (sym none)

pub not_closed : (shape : Shape) (m : Module) (ev : Event) (rs : List Request) (n : Mark) (old new : Cursor) (taken : Bool) (ops : List HandlerOp) → Took (codes "]") old new taken → taken ≡ false → ops ≡ []
    → rest_from shape old (Open m ev rs n) ≡ rest_from shape new (Operation m ev rs n ops)
not_closed shape m ev rs n old new taken ops t is none =
    op_at shape (end_of old) m ev rs n (left old) (sym t.word ∙ is) ∙ moved shape (Operation m ev rs n []) old new (left old) (not_taken _ old new taken t is) t.end
    ∙ ap (λ (os : List HandlerOp). rest_from shape new (Operation m ev rs n os)) (sym none)

-- ---- operations

pub op_ok : (shape : Shape) (m : Module) (ev : Event) (rs : List Request) (n : Mark) (ops more : List HandlerOp) (full : Bool) (old new : Cursor) (op : HandlerOp) → full ≡ nat_le 8 (length ops) → more ≡ ops ++ op ∷ [] → Reads shape (op_form m full) old new (Ok op)
    → rest_from shape old (Operation m ev rs n ops) ≡ rest_from shape new (Separator m ev rs n more)
op_ok shape m ev rs n ops more full old new op f i h =
    part_ok shape (Operation m ev rs n ops) (λ op. Separator m ev rs n (ops ++ op ∷ [])) (op_form m full) old new op (rw f refl) (op_form_goes_on m full) h
    ∙ ap (λ (os : List HandlerOp). rest_from shape new (Separator m ev rs n os)) (sym i)

pub op_err : (shape : Shape) (m : Module) (ev : Event) (rs : List Request) (n : Mark) (ops : List HandlerOp) (full : Bool) (old new : Cursor) (e : LineRefusal) → full ≡ nat_le 8 (length ops) → Reads shape (op_form m full) old new (Err e)
    → rest_from shape old (Operation m ev rs n ops) ≡ Err e
op_err shape m ev rs n ops full old new e f h = part_err shape (Operation m ev rs n ops) (λ op. Separator m ev rs n (ops ++ op ∷ [])) (op_form m full) old new e (rw f refl) (op_form_goes_on m full) (λ _. refl) h

pub separator_none : (shape : Shape) (m : Module) (ev : Event) (rs : List Request) (n : Mark) (ops : List HandlerOp) (old new : Cursor) (e : LineRefusal) → Takes old new (Err e) → rest_from shape old (Separator m ev rs n ops) ≡ Err e
separator_none shape m ev rs n ops old new e t = none_at shape (Separator m ev rs n ops) old new e t ∙ (let E : LineRefusal → Result Line LineRefusal = λ x. Err x in ap E (sym t.1))

pub separator_more : (shape : Shape) (m : Module) (ev : Event) (rs : List Request) (n : Mark) (ops : List HandlerOp) (old new : Cursor) (token : CodeToken) → Takes old new (Ok token) → end_of new ≡ end_of old → bytes_eq token.bytes.now (codes ";") ≡ true
    → rest_from shape old (Separator m ev rs n ops) ≡ rest_from shape new (Operation m ev rs n ops)
unfolding run
separator_more shape m ev rs n ops old new token t s e = token_at shape (Separator m ev rs n ops) old new token t s ∙ rw e refl

pub separator_close : (shape : Shape) (m : Module) (ev : Event) (rs : List Request) (n : Mark) (ops : List HandlerOp) (old new : Cursor) (token : CodeToken) → Takes old new (Ok token) → end_of new ≡ end_of old → bytes_eq token.bytes.now (codes ";") ≡ false
    → bytes_eq token.bytes.now (codes "]") ≡ true → rest_from shape old (Separator m ev rs n ops) ≡ rest_from shape new (Requests m ev (rs ++ request n ops ∷ []))
unfolding run
separator_close shape m ev rs n ops old new token t s e f = token_at shape (Separator m ev rs n ops) old new token t s ∙ rw (e, f) refl

pub separator_other : (shape : Shape) (m : Module) (ev : Event) (rs : List Request) (n : Mark) (ops : List HandlerOp) (old new : Cursor) (token : CodeToken) → Takes old new (Ok token) → end_of new ≡ end_of old → bytes_eq token.bytes.now (codes ";") ≡ false
    → bytes_eq token.bytes.now (codes "]") ≡ false → rest_from shape old (Separator m ev rs n ops) ≡ refused Spelling token.place
unfolding run
separator_other shape m ev rs n ops old new token t s e f = token_at shape (Separator m ev rs n ops) old new token t s ∙ rw (e, f) refl

-- ---- what a function returned

pub continues_err : {X : Type 0} (r : Result X LineRefusal) (more : X → Result Line LineRefusal) (all : Result Line LineRefusal) (e : LineRefusal) → r ≡ Err e → all ≡ Err e → Continues r more all
continues_err r more all e h k = subst (λ x. Continues x more all) (sym h) k

pub continues_same : {X : Type 0} (r : Result X LineRefusal) (more : X → Result Line LineRefusal) (all other : Result Line LineRefusal) → all ≡ other → Continues r more other → Continues r more all
continues_same r more all other h k = subst (Continues r more) (sym h) k

pub continues_end : {X : Type 0} (shape : Shape) (end end2 : ℕ) (r : Result X LineRefusal) (more : X → Result Line LineRefusal) (p : Part) (ts : List Token) → end2 ≡ end → Continues r more (run shape end2 (done p) ts) → Continues r more (run shape end (done p) ts)
continues_end shape end end2 r more p ts e h = subst (λ (n : ℕ). Continues r more (run shape n (done p) ts)) e h
