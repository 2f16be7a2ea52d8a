-- Forms for each of some words.
use Rattle.std.proofs.Common.{◌≡◌, ℕ, true, false, List, [], ◌∷◌, Option, Some, None, Result, Ok, Err, refl, sym, ap, ◌∙◌, inl, inr, ◌<◌, ◌+◌, length, drop, get_or, subst, ◌≤◌, arith}
use Rattle.std.proofs.lemmas.Bool.{cases_Bool}
use Rattle.std.proofs.lemmas.List.{drop_more}
use Rattle.std.specs.Str.{bytes_eq}
use Rattle.mt_text.specs.Tokens.{Token}
use Rattle.mt_text.specs.Forms.{Form, rows, refused, Entry, Opens, Breaks, entered, step, mapped, mapped_ok, ◌>>=◌, at_place, mark, value, spot, row, barred, none, done}
use Rattle.mt_text.specs.Reader.{read, named, read_entry, is_done, Gives}
use Rattle.mt_text.specs.declared.line.LineKind.{LineKind}
use Rattle.mt_text.specs.declared.line.LineRefusal.{LineRefusal}
use Rattle.mt_port.specs.declared.board.Shape.{Shape}
use Rattle.mt_text.specs.declared.line.LineKind.TheVariants.{Spelling}
use Rattle.mt_text.specs.Values.{value_at, spot_at, mark_at}

-- a token where a form goes on
pub read_token : {X : Type 0} (shape : Shape) (end : ℕ) (F : Form X) (t : Token) (ts : List Token) → is_done F ≡ false → read shape end F (t ∷ ts) ≡ (at_place t.place (step shape F t.bytes) >>= λ g. read shape end g ts)
unfolding read
read_token shape end (done x) t ts d = absurd cc
read_token shape end F t ts d = refl

-- no row ends at once
entered_is_no_end : {X : Type 0} (word : List ℕ) (e : Entry X) (more : Form X) → is_done (entered word e more) ≡ false
entered_is_no_end word (Opens form) more = refl
entered_is_no_end word (Breaks kind form) more = refl

pub rows_are_no_end : {N X : Type 0} (name : N → List ℕ) (entry : N → Entry X) (ns : List N) → is_done (rows name entry ns) ≡ false
rows_are_no_end name entry [] = refl
rows_are_no_end name entry (n ∷ ns) = entered_is_no_end (name n) (entry n) (rows name entry ns)

-- what a name opens
abbrev opened : {N X : Type 0} → (N → Entry X) → Option N → Entry X
opened entry None = Breaks Spelling none
opened entry (Some n) = entry n

abbrev entry_step : {X : Type 0} → Entry X → Result (Form X) LineKind
entry_step (Opens form) = Ok form
entry_step (Breaks kind form) = Err kind

entered_here : {X : Type 0} (shape : Shape) (word : List ℕ) (e : Entry X) (more : Form X) (bytes : List ℕ) → bytes_eq bytes word ≡ true → step shape (entered word e more) bytes ≡ entry_step e
entered_here shape word (Opens form) more bytes e = rw e refl
entered_here shape word (Breaks kind form) more bytes e = rw e refl

entered_later : {X : Type 0} (shape : Shape) (word : List ℕ) (e : Entry X) (more : Form X) (bytes : List ℕ) → bytes_eq bytes word ≡ false → step shape (entered word e more) bytes ≡ step shape more bytes
entered_later shape word (Opens form) more bytes e = rw e refl
entered_later shape word (Breaks kind form) more bytes e = rw e refl

rows_step : {N X : Type 0} (shape : Shape) (name : N → List ℕ) (entry : N → Entry X) (ns : List N) (bytes : List ℕ) → step shape (rows name entry ns) bytes ≡ entry_step (opened entry (named name ns bytes))
rows_step shape name entry [] bytes = refl
rows_step shape name entry (n ∷ ns) bytes =
    elim (cases_Bool (bytes_eq bytes (name n))) [
      | inl e ↦ entered_here shape (name n) (entry n) (rows name entry ns) bytes e ∙ rw e refl
      | inr e ↦ entered_later shape (name n) (entry n) (rows name entry ns) bytes e ∙ rows_step shape name entry ns bytes ∙ rw e refl
    ]

entry_read : {X : Type 0} (shape : Shape) (end : ℕ) (e : Entry X) (place : ℕ) (ts : List Token) → (at_place place (entry_step e) >>= λ g. read shape end g ts) ≡ read_entry shape end e place ts
entry_read shape end (Opens form) place ts = refl
entry_read shape end (Breaks kind form) place ts = refl

-- what the word names is read
pub rows_read : {N X : Type 0} (shape : Shape) (end : ℕ) (name : N → List ℕ) (entry : N → Entry X) (ns : List N) (t : Token) (ts : List Token) → read shape end (rows name entry ns) (t ∷ ts) ≡ read_entry shape end (opened entry (named name ns t.bytes)) t.place ts
rows_read {X} shape end name entry ns t ts =
    read_token shape end (rows name entry ns) t ts (rows_are_no_end name entry ns) ∙ ap (λ (r : Result (Form X) LineKind). at_place t.place r >>= λ g. read shape end g ts) (rows_step shape name entry ns t.bytes)
    ∙ entry_read shape end (opened entry (named name ns t.bytes)) t.place ts

pub rows_named : {N X : Type 0} (shape : Shape) (end : ℕ) (name : N → List ℕ) (entry : N → Entry X) (ns : List N) (n : N) (t : Token) (ts : List Token) → named name ns t.bytes ≡ Some n → read shape end (rows name entry ns) (t ∷ ts) ≡ read_entry shape end (entry n) t.place ts
rows_named {N} shape end name entry ns n t ts h = rows_read shape end name entry ns t ts ∙ ap (λ (o : Option N). read_entry shape end (opened entry o) t.place ts) h

pub rows_none : {N X : Type 0} (shape : Shape) (end : ℕ) (name : N → List ℕ) (entry : N → Entry X) (ns : List N) (t : Token) (ts : List Token) → named name ns t.bytes ≡ None → read shape end (rows name entry ns) (t ∷ ts) ≡ refused Spelling t.place
rows_none {N} shape end name entry ns t ts h = rows_read shape end name entry ns t ts ∙ ap (λ (o : Option N). read_entry shape end (opened entry o) t.place ts) h

-- a name that isn't the word is passed over
pub named_more : {N : Type 0} (name : N → List ℕ) (ns : List N) (i : ℕ) (d : N) (word : List ℕ) → i < length ns → bytes_eq word (name (get_or ns i d)) ≡ false → named name (drop (i + 1) ns) word ≡ named name (drop i ns) word
named_more name ns i d word lt e = rw (drop_more ns i d lt, e) refl

pub named_here : {N : Type 0} (name : N → List ℕ) (ns : List N) (i : ℕ) (d : N) (word : List ℕ) → i < length ns → bytes_eq word (name (get_or ns i d)) ≡ true → named name (drop i ns) word ≡ Some (get_or ns i d)
named_here name ns i d word lt e = rw (drop_more ns i d lt, e) refl

-- a refusal that reading gives too
pub gives_refused : {X : Type 0} (result : Result X LineRefusal) (rest : List Token) (whole : Result (X × List Token) LineRefusal) (e : LineRefusal) → result ≡ Err e → whole ≡ Err e → Gives result rest whole
gives_refused result rest whole e h k = subst (λ r. Gives r rest whole) (sym h) k

-- ---- the same form of other values

mapped_twice : {A B C : Type 0} (f : B → C) (g : A → B) (r : Result A LineKind) → mapped_ok (λ x. f (g x)) r ≡ mapped_ok f (mapped_ok g r)
mapped_twice f g (Ok x) = refl
mapped_twice f g (Err kind) = refl

pub step_mapped : {X Y : Type 0} (shape : Shape) (f : X → Y) (F : Form X) (bytes : List ℕ) → step shape (mapped f F) bytes ≡ mapped_ok (mapped f) (step shape F bytes)
step_mapped shape f (done x) bytes = refl
step_mapped shape f none bytes = refl
step_mapped shape f (row w g more) bytes = elim (cases_Bool (bytes_eq bytes w)) [ inl e ↦ rw e refl | inr e ↦ rw e (step_mapped shape f more bytes) ]
step_mapped shape f (barred w k g more) bytes = elim (cases_Bool (bytes_eq bytes w)) [ inl e ↦ rw e refl | inr e ↦ rw e (step_mapped shape f more bytes) ]
step_mapped shape f (value s g) bytes = mapped_twice (mapped f) g (value_at shape s bytes)
step_mapped shape f (spot s g) bytes = mapped_twice (mapped f) g (spot_at shape s bytes)
step_mapped shape f (mark l c g) bytes = mapped_twice (mapped f) g (mark_at l c bytes)

is_done_mapped : {X Y : Type 0} (f : X → Y) (F : Form X) → is_done (mapped f F) ≡ is_done F
is_done_mapped f (done x) = refl
is_done_mapped f F = refl

pub read_mapped : {X Y : Type 0} (shape : Shape) (end : ℕ) (f : X → Y) (F : Form X) (ts : List Token) → read shape end (mapped f F) ts ≡ (read shape end F ts >>= λ r. Ok (f r.0, r.1))
unfolding read
read_mapped shape end f (done x) ts = refl
read_mapped shape end f F [] = refl
read_mapped {X} {Y} shape end f F (t ∷ ts) =
    ap (λ (r : Result (Form Y) LineKind). at_place t.place r >>= λ g. read shape end g ts) (step_mapped shape f F t.bytes)
    ∙ elim (step shape F t.bytes) as (λ r. (at_place t.place (mapped_ok (mapped f) r) >>= λ g. read shape end g ts) ≡ ((at_place t.place r >>= λ g. read shape end g ts) >>= λ r. Ok (f r.0, r.1))) [
      | Ok g ↦ read_mapped shape end f g ts
      | Err kind ↦ refl
    ]

-- a form that doesn't end at once needs a token
pub read_end : {X : Type 0} (shape : Shape) (end : ℕ) (F : Form X) → is_done F ≡ false → read shape end F [] ≡ refused Spelling end
unfolding read
read_end shape end (done x) d = absurd cc
read_end shape end F d = refl

pub is_done_of_mapped : {X Y : Type 0} (f : X → Y) (F : Form X) → is_done F ≡ false → is_done (mapped f F) ≡ false
is_done_of_mapped f F d = is_done_mapped f F ∙ d

-- a token that is neither of the two words
pub passed_over : {X : Type 0} (shape : Shape) (end : ℕ) (w v : List ℕ) (f : Form X) (k : LineKind) (b more : Form X) (t : Token) (ts : List Token) → bytes_eq t.bytes w ≡ false → bytes_eq t.bytes v ≡ false → is_done more ≡ false
    → read shape end (row w f (barred v k b more)) (t ∷ ts) ≡ read shape end more (t ∷ ts)
unfolding read
passed_over shape end w v f k b more t ts e g d = rw (e, g) (sym (read_token shape end more t ts d))

pub passed_over_barred : {X : Type 0} (shape : Shape) (end : ℕ) (v w : List ℕ) (k : LineKind) (b f : Form X) (more : Form X) (t : Token) (ts : List Token) → bytes_eq t.bytes v ≡ false → bytes_eq t.bytes w ≡ false → is_done more ≡ false
    → read shape end (barred v k b (row w f more)) (t ∷ ts) ≡ read shape end more (t ∷ ts)
unfolding read
passed_over_barred shape end v w k b f more t ts e g d = rw (e, g) (sym (read_token shape end more t ts d))

-- reading leaves no more tokens than there were
pub read_shorter : {X : Type 0} (shape : Shape) (end : ℕ) (F : Form X) (ts : List Token) (x : X) (rest : List Token) → read shape end F ts ≡ Ok (x, rest) → length rest ≤ length ts
unfolding read
read_shorter {X} shape end (done y) ts x rest h = let e : (y, ts) ≡ (x, rest) = cc in let n = ap (λ (p : X × List Token). length p.1) e in omega (arith, n)
read_shorter shape end F [] x rest h = absurd cc
read_shorter shape end F (t ∷ ts) x rest h =
    (elim (step shape F t.bytes) as (λ r. (at_place t.place r >>= λ g. read shape end g ts) ≡ Ok (x, rest) → length rest ≤ length (t ∷ ts)) [
      | Ok g ↦ λ i. let m = read_shorter shape end g ts x rest i in omega arith
      | Err kind ↦ λ i. absurd cc
    ]) h
