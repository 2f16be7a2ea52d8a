-- What the reader's functions answer, from one cursor to the next.
use Rattle.std.proofs.Common.{◌≡◌, ℕ, false, List, ◌∷◌, Some, None, Result, Ok, Err, refl, sym, ap, subst, ◌∙◌}
use Rattle.mt_port.specs.declared.board.Shape.{Shape}
use Rattle.mt_text.specs.declared.cursor.Cursor.{Cursor}
use Rattle.mt_text.specs.declared.line.LineKind.{LineKind}
use Rattle.mt_text.specs.declared.line.LineKind.TheVariants.{Spelling}
use Rattle.mt_text.specs.declared.line.LineRefusal.{LineRefusal}
use Rattle.mt_text.specs.declared.token.Token.{Token as CodeToken}
use Rattle.mt_text.specs.Tokens.{Token}
use Rattle.mt_text.specs.Cursors.{left, end_of, token_view, Takes}
use Rattle.mt_text.specs.Forms.{Form, Entry, rows, done, step, mapped, refused, at_place, ◌>>=◌}
use Rattle.mt_text.specs.Reader.{read, is_done, named, Gives, Leaves, Reads, ReadsFrom, ReadsEntry}
use Rattle.mt_text.proofs.FormLemmas.{read_token, read_end, read_mapped, rows_named, rows_none}

-- what was read, by another name
pub same_read : {X : Type 0} (a b : Result (X × List Token) LineRefusal) (old new : Cursor) (result : Result X LineRefusal) → a ≡ b → Leaves b old new result → Leaves a old new result
same_read {X} a b old new result e h = subst (λ (r : Result (X × List Token) LineRefusal). Leaves r old new result) (sym e) h

-- ---- a token

-- no token was left
pub none_taken : {X : Type 0} (shape : Shape) (form : Form X) (old new : Cursor) (e : LineRefusal) → is_done form ≡ false → Takes old new (Err e) → end_of new ≡ end_of old → Reads shape form old new (Err e)
none_taken {X} shape form old new e d t s = record {
  value = ap (read shape (end_of old) form) t.0 ∙ read_end shape (end_of old) form d ∙ (let E : LineRefusal → Result (X × List Token) LineRefusal = λ x. Err x in ap E (sym t.1));
  end = s;
}

-- the rest is read behind the first token
pub one_taken : {X : Type 0} (shape : Shape) (form : Form X) (old mid new : Cursor) (token : CodeToken) (result : Result X LineRefusal) → Takes old mid (Ok token) → end_of mid ≡ end_of old → ReadsFrom shape form token mid new result → Reads shape form old new result
one_taken {X} shape form old mid new token result t s h = record {
  value = subst (λ (ts : List Token). Gives result (left new) (read shape (end_of old) form ts)) (sym t) (subst (λ (n : ℕ). Gives result (left new) (read shape n form (token_view token ∷ left mid))) s h.value);
  end = h.end ∙ s;
}

-- a value of one token
pub value_ok : {X : Type 0} (shape : Shape) (form : Form X) (old new : Cursor) (token : CodeToken) (x : X) → is_done form ≡ false → Takes old new (Ok token) → end_of new ≡ end_of old → step shape form token.bytes.now ≡ Ok (done x) → Reads shape form old new (Ok x)
unfolding read
value_ok {X} shape form old new token x d t s h = one_taken shape form old new new token (Ok x) t s (record {
  value = read_token shape (end_of new) form (token_view token) (left new) d ∙ ap (λ (r : Result (Form X) LineKind). at_place token.place r >>= λ g. read shape (end_of new) g (left new)) h;
  end = refl;
})

pub value_err : {X : Type 0} (shape : Shape) (form : Form X) (old new : Cursor) (token : CodeToken) (kind : LineKind) → is_done form ≡ false → Takes old new (Ok token) → end_of new ≡ end_of old → step shape form token.bytes.now ≡ Err kind
    → Reads shape form old new (refused kind token.place)
value_err {X} shape form old new token kind d t s h = one_taken shape form old new new token (refused kind token.place) t s (record {
  value = read_token shape (end_of new) form (token_view token) (left new) d ∙ ap (λ (r : Result (Form X) LineKind). at_place token.place r >>= λ g. read shape (end_of new) g (left new)) h;
  end = refl;
})

-- ---- the same form of other values

pub mapped_value : {X Y : Type 0} (shape : Shape) (end : ℕ) (f : X → Y) (form : Form X) (ts : List Token) (old new : Cursor) (x : X) → Leaves (read shape end form ts) old new (Ok x) → Leaves (read shape end (mapped f form) ts) old new (Ok (f x))
mapped_value {X} {Y} shape end f form ts old new x h = record {
  value = read_mapped shape end f form ts ∙ ap (λ (r : Result (X × List Token) LineRefusal). r >>= λ r. Ok (f r.0, r.1)) h.value;
  end = h.end;
}

pub mapped_refusal : {X Y : Type 0} (shape : Shape) (end : ℕ) (f : X → Y) (form : Form X) (ts : List Token) (old new : Cursor) (e : LineRefusal) → Leaves (read shape end form ts) old new (Err e) → Leaves (read shape end (mapped f form) ts) old new (Err e)
mapped_refusal {X} {Y} shape end f form ts old new e h = record {
  value = read_mapped shape end f form ts ∙ ap (λ (r : Result (X × List Token) LineRefusal). r >>= λ r. Ok (f r.0, r.1)) h.value;
  end = h.end;
}

-- ---- a name

-- what the word names is read
pub name_taken : {N X : Type 0} (shape : Shape) (name : N → List ℕ) (entry : N → Entry X) (ns : List N) (old mid new : Cursor) (token : CodeToken) (n : N) (result : Result X LineRefusal) → Takes old mid (Ok token) → end_of mid ≡ end_of old
    → named name ns token.bytes.now ≡ Some n → ReadsEntry shape (entry n) token.place mid new result → Reads shape (rows name entry ns) old new result
name_taken shape name entry ns old mid new token n result t s is h = one_taken shape (rows name entry ns) old mid new token result t s (same_read _ _ mid new result (rows_named shape (end_of mid) name entry ns n (token_view token) (left mid) is) h)

-- it names nothing
pub no_name_taken : {N X : Type 0} (shape : Shape) (name : N → List ℕ) (entry : N → Entry X) (ns : List N) (old new : Cursor) (token : CodeToken) → Takes old new (Ok token) → end_of new ≡ end_of old → named name ns token.bytes.now ≡ None
    → Reads shape (rows name entry ns) old new (refused Spelling token.place)
no_name_taken shape name entry ns old new token t s is =
    one_taken shape (rows name entry ns) old new new token (refused Spelling token.place) t s (record { value = rows_none shape (end_of new) name entry ns (token_view token) (left new) is; end = refl })
