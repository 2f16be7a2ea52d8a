-- The text of pieces that are written one after another.
use Rattle.std.proofs.Common.{◌≡◌, ℕ, ◌+◌, ◌<◌, Bool, true, List, [], ◌∷◌, ◌++◌, length, drop, get_or, refl, sym, ap, ◌∙◌, append_assoc}
use Rattle.std.proofs.lemmas.List.{drop_more, append-nil}
use Rattle.mt_word.specs.declared.Width.{Width}
use Rattle.mt_port.specs.declared.request.HandlerOp.{HandlerOp}
use Rattle.mt_port.specs.declared.request.Request.{Request}
use Rattle.mt_text.specs.Canonical.{Piece, shown, text_of, words, op_words, further_ops, request_pieces, requests_pieces}

pub text_of_append : (ps qs : List Piece) → text_of (ps ++ qs) ≡ text_of ps ++ text_of qs
text_of_append [] qs = refl
text_of_append (p ∷ ps) qs = ap (λ (t : List ℕ). shown p.spaced p.bytes ++ t) (text_of_append ps qs) ∙ sym (append_assoc (shown p.spaced p.bytes) (text_of ps) (text_of qs))

-- one more part of a text is written
pub part_written : (out new part rest whole : List ℕ) → new ≡ out ++ part → out ++ (part ++ rest) ≡ whole → new ++ rest ≡ whole
part_written out new part rest whole n h = ap (λ (t : List ℕ). t ++ rest) n ∙ append_assoc out part rest ∙ h

pub op_written : (width : Width) (ops : List HandlerOp) (i : ℕ) (d : HandlerOp) (out marked new whole : List ℕ) → i < length ops
    → marked ≡ out ++ 59 ∷ [] → new ≡ marked ++ text_of (words true (op_words width (get_or ops i d)))
    → out ++ text_of (further_ops width (drop i ops)) ≡ whole → new ++ text_of (further_ops width (drop (i + 1) ops)) ≡ whole
op_written width ops i d out marked new whole lt m n h =
    let W = words true (op_words width (get_or ops i d)) in
    let F = further_ops width (drop (i + 1) ops) in
    let first : text_of (further_ops width (drop i ops)) ≡ (59 ∷ []) ++ (text_of W ++ text_of F) = rw (drop_more ops i d lt) (ap (λ (t : List ℕ). 59 ∷ t) (text_of_append W F)) in
    part_written marked new (text_of W) (text_of F) whole n (part_written out marked (59 ∷ []) (text_of W ++ text_of F) whole m (ap (λ (t : List ℕ). out ++ t) (sym first) ∙ h))

pub request_written : (width : Width) (rs : List Request) (i : ℕ) (r : Request) (out new whole : List ℕ) → i < length rs → r ≡ get_or rs i r
    → new ≡ out ++ text_of (request_pieces width r)
    → out ++ text_of (requests_pieces width (drop i rs)) ≡ whole → new ++ text_of (requests_pieces width (drop (i + 1) rs)) ≡ whole
request_written width rs i r out new whole lt is n h =
    let R = request_pieces width r in
    let F = requests_pieces width (drop (i + 1) rs) in
    let first : text_of (requests_pieces width (drop i rs)) ≡ text_of R ++ text_of F = rw (drop_more rs i r lt, ← is) (text_of_append R F) in
    part_written out new (text_of R) (text_of F) whole n (ap (λ (t : List ℕ). out ++ t) (sym first) ∙ h)

pub one_word_more : (out mid new : List ℕ) (spaced : Bool) (a b c : List ℕ) → mid ≡ out ++ text_of (words spaced (a ∷ b ∷ [])) → new ≡ mid ++ 32 ∷ c → new ≡ out ++ text_of (words spaced (a ∷ b ∷ c ∷ []))
one_word_more out mid new spaced a b c m n = n ∙ ap (λ (t : List ℕ). t ++ 32 ∷ c) m ∙ simp (append_assoc, append-nil)
