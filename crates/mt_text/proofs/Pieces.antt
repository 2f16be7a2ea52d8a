-- The tokens of a text that is written piece by piece.
use Rattle.std.proofs.Common.{◌≡◌, ℕ, suc, ◌+◌, ◌==◌, Bool, true, false, List, [], ◌∷◌, ◌++◌, length, refl, ap, ◌∙◌, ◌⊎◌, inl, inr, arith}
use Rattle.std.specs.List.{list_all}
use Rattle.mt_text.specs.Tokens.{Token, tokens, is_word, begins_word}
use Rattle.mt_text.specs.Canonical.{Piece, shown, text_of, words, spaced_words}
use Rattle.mt_text.proofs.TokenLemmas.{word_ends, word_goes_on, mark_alone, tokens_space}
use Rattle.mt_text.proofs.Numbers.{both}

-- a word
abbrev pub is_text : List ℕ → Bool
is_text [] = false
is_text (b ∷ bs) = list_all is_word (b ∷ bs)

-- a bracket or a semicolon
abbrev pub IsSign : List ℕ → Type 0
IsSign [] = ⊥
IsSign (b ∷ bs) = (is_word b ≡ false) × ((b == 32) ≡ false) × (bs ≡ [])

abbrev pub IsToken : List ℕ → Type 0
IsToken bytes = (is_text bytes ≡ true) ⊎ IsSign bytes

-- each piece is a token, and no word runs into the next piece
abbrev pub AreApart : List Piece → Type 0
AreApart [] = Unit {0}
AreApart (p ∷ ps) = IsToken p.bytes × (begins_word p.bytes ≡ true → begins_word (text_of ps) ≡ false) × AreApart ps

abbrev pub bytes_of : List Token → List (List ℕ)
bytes_of [] = []
bytes_of (t ∷ ts) = t.bytes ∷ bytes_of ts

abbrev pub pieces_of : List Piece → List (List ℕ)
pieces_of [] = []
pieces_of (p ∷ ps) = p.bytes ∷ pieces_of ps

pub word_then : (place b : ℕ) (bs rest : List ℕ) → list_all is_word (b ∷ bs) ≡ true → begins_word rest ≡ false
    → tokens place ((b ∷ bs) ++ rest) ≡ record { place = place; bytes = b ∷ bs } ∷ tokens (place + suc (length bs)) rest
word_then place b [] rest all apart = word_ends place b rest (both (is_word b) true all).0 apart
word_then place b (c ∷ cs) rest all apart =
    let m = both (is_word b) (list_all is_word (c ∷ cs)) all in
    let k = both (is_word c) (list_all is_word cs) m.1 in
    let sum : place + 1 + suc (length cs) ≡ place + suc (suc (length cs)) = omega arith in
    word_goes_on place b ((c ∷ cs) ++ rest) m.0 k.0 ∙ rw (word_then (place + 1) c cs rest m.1 apart, sum) refl

text_begins : (b : ℕ) (bs : List ℕ) → is_text (b ∷ bs) ≡ true → is_word b ≡ true
text_begins b bs h = (both (is_word b) (list_all is_word bs) h).0

token_then : (place : ℕ) (bytes rest : List ℕ) → IsToken bytes → (begins_word bytes ≡ true → begins_word rest ≡ false) → (next : ℕ) × (tokens place (bytes ++ rest) ≡ record { place = place; bytes = bytes } ∷ tokens next rest)
token_then place [] rest t apart = absurd (elim t [ inl w ↦ (let q : false ≡ true = w in cc) | inr m ↦ m ])
token_then place (b ∷ bs) rest t apart =
    elim t [
      | inl w ↦ (place + suc (length bs), word_then place b bs rest w (apart (text_begins b bs w)))
      | inr m ↦ (place + 1, rw m.2 (mark_alone place b rest m.0 m.1))
    ]

shown_then : (place : ℕ) (spaced : Bool) (bytes rest : List ℕ) → IsToken bytes → (begins_word bytes ≡ true → begins_word rest ≡ false) → (first next : ℕ) × (tokens place (shown spaced bytes ++ rest) ≡ record { place = first; bytes = bytes } ∷ tokens next rest)
shown_then place false bytes rest t apart = let m = token_then place bytes rest t apart in (place, m.0, m.1)
shown_then place true bytes rest t apart = let m = token_then (place + 1) bytes rest t apart in (place + 1, m.0, tokens_space place 32 (bytes ++ rest) refl ∙ m.1)

-- the tokens of the text are the pieces
pub pieces_tokens : (place : ℕ) (ps : List Piece) → AreApart ps → bytes_of (tokens place (text_of ps)) ≡ pieces_of ps
unfolding tokens
pieces_tokens place [] h = refl
pieces_tokens place (p ∷ ps) h =
    let m = shown_then place p.spaced p.bytes (text_of ps) h.0 h.1 in
    ap bytes_of m.2 ∙ ap (λ (x : List (List ℕ)). p.bytes ∷ x) (pieces_tokens m.1 ps h.2)

-- ---- words

abbrev pub AreWords : List (List ℕ) → Type 0
AreWords [] = Unit {0}
AreWords (w ∷ ws) = (is_text w ≡ true) × AreWords ws

begins_spaced : (ws : List (List ℕ)) (ps : List Piece) → begins_word (text_of ps) ≡ false → begins_word (text_of (spaced_words ws ++ ps)) ≡ false
begins_spaced [] ps h = h
begins_spaced (w ∷ ws) ps h = refl

apart_spaced : (ws : List (List ℕ)) (ps : List Piece) → AreWords ws → begins_word (text_of ps) ≡ false → AreApart ps → AreApart (spaced_words ws ++ ps)
apart_spaced [] ps a b h = h
apart_spaced (w ∷ ws) ps a b h = (inl a.0, (λ _. begins_spaced ws ps b), apart_spaced ws ps a.1 b h)

pub apart_words : (spaced : Bool) (ws : List (List ℕ)) (ps : List Piece) → AreWords ws → begins_word (text_of ps) ≡ false → AreApart ps → AreApart (words spaced ws ++ ps)
apart_words spaced [] ps a b h = h
apart_words spaced (w ∷ ws) ps a b h = (inl a.0, (λ _. begins_spaced ws ps b), apart_spaced ws ps a.1 b h)

pieces_of_spaced : (ws : List (List ℕ)) (ps : List Piece) → pieces_of (spaced_words ws ++ ps) ≡ ws ++ pieces_of ps
pieces_of_spaced [] ps = refl
pieces_of_spaced (w ∷ ws) ps = ap (λ (x : List (List ℕ)). w ∷ x) (pieces_of_spaced ws ps)

pub pieces_of_words : (spaced : Bool) (ws : List (List ℕ)) (ps : List Piece) → pieces_of (words spaced ws ++ ps) ≡ ws ++ pieces_of ps
pieces_of_words spaced [] ps = refl
pieces_of_words spaced (w ∷ ws) ps = ap (λ (x : List (List ℕ)). w ∷ x) (pieces_of_spaced ws ps)
