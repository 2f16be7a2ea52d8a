-- Where tokens end, and where a comment begins.
use Rattle.std.proofs.Common.{◌≡◌, ◌≢◌, ℕ, suc, ◌+◌, ◌==◌, true, false, List, [], ◌∷◌, ◌++◌, length, refl, sym, ap, ◌∙◌, inl, inr, arith, append-nil}
use Rattle.std.specs.List.{list_all, AllByRecursion}
use Rattle.std.proofs.lemmas.Bool.{cases_Bool, eq-eqb, ne_eqb}
use Rattle.mt_text.specs.Tokens.{Token, is_word, begins_word, grown, tokens}
use Rattle.mt_text.specs.Lines.{is_comment}
use Rattle.mt_text.specs.Separators.{IsOfWord, IsSign, WordsAreTokens, SpacesPartTokens, SignsAreTokens, CommentsBeginAtTheirSign}
use Rattle.mt_text.proofs.TokenLemmas.{word_ends, word_goes_on, tokens_word, tokens_space, mark_alone}
use Rattle.mt_text.proofs.Pieces.{word_then}

of_word : (b : ℕ) → IsOfWord b → is_word b ≡ true
of_word b h = rw (ne_eqb b 32 h.no_space, ne_eqb b 91 h.no_opening, ne_eqb b 93 h.no_closing, ne_eqb b 59 h.no_semicolon)

all_of_word : (bs : List ℕ) → AllByRecursion IsOfWord bs → list_all is_word bs ≡ true
all_of_word [] h = refl
all_of_word (b ∷ bs) h = rw (of_word b h.0, all_of_word bs h.1)

pub words_are_tokens : WordsAreTokens
unfolding tokens
words_are_tokens place [] some h = absurd (some refl)
words_are_tokens place (b ∷ bs) some h = ap (tokens place) (sym (append-nil (b ∷ bs))) ∙ word_then place b bs [] (all_of_word (b ∷ bs) h) refl

-- a byte of no word after a text
begins_same : (before : List ℕ) (c : ℕ) (after : List ℕ) → is_word c ≡ false → begins_word (before ++ c ∷ after) ≡ begins_word before
begins_same [] c after h = h
begins_same (b ∷ bs) c after h = refl

-- a text that begins with a word has a token
some_token : (place : ℕ) (text : List ℕ) → begins_word text ≡ true → (t : Token) × (ts : List Token) × (tokens place text ≡ t ∷ ts)
some_token place [] h = absurd cc
some_token place (b ∷ bs) h = (_, _, tokens_word place b bs h)

grown_append : (place b : ℕ) (ts us : List Token) (t : Token) (more : List Token) → ts ≡ t ∷ more → grown place b (ts ++ us) ≡ grown place b ts ++ us
grown_append place b ts us t more e = rw e

parted : (place c : ℕ) (before after : List ℕ) → is_word c ≡ false → tokens place (before ++ c ∷ after) ≡ tokens place before ++ tokens (place + length before) (c ∷ after)
unfolding tokens
parted place c [] after h = let e : place ≡ place + 0 = omega arith in ap (λ (p : ℕ). tokens p (c ∷ after)) e
parted place c (b ∷ bs) after h =
    let rest : List ℕ = bs ++ c ∷ after in
    let sum : place + 1 + length bs ≡ place + suc (length bs) = omega arith in
    let later : tokens (place + 1) rest ≡ tokens (place + 1) bs ++ tokens (place + suc (length bs)) (c ∷ after) =
    parted (place + 1) c bs after h ∙ ap (λ (p : ℕ). tokens (place + 1) bs ++ tokens p (c ∷ after)) sum in
    let us : List Token = tokens (place + suc (length bs)) (c ∷ after) in
    elim (cases_Bool (b == 32)) [
      | inl space ↦ tokens_space place b rest space ∙ later ∙ ap (λ (ts : List Token). ts ++ us) (sym (tokens_space place b bs space))
      | inr other ↦ elim (cases_Bool (is_word b)) [
        | inr sign ↦ mark_alone place b rest sign other ∙ ap (λ (ts : List Token). record { place = place; bytes = b ∷ [] } ∷ ts) later ∙ ap (λ (ts : List Token). ts ++ us) (sym (mark_alone place b bs sign other))
        | inl word ↦ elim (cases_Bool (begins_word bs)) [
          | inr ends ↦ word_ends place b rest word (begins_same bs c after h ∙ ends) ∙ ap (λ (ts : List Token). record { place = place; bytes = b ∷ [] } ∷ ts) later
              ∙ ap (λ (ts : List Token). ts ++ us) (sym (word_ends place b bs word ends))
          | inl on ↦ (let m = some_token (place + 1) bs on in
              word_goes_on place b rest word (begins_same bs c after h ∙ on) ∙ ap (grown place b) later ∙ grown_append place b (tokens (place + 1) bs) us m.0 m.1 m.2
              ∙ ap (λ (ts : List Token). ts ++ us) (sym (word_goes_on place b bs word on)))
        ]
      ]
    ]

pub spaces_part : SpacesPartTokens
spaces_part place before after = parted place 32 before after refl ∙ ap (λ (ts : List Token). tokens place before ++ ts) (tokens_space (place + length before) 32 after refl)

sign_alone : (place sign : ℕ) (after : List ℕ) → IsSign sign → (is_word sign ≡ false) × ((sign == 32) ≡ false)
sign_alone place sign after (inl e) = (rw e, rw e)
sign_alone place sign after (inr (inl e)) = (rw e, rw e)
sign_alone place sign after (inr (inr e)) = (rw e, rw e)

pub signs_are_tokens : SignsAreTokens
signs_are_tokens place sign before after h =
    let alone = sign_alone place sign after h in
    parted place sign before after alone.0 ∙ ap (λ (ts : List Token). tokens place before ++ ts) (mark_alone (place + length before) sign after alone.0 alone.1)

comment_from : (place : ℕ) (spaces more : List ℕ) (b : ℕ) → AllByRecursion (λ s. s ≡ 32) spaces → b ≢ 32 → is_comment (tokens place (spaces ++ b ∷ more)) ≡ (b == 35)
comment_from place [] more b all other =
    elim (cases_Bool (is_word b)) [
      | inl word ↦ ap is_comment (tokens_word place b more word)
      | inr sign ↦ ap is_comment (mark_alone place b more sign (ne_eqb b 32 other))
    ]
comment_from place (s ∷ spaces) more b all other = ap is_comment (tokens_space place s (spaces ++ b ∷ more) (eq-eqb s 32 all.0)) ∙ comment_from (place + 1) spaces more b all.1 other

pub comments_begin : CommentsBeginAtTheirSign
comments_begin spaces more b all other = comment_from 1 spaces more b all other
