-- The first token of a text.
use Rattle.std.proofs.Common.{◌≡◌, ℕ, suc, ◌+◌, ◌-◌, ◌<◌, ◌≤◌, ◌==◌, Bool, true, false, ◌&&◌, cond, List, [], ◌∷◌, length, take, drop, refl, sym, ap, subst, ◌∙◌, inl, inr, arith, eqb-true, add-zero}
use Rattle.std.proofs.lemmas.Bool.{cases_Bool}
use Rattle.mt_text.specs.Tokens.{Token, is_word, begins_word, grown, tokens, skip, word_len, token_len}

space_is_no_word : (b : ℕ) → is_word b ≡ true → (b == 32) ≡ false
space_is_no_word b w = elim (cases_Bool (b == 32)) [ inl e ↦ absurd (let z : b ≡ 32 = eqb-true b 32 e in let v : is_word 32 ≡ true = subst (λ (x : ℕ). is_word x ≡ true) z w in cc) | inr e ↦ e ]

picked : (place b : ℕ) (bs : List ℕ) (s w : Bool) → (b == 32) ≡ s → (is_word b && begins_word bs) ≡ w
    → tokens place (b ∷ bs) ≡ cond s (tokens (place + 1) bs) (cond w (grown place b (tokens (place + 1) bs)) (record { place = place; bytes = b ∷ [] } ∷ tokens (place + 1) bs))
unfolding tokens
picked place b bs s w e f =
    let ts = tokens (place + 1) bs in
    let one : List Token = record { place = place; bytes = b ∷ [] } ∷ ts in
    ap (λ (x : Bool). cond x ts (cond (is_word b && begins_word bs) (grown place b ts) one)) e ∙ ap (λ (y : Bool). cond s ts (cond y (grown place b ts) one)) f

-- a byte of a word, the last of it
pub word_ends : (place b : ℕ) (bs : List ℕ) → is_word b ≡ true → begins_word bs ≡ false → tokens place (b ∷ bs) ≡ record { place = place; bytes = b ∷ [] } ∷ tokens (place + 1) bs
word_ends place b bs w e = picked place b bs false false (space_is_no_word b w) (ap (λ (x : Bool). x && begins_word bs) w ∙ e)

pub word_goes_on : (place b : ℕ) (bs : List ℕ) → is_word b ≡ true → begins_word bs ≡ true → tokens place (b ∷ bs) ≡ grown place b (tokens (place + 1) bs)
word_goes_on place b bs w e = picked place b bs false true (space_is_no_word b w) (ap (λ (x : Bool). x && begins_word bs) w ∙ e)

-- a word of so many bytes more, which the grammar counts so
one_more : (place b : ℕ) (bs : List ℕ) (n k : ℕ) → k ≡ suc n → record { place = place; bytes = b ∷ take n bs } ∷ tokens (place + 1 + n) (drop n bs) ≡ record { place = place; bytes = take k (b ∷ bs) } ∷ tokens (place + k) (drop k (b ∷ bs))
one_more place b bs n k e =
    let first : Token = record { place = place; bytes = b ∷ take n bs } in
    let sum : place + 1 + n ≡ place + suc n = omega arith in
    subst (λ (x : ℕ). first ∷ tokens (place + 1 + n) (drop n bs) ≡ record { place = place; bytes = take x (b ∷ bs) } ∷ tokens (place + x) (drop x (b ∷ bs))) (sym e) (ap (λ (q : ℕ). first ∷ tokens q (drop n bs)) sum)

-- a word
pub tokens_word : (place b : ℕ) (bs : List ℕ) → is_word b ≡ true → tokens place (b ∷ bs) ≡ record { place = place; bytes = b ∷ take (word_len bs) bs } ∷ tokens (place + 1 + word_len bs) (drop (word_len bs) bs)
tokens_word place b [] w = word_ends place b [] w refl ∙ rw add-zero refl
tokens_word place b (c ∷ cs) w =
    elim (cases_Bool (is_word c)) [
      | inl e ↦
          let more = one_more (place + 1) c cs (word_len cs) (word_len (c ∷ cs)) (rw e (omega arith)) in
          word_goes_on place b (c ∷ cs) w e ∙ ap (grown place b) (tokens_word (place + 1) c cs e ∙ more)
      | inr e ↦ word_ends place b (c ∷ cs) w e ∙ rw (e, add-zero) refl
    ]

-- the first token of a text that begins with no space
tokens_first : (place b : ℕ) (bs : List ℕ) → (b == 32) ≡ false → tokens place (b ∷ bs) ≡ record { place = place; bytes = take (token_len (b ∷ bs)) (b ∷ bs) } ∷ tokens (place + token_len (b ∷ bs)) (drop (token_len (b ∷ bs)) (b ∷ bs))
tokens_first place b bs s =
    elim (cases_Bool (is_word b)) [
      | inl e ↦ tokens_word place b bs e ∙ one_more place b bs (word_len bs) (token_len (b ∷ bs)) (rw e (omega arith))
      | inr e ↦ picked place b bs false false s (ap (λ (x : Bool). x && begins_word bs) e) ∙ rw e refl
    ]

skip_shorter : (text : List ℕ) → length (skip text) ≤ length text
skip_shorter [] = omega arith
skip_shorter (b ∷ bs) = elim (cases_Bool (b == 32)) [ inl e ↦ let m = skip_shorter bs in rw e (omega arith) | inr e ↦ rw e (omega arith) ]

skip_head : (text : List ℕ) (b : ℕ) (bs : List ℕ) → skip text ≡ b ∷ bs → (b == 32) ≡ false
skip_head [] b bs h = absurd cc
skip_head (c ∷ cs) b bs h = elim (cases_Bool (c == 32)) [ inl e ↦ skip_head cs b bs (rw e at h) | inr e ↦ let k = rw e at h in let z : c ≡ b = cc in subst (λ (x : ℕ). (x == 32) ≡ false) z e ]

pub tokens_space : (place b : ℕ) (bs : List ℕ) → (b == 32) ≡ true → tokens place (b ∷ bs) ≡ tokens (place + 1) bs
tokens_space place b bs e = picked place b bs true (is_word b && begins_word bs) e refl

pub tokens_skip : (place : ℕ) (text : List ℕ) → tokens place text ≡ tokens (place + (length text - length (skip text))) (skip text)
tokens_skip place [] = rw add-zero refl
tokens_skip place (b ∷ bs) =
    elim (cases_Bool (b == 32)) [
      | inl e ↦
          let m = skip_shorter bs in
          let sum : place + 1 + (length bs - length (skip bs)) ≡ place + (suc (length bs) - length (skip bs)) = omega arith in
          tokens_space place b bs e ∙ tokens_skip (place + 1) bs ∙ rw (e, sum) refl
      | inr e ↦ let sum : place + (suc (length bs) - suc (length bs)) ≡ place = omega arith in rw (e, sum) refl
    ]

-- how the code takes a token
pub tokens_next : (place : ℕ) (text : List ℕ) (s : List ℕ) → s ≡ skip text → 0 < token_len s → tokens place text ≡ record { place = place + (length text - length s); bytes = take (token_len s) s } ∷ tokens (place + (length text - length s) + token_len s) (drop (token_len s) s)
tokens_next place text [] e lt = absurd (omega arith)
tokens_next place text (b ∷ bs) e lt = tokens_skip place text ∙ rw (← e) (tokens_first (place + (length text - length (b ∷ bs))) b bs (skip_head text b bs (sym e)))

pub tokens_none : (place : ℕ) (text : List ℕ) (s : List ℕ) → s ≡ skip text → token_len s ≡ 0 → (tokens place text ≡ []) × (length s ≡ 0)
unfolding tokens
tokens_none place text [] e z = (tokens_skip place text ∙ rw (← e) refl, refl)
tokens_none place text (b ∷ bs) e z = absurd (elim (cases_Bool (is_word b)) [ inl w ↦ let y = rw w at z in omega arith | inr w ↦ let y = rw w at z in omega arith ])

pub mark_alone : (place b : ℕ) (bs : List ℕ) → is_word b ≡ false → (b == 32) ≡ false → tokens place (b ∷ bs) ≡ record { place = place; bytes = b ∷ [] } ∷ tokens (place + 1) bs
mark_alone place b bs w s = picked place b bs false false s (ap (λ (x : Bool). x && begins_word bs) w)
