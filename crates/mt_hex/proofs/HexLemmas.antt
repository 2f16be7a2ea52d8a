-- The hexadecimal digits of a word.
use Rattle.std.proofs.Common.{◌≡◌, ℕ, zero, suc, ◌+◌, ◌-◌, ◌*◌, ◌/◌, ◌%◌, ◌^◌, ◌<◌, List, [], ◌∷◌, ◌++◌, refl, sym, ap, ◌∙◌, arith, append_assoc}
use Rattle.std.proofs.Math.Nat.{div-div-eq-div-mul}
use Rattle.std.proofs.lemmas.Nat.{pow-add}
use Rattle.std.proofs.lemmas.List.{append-nil}
use Rattle.mt_hex.specs.Digits.{digit_byte, hex_text}

sixteen_more : (n : ℕ) → 16 * 2 ^ (4 * n) ≡ 2 ^ (4 * suc n)
sixteen_more n = let s : 4 + 4 * n ≡ 4 * suc n = omega arith in sym (pow-add 2 4 (4 * n)) ∙ ap (λ (k : ℕ). 2 ^ k) s

-- the first of some digits
pub hex_first : (n word : ℕ) → hex_text (suc n) word ≡ digit_byte (word / 2 ^ (4 * n) % 16) ∷ hex_text n word
unfolding hex_text
hex_first zero word = let e : word / 1 ≡ word = omega arith in rw e refl
hex_first (suc n) word =
    let e : word / 16 / 2 ^ (4 * n) ≡ word / 2 ^ (4 * suc n) = div-div-eq-div-mul word 16 (2 ^ (4 * n)) ∙ ap (λ (k : ℕ). word / k) (sixteen_more n) in
    let h = hex_first n (word / 16) in
    ap (λ (ds : List ℕ). ds ++ digit_byte (word % 16) ∷ []) h ∙ ap (λ (k : ℕ). digit_byte (k % 16) ∷ (hex_text n (word / 16) ++ digit_byte (word % 16) ∷ [])) e

-- one more digit is written
pub hex_written : (out new start : List ℕ) (left before word digit whole : ℕ) → 0 < left → before ≡ left - 1 → digit ≡ digit_byte (word / 2 ^ (4 * before) % 16) → new ≡ out ++ digit ∷ [] → out ++ hex_text left word ≡ start ++ hex_text whole word → new ++ hex_text before word ≡ start ++ hex_text whole word
hex_written out new start zero before word digit whole lt b d n h = absurd (omega arith)
hex_written out new start (suc k) before word digit whole lt b d n h =
    let same : before ≡ k = omega arith in
    rw (n, append_assoc, d, same) (ap (λ (ds : List ℕ). out ++ ds) (sym (hex_first k word)) ∙ h)

pub hex_none : (out start : List ℕ) (left word whole : ℕ) → left ≡ 0 → out ++ hex_text left word ≡ start ++ hex_text whole word → out ≡ start ++ hex_text whole word
unfolding hex_text
hex_none out start zero word whole z h = sym (append-nil out) ∙ h
hex_none out start (suc k) word whole z h = absurd (omega arith)
