-- Numbers have one spelling; words have hexadecimal digits of either case.
use Rattle.std.proofs.Common.{◌≡◌, ℕ, ◌+◌, ◌-◌, ◌*◌, ◌^◌, ◌<◌, ◌≤◌, ◌==◌, not, ◌&&◌, Bool, true, false, cond, List, [], ◌∷◌, length, map, get_or, Option, Some, None, refl, sym, ap, subst, ◌∙◌, inl, inr, arith, nat_le, nat_lt, eqb-true}
use Rattle.std.proofs.lemmas.Bool.{cases_Bool}
use Rattle.std.proofs.lemmas.Bool.Decides.{nat_tests}
use Rattle.std.proofs.lemmas.List.{length-map}
use Rattle.std.specs.List.{list_all}
use Rattle.std.specs.Fmt.{decimal as text}
use Rattle.mt_hex.specs.Hex.{is_digit, is_hex, hex_digit, hex, hex_of, upper}
use Rattle.mt_text.specs.Tokens.{decimal, has_leading_zero, number_of}
use Rattle.mt_text.proofs.Numbers.{both, text_back, number_of_text}
use Rattle.mt_text.proofs.Values.{check, checked}

passed : {A : Type 0} (b : Bool) (o : Option A) (x : A) → cond b None o ≡ Some x → (b ≡ false) × (o ≡ Some x)
passed true o x h = absurd cc
passed false o x h = (refl, h)

kept : {A : Type 0} (b : Bool) (y x : A) → cond b (Some y) None ≡ Some x → (b ≡ true) × (y ≡ x)
kept true y x h = (refl, cc)
kept false y x h = absurd cc

not_false : (b : Bool) → not b ≡ false → b ≡ true
not_false true h = refl
not_false false h = absurd cc

some_digit : (bytes : List ℕ) → has_leading_zero bytes ≡ false → 0 < length bytes
some_digit [] h = absurd cc
some_digit (b ∷ bs) h = omega arith

zero_alone : (bytes : List ℕ) → has_leading_zero bytes ≡ false → get_or bytes 0 0 ≡ 48 → length bytes ≡ 1
zero_alone [] h e = absurd cc
zero_alone (b ∷ []) h e = refl
zero_alone (b ∷ c ∷ bs) h e = absurd (let t : (b == 48) ≡ false = h in grind (arith, nat_tests))

number_spelled : (bytes : List ℕ) (n : ℕ) → number_of bytes ≡ Some n → (bytes ≡ text n) × (n < 2 ^ 32)
unfolding number_of
number_spelled bytes n h =
    let a = passed (has_leading_zero bytes) _ n h in
    let b = passed (not (list_all is_digit bytes)) _ n a.1 in
    let c = passed (nat_lt 10 (length bytes)) _ n b.1 in
    let d = kept (nat_lt (decimal 0 bytes) (2 ^ 32)) (decimal 0 bytes) n c.1 in
    let small : decimal 0 bytes < 2 ^ 32 = (let t = d.0 in grind (arith, nat_tests)) in
    let spelled = text_back bytes (not_false (list_all is_digit bytes) b.0) (some_digit bytes a.0) (zero_alone bytes a.0) (omega arith) in
    (sym spelled ∙ ap text d.1, subst (λ (x : ℕ). x < 2 ^ 32) d.1 small)

pub one_spelling : (bytes : List ℕ) (n : ℕ) → (number_of bytes ≡ Some n → (bytes ≡ text n) × (n < 2 ^ 32)) × ((bytes ≡ text n) × (n < 2 ^ 32) → number_of bytes ≡ Some n)
one_spelling bytes n = (number_spelled bytes n, λ h. ap number_of h.0 ∙ number_of_text n h.1)

-- ---- words

pub word_spelled : (bytes : List ℕ) (x : ℕ) → hex_of bytes ≡ Some x → (0 < length bytes) × (length bytes ≤ 16) × (list_all is_hex bytes ≡ true) × (x ≡ hex 0 bytes)
unfolding hex_of
word_spelled bytes x h =
    let a = passed (length bytes == 0) _ x h in
    let b = passed (nat_lt 16 (length bytes)) _ x a.1 in
    let c = passed (not (list_all is_hex bytes)) (Some (hex 0 bytes)) x b.1 in
    let some : 0 < length bytes = (let t = a.0 in grind (arith, nat_tests)) in
    let few : length bytes ≤ 16 = (let t = b.0 in grind (arith, nat_tests)) in
    let same : x ≡ hex 0 bytes = cc (c.1) in
    (some, few, not_false (list_all is_hex bytes) c.0, same)

pub word_from_digits : (bytes : List ℕ) → 0 < length bytes → length bytes ≤ 16 → list_all is_hex bytes ≡ true → hex_of bytes ≡ Some (hex 0 bytes)
unfolding hex_of
word_from_digits bytes some few all =
    let a : (length bytes == 0) ≡ false = grind (arith, nat_tests) in
    let b : nat_lt 16 (length bytes) ≡ false = grind (arith, nat_tests) in
    rw (a, b, all) refl

-- a letter a to f is 97 and a number below 6
letter : (b : ℕ) → (nat_le 97 b && nat_le b 102) ≡ true → (b ≡ 97 + (b - 97)) × (b - 97 < 6)
letter b e =
    let m = both (nat_le 97 b) (nat_le b 102) e in
    let low : 97 ≤ b = (let t = m.0 in grind (arith, nat_tests)) in
    let high : b ≤ 102 = (let t = m.1 in grind (arith, nat_tests)) in
    (omega arith, omega arith)

same_true_ : (a b : Bool) → (a && b) ≡ true → a ≡ b
same_true_ true true h = refl
same_true_ true false h = absurd cc
same_true_ false b h = absurd cc

letters_are_hex : (k : ℕ) → k < 6 → is_hex (upper (97 + k)) ≡ is_hex (97 + k)
unfolding check
letters_are_hex k lt = same_true_ (is_hex (upper (97 + k))) (is_hex (97 + k)) (checked (λ x. is_hex (upper (97 + x)) && is_hex (97 + x)) 6 k refl lt)

letter_digits : (k : ℕ) → k < 6 → hex_digit (upper (97 + k)) ≡ hex_digit (97 + k)
unfolding check
letter_digits k lt = eqb-true (hex_digit (upper (97 + k))) (hex_digit (97 + k)) (checked (λ x. hex_digit (upper (97 + x)) == hex_digit (97 + x)) 6 k refl lt)

upper_is_hex : (b : ℕ) → is_hex (upper b) ≡ is_hex b
upper_is_hex b =
    elim (cases_Bool (nat_le 97 b && nat_le b 102)) [
      | inl e ↦ let m = letter b e in subst (λ (x : ℕ). is_hex (upper x) ≡ is_hex x) (sym m.0) (letters_are_hex (b - 97) m.1)
      | inr e ↦ ap (λ (t : Bool). is_hex (cond t (b - 32) b)) e
    ]

upper_digit : (b : ℕ) → hex_digit (upper b) ≡ hex_digit b
upper_digit b =
    elim (cases_Bool (nat_le 97 b && nat_le b 102)) [
      | inl e ↦ let m = letter b e in subst (λ (x : ℕ). hex_digit (upper x) ≡ hex_digit x) (sym m.0) (letter_digits (b - 97) m.1)
      | inr e ↦ ap (λ (t : Bool). hex_digit (cond t (b - 32) b)) e
    ]

all_upper : (bytes : List ℕ) → list_all is_hex (map upper bytes) ≡ list_all is_hex bytes
all_upper [] = refl
all_upper (b ∷ bs) = rw (upper_is_hex b, all_upper bs) refl

hex_upper : (n : ℕ) (bytes : List ℕ) → hex n (map upper bytes) ≡ hex n bytes
hex_upper n [] = refl
hex_upper n (b ∷ bs) = ap (λ (d : ℕ). hex (16 * n + d) (map upper bs)) (upper_digit b) ∙ hex_upper (16 * n + hex_digit b) bs

pub either_case : (bytes : List ℕ) → hex_of (map upper bytes) ≡ hex_of bytes
unfolding hex_of
either_case bytes = rw (all_upper bytes, hex_upper 0 bytes, length-map bytes upper) refl
