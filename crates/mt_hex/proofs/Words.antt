-- Words of hexadecimal digits fit.
use Rattle.std.proofs.Common.{◌≡◌, ℕ, suc, ◌+◌, ◌*◌, ◌^◌, ◌<◌, ◌≤◌, ◌==◌, Bool, true, false, cond, List, [], ◌∷◌, length, Some, None, refl, subst, ap, ◌∙◌, arith, lit<}
use Rattle.std.specs.List.{list_all}
use Rattle.std.proofs.lemmas.Bool.{and_parts, eqb-true}
use Rattle.std.proofs.lemmas.Bool.Decides.{nat_tests}
use Rattle.mt_word.specs.declared.Width.{Width}
use Rattle.mt_word.specs.declared.Width.TheVariants.{W8, W16, W32, W64}
use Rattle.mt_word.specs.Word.{width_bits, Fits}
use Rattle.mt_hex.specs.Hex.{is_hex, hex_digit, hex, digits_of, is_word, word_of}

digits_few : (w : Width) → digits_of w ≤ 16
digits_few W8 = omega arith
digits_few W16 = omega arith
digits_few W32 = omega arith
digits_few W64 = omega arith

digits_bits : (w : Width) → 16 ^ digits_of w ≡ 2 ^ width_bits w
digits_bits W8 = refl
digits_bits W16 = refl
digits_bits W32 = refl
digits_bits W64 = refl

pub word_parts : (w : Width) (text : List ℕ) → is_word w text ≡ true → (length text ≡ digits_of w) × (list_all is_hex text ≡ true)
word_parts w text h = let parts = and_parts (length text == digits_of w) (list_all is_hex text) h in (eqb-true _ _ parts.0, parts.1)

pub word_few : (w : Width) (text : List ℕ) → is_word w text ≡ true → length text ≤ 16
word_few w text h = let len = (word_parts w text h).0 in let few = digits_few w in omega (arith, len, few)

digit_small : (b : ℕ) → is_hex b ≡ true → hex_digit b < 16
digit_small b h = grind (arith, nat_tests, h)

hex_more : (n d m : ℕ) → n < 16 ^ m → d < 16 → 16 * n + d < 16 ^ suc m
hex_more n d m small digit = omega (arith, small, digit)

hex_fits : (n m : ℕ) (text : List ℕ) → list_all is_hex text ≡ true → n < 16 ^ m → hex n text < 16 ^ (m + length text)
hex_fits n m [] h small = let e : m + 0 ≡ m = omega arith in rw e small
hex_fits n m (b ∷ bs) h small =
    let parts = and_parts (is_hex b) (list_all is_hex bs) h in
    let later = hex_fits (16 * n + hex_digit b) (suc m) bs parts.1 (hex_more n (hex_digit b) m small (digit_small b parts.0)) in
    let e : m + suc (length bs) ≡ suc m + length bs = omega arith in
    rw e later

value_fits : (w : Width) (text : List ℕ) → is_word w text ≡ true → hex 0 text < 2 ^ width_bits w
value_fits w text h =
    let parts = word_parts w text h in
    let fits : hex 0 text < 16 ^ (0 + length text) = hex_fits 0 0 text parts.1 (lit< tt) in
    let len : 0 + length text ≡ digits_of w = omega (arith, parts.0) in
    subst (λ (n : ℕ). hex 0 text < n) (ap (λ (n : ℕ). 16 ^ n) len ∙ digits_bits w) fits

fits_by : (w : Width) (text : List ℕ) (b : Bool) (x : ℕ) → is_word w text ≡ b → cond b (Some (hex 0 text)) None ≡ Some x → Fits w x
fits_by w text true x h e = let same : hex 0 text ≡ x = cc in subst (Fits w) same (value_fits w text h)
fits_by w text false x h e = absurd cc

pub word_fits : (w : Width) (text : List ℕ) (x : ℕ) → word_of w text ≡ Some x → Fits w x
unfolding word_of
word_fits w text x h = fits_by w text (is_word w text) x refl h
