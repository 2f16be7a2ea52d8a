-- The digits, one by one.
use Rattle.std.proofs.Common.{◌≡◌, ℕ, zero, suc, ◌<◌, ◌==◌, ◌&&◌, ◌||◌, not, ◌++◌, Bool, true, List, get_or, refl, arith, IsTrue, Contains, inl, inr}
use Rattle.std.specs.List.{list_any}
use Rattle.std.proofs.lemmas.List.Sums.{AllPass-from_list_all}
use Rattle.std.proofs.lemmas.Map.Views.{Contains-from_any}
use Rattle.std.proofs.lemmas.Bool.{cases_Bool, and_parts, eqb-true}
use Rattle.std.proofs.lemmas.Bool.Decides.{nat_tests}
use Rattle.mt_hex.specs.Hex.{is_hex, hex_digit}
use Rattle.mt_hex.specs.Digits.{digit_byte}
use Rattle.mt_hex.specs.Laws.{lower_digits, upper_digits, DigitsAreWritten, AreRead, DigitsAreThese}

-- whether every number below n passes a test
abbrev all_below : (ℕ → Bool) → ℕ → Bool
all_below test zero = true
all_below test (suc n) = test n && all_below test n

below : (test : ℕ → Bool) (n k : ℕ) → all_below test n ≡ true → k < n → test k ≡ true
below test zero k h lt = absurd (omega arith)
below test (suc n) k h lt =
    let m = and_parts (test n) (all_below test n) h in
    elim (cases_Bool (k == n)) [
      | inl e ↦ let same : k ≡ n = eqb-true k n e in rw same m.0
      | inr e ↦ below test n k m.1 (grind (arith, nat_tests))
    ]

pub written : DigitsAreWritten
written digit lt = eqb-true _ _ (below (λ d. digit_byte d == get_or lower_digits d 0) 16 digit refl lt)

pub lower_read : AreRead lower_digits
lower_read digit lt = eqb-true _ _ (below (λ d. hex_digit (get_or lower_digits d 0) == d) 16 digit refl lt)

pub upper_read : AreRead upper_digits
upper_read digit lt = eqb-true _ _ (below (λ d. hex_digit (get_or upper_digits d 0) == d) 16 digit refl lt)

abbrev digits : List ℕ
digits = lower_digits ++ upper_digits

digit_small : (byte : ℕ) → is_hex byte ≡ true → byte < 103
digit_small byte h = grind (arith, nat_tests, h)

-- a byte below 103 is no digit, or one of the texts has it
listed : (byte : ℕ) → byte < 103 → (not (is_hex byte) || list_any (λ x. byte == x) digits) ≡ true
listed byte lt = below (λ b. not (is_hex b) || list_any (λ x. b == x) digits) 103 byte refl lt

digit_here : (byte : ℕ) → IsTrue (is_hex byte) → Contains digits byte
digit_here byte h = Contains-from_any {eq = λ x y. x == y} (λ x y e. eqb-true x y e) byte digits (rw h at (listed byte (digit_small byte h)))

digit_there : (byte : ℕ) → Contains digits byte → IsTrue (is_hex byte)
digit_there byte (k, lt, e) = rw e at (AllPass-from_list_all is_hex digits refl k byte lt)

pub these : DigitsAreThese
these byte = (digit_here byte, digit_there byte)
