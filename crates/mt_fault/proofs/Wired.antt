-- What an address answers that also reaches another cell, bit by bit.
use Rattle.std.proofs.Common.{◌≡◌, ℕ, ◌<◌, ◌==◌, ◌&&◌, ◌||◌, true, false, refl, ap, ◌∙◌, arith, min, max, bit_and, bit_or}
use Rattle.std.specs.Int.{bit_at}
use Rattle.std.proofs.lemmas.Nat.Bits.{bit_at-lt, bit_at_and, bit_at_or}
use Rattle.std.proofs.lemmas.Bool.{eq-eqb}
use Rattle.std.proofs.lemmas.Bool.Decides.{nat_tests}
use Rattle.mt_word.specs.Word.{has_bit}
use Rattle.mt_fault.specs.declared.fault.Fault.TheVariants.{Also}
use Rattle.mt_fault.specs.Faulty.{answer_under}

one_of_both : (x y : ℕ) → x < 2 → y < 2 → (min x y == 1) ≡ ((x == 1) && (y == 1))
one_of_both x y hx hy = grind (arith, nat_tests)

one_of_either : (x y : ℕ) → x < 2 → y < 2 → (max x y == 1) ≡ ((x == 1) || (y == 1))
one_of_either x y hx hy = grind (arith, nat_tests)

bit_of_and : (x y bit : ℕ) → has_bit (bit_and x y) bit ≡ (has_bit x bit && has_bit y bit)
unfolding has_bit
bit_of_and x y bit = ap (λ n. n == 1) (bit_at_and x y bit) ∙ one_of_both (bit_at x bit) (bit_at y bit) (bit_at-lt x bit) (bit_at-lt y bit)

bit_of_or : (x y bit : ℕ) → has_bit (bit_or x y) bit ≡ (has_bit x bit || has_bit y bit)
unfolding has_bit
bit_of_or x y bit = ap (λ n. n == 1) (bit_at_or x y bit) ∙ one_of_either (bit_at x bit) (bit_at y bit) (bit_at-lt x bit) (bit_at-lt y bit)

pub wired_and : (addr other : ℕ) (words : ℕ → ℕ) (bit : ℕ) → has_bit (answer_under (Also addr other true) words addr) bit ≡ (has_bit (words addr) bit && has_bit (words other) bit)
unfolding answer_under
wired_and addr other words bit = rw (eq-eqb addr addr refl) (bit_of_and (words addr) (words other) bit)

pub wired_or : (addr other : ℕ) (words : ℕ → ℕ) (bit : ℕ) → has_bit (answer_under (Also addr other false) words addr) bit ≡ (has_bit (words addr) bit || has_bit (words other) bit)
unfolding answer_under
wired_or addr other words bit = rw (eq-eqb addr addr refl) (bit_of_or (words addr) (words other) bit)
