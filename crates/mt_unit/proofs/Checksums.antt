-- Registers of a checksum.
use Rattle.std.proofs.Common.{ℕ, suc, zero, ◌≡◌, ◌+◌, ◌-◌, ◌<◌, List, [], ◌∷◌, ◌++◌, take, length, get_or, refl, arith, ap, sym, ◌∙◌}
use Rattle.std.specs.Prelude.{◌/◌, ◌%◌}
use Rattle.mt_unit.specs.Checksums.{all_taken_in, in_bytes, shifted, shifted_by, taken_in}

-- one bit more is shifted out
pub one_shift : (n i register : ℕ) → i < n → shifted_by (n - (i + 1)) (shifted register) ≡ shifted_by (n - i) register
one_shift n i register less =
    let e : n - i ≡ suc (n - (i + 1)) = omega (arith, less) in
    ap (λ (k : ℕ). shifted_by k register) (sym e)

-- one byte more of a number is taken in
pub one_byte : (n i register number : ℕ) → i < n
    → all_taken_in (taken_in register (number % 256)) (in_bytes (n - (i + 1)) (number / 256)) ≡ all_taken_in register (in_bytes (n - i) number)
one_byte n i register number less =
    let e : n - i ≡ suc (n - (i + 1)) = omega (arith, less) in
    ap (λ (k : ℕ). all_taken_in register (in_bytes k number)) (sym e)

pub taken_after : (register : ℕ) (bytes more : List ℕ) → all_taken_in register (bytes ++ more) ≡ all_taken_in (all_taken_in register bytes) more
taken_after register [] more = refl
taken_after register (byte ∷ bytes) more = taken_after (taken_in register byte) bytes more

-- one number more of a list
pub one_number : {X : Type 0} (xs : List X) (i : ℕ) (none : X) → i < length xs → take (i + 1) xs ≡ take i xs ++ get_or xs i none ∷ []
one_number [] i none less = absurd (omega (arith, less))
one_number (x ∷ xs) zero none less = grind arith
one_number (x ∷ xs) (suc i) none less =
    let next : suc i + 1 ≡ suc (i + 1) = omega arith in
    ap (λ (k : ℕ). take k (x ∷ xs)) next ∙ ap (λ (l : List _). x ∷ l) (one_number xs i none (omega (arith, less)))
