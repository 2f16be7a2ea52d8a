-- Bits of words that are put together.
use Rattle.std.proofs.Common.{ℕ, zero, suc, ◌≡◌, ◌+◌, ◌-◌, ◌%◌, ◌^◌, ◌<◌, ◌==◌, Bool, true, false, not, ◌&&◌, ◌||◌, refl, ap, ◌∙◌, arith}
use Rattle.std.specs.Prelude.{if◌then◌else◌, min, max, bit_and, bit_or}
use Rattle.std.specs.Int.Bits.{bit_xor}
use Rattle.std.proofs.lemmas.Bool.Decides.{nat_tests}
use Rattle.std.proofs.lemmas.Nat.Bits.{bit_at_and, bit_at_or, bit_at_xor, bit_at-lt, bit_at-zero, bit_at_ones}
use mathlib.Core.Bool.{beq}
use Rattle.mt_word.specs.declared.Width.TheVariants.{W64}
use Rattle.mt_word.specs.Word.{has_bit}
use Rattle.mt_fault.specs.Faulty.{same}
use Rattle.mt_decoder.specs.BitModel.{vic_other}
use Rattle.mt_locate.specs.declared.lanes.Means.TheVariants.{Invert, Force}
use Rattle.mt_locate.specs.Lanes.{rule_of}
use Rattle.mt_locate.proofs.BitsDecide.{complement_bit}

min_one : (x y : ℕ) → x < 2 → y < 2 → (min x y == 1) ≡ ((x == 1) && (y == 1))
min_one x y h g = grind (arith, nat_tests)

max_one : (x y : ℕ) → x < 2 → y < 2 → (max x y == 1) ≡ ((x == 1) || (y == 1))
max_one x y h g = grind (arith, nat_tests)

xor_one : (x y : ℕ) → x < 2 → y < 2 → ((x + y) % 2 == 1) ≡ not (beq (x == 1) (y == 1))
xor_one zero zero h g = refl
xor_one zero (suc zero) h g = refl
xor_one (suc zero) zero h g = refl
xor_one (suc zero) (suc zero) h g = refl
xor_one (suc (suc x)) y h g = absurd (omega (arith, h))
xor_one x (suc (suc y)) h g = absurd (omega (arith, g))

has_and : (x y l : ℕ) → has_bit (bit_and x y) l ≡ (has_bit x l && has_bit y l)
unfolding has_bit
has_and x y l = ap (λ (t : ℕ). t == 1) (bit_at_and x y l) ∙ min_one _ _ (bit_at-lt x l) (bit_at-lt y l)

has_or : (x y l : ℕ) → has_bit (bit_or x y) l ≡ (has_bit x l || has_bit y l)
unfolding has_bit
has_or x y l = ap (λ (t : ℕ). t == 1) (bit_at_or x y l) ∙ max_one _ _ (bit_at-lt x l) (bit_at-lt y l)

has_xor : (x y l : ℕ) → has_bit (bit_xor x y) l ≡ not (beq (has_bit x l) (has_bit y l))
unfolding has_bit
has_xor x y l = ap (λ (t : ℕ). t == 1) (bit_at_xor x y l) ∙ xor_one _ _ (bit_at-lt x l) (bit_at-lt y l)

pub has_not : (x l : ℕ) → x < 2 ^ 64 → l < 64 → has_bit (2 ^ 64 - 1 - x) l ≡ not (has_bit x l)
has_not x l fits within = complement_bit W64 x l fits within

choice : (m a b : Bool) → ((m && a) || (not m && b)) ≡ (if m then a else b)
choice true true b = refl
choice true false b = refl
choice false a b = refl

pub has_chosen : (mask one other l : ℕ) → mask < 2 ^ 64 → l < 64
    → has_bit (bit_or (bit_and mask one) (bit_and (2 ^ 64 - 1 - mask) other)) l ≡ (if has_bit mask l then has_bit one l else has_bit other l)
has_chosen mask one other l fits within =
    has_or (bit_and mask one) (bit_and (2 ^ 64 - 1 - mask) other) l
    ∙ ap (λ (b : Bool). b || has_bit (bit_and (2 ^ 64 - 1 - mask) other) l) (has_and mask one l)
    ∙ ap (λ (b : Bool). (has_bit mask l && has_bit one l) || b) (has_and (2 ^ 64 - 1 - mask) other l ∙ ap (λ (b : Bool). b && has_bit other l) (has_not mask l fits within))
    ∙ choice (has_bit mask l) (has_bit one l) (has_bit other l)

same_is : (a b : Bool) → not (not (beq a b)) ≡ same a b
same_is true true = refl
same_is true false = refl
same_is false true = refl
same_is false false = refl

pub has_alike : (one other l : ℕ) → bit_xor one other < 2 ^ 64 → l < 64 → has_bit (2 ^ 64 - 1 - bit_xor one other) l ≡ same (has_bit one l) (has_bit other l)
has_alike one other l fits within = has_not (bit_xor one other) l fits within ∙ ap not (has_xor one other l) ∙ same_is (has_bit one l) (has_bit other l)

pub has_differing : (mask one other l : ℕ) → has_bit (bit_or mask (bit_xor one other)) l ≡ (has_bit mask l || not (beq (has_bit one l) (has_bit other l)))
has_differing mask one other l = has_or mask (bit_xor one other) l ∙ ap (λ (b : Bool). has_bit mask l || b) (has_xor one other l)

pub no_bit : (l : ℕ) → has_bit 0 l ≡ false
unfolding has_bit
no_bit l = ap (λ (t : ℕ). t == 1) (bit_at-zero l)

pub all_bits : (l : ℕ) → l < 64 → has_bit 18446744073709551615 l ≡ true
unfolding has_bit
all_bits l within = ap (λ (t : ℕ). t == 1) (bit_at_ones 64 l within)

beq_true : (b : Bool) → not (beq b true) ≡ not b
beq_true true = refl
beq_true false = refl

-- all bits flipped
pub has_flipped : (x l : ℕ) → l < 64 → has_bit (bit_xor x 18446744073709551615) l ≡ not (has_bit x l)
has_flipped x l within = has_xor x 18446744073709551615 l ∙ ap (λ (b : Bool). not (beq (has_bit x l) b)) (all_bits l within) ∙ beq_true (has_bit x l)

-- the victim where a change of the aggressor disturbs it
abbrev pub hit : (side c a : Bool) → Bool
hit side c a = if same a side then false else same c side

inverted : (side value c a v : Bool) → not (beq v (hit side c a)) ≡ vic_other (rule_of Invert side value) c a v
inverted true value true true true = refl
inverted true value true true false = refl
inverted true value true false true = refl
inverted true value true false false = refl
inverted true value false true true = refl
inverted true value false true false = refl
inverted true value false false true = refl
inverted true value false false false = refl
inverted false value true true true = refl
inverted false value true true false = refl
inverted false value true false true = refl
inverted false value true false false = refl
inverted false value false true true = refl
inverted false value false true false = refl
inverted false value false false true = refl
inverted false value false false false = refl

pub has_inverted : (vic changed l : ℕ) (side value c a : Bool) → has_bit changed l ≡ hit side c a → has_bit (bit_xor vic changed) l ≡ vic_other (rule_of Invert side value) c a (has_bit vic l)
has_inverted vic changed l side value c a e = has_xor vic changed l ∙ ap (λ (b : Bool). not (beq (has_bit vic l) b)) e ∙ inverted side value c a (has_bit vic l)

pub forced : (side value c a v : Bool) → (if hit side c a then value else v) ≡ vic_other (rule_of Force side value) c a v
forced true value c true v = refl
forced true value true false v = refl
forced true value false false v = refl
forced false value c false v = refl
forced false value true true v = refl
forced false value false true v = refl
