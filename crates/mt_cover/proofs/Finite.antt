-- The finite cases, computed.
use Rattle.std.proofs.Common.{ℕ, ◌≡◌, Bool, true, false, List, [], ◌∷◌, refl}
use Rattle.std.specs.Prelude.{◌&&◌}
use Rattle.std.proofs.lemmas.Bool.{and_parts}
use Rattle.mt_march.specs.Known.{march_c_minus, mats_plus}
use Rattle.mt_plan.specs.declared.algorithm.Step.{Step}
use Rattle.mt_plan.specs.Lists.{march_on, walk_on, galpat_on}
use Rattle.mt_decoder.specs.BitModel.{Rule, stuck, no_rise, no_fall, inverts, forces, holds, shared, doubled, caught, IsCaughtOn}

abbrev pub both : (Bool → Bool) → Bool
both f = f false && f true

both_at : (f : Bool → Bool) → both f ≡ true → (b : Bool) → f b ≡ true
both_at f h true = (and_parts _ _ h).1
both_at f h false = (and_parts _ _ h).0

-- caught whatever the stored bits are
abbrev pub caught_on : Rule → List Step → Bool → Bool → Bool
caught_on r l ba bv = both (λ a. both (λ v. caught r ba bv a v l))

-- caught whatever the bits of the backgrounds are too
abbrev pub always : Rule → List Step → Bool
always r l = both (λ ba. both (λ bv. caught_on r l ba bv))

-- caught where both backgrounds have one bit
abbrev pub always_alike : Rule → List Step → Bool
always_alike r l = both (λ b. caught_on r l b b)

pub caught_at : (r : Rule) (l : List Step) (ba bv : Bool) → caught_on r l ba bv ≡ true → IsCaughtOn r ba bv l
caught_at r l ba bv h a v = both_at (λ y. caught r ba bv a y l) (both_at (λ x. both (λ y. caught r ba bv x y l)) h a) v

pub always_at : (r : Rule) (l : List Step) → always r l ≡ true → (ba bv : Bool) → IsCaughtOn r ba bv l
always_at r l h ba bv = caught_at r l ba bv (both_at (λ z. caught_on r l ba z) (both_at (λ w. both (λ z. caught_on r l w z)) h ba) bv)

pub always_alike_at : (r : Rule) (l : List Step) → always_alike r l ≡ true → (b : Bool) → IsCaughtOn r b b l
always_alike_at r l h b = caught_at r l b b (both_at (λ z. caught_on r l z z) h b)

-- the fault is caught on its cells alone, in both orders of the cells
abbrev pub is_caught_in_both : (List ℕ → List Step) → Rule → Bool
is_caught_in_both on r = always r (on (0 ∷ 1 ∷ [])) && always r (on (1 ∷ 0 ∷ []))

-- the same where both backgrounds have one bit
abbrev pub is_caught_alike_in_both : (List ℕ → List Step) → Rule → Bool
is_caught_alike_in_both on r = always_alike r (on (0 ∷ 1 ∷ [])) && always_alike r (on (1 ∷ 0 ∷ []))

abbrev pub march_c : List ℕ → List Step
march_c js = march_on js march_c_minus

pub march_c-forces : (d b : Bool) → is_caught_in_both march_c (forces d b) ≡ true
march_c-forces true true = refl
march_c-forces true false = refl
march_c-forces false true = refl
march_c-forces false false = refl

pub march_c-holds : (d b : Bool) → is_caught_in_both march_c (holds d b) ≡ true
march_c-holds true true = refl
march_c-holds true false = refl
march_c-holds false true = refl
march_c-holds false false = refl

-- What is computed of an algorithm on one cell and on two.
pub record Facts (on : List ℕ → List Step) : Type 0 where
  pub stuck_at : (b : Bool) → always (stuck b) (on (1 ∷ [])) ≡ true
  pub rise : always no_rise (on (1 ∷ [])) ≡ true
  pub fall : always no_fall (on (1 ∷ [])) ≡ true
  pub invert : (d : Bool) → is_caught_in_both on (inverts d) ≡ true
  pub moved : is_caught_alike_in_both on shared ≡ true
  pub wired : (w : Bool) → is_caught_alike_in_both on (doubled w) ≡ true

march_c-stuck : (b : Bool) → always (stuck b) (march_c (1 ∷ [])) ≡ true
march_c-stuck true = refl
march_c-stuck false = refl

march_c-inverts : (d : Bool) → is_caught_in_both march_c (inverts d) ≡ true
march_c-inverts true = refl
march_c-inverts false = refl

march_c-wired : (w : Bool) → is_caught_alike_in_both march_c (doubled w) ≡ true
march_c-wired true = refl
march_c-wired false = refl

pub march_c-facts : Facts march_c
march_c-facts = record { stuck_at = march_c-stuck; rise = refl; fall = refl; invert = march_c-inverts; moved = refl; wired = march_c-wired }

walk-stuck : (b : Bool) → always (stuck b) (walk_on (1 ∷ [])) ≡ true
walk-stuck true = refl
walk-stuck false = refl

walk-inverts : (d : Bool) → is_caught_in_both walk_on (inverts d) ≡ true
walk-inverts true = refl
walk-inverts false = refl

walk-wired : (w : Bool) → is_caught_alike_in_both walk_on (doubled w) ≡ true
walk-wired true = refl
walk-wired false = refl

pub walk-facts : Facts walk_on
walk-facts = record { stuck_at = walk-stuck; rise = refl; fall = refl; invert = walk-inverts; moved = refl; wired = walk-wired }

galpat-stuck : (b : Bool) → always (stuck b) (galpat_on (1 ∷ [])) ≡ true
galpat-stuck true = refl
galpat-stuck false = refl

galpat-inverts : (d : Bool) → is_caught_in_both galpat_on (inverts d) ≡ true
galpat-inverts true = refl
galpat-inverts false = refl

galpat-wired : (w : Bool) → is_caught_alike_in_both galpat_on (doubled w) ≡ true
galpat-wired true = refl
galpat-wired false = refl

pub galpat-facts : Facts galpat_on
galpat-facts = record { stuck_at = galpat-stuck; rise = refl; fall = refl; invert = galpat-inverts; moved = refl; wired = galpat-wired }

-- ---- beyond the table

pub walk-holds : (d b : Bool) → is_caught_in_both walk_on (holds d b) ≡ true
walk-holds true true = refl
walk-holds true false = refl
walk-holds false true = refl
walk-holds false false = refl

pub galpat-holds : (d b : Bool) → is_caught_in_both galpat_on (holds d b) ≡ true
galpat-holds true true = refl
galpat-holds true false = refl
galpat-holds false true = refl
galpat-holds false false = refl

abbrev pub mats : List ℕ → List Step
mats js = march_on js mats_plus

pub mats-stuck : (b : Bool) → always (stuck b) (mats (1 ∷ [])) ≡ true
mats-stuck true = refl
mats-stuck false = refl

-- the change from the background's bit to the other
pub mats-rise : caught_on no_rise (mats (1 ∷ [])) false false ≡ true
mats-rise = refl

pub mats-fall : caught_on no_fall (mats (1 ∷ [])) true true ≡ true
mats-fall = refl

pub mats-moved : is_caught_alike_in_both mats shared ≡ true
mats-moved = refl

pub mats-wired : (w : Bool) → is_caught_alike_in_both mats (doubled w) ≡ true
mats-wired true = refl
mats-wired false = refl
