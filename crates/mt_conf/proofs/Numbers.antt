-- Numbers within bounds.
use Rattle.std.proofs.Common.{◌≡◌, ◌⊎◌, ℕ, ℤ, pos, negsuc, ◌+◌, ◌-◌, ◌<◌, ◌≤◌, Bool, true, false, refl, sym, ap, ◌∙◌, subst, arith, inl, inr}
use Rattle.std.proofs.lemmas.Int.{ints}
use Rattle.std.specs.Prelude.{not, ◌+ℤ◌, ◌-ℤ◌, ◌&&◌, int_lt, int_le, nat_lt}
use Rattle.std.proofs.lemmas.Bool.{and_parts, and_cases}
use Rattle.std.proofs.lemmas.Bool.Decides.{nat_tests}
use Rattle.mt_conf.specs.Rules.{is_within}
use Rattle.mt_conf.specs.Outcome.{small}

pub not_false : (b : Bool) → not b ≡ false → b ≡ true
not_false true h = refl
not_false false h = absurd cc

small_nat : (n : ℕ) → n ≤ 65536 → n ≡ small (pos n)
small_nat n few = let lt : nat_lt n 4294967296 ≡ true = grind (arith, nat_tests) in rw lt refl

le_nat : (a b : ℕ) → int_le (pos a) (pos b) ≡ true → a ≤ b
le_nat a b h = grind (arith, nat_tests, h)

lt_nat : (a b : ℕ) → int_lt (pos a) (pos b) ≡ true → a < b
lt_nat a b h = grind (arith, nat_tests, h)

-- a number from low to high
within_by : (z : ℤ) (low high : ℕ) → high ≤ 65536 → int_le (pos low) z ≡ true → int_le z (pos high) ≡ true → (z ≡ pos (small z)) × (low ≤ small z) × (small z ≤ high)
within_by (pos n) low high few a b =
    let l = le_nat low n a in
    let h = le_nat n high b in
    let e = small_nat n (omega (arith, h, few)) in
    (ap pos e, omega (arith, l, e), omega (arith, h, e))
within_by (negsuc n) low high few a b = absurd cc

pub within : (z : ℤ) (low high : ℕ) → high ≤ 65536 → is_within (pos low) (pos high) z ≡ true → (z ≡ pos (small z)) × (low ≤ small z) × (small z ≤ high)
within z low high few h = let parts = and_parts (int_le (pos low) z) (int_le z (pos high)) h in within_by z low high few parts.0 parts.1

-- a number from another number to high
cells_by : (a z : ℤ) (high : ℕ) → high ≤ 65536 → a ≡ pos (small a) → int_le a z ≡ true → int_le z (pos high) ≡ true → (small a ≤ small z) × (small z ≤ high)
cells_by a z high few e l h = let w = within_by z (small a) high few (rw e at l) h in (w.1, w.2)

pub cells : (a z : ℤ) → not (is_within (pos 1) (pos 64) a && is_within a (pos 65536) z) ≡ false → (1 ≤ small a) × (small a ≤ 64) × (small a ≤ small z) × (small z ≤ 65536)
cells a z h =
    let parts = and_parts (is_within (pos 1) (pos 64) a) (is_within a (pos 65536) z) (not_false _ h) in
    let atomic = within a 1 64 (omega arith) parts.0 in
    let later = and_parts (int_le a z) (int_le z (pos 65536)) parts.1 in
    let c = cells_by a z 65536 (omega arith) atomic.0 later.0 later.1 in
    (atomic.1, atomic.2, c.0, c.1)

-- both are what they are as small numbers
pub cells_exact : (a z : ℤ) → not (is_within (pos 1) (pos 64) a && is_within a (pos 65536) z) ≡ false → (a ≡ pos (small a)) × (z ≡ pos (small z))
cells_exact a z h =
    let parts = and_parts (is_within (pos 1) (pos 64) a) (is_within a (pos 65536) z) (not_false _ h) in
    let atomic = within a 1 64 (omega arith) parts.0 in
    let later = and_parts (int_le a z) (int_le z (pos 65536)) parts.1 in
    (atomic.0, (within_by z (small a) 65536 (omega arith) (rw atomic.0 at later.0) later.1).0)

-- a first and a last number in order, below a limit
order_by : (f l r : ℤ) → r ≡ pos (small r) → small r ≤ 65536 → int_le (pos 0) f ≡ true → int_le f l ≡ true → int_lt l r ≡ true
    → (f ≡ pos (small f)) × (l ≡ pos (small l)) × (small f ≤ small l) × (small l < small r)
order_by (pos f) (pos l) (pos r) e few a b c =
    let le = le_nat f l b in
    let lt = lt_nat l r c in
    let limit : r ≡ small (pos r) = cc in
    let ef = small_nat f (omega (arith, le, lt, limit, few)) in
    let el = small_nat l (omega (arith, lt, limit, few)) in
    (ap pos ef, ap pos el, omega (arith, le, ef, el), omega (arith, lt, el, limit))
order_by (negsuc f) l r e few a b c = absurd cc
order_by (pos f) (negsuc l) r e few a b c = absurd cc
order_by (pos f) (pos l) (negsuc r) e few a b c = absurd cc

pub order : (f l r : ℤ) → r ≡ pos (small r) → small r ≤ 65536 → ((int_le (pos 0) f && int_le f l) && int_lt l r) ≡ true
    → (f ≡ pos (small f)) × (l ≡ pos (small l)) × (small f ≤ small l) × (small l < small r)
order f l r e few h =
    let parts = and_parts (int_le (pos 0) f && int_le f l) (int_lt l r) h in
    let low = and_parts (int_le (pos 0) f) (int_le f l) parts.0 in
    order_by f l r e few low.0 low.1 parts.1

pub nat_apart : (a b c d : ℕ) → (int_le (pos a) (pos d) && int_le (pos c) (pos b)) ≡ false → (b < c) ⊎ (d < a)
nat_apart a b c d h =
    elim (and_cases (int_le (pos a) (pos d)) (int_le (pos c) (pos b)) h)
    [ inl first ↦ inr (grind (arith, nat_tests, first)) | inr second ↦ inl (grind (arith, nat_tests, second)) ]

-- two spans that do not meet
pub apart : (a b c d : ℤ) → a ≡ pos (small a) → b ≡ pos (small b) → c ≡ pos (small c) → d ≡ pos (small d) → (int_le a d && int_le c b) ≡ false → (small b < small c) ⊎ (small d < small a)
apart a b c d ea eb ec ed h = nat_apart (small a) (small b) (small c) (small d) (rw (ea, eb, ec, ed) at h)

-- ---- copies

less : (a f : ℕ) → f ≤ a → pos a -ℤ pos f ≡ pos (a - f)
less a f h = omega (arith, ints)

pub copy_nat : (c f l : ℕ) → f ≤ l → pos c +ℤ pos l -ℤ pos f ≡ pos (c + (l - f))
copy_nat c f l h = less (c + l) f (omega arith) ∙ ap pos (omega arith)

-- the numbers of a block whose copy is within a limit
pub record IsWithinCopy (c f l r : ℤ) : Type 0 where
  pub copy : c ≡ pos (small c)
  pub last : c +ℤ l -ℤ f ≡ pos (small c + (small l - small f))
  pub inside : small c + (small l - small f) < small r

copy_by : (c : ℤ) (f l r : ℕ) → f ≤ l → r ≤ 65536 → int_le (pos 0) c ≡ true → int_lt (c +ℤ pos l -ℤ pos f) (pos r) ≡ true
    → (n : ℕ) × (c ≡ pos n) × (n + (l - f) < r)
copy_by (pos n) f l r le few low high = let e = copy_nat n f l le in (n, refl, lt_nat (n + (l - f)) r (rw e at high))
copy_by (negsuc n) f l r le few low high = absurd cc

pub copy_within : (c f l r : ℤ) → f ≡ pos (small f) → l ≡ pos (small l) → r ≡ pos (small r) → small f ≤ small l → small r ≤ 65536 → (int_le (pos 0) c && int_lt (c +ℤ l -ℤ f) r) ≡ true
    → IsWithinCopy c f l r
copy_within c f l r ef el er le few h =
    let parts = and_parts (int_le (pos 0) c) (int_lt (c +ℤ l -ℤ f) r) h in
    let high : int_lt (c +ℤ pos (small l) -ℤ pos (small f)) (pos (small r)) ≡ true = rw (← ef, ← el, ← er) parts.1 in
    let m = copy_by c (small f) (small l) (small r) le few parts.0 high in
    let e : m.0 ≡ small (pos m.0) = small_nat m.0 (let lt = m.2 in omega arith) in
    let same : m.0 ≡ small c = e ∙ ap small (sym m.1) in
    let exact : c ≡ pos (small c) = m.1 ∙ ap pos same in
    record {
      copy = exact;
      last = ap (λ (z : ℤ). z +ℤ l -ℤ f) exact ∙ ap (λ (z : ℤ). pos (small c) +ℤ z -ℤ f) el ∙ ap (λ (z : ℤ). pos (small c) +ℤ pos (small l) -ℤ z) ef ∙ copy_nat (small c) (small f) (small l) le;
      inside = subst (λ (n : ℕ). n + (small l - small f) < small r) same m.2;
    }
