-- The bytes before the first line feed.
use Rattle.std.proofs.Common.{ℕ, suc, ◌+◌, ◌<◌, ◌≤◌, ◌≡◌, ◌≢◌, ◌==◌, ◌⊎◌, inl, inr, Bool, true, false, not, cond, List, [], ◌∷◌, ◌++◌, take, drop, length, refl, sym, ap, subst, arith}
use Rattle.std.specs.List.{prefix_len}
use Rattle.std.proofs.lemmas.Bool.{false≢true}
use Rattle.std.proofs.lemmas.Bool.Decides.{eqb_tells}
use Rattle.mt_replay.specs.Inner.Reading.{HasNoFeed}

abbrev pub feed_len : List ℕ → ℕ
feed_len xs = prefix_len (λ b. not (b == 10)) xs

-- whether a byte is a line feed
pub feed_or_not : (x : ℕ) → ((x == 10) ≡ true) × (x ≡ 10) ⊎ ((x == 10) ≡ false) × (x ≢ 10)
feed_or_not x = eqb_tells x 10

-- what is claimed of the bytes before the first line feed
pub record Splits (xs : List ℕ) (n : ℕ) : Type 0 where
  pub within : n ≤ length xs
  pub front : HasNoFeed (take n xs)
  pub next : n < length xs → xs ≡ take n xs ++ 10 ∷ drop (n + 1) xs

at_feed : (x : ℕ) (xs : List ℕ) → x ≡ 10 → Splits (x ∷ xs) 0
at_feed x xs e = record { within = omega arith; front = tt; next = λ h. ap (λ (b : ℕ). b ∷ xs) e }

past_byte : (x : ℕ) (xs : List ℕ) (n : ℕ) → x ≢ 10 → Splits xs n → Splits (x ∷ xs) (suc n)
past_byte x xs n other s = record {
  within = omega (arith, s.within);
  front = (other, s.front);
  next = λ h. let e : suc (n + 1) ≡ suc n + 1 = omega arith in subst (λ (m : ℕ). x ∷ xs ≡ take (suc n) (x ∷ xs) ++ 10 ∷ drop m (x ∷ xs)) e (ap (λ (l : List ℕ). x ∷ l) (s.next (omega (arith, h))));
}

step : (x : ℕ) (xs : List ℕ) (b : Bool) → ((x == 10) ≡ b) → (b ≡ true → x ≡ 10) → (b ≡ false → x ≢ 10) → Splits xs (feed_len xs) → Splits (x ∷ xs) (cond (not b) (1 + feed_len xs) 0)
step x xs true e same other s = at_feed x xs (same refl)
step x xs false e same other s = let e : suc (feed_len xs) ≡ 1 + feed_len xs = omega arith in subst (Splits (x ∷ xs)) e (past_byte x xs (feed_len xs) (other refl) s)

pub splits : (xs : List ℕ) → Splits xs (feed_len xs)
splits [] = record { within = omega arith; front = tt; next = λ h. absurd (omega arith) }
splits (x ∷ xs) = elim (feed_or_not x) [
  | inl e ↦ subst (λ (b : Bool). Splits (x ∷ xs) (cond (not b) (1 + feed_len xs) 0)) (sym e.0) (step x xs true e.0 (λ _. e.1) (λ f. absurd (false≢true (sym f))) (splits xs))
  | inr e ↦ subst (λ (b : Bool). Splits (x ∷ xs) (cond (not b) (1 + feed_len xs) 0)) (sym e.0) (step x xs false e.0 (λ f. absurd (false≢true f)) (λ _. e.1) (splits xs))
]

pub HasNoFeed-append : (xs ys : List ℕ) → HasNoFeed xs → HasNoFeed ys → HasNoFeed (xs ++ ys)
HasNoFeed-append [] ys h e = e
HasNoFeed-append (x ∷ xs) ys h e = (h.0, HasNoFeed-append xs ys h.1 e)
