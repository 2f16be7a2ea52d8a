-- The first line of a text, and the lines before a separator.
use Rattle.std.proofs.Common.{ℕ, suc, ◌+◌, ◌<◌, ◌≤◌, ◌≡◌, ◌==◌, Bool, true, false, not, cond, List, [], ◌∷◌, ◌++◌, take, drop, length, map, refl, sym, ap, ◌∙◌, subst, arith, append-nil}
use Rattle.std.specs.List.{prefix_len, onto_first}
use Rattle.mt_verify.specs.Lines.{lines}

-- how many bytes come before the first line feed
abbrev pub feed_len : List ℕ → ℕ
feed_len xs = prefix_len (λ b. not (b == 10)) xs

-- The lines of a text are its bytes up to the first line feed, and the lines behind it.
abbrev pub IsFirst : List ℕ → ℕ → Type 0
IsFirst xs n = lines xs ≡ take n xs ∷ lines (drop (n + 1) xs)

at_feed : (x : ℕ) (xs : List ℕ) → (x == 10) ≡ true → IsFirst (x ∷ xs) 0
unfolding lines
at_feed x xs e = ap (λ (b : Bool). cond b ([] ∷ lines xs) (onto_first x (lines xs))) e

alone : (x : ℕ) → (x == 10) ≡ false → IsFirst (x ∷ []) 1
unfolding lines
alone x e = ap (λ (b : Bool). cond b ([] ∷ []) (onto_first x [])) e

longer : (x : ℕ) (xs : List ℕ) (n : ℕ) → (x == 10) ≡ false → IsFirst xs n → IsFirst (x ∷ xs) (suc n)
unfolding lines
longer x xs n e first =
    ap (λ (b : Bool). cond b ([] ∷ lines xs) (onto_first x (lines xs))) e
    ∙ ap (onto_first x) first
    ∙ ap (λ (m : ℕ). (x ∷ take n xs) ∷ lines (drop m (x ∷ xs))) (let same : suc (n + 1) ≡ suc n + 1 = omega arith in same)

by_test_alone : (x : ℕ) (b : Bool) → (x == 10) ≡ b → IsFirst (x ∷ []) (cond (not b) (1 + 0) 0)
by_test_alone x true e = at_feed x [] e
by_test_alone x false e = alone x e

by_test : (x : ℕ) (xs : List ℕ) (b : Bool) → (x == 10) ≡ b → IsFirst xs (feed_len xs) → IsFirst (x ∷ xs) (cond (not b) (1 + feed_len xs) 0)
by_test x xs true e first = at_feed x xs e
by_test x xs false e first =
    let one : suc (feed_len xs) ≡ 1 + feed_len xs = omega arith in
    subst (IsFirst (x ∷ xs)) one (longer x xs (feed_len xs) e first)

pub is_first : (x : ℕ) (xs : List ℕ) → IsFirst (x ∷ xs) (feed_len (x ∷ xs))
is_first x [] = by_test_alone x (x == 10) refl
is_first x (y ∷ ys) = by_test x (y ∷ ys) (x == 10) refl (is_first y ys)

pub first_line : (xs : List ℕ) → 0 < length xs → lines xs ≡ take (feed_len xs) xs ∷ lines (drop (feed_len xs + 1) xs)
first_line [] some = absurd (omega arith)
first_line (x ∷ xs) some = is_first x xs

-- where no byte is left, no line is
pub lines_end : (rest : List ℕ) → length rest ≡ 0 → (xs ys : List (List ℕ)) → xs ++ lines rest ≡ ys → xs ≡ ys
unfolding lines
lines_end [] none xs ys e = sym (append-nil xs) ∙ e
lines_end (x ∷ rest) none xs ys e = absurd (omega (arith, none))

-- how many pass a test among what a function makes
pub prefix_len-map : {A B : Type 0} (f : A → B) (q : B → Bool) (xs : List A) → prefix_len q (map f xs) ≡ prefix_len (λ x. q (f x)) xs
prefix_len-map f q [] = refl
prefix_len-map f q (x ∷ xs) = ap (λ (n : ℕ). cond (q (f x)) (1 + n) 0) (prefix_len-map f q xs)
