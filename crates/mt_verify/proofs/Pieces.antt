-- Two texts that share a prefix: how each of them goes on.
use Rattle.std.proofs.Common.{ℕ, ◌+◌, ◌<◌, ◌≤◌, ◌≡◌, ◌≢◌, inl, inr, List, [], ◌∷◌, ◌++◌, length, take, drop, slice_index, Some, None, sym, ap, ap₂, ◌∙◌, subst, arith, length-drop}
use Rattle.std.proofs.lemmas.List.{take-append-drop, take_all, drop_more, drop_all}
use Rattle.std.proofs.lemmas.Bool.{cases_lt}
use Rattle.mt_verify.specs.Lines.{feeds, first_other_line, line_at_end}
use Rattle.mt_verify.specs.Laws.{IsWhole, HasNoEmptyLine}
use Rattle.mt_verify.proofs.Whole.{open_line}
use Rattle.mt_verify.proofs.Ends.{mismatch, expected_ended, given_ended, equal_texts, last_feed_lacks}

split : (text : List ℕ) (n : ℕ) → n < length text → text ≡ take n text ++ slice_index text n ∷ drop (n + 1) text
split text n more = sym (take-append-drop n text) ∙ ap (λ (l : List ℕ). take n text ++ l) (drop_more text n 0 more)

-- a text that goes on behind what another shares with it
goes_on : (text shared : List ℕ) (n : ℕ) → n < length text → shared ≡ take n text → text ≡ shared ++ slice_index text n ∷ drop (n + 1) text
goes_on text shared n more same = split text n more ∙ ap (λ (l : List ℕ). l ++ slice_index text n ∷ drop (n + 1) text) (sym same)

-- the given text goes on, and not as expected
pub apart : (e g : List ℕ) (n : ℕ) → IsWhole e → n < length g → take n e ≡ take n g
    → (n < length e → n < length g → slice_index e n ≢ slice_index g n) → first_other_line e g ≡ Some (feeds (take n e) + 1)
apart e g n whole more same differ = elim (cases_lt n (length e)) [
  | inl more_e ↦
      ap₂ first_other_line (split e n more_e) (goes_on g (take n e) n more same)
      ∙ mismatch (take n e) (drop (n + 1) e) (drop (n + 1) g) (slice_index e n) (slice_index g n) (differ more_e more)
  | inr done ↦
      let all = take_all n e done in
      ap (first_other_line e) (goes_on g e n more (sym all ∙ same))
      ∙ expected_ended e (drop (n + 1) g) (slice_index g n) whole
      ∙ ap (λ (l : List ℕ). Some (feeds l + 1)) (sym all)
]

-- both texts ended
pub both_ended : (e g : List ℕ) (n : ℕ) → length e ≤ n → length g ≤ n → take n e ≡ take n g → first_other_line e g ≡ None
both_ended e g n done_e done_g same =
    subst (λ (l : List ℕ). first_other_line e l ≡ None) (sym (take_all n e done_e) ∙ same ∙ take_all n g done_g) (equal_texts e)

-- the given text ended, and the last line feed is expected
pub feed_left : (e g : List ℕ) (n : ℕ) → HasNoEmptyLine e → n < length e → length e ≤ n + 1 → length g ≤ n → take n e ≡ take n g → slice_index e n ≡ 10
    → first_other_line e g ≡ None
feed_left e g n full more last done same feed =
    let shared = sym (take_all n g done) ∙ sym same in
    let whole : e ≡ g ++ 10 ∷ [] = goes_on e g n more shared ∙ ap₂ (λ (x : ℕ) (l : List ℕ). g ++ x ∷ l) feed (drop_all (n + 1) e last) in
    ap (λ (l : List ℕ). first_other_line l g) whole ∙ last_feed_lacks g (open_line g [] (subst HasNoEmptyLine whole full))

-- the given text ended, and more than the last line feed is expected
pub more_left : (e g : List ℕ) (n : ℕ) → HasNoEmptyLine e → n < length e → length g ≤ n → take n e ≡ take n g → (slice_index e n ≡ 10 → n + 1 < length e)
    → first_other_line e g ≡ Some (line_at_end (feeds (take n e)) (slice_index e n))
more_left e g n full more done same some =
    let all = take_all n g done in
    let whole = goes_on e g n more (sym all ∙ sym same) in
    let left : slice_index e n ≡ 10 → drop (n + 1) e ≢ [] = λ feed none. omega (arith, some feed, length-drop (n + 1) e, ap (λ (l : List ℕ). length l) none) in
    ap (λ (l : List ℕ). first_other_line l g) whole
    ∙ given_ended g (drop (n + 1) e) (slice_index e n) (subst HasNoEmptyLine whole full) left
    ∙ ap (λ (l : List ℕ). Some (line_at_end (feeds l) (slice_index e n))) (sym (same ∙ all))
