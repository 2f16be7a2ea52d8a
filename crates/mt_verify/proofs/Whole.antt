-- Texts of whole lines.
use Rattle.std.proofs.Common.{ℕ, ◌<◌, ◌≡◌, ◌≢◌, inl, inr, List, [], ◌∷◌, ◌++◌, length, refl, sym, ap, ◌∙◌, subst, arith}
use Rattle.std.specs.List.{AllByRecursion, onto_first}
use Rattle.std.proofs.lemmas.Bool.{cases_eq}
use Rattle.mt_verify.specs.Lines.{feeds, lines}
use Rattle.mt_verify.specs.Laws.{HasOpenLine, LinesEndAtFeeds, LinesJoin, FeedsMakeWhole, WholeTextsJoin, WholeTextsHaveTheirFeeds}
use Rattle.mt_verify.specs.Inner.OpenLines.{FeedsEndOpenLines}
use Rattle.mt_verify.proofs.Lines.{lines-nil, lines-feed, lines-byte, Lined, lined, feeds-feed, feeds-byte}

pub line_first : LinesEndAtFeeds
line_first [] behind h = lines-feed behind
line_first (x ∷ line) behind h = lines-byte x (line ++ 10 ∷ behind) h.0 ∙ ap (onto_first x) (line_first line behind h.1)

pub whole : FeedsMakeWhole
whole [] = refl
whole (x ∷ []) = refl
whole (x ∷ y ∷ text) = whole (y ∷ text)

pub joined : WholeTextsJoin
joined [] behind h w = w
joined (x ∷ []) [] h w = h
joined (x ∷ []) (y ∷ behind) h w = w
joined (x ∷ y ∷ text) behind h w = joined (y ∷ text) behind h w

feed_joins : (text behind : List ℕ) → lines (text ++ behind) ≡ lines text ++ lines behind → lines (10 ∷ (text ++ behind)) ≡ lines (10 ∷ text) ++ lines behind
feed_joins text behind known =
    lines-feed (text ++ behind) ∙ ap (λ (l : List (List ℕ)). [] ∷ l) known ∙ ap (λ (l : List (List ℕ)). l ++ lines behind) (sym (lines-feed text))

onto_joins : (x : ℕ) (text behind : List ℕ) → x ≢ 10 → Lined text → lines (text ++ behind) ≡ lines text ++ lines behind
    → lines (x ∷ (text ++ behind)) ≡ lines (x ∷ text) ++ lines behind
onto_joins x text behind other a known =
    lines-byte x (text ++ behind) other
    ∙ ap (onto_first x) (known ∙ ap (λ (l : List (List ℕ)). l ++ lines behind) a.is)
    ∙ ap (λ (l : List (List ℕ)). l ++ lines behind) (sym (lines-byte x text other ∙ ap (onto_first x) a.is))

pub lines_join : LinesJoin
lines_join [] behind h = ap (λ (l : List (List ℕ)). l ++ lines behind) (sym lines-nil)
lines_join (x ∷ []) behind h =
    subst (λ (b : ℕ). lines (b ∷ behind) ≡ lines (b ∷ []) ++ lines behind) (sym h) (feed_joins [] behind (lines_join [] behind tt))
lines_join (x ∷ y ∷ text) behind h = elim (cases_eq x 10) [
  | inl e ↦
      subst (λ (b : ℕ). lines (b ∷ y ∷ (text ++ behind)) ≡ lines (b ∷ y ∷ text) ++ lines behind) (sym e) (feed_joins (y ∷ text) behind (lines_join (y ∷ text) behind h))
  | inr other ↦ onto_joins x (y ∷ text) behind other (lined y text) (lines_join (y ∷ text) behind h)
]

-- a byte more in front
counted : (x y : ℕ) (text : List ℕ) → length (lines (y ∷ text)) ≡ feeds (y ∷ text) → length (lines (x ∷ y ∷ text)) ≡ feeds (x ∷ y ∷ text)
counted x y text known = elim (cases_eq x 10) [
  | inl e ↦
      let more : length ([] ∷ lines (y ∷ text)) ≡ feeds (10 ∷ y ∷ text) = omega (arith, known, feeds-feed (y ∷ text)) in
      subst (λ (b : ℕ). length (lines (b ∷ y ∷ text)) ≡ feeds (b ∷ y ∷ text)) (sym e) (ap (λ (l : List (List ℕ)). length l) (lines-feed (y ∷ text)) ∙ more)
  | inr other ↦
      let a = lined y text in
      let same : length ((x ∷ a.first) ∷ a.more) ≡ length (a.first ∷ a.more) = omega arith in
      ap (λ (l : List (List ℕ)). length l) (lines-byte x (y ∷ text) other ∙ ap (onto_first x) a.is)
      ∙ same ∙ ap (λ (l : List (List ℕ)). length l) (sym a.is) ∙ known ∙ sym (feeds-byte x (y ∷ text) other)
]

pub as_many : WholeTextsHaveTheirFeeds
as_many [] h = ap (λ (l : List (List ℕ)). length l) lines-nil
as_many (x ∷ []) h =
    let one : length ([] ∷ lines []) ≡ feeds (10 ∷ []) = ap (λ (l : List (List ℕ)). length ([] ∷ l)) lines-nil in
    subst (λ (b : ℕ). length (lines (b ∷ [])) ≡ feeds (b ∷ [])) (sym h) (ap (λ (l : List (List ℕ)). length l) (lines-feed []) ∙ one)
as_many (x ∷ y ∷ text) h = counted x y text (as_many (y ∷ text) h)

-- ---- where no line is empty, each line feed ends an open line

abbrev pub NoneIsEmpty : List (List ℕ) → Type 0
NoneIsEmpty parts = AllByRecursion (λ line. 0 < length line) parts

abbrev pub behind_first : List (List ℕ) → List (List ℕ)
behind_first [] = []
behind_first (part ∷ parts) = parts

behind : (parts : List (List ℕ)) → NoneIsEmpty parts → NoneIsEmpty (behind_first parts)
behind [] h = h
behind (part ∷ parts) h = h.1

onto_behind : (x : ℕ) (parts : List (List ℕ)) → behind_first (onto_first x parts) ≡ behind_first parts
onto_behind x [] = refl
onto_behind x (part ∷ parts) = refl

no_feed_first : (text : List ℕ) → NoneIsEmpty (lines (10 ∷ text)) → ⊥
no_feed_first text h = let first = subst NoneIsEmpty (lines-feed text) h in omega (arith, first.0)

-- behind the first line
past_feed : (x : ℕ) (text : List ℕ) → x ≡ 10 → NoneIsEmpty (behind_first (lines (x ∷ text))) → NoneIsEmpty (lines text)
past_feed x text e h = subst (λ (l : List (List ℕ)). NoneIsEmpty (behind_first l)) (ap (λ (b : ℕ). lines (b ∷ text)) e ∙ lines-feed text) h

past_byte : (x : ℕ) (text : List ℕ) → x ≢ 10 → NoneIsEmpty (behind_first (lines (x ∷ text))) → NoneIsEmpty (behind_first (lines text))
past_byte x text other h = subst NoneIsEmpty (ap behind_first (lines-byte x text other) ∙ onto_behind x (lines text)) h

open_behind : (x : ℕ) (shared rest : List ℕ) → NoneIsEmpty (behind_first (lines (x ∷ (shared ++ 10 ∷ rest)))) → HasOpenLine (x ∷ shared)
open_behind x [] rest h = elim (cases_eq x 10) [
  | inl e ↦ absurd (no_feed_first rest (past_feed x (10 ∷ rest) e h))
  | inr other ↦ other
]
open_behind x (y ∷ shared) rest h = elim (cases_eq x 10) [
  | inl e ↦ open_behind y shared rest (behind (lines (y ∷ (shared ++ 10 ∷ rest))) (past_feed x (y ∷ (shared ++ 10 ∷ rest)) e h))
  | inr other ↦ open_behind y shared rest (past_byte x (y ∷ (shared ++ 10 ∷ rest)) other h)
]

pub open_line : FeedsEndOpenLines
open_line [] rest h = absurd (no_feed_first rest h)
open_line (x ∷ shared) rest h = open_behind x shared rest (behind (lines (x ∷ (shared ++ 10 ∷ rest))) h)
