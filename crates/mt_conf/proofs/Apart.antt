-- Blocks of which no two meet.
use Rattle.std.proofs.Common.{◌≡◌, ℕ, ℤ, pos, zero, suc, ◌<◌, false, List, [], ◌∷◌, length, map, refl, subst, ap, arith}
use Rattle.std.specs.Prelude.{codes}
use Rattle.std.specs.List.{list_any, AllByRecursion}
use Rattle.std.proofs.lemmas.Bool.{or_parts}
use Rattle.toml.specs.Data.{Data, string, integer, float, boolean, datetime, array, table}
use Rattle.mt_word.specs.declared.Width.{Width}
use Rattle.mt_blocks.specs.declared.span.Span.{Span}
use Rattle.mt_blocks.specs.Slices.{span_at}
use Rattle.mt_blocks.specs.Accepted.{AreApart, spans_of}
use Rattle.mt_conf.specs.Lookup.{number_at, fields}
use Rattle.mt_conf.specs.Rules.{span_of, meet, any_meet}
use Rattle.mt_conf.specs.Outcome.{small, block_of}
use Rattle.mt_conf.proofs.Numbers.{apart}

-- the first and the last number of a block
abbrev pub first : Data → ℤ
first d = number_at (codes "first") (fields d)

abbrev pub last : Data → ℤ
last d = number_at (codes "last") (fields d)

-- both are what they are as small numbers
abbrev pub IsExact : Data → Type 0
IsExact d = (first d ≡ pos (small (first d))) × (last d ≡ pos (small (last d)))

abbrev pub span : Data → Span
span d = record { first = small (first d); last = small (last d) }

span_fields : (d : Data) → span_of d ≡ (first d, last d)
span_fields (table b) = refl
span_fields (string s) = refl
span_fields (integer z) = refl
span_fields (float x) = refl
span_fields (boolean b) = refl
span_fields (datetime t) = refl
span_fields (array ds) = refl

apart_two : (d e : Data) → IsExact d → IsExact e → meet (span_of d) (span_of e) ≡ false → AreApart (span d) (span e)
apart_two d e x y h =
    let k =
    subst (λ (x : ℤ × ℤ). meet (first d, last d) x ≡ false) (span_fields e) (subst (λ (x : ℤ × ℤ). meet x (span_of e) ≡ false) (span_fields d) h) in
    apart (first d) (last d) (first e) (last e) x.0 x.1 y.0 y.1 k

-- each two are apart
abbrev PairsApart : List Span → Type 0
PairsApart [] = Unit {0}
PairsApart (s ∷ spans) = AllByRecursion (AreApart s) spans × PairsApart spans

apart_one : (d : Data) (ds : List Data) → IsExact d → AllByRecursion IsExact ds → list_any (meet (span_of d)) (map span_of ds) ≡ false → AllByRecursion (AreApart (span d)) (map span ds)
apart_one d [] x xs h = tt
apart_one d (e ∷ ds) x xs h = let parts = or_parts _ _ h in (apart_two d e x xs.0 parts.0, apart_one d ds x xs.1 parts.1)

apart_all : (ds : List Data) → AllByRecursion IsExact ds → any_meet (map span_of ds) ≡ false → PairsApart (map span ds)
apart_all [] xs h = tt
apart_all (d ∷ ds) xs h = let parts = or_parts _ _ h in (apart_one d ds xs.0 xs.1 parts.0, apart_all ds xs.1 parts.1)

all_at : (P : Span → Type 0) (spans : List Span) (j : ℕ) → AllByRecursion P spans → j < length spans → P (span_at spans j)
all_at P [] j all less = absurd (omega arith)
all_at P (s ∷ spans) zero all less = all.0
all_at P (s ∷ spans) (suc j) all less = all_at P spans j all.1 (omega arith)

pairs_at : (spans : List Span) (i j : ℕ) → PairsApart spans → i < j → j < length spans → AreApart (span_at spans i) (span_at spans j)
pairs_at [] i j all less short = absurd (omega arith)
pairs_at (s ∷ spans) i zero all less short = absurd (omega arith)
pairs_at (s ∷ spans) zero (suc j) all less short = all_at (AreApart s) spans j all.0 (omega arith)
pairs_at (s ∷ spans) (suc i) (suc j) all less short = pairs_at spans i j all.1 (omega arith) (omega arith)

same_spans : (w : Width) (ds : List Data) → spans_of (map (λ d. block_of w (fields d)) ds) ≡ map span ds
unfolding block_of
same_spans w [] = refl
same_spans w (d ∷ ds) = ap (λ (spans : List Span). span d ∷ spans) (same_spans w ds)

len_span : (ds : List Data) → length (map span ds) ≡ length ds
len_span [] = refl
len_span (d ∷ ds) = ap suc (len_span ds)

-- so each two blocks are, by their numbers
pub blocks_apart : (w : Width) (ds : List Data) (i j : ℕ) → AllByRecursion IsExact ds → any_meet (map span_of ds) ≡ false → i < j → j < length ds
    → AreApart (span_at (spans_of (map (λ d. block_of w (fields d)) ds)) i) (span_at (spans_of (map (λ d. block_of w (fields d)) ds)) j)
blocks_apart w ds i j exact h less short = rw (same_spans w ds) (pairs_at (map span ds) i j (apart_all ds exact h) less (rw (len_span ds) short))
