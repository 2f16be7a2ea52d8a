-- The first other line behind what two texts share.
use Rattle.std.proofs.Common.{ℕ, ◌+◌, ◌≡◌, ◌≢◌, inl, inr, Bool, false, cond, ◌&&◌, List, [], ◌∷◌, ◌++◌, Some, None, option_map, bytes_eq, refl, sym, ap, ap₂, ◌∙◌, subst, arith}
use Rattle.std.specs.List.{onto_first}
use Rattle.std.proofs.lemmas.Bool.{ne_eqb, eq-eqb, cases_eq}
use Rattle.mt_verify.specs.Lines.{feeds, lines, first_other, first_other_line, line_at_end}
use Rattle.mt_verify.specs.Laws.{HasOpenLine, HasNoEmptyLine, MismatchesTell, ExpectedEnds, GivenEnds, GivenEndsInALine, GivenEndsBeforeAFeed, GivenEndsBetweenLines, EqualTextsHaveNoOther, LastFeedMayLack}
use Rattle.mt_verify.proofs.Lines.{lines-nil, lines-feed, lines-byte, lined, begins_with, longer, feeds-byte, next, other-more, other-fewer, other-same, other-here, feed_before, grown}
use Rattle.mt_verify.proofs.Least.{other-refl}
use Rattle.mt_verify.proofs.Whole.{open_line}

-- ---- the next bytes differ

feed_against_byte : (s t : List ℕ) (y : ℕ) → y ≢ 10 → first_other_line (10 ∷ s) (y ∷ t) ≡ Some 1
feed_against_byte s t y other =
    let b = begins_with y t other in
    ap₂ first_other (lines-feed s) b.is ∙ other-here [] (y ∷ b.rest) (lines s) b.more refl

byte_against_feed : (s t : List ℕ) (x : ℕ) → x ≢ 10 → first_other_line (x ∷ s) (10 ∷ t) ≡ Some 1
byte_against_feed s t x other =
    let a = begins_with x s other in
    ap₂ first_other a.is (lines-feed t) ∙ other-here (x ∷ a.rest) [] a.more (lines t) refl

byte_against_byte : (s t : List ℕ) (x y : ℕ) → x ≢ 10 → y ≢ 10 → x ≢ y → first_other_line (x ∷ s) (y ∷ t) ≡ Some 1
byte_against_byte s t x y no_x no_y differ =
    let a = begins_with x s no_x in
    let b = begins_with y t no_y in
    ap₂ first_other a.is b.is ∙ other-here (x ∷ a.rest) (y ∷ b.rest) a.more b.more (ap (λ (c : Bool). c && bytes_eq a.rest b.rest) (ne_eqb x y differ))

at_start : (s t : List ℕ) (x y : ℕ) → x ≢ y → first_other_line (x ∷ s) (y ∷ t) ≡ Some 1
at_start s t x y differ = elim (cases_eq x 10) [
  | inl e ↦ subst (λ (b : ℕ). first_other_line (b ∷ s) (y ∷ t) ≡ Some 1) (sym e) (feed_against_byte s t y (λ f. differ (e ∙ sym f)))
  | inr no_x ↦ elim (cases_eq y 10) [
    | inl f ↦ subst (λ (b : ℕ). first_other_line (x ∷ s) (b ∷ t) ≡ Some 1) (sym f) (byte_against_feed s t x no_x)
    | inr no_y ↦ byte_against_byte s t x y no_x no_y differ
  ]
]

pub mismatch : MismatchesTell
mismatch [] expected given x y differ = at_start expected given x y differ
mismatch (b ∷ shared) expected given x y differ =
    grown b shared (shared ++ x ∷ expected) (shared ++ y ∷ given) 1 (longer shared expected x) (longer shared given y) (mismatch shared expected given x y differ)

-- ---- one text ended

none_given : (x : ℕ) (text : List ℕ) → first_other_line (x ∷ text) [] ≡ Some 1
none_given x text = let a = lined x text in ap₂ first_other a.is lines-nil ∙ other-fewer a.first a.more

none_expected : (y : ℕ) (text : List ℕ) → first_other_line [] (y ∷ text) ≡ Some 1
none_expected y text = let b = lined y text in ap₂ first_other lines-nil b.is ∙ other-more b.first b.more

pub expected_ended : ExpectedEnds
expected_ended [] given y h = none_expected y given
expected_ended (b ∷ []) given y h =
    subst (λ (c : ℕ). first_other_line (c ∷ []) (c ∷ y ∷ given) ≡ Some (feeds (c ∷ []) + 1)) (sym h) (feed_before [] (y ∷ given) ∙ ap (option_map next) (none_expected y given))
expected_ended (b ∷ c ∷ shared) given y h =
    grown b (c ∷ shared) (c ∷ shared) (c ∷ (shared ++ y ∷ given)) 1 (omega arith) (omega arith) (expected_ended (c ∷ shared) given y h)

pub ended_between : GivenEndsBetweenLines
ended_between [] expected x h = none_given x expected
ended_between (b ∷ []) expected x h =
    subst (λ (c : ℕ). first_other_line (c ∷ x ∷ expected) (c ∷ []) ≡ Some (feeds (c ∷ []) + 1)) (sym h) (feed_before (x ∷ expected) [] ∙ ap (option_map next) (none_given x expected))
ended_between (b ∷ c ∷ shared) expected x h =
    grown b (c ∷ shared) (c ∷ (shared ++ x ∷ expected)) (c ∷ shared) 1 (omega arith) (omega arith) (ended_between (c ∷ shared) expected x h)

one_byte : (b : ℕ) → b ≢ 10 → lines (b ∷ []) ≡ (b ∷ []) ∷ []
one_byte b other = lines-byte b [] other ∙ ap (onto_first b) lines-nil

longer_line : (b x : ℕ) (expected : List ℕ) → b ≢ 10 → x ≢ 10 → first_other_line (b ∷ x ∷ expected) (b ∷ []) ≡ Some 1
longer_line b x expected no_b no_x =
    let a = begins_with x expected no_x in
    ap₂ first_other (lines-byte b (x ∷ expected) no_b ∙ ap (onto_first b) a.is) (one_byte b no_b)
    ∙ other-here (b ∷ x ∷ a.rest) (b ∷ []) a.more [] (ap (λ (c : Bool). c && false) (eq-eqb b b refl))

pub ended_in_line : GivenEndsInALine
ended_in_line [] expected x other = none_given x expected
ended_in_line (b ∷ []) expected x other = elim (cases_eq b 10) [
  | inl e ↦ ended_between (b ∷ []) expected x e
  | inr no_b ↦ longer_line b x expected no_b other ∙ ap (λ (n : ℕ). Some (n + 1)) (sym (feeds-byte b [] no_b))
]
ended_in_line (b ∷ c ∷ shared) expected x other =
    grown b (c ∷ shared) (c ∷ (shared ++ x ∷ expected)) (c ∷ shared) 1 (omega arith) (omega arith) (ended_in_line (c ∷ shared) expected x other)

-- one byte is shared, and its line ends
line_ends : (b : ℕ) (expected : List ℕ) → b ≢ 10 → lines (b ∷ 10 ∷ expected) ≡ (b ∷ []) ∷ lines expected
line_ends b expected other = lines-byte b (10 ∷ expected) other ∙ ap (onto_first b) (lines-feed expected)

next_line : (expected : List ℕ) → expected ≢ [] → first_other_line expected [] ≡ Some 1
next_line [] some = absurd (some refl)
next_line (x ∷ expected) some = none_given x expected

pub ended_before_feed : GivenEndsBeforeAFeed
ended_before_feed [] expected h some = absurd h
ended_before_feed (b ∷ []) expected h some =
    ap₂ first_other (line_ends b expected h) (one_byte b h ∙ ap (λ (l : List (List ℕ)). (b ∷ []) ∷ l) (sym lines-nil))
    ∙ other-same (b ∷ []) (lines expected) (lines [])
    ∙ ap (option_map next) (next_line expected some)
    ∙ ap (λ (n : ℕ). Some (n + 2)) (sym (feeds-byte b [] h))
ended_before_feed (b ∷ c ∷ shared) expected h some =
    grown b (c ∷ shared) (c ∷ (shared ++ 10 ∷ expected)) (c ∷ shared) 2 (omega arith) (omega arith) (ended_before_feed (c ∷ shared) expected h some)

pub given_ended : GivenEnds
given_ended shared expected next full some = elim (cases_eq next 10) [
  | inl e ↦
      let closed = open_line shared expected (subst (λ (b : ℕ). HasNoEmptyLine (shared ++ b ∷ expected)) e full) in
      subst (λ (b : ℕ). first_other_line (shared ++ b ∷ expected) shared ≡ Some (line_at_end (feeds shared) b)) (sym e) (ended_before_feed shared expected closed (some e))
  | inr other ↦
      ended_in_line shared expected next other
      ∙ ap (λ (b : Bool). Some (cond b (feeds shared + 2) (feeds shared + 1))) (sym (ne_eqb next 10 other))
]

-- ---- equal texts

pub equal_texts : EqualTextsHaveNoOther
equal_texts text = other-refl (lines text)

byte_more : (x : ℕ) (s t : List ℕ) → lines s ≡ lines t → lines (x ∷ s) ≡ lines (x ∷ t)
byte_more x s t same = elim (cases_eq x 10) [
  | inl e ↦ subst (λ (b : ℕ). lines (b ∷ s) ≡ lines (b ∷ t)) (sym e) (lines-feed s ∙ ap (λ (l : List (List ℕ)). [] ∷ l) same ∙ sym (lines-feed t))
  | inr other ↦ lines-byte x s other ∙ ap (onto_first x) same ∙ sym (lines-byte x t other)
]

same_lines : (given : List ℕ) → HasOpenLine given → lines (given ++ 10 ∷ []) ≡ lines given
same_lines [] h = absurd h
same_lines (b ∷ []) h = line_ends b [] h ∙ ap (λ (l : List (List ℕ)). (b ∷ []) ∷ l) lines-nil ∙ sym (one_byte b h)
same_lines (b ∷ c ∷ given) h = byte_more b (c ∷ (given ++ 10 ∷ [])) (c ∷ given) (same_lines (c ∷ given) h)

pub last_feed_lacks : LastFeedMayLack
last_feed_lacks given h =
    subst (λ (l : List (List ℕ)). first_other (lines (given ++ 10 ∷ [])) l ≡ None) (same_lines given h) (other-refl (lines (given ++ 10 ∷ [])))
