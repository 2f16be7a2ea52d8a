-- What the line feeds of the text that two texts share say of their first other line.
use Rattle.std.specs.Prelude.{ℕ, ◌+◌, ◌<◌, ◌≡◌, ◌≢◌, List, [], ◌∷◌, ◌++◌, length, Some, None, slice_get}
use Rattle.std.specs.List.{AllByRecursion}
use Rattle.mt_verify.specs.Lines.{feeds, lines, first_other, first_other_line, line_at_end}

-- ---- what the first other line is

-- two lists agree below a place, and not at it
abbrev pub AgreeUpTo : ℕ → List (List ℕ) → List (List ℕ) → Type 0
AgreeUpTo i xs ys = ((k : ℕ) → k < i → slice_get xs k ≡ slice_get ys k) × (slice_get xs i ≢ slice_get ys i)

abbrev pub FirstOtherIsLeast : Type 0
FirstOtherIsLeast = (xs ys : List (List ℕ)) (i : ℕ) → first_other xs ys ≡ Some i → (k : ℕ) × (i ≡ k + 1) × AgreeUpTo k xs ys

abbrev pub NoOtherWhereEqual : Type 0
NoOtherWhereEqual = (xs ys : List (List ℕ)) → (first_other xs ys ≡ None → xs ≡ ys) × (xs ≡ ys → first_other xs ys ≡ None)

-- ---- texts of whole lines

-- no byte is a line feed
abbrev pub HasNoFeed : List ℕ → Type 0
HasNoFeed bytes = AllByRecursion (λ byte. byte ≢ 10) bytes

-- the text is empty or ends with a line feed
abbrev pub IsWhole : List ℕ → Type 0
IsWhole [] = Unit {0}
IsWhole (byte ∷ []) = byte ≡ 10
IsWhole (byte ∷ next ∷ text) = IsWhole (next ∷ text)

-- the text has a byte, and its last one is no line feed
abbrev pub HasOpenLine : List ℕ → Type 0
HasOpenLine [] = ⊥
HasOpenLine (byte ∷ []) = byte ≢ 10
HasOpenLine (byte ∷ next ∷ text) = HasOpenLine (next ∷ text)

-- no line is empty
abbrev pub HasNoEmptyLine : List ℕ → Type 0
HasNoEmptyLine text = AllByRecursion (λ line. 0 < length line) (lines text)

-- a line comes first
abbrev pub LinesEndAtFeeds : Type 0
LinesEndAtFeeds = (line behind : List ℕ) → HasNoFeed line → lines (line ++ 10 ∷ behind) ≡ line ∷ lines behind

abbrev pub FeedsMakeWhole : Type 0
FeedsMakeWhole = (text : List ℕ) → IsWhole (text ++ 10 ∷ [])

abbrev pub WholeTextsJoin : Type 0
WholeTextsJoin = (text behind : List ℕ) → IsWhole text → IsWhole behind → IsWhole (text ++ behind)

-- the lines of what stands behind a whole text come behind its lines
abbrev pub LinesJoin : Type 0
LinesJoin = (text behind : List ℕ) → IsWhole text → lines (text ++ behind) ≡ lines text ++ lines behind

-- whole texts have as many lines as line feeds
abbrev pub WholeTextsHaveTheirFeeds : Type 0
WholeTextsHaveTheirFeeds = (text : List ℕ) → IsWhole text → length (lines text) ≡ feeds text

-- ---- behind what two texts share

-- the next bytes differ
abbrev pub MismatchesTell : Type 0
MismatchesTell =
    (shared expected given : List ℕ) (x y : ℕ) → x ≢ y
    → first_other_line (shared ++ x ∷ expected) (shared ++ y ∷ given) ≡ Some (feeds shared + 1)

-- the whole of the expected text was given, and more
abbrev pub ExpectedEnds : Type 0
ExpectedEnds = (shared given : List ℕ) (y : ℕ) → IsWhole shared → first_other_line shared (shared ++ y ∷ given) ≡ Some (feeds shared + 1)

-- the given text ended, no expected line is empty, and more is expected than the last line feed
abbrev pub GivenEnds : Type 0
GivenEnds =
    (shared expected : List ℕ) (next : ℕ) → HasNoEmptyLine (shared ++ next ∷ expected) → (next ≡ 10 → expected ≢ [])
    → first_other_line (shared ++ next ∷ expected) shared ≡ Some (line_at_end (feeds shared) next)

-- the given text ended within a line
abbrev pub GivenEndsInALine : Type 0
GivenEndsInALine =
    (shared expected : List ℕ) (x : ℕ) → x ≢ 10 → first_other_line (shared ++ x ∷ expected) shared ≡ Some (feeds shared + 1)

-- the given text ended before the line feed of a line that is not the last one
abbrev pub GivenEndsBeforeAFeed : Type 0
GivenEndsBeforeAFeed =
    (shared expected : List ℕ) → HasOpenLine shared → expected ≢ []
    → first_other_line (shared ++ 10 ∷ expected) shared ≡ Some (feeds shared + 2)

-- the given text ended at a line's end, and a line more is expected, be it empty
abbrev pub GivenEndsBetweenLines : Type 0
GivenEndsBetweenLines =
    (shared expected : List ℕ) (x : ℕ) → IsWhole shared → first_other_line (shared ++ x ∷ expected) shared ≡ Some (feeds shared + 1)

abbrev pub EqualTextsHaveNoOther : Type 0
EqualTextsHaveNoOther = (text : List ℕ) → first_other_line text text ≡ None

-- the given text lacks the last line feed alone
abbrev pub LastFeedMayLack : Type 0
LastFeedMayLack = (given : List ℕ) → HasOpenLine given → first_other_line (given ++ 10 ∷ []) given ≡ None
