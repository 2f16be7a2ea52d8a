-- What the calls that read a line take from the bytes that are left.
use Rattle.std.specs.Prelude.{ℕ, ◌+◌, ◌<◌, ◌≤◌, ◌≡◌, ◌≢◌, List, [], ◌∷◌, ◌++◌, length}
use Rattle.mt_replay.specs.declared.input.Line.{Line}
use Rattle.mt_replay.specs.declared.input.Line.TheVariants as line
use Rattle.mt_replay.specs.declared.input.Piece.{Piece}
use Rattle.mt_replay.specs.declared.input.Piece.TheVariants as piece
use Rattle.mt_replay.specs.Input.{cut}

-- none of the bytes is a line feed
abbrev pub HasNoFeed : List ℕ → Type 0
HasNoFeed [] = Unit {0}
HasNoFeed (byte ∷ bytes) = (byte ≢ 10) × HasNoFeed bytes

-- the first line, or what there is of it, has more bytes than a line may have
abbrev pub BeginsTooLong : List (List ℕ) → List ℕ → Type 0
BeginsTooLong [] rest = 1024 < length rest
BeginsTooLong (first ∷ more) rest = 1024 < length first

-- what the reading of a line took from the bytes that were left
abbrev pub TakesLine : Line → (text before after : List ℕ) → Type 0
TakesLine line.Whole text before after = (before ≡ text ++ 10 ∷ after) × HasNoFeed text
TakesLine line.Last text before after = (before ≡ text) × HasNoFeed text × (0 < length text) × (after ≡ [])
TakesLine line.End text before after = (before ≡ []) × (after ≡ [])
TakesLine line.TooLong text before after = BeginsTooLong (cut before).lines (cut before).rest

-- what moving the bytes of a line from those that are held to its text did
abbrev pub TakesPiece : Piece → (text held text' held' : List ℕ) → Type 0
TakesPiece piece.Ended text held text' held' = (front : List ℕ) × HasNoFeed front × (held ≡ front ++ 10 ∷ held') × (text' ≡ text ++ front)
TakesPiece piece.More text held text' held' = HasNoFeed held × (held' ≡ []) × (text' ≡ text ++ held) × (length text' ≤ 1024)
TakesPiece piece.TooLong text held text' held' =
    (front : List ℕ) × (behind : List ℕ) × HasNoFeed front × (held ≡ front ++ behind) × (1024 < length text + length front)

-- a line that broke off: these bytes of it were taken
pub record BreaksOff (text before after : List ℕ) : Type 0 where
  pub taken : before ≡ text ++ after
  pub line : HasNoFeed text
  pub short : length text ≤ 1024
