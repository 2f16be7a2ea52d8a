-- What slices, passes and groups are made of.
use Rattle.std.specs.Prelude.{ℕ, suc, ◌+◌, ◌*◌, ◌<◌, ◌≤◌, ◌≡◌, Bool, false, List, [], ◌∷◌, ◌++◌, length, take, All, Some}
use Rattle.std.specs.List.{range_with_len}
use Rattle.mt_seq.specs.declared.sequence.Slice.{Slice}
use Rattle.mt_blocks.specs.declared.span.Span.{Span}
use Rattle.mt_blocks.specs.declared.pass.Position.{Position}
use Rattle.mt_blocks.specs.Slices.{Piece, span_at, span_len, piece_at, pieces, pass, from_place, from_next, next_of, or_start, test_from, test_rest, next_in, AreSpans, IsValid}
use Rattle.mt_blocks.specs.Groups.{group_len, groups}

-- the addresses of the words of a slice, and of slices
abbrev pub addresses : Slice → List ℕ
addresses slice = range_with_len slice.first slice.n

abbrev pub addresses_of : List Piece → List ℕ
addresses_of [] = []
addresses_of (p ∷ more) = addresses p.slice ++ addresses_of more

-- how many words slices have
abbrev pub word_count : List Piece → ℕ
word_count [] = 0
word_count (p ∷ more) = p.slice.n + word_count more

-- lists, one after another
abbrev pub joined : List (List Piece) → List Piece
joined [] = []
joined (g ∷ more) = g ++ joined more

-- the slices of a block, one after another, are its words in order
abbrev pub SlicesAreTheBlock : Type 0
SlicesAreTheBlock =
    (K i : ℕ) (s : Span) → 1 ≤ K → s.first ≤ s.last → addresses_of (pieces K i s) ≡ range_with_len s.first (span_len s)

-- a slice has 1 to K words, and K of them unless it is its block's last
pub record IsWhole (K : ℕ) (p : Piece) : Type 0 where
  pub some : 1 ≤ p.slice.n
  pub small : p.slice.n ≤ K
  pub whole : p.last ≡ false → p.slice.n ≡ K

abbrev pub OnlyTheLastIsShorter : Type 0
OnlyTheLastIsShorter = (K i : ℕ) (s : Span) → 1 ≤ K → s.first ≤ s.last → All (IsWhole K) (pieces K i s)

-- a group has at most so many words
abbrev pub GroupsFit : Type 0
GroupsFit = (N : ℕ) (slices : List Piece) → (group_len N slices ≤ length slices) × (word_count (take (group_len N slices) slices) ≤ N)

-- with one slice more it would have too many
abbrev pub GroupsAreLongest : Type 0
GroupsAreLongest =
    (N : ℕ) (slices : List Piece) → group_len N slices < length slices → N < word_count (take (suc (group_len N slices)) slices)

-- the groups of a pass, one after another, are the pass
abbrev pub GroupsAreThePass : Type 0
GroupsAreThePass = (K N : ℕ) (spans : List Span) → K ≤ N → joined (groups N (pass K spans)) ≡ pass K spans

-- where the first slice of a block stands
abbrev pub block_start : ℕ → Position
block_start i = record { block = i; offset = 0 }

-- What holds of a pass and of a test from a position on.
pub record GoesOn (K : ℕ) (spans : List Span) (p : Position) : Type 0 where
  -- the slices of the pass are the one there, and then those from the next position on
  pub pass : from_place K spans p ≡ piece_at K spans p ∷ from_next K spans (next_of K spans p)
  -- so are those of a test, which may end with its block
  pub test : (whole : Bool) → test_from whole K spans p ≡ piece_at K spans p ∷ test_rest whole K spans (next_in whole K spans p)
  -- the next position is that of a slice, also where the pass begins again
  pub next : (whole : Bool) (q : Position) → next_in whole K spans p ≡ Some q → IsValid K spans q
  pub again : IsValid K spans (or_start (next_of K spans p))

abbrev pub PassesGoOn : Type 0
PassesGoOn = (K : ℕ) (spans : List Span) (p : Position) → AreSpans K spans → IsValid K spans p → GoesOn K spans p

-- What holds where a block begins.
pub record Begins (K : ℕ) (spans : List Span) (i : ℕ) : Type 0 where
  pub valid : IsValid K spans (block_start i)
  pub block : test_from false K spans (block_start i) ≡ pieces K i (span_at spans i)
  -- a block has at most 65,536 words
  pub few : word_count (pieces K i (span_at spans i)) ≤ 65536

abbrev pub BlocksBegin : Type 0
BlocksBegin = (K : ℕ) (spans : List Span) (i : ℕ) → AreSpans K spans → i < length spans → Begins K spans i

-- a pass begins with the first block, and has at most 64 times 65,536 words
abbrev pub PassesBegin : Type 0
PassesBegin = (K : ℕ) (spans : List Span) → AreSpans K spans → (from_place K spans (block_start 0) ≡ pass K spans) × (word_count (pass K spans) ≤ 65536 * 64)
