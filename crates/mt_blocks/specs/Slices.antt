-- The slices of blocks, and passes over blocks.
use Rattle.std.specs.Prelude.{ℕ, ◌+◌, ◌-◌, ◌*◌, ◌/◌, ◌<◌, ◌≤◌, ◌≡◌, Bool, not, ◌&&◌, min, List, [], ◌∷◌, ◌++◌, map, length, drop, slice_index_or, Option, Some, None, if◌then◌else◌, nat_le, nat_lt}
use Rattle.std.specs.List.{range_with_len}
use Rattle.mt_seq.specs.declared.sequence.Slice.{Slice}
use Rattle.mt_blocks.specs.declared.span.Span.{Span}
use Rattle.mt_blocks.specs.declared.pass.Position.{Position}

-- how many words a span has
abbrev pub span_len : Span → ℕ
span_len s = s.last - s.first + 1

-- the span of the block with the number i
abbrev pub no_span : Span
no_span = record { first = 0; last = 0 }

abbrev pub span_at : List Span → ℕ → Span
span_at spans i = slice_index_or spans i no_span

-- the slice of a span at an offset: K words, or what is left of the span
abbrev pub slice_of : ℕ → Span → ℕ → Slice
slice_of K s o = record { first = s.first + o; n = min (span_len s - o) K }

-- whether no word of the span is left after that slice
abbrev pub ends_block : ℕ → Span → ℕ → Bool
ends_block K s o = nat_le (span_len s - o) K

-- a slice of a pass: where it stands, its words, and whether it is its block's last
pub record Piece : Type 0 where
  pub place : Position
  pub slice : Slice
  pub last : Bool

-- the slice at an offset of the block with the number i
abbrev pub piece : ℕ → ℕ → Span → ℕ → Piece
piece K i s o = record { place = record { block = i; offset = o }; slice = slice_of K s o; last = ends_block K s o }

abbrev pub piece_at : ℕ → List Span → Position → Piece
piece_at K spans p = piece K p.block (span_at spans p.block) p.offset

-- how many multiples of K, from 0 on, lie below the length of a span
abbrev pub slice_count : ℕ → Span → ℕ
slice_count K s = (span_len s + K - 1) / K

-- the slices of the block with the number i: one at each multiple of K below its length
abbrev pub pieces : ℕ → ℕ → Span → List Piece
pieces K i s = map (λ k. piece K i s (k * K)) (range_with_len 0 (slice_count K s))

-- the slices of these blocks, in order, the first of which has the number i
abbrev pub pieces_from : ℕ → ℕ → List Span → List Piece
pieces_from K i [] = []
pieces_from K i (s ∷ more) = pieces K i s ++ pieces_from K (i + 1) more

-- the slices of a pass over the blocks
abbrev pub pass : ℕ → List Span → List Piece
pass K spans = pieces_from K 0 spans

-- the slices of a block from a position on
unfoldable pub block_from : ℕ → List Span → Position → List Piece
block_from K spans p = drop (p.offset / K) (pieces K p.block (span_at spans p.block))

-- the slices of a pass from a position on
unfoldable pub from_place : ℕ → List Span → Position → List Piece
from_place K spans p = drop (p.offset / K) (pieces_from K p.block (drop p.block spans))

-- the slices of a pass from a position on that may be none
abbrev pub from_next : ℕ → List Span → Option Position → List Piece
from_next K spans None = []
from_next K spans (Some p) = from_place K spans p

-- the position of the next slice; none after the pass's last
abbrev pub next_of : ℕ → List Span → Position → Option Position
next_of K spans p =
    if nat_lt K (span_len (span_at spans p.block) - p.offset) then Some (record { block = p.block; offset = p.offset + K })
    else (if nat_lt (p.block + 1) (length spans) then Some (record { block = p.block + 1; offset = 0 }) else None)

-- where a pass begins; nowhere where there is no block
abbrev pub start : Position
start = record { block = 0; offset = 0 }

abbrev pub start_of : List Span → Option Position
start_of [] = None
start_of (s ∷ more) = Some start

-- a position, or the pass's start
abbrev pub or_start : Option Position → Position
or_start None = start
or_start (Some p) = p

-- the slices of a test from a position on: to the end of the pass where the test is whole, else of the block
abbrev pub test_from : Bool → ℕ → List Span → Position → List Piece
test_from whole K spans p = if whole then from_place K spans p else block_from K spans p

-- the position after one of them, and the slices from there on
abbrev pub next_in : Bool → ℕ → List Span → Position → Option Position
next_in whole K spans p = if not whole && ends_block K (span_at spans p.block) p.offset then None else next_of K spans p

abbrev pub test_rest : Bool → ℕ → List Span → Option Position → List Piece
test_rest whole K spans None = []
test_rest whole K spans (Some p) = test_from whole K spans p

-- spans that are cut into slices of K words
pub record AreSpans (K : ℕ) (spans : List Span) : Type 0 where
  pub some : 1 ≤ K
  pub small : K ≤ 64
  pub few : length spans ≤ 64
  pub ordered : (i : ℕ) → i < length spans → (span_at spans i).first ≤ (span_at spans i).last
  pub limit : (i : ℕ) → i < length spans → (span_at spans i).last < 65536

-- the position of a slice: the block is there, and the offset is a multiple of K below its length
pub record IsValid (K : ℕ) (spans : List Span) (p : Position) : Type 0 where
  pub block : p.block < length spans
  pub offset : p.offset < span_len (span_at spans p.block)
  pub multiple : p.offset ≡ p.offset / K * K
