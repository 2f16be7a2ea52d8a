-- The lines of a fault location: a slice, and what was missed there.
use Rattle.std.specs.Prelude.{ℕ, ◌+◌, ◌*◌, ◌^◌, ◌==◌, nat_lt, nat_le, not, codes, Bool, false, if◌then◌else◌, List, length, slice_get, Option, Some, None, Result, Ok, Err}
use Rattle.std.specs.Str.{bytes_eq}
use Rattle.mt_word.specs.Word.{width_bits}
use Rattle.mt_hex.specs.Hex.{hex_of}
use Rattle.mt_port.specs.declared.board.Shape.{Shape}
use Rattle.mt_seq.specs.declared.sequence.Slice.{Slice}
use Rattle.mt_seq.specs.Sequence.{is_transparent}
use Rattle.mt_blocks.specs.declared.span.Span.{Span}
use Rattle.mt_blocks.specs.declared.config.ParamSet.{ParamSet}
use Rattle.mt_blocks.specs.Accepted.{set_at, block_at}
use Rattle.mt_blocks.specs.Slices.{slice_count, slice_of}
use Rattle.mt_text.specs.Tokens.{Token, tokens, begins_word, number_of}
use Rattle.mt_locate.specs.declared.probe.Probe.{Probe}
use Rattle.mt_locate.specs.declared.probe.Miss.{Miss}
use Rattle.mt_locate.specs.declared.evidence.CheckedRead.{CheckedRead}
use Rattle.mt_locate.specs.declared.words.Placed.{Placed}
use Rattle.mt_locate.specs.declared.refusal.LocateKind.{LocateKind}
use Rattle.mt_locate.specs.declared.refusal.LocateKind.TheVariants.{Spelling, Number, WordTooWide, SliceUnknown, TooManyBits, NotLocated, MissOrder}
use Rattle.mt_locate.specs.declared.refusal.LocateRefusal.{LocateRefusal}
use Rattle.mt_locate.specs.Suspects.{checked_at}

-- the numbers of the rules
abbrev pub kind_number : LocateKind → ℕ
kind_number Spelling = 1
kind_number Number = 2
kind_number WordTooWide = 4
kind_number SliceUnknown = 12
kind_number TooManyBits = 13
kind_number NotLocated = 14
kind_number MissOrder = 15

-- what is read first, and then the rest; the first refusal is the line's
infixl 10 ◌>>=◌
abbrev pub ◌>>=◌ : {A B : Type 0} → Result A LocateRefusal → (A → Result B LocateRefusal) → Result B LocateRefusal
Ok x >>= more = more x
Err e >>= more = Err e

abbrev pub refuse : {A : Type 0} → LocateKind → ℕ → Result A LocateRefusal
refuse kind place = Err (record { kind = kind; place = place })

-- a value where it breaks no rule
abbrev pub unless : {A : Type 0} → Bool → LocateKind → ℕ → Result A LocateRefusal → Result A LocateRefusal
unless broken kind place value = if broken then refuse kind place else value

-- ---- tokens

-- the token with an index, counted from 0; the line's end where there is none
abbrev pub token_at : List ℕ → ℕ → Option Token
token_at text i = slice_get (tokens 1 text) i

-- the place behind the last byte
abbrev pub end_of : List ℕ → ℕ
end_of text = length text + 1

-- a fixed word
abbrev pub is_keyword : List ℕ → ℕ → Option Token → Result (Unit {0}) LocateRefusal
is_keyword word end None = refuse Spelling end
is_keyword word end (Some t) = unless (not (bytes_eq t.bytes word)) Spelling t.place (Ok tt)

-- nothing more
abbrev pub is_end : Option Token → Result (Unit {0}) LocateRefusal
is_end None = Ok tt
is_end (Some t) = refuse Spelling t.place

-- what a word spells, with its place
abbrev pub spelled : ℕ → Option ℕ → Result Placed LocateRefusal
spelled place None = refuse Number place
spelled place (Some n) = Ok (record { value = n; place = place })

-- a number in decimal digits, or a word in hexadecimal ones: every word of the line may stand there, and no bracket or semicolon
abbrev pub value_by : (List ℕ → Option ℕ) → ℕ → Option Token → Result Placed LocateRefusal
value_by spells end None = refuse Spelling end
value_by spells end (Some t) = unless (not (begins_word t.bytes)) Spelling t.place (spelled t.place (spells t.bytes))

unfoldable pub keyword : List ℕ → List ℕ → Result (Unit {0}) LocateRefusal
keyword word text = is_keyword word (end_of text) (token_at text 0)

unfoldable pub ends_at : List ℕ → ℕ → Result (Unit {0}) LocateRefusal
ends_at text i = is_end (token_at text i)

unfoldable pub number_at : List ℕ → ℕ → Result Placed LocateRefusal
number_at text i = value_by number_of (end_of text) (token_at text i)

unfoldable pub word_at : List ℕ → ℕ → Result Placed LocateRefusal
word_at text i = value_by hex_of (end_of text) (token_at text i)

-- ---- the line `slice S B J`

-- the number of a set whose algorithm is not transparent
abbrev pub known_set : List ParamSet → Placed → Result ℕ LocateRefusal
known_set sets s = unless (nat_le (length sets) s.value) SliceUnknown s.place (unless (is_transparent (set_at sets s.value).alg) NotLocated s.place (Ok s.value))

-- the number of a block of the set
abbrev pub known_block : ParamSet → Placed → Result ℕ LocateRefusal
known_block set b = unless (nat_le (length set.blocks) b.value) SliceUnknown b.place (Ok b.value)

-- the words of a slice of the block, which has at most 128 bits
abbrev pub few_bits : ℕ → ℕ → Slice → Result Slice LocateRefusal
few_bits bits place slice = unless (nat_lt 128 (slice.n * bits)) TooManyBits place (Ok slice)

abbrev pub known_slice : Shape → ParamSet → Span → Placed → Result Slice LocateRefusal
known_slice shape set span j =
    unless (nat_le (slice_count set.atomic span) j.value) SliceUnknown j.place (few_bits (width_bits shape.width) j.place (slice_of set.atomic span (j.value * set.atomic)))

unfoldable pub set_number : List ParamSet → List ℕ → Result ℕ LocateRefusal
set_number sets text = number_at text 1 >>= known_set sets

unfoldable pub block_number : ParamSet → List ℕ → Result ℕ LocateRefusal
block_number set text = number_at text 2 >>= known_block set

unfoldable pub slice_words : Shape → ParamSet → Span → List ℕ → Result Slice LocateRefusal
slice_words shape set span text = number_at text 3 >>= known_slice shape set span

-- the probe of a slice, where the line ends
abbrev pub probe_of : Shape → ℕ → ParamSet → Slice → Probe
probe_of shape initial set slice = record { alg = set.alg; background = set.background; width = shape.width; initial = initial; first = slice.first; n = slice.n }

-- what a line `slice S B J` asks for
unfoldable pub slice_line : Shape → ℕ → List ParamSet → List ℕ → Result Probe LocateRefusal
slice_line shape initial sets text = do
  _ ← keyword (codes "slice") text
  s ← set_number sets text
  b ← block_number (set_at sets s) text
  slice ← slice_words shape (set_at sets s) ((block_at (set_at sets s).blocks b).span) text
  _ ← ends_at text 4
  Ok (probe_of shape initial (set_at sets s) slice)

-- ---- a line `miss I WORD`

-- whether an index is not above the one before it
abbrev pub falls : Option ℕ → ℕ → Bool
falls None i = false
falls (Some before) i = nat_le i before

-- a checked read with an index above the one before
abbrev pub of_read : ℕ → ℕ → Option CheckedRead → Result (ℕ × ℕ) LocateRefusal
of_read place i None = refuse MissOrder place
of_read place i (Some read) = Ok (i, read.word)

abbrev pub known_read : Probe → Option ℕ → Placed → Result (ℕ × ℕ) LocateRefusal
known_read probe after i = unless (falls after i.value) MissOrder i.place (of_read i.place i.value (checked_at probe i.value))

-- a word of the width, other than the one that was expected
abbrev pub known_word : Probe → (expected : ℕ) → Placed → Result ℕ LocateRefusal
known_word probe expected w =
    unless (not (nat_lt w.value (2 ^ width_bits probe.width))) WordTooWide w.place (unless (w.value == expected) MissOrder w.place (Ok w.value))

-- the index of the read, and the word that it was to answer
unfoldable pub read_index : Probe → Option ℕ → List ℕ → Result (ℕ × ℕ) LocateRefusal
read_index probe after text = number_at text 1 >>= known_read probe after

unfoldable pub answered_word : Probe → ℕ → List ℕ → Result ℕ LocateRefusal
answered_word probe expected text = word_at text 2 >>= known_word probe expected

abbrev pub miss_of : ℕ → ℕ → Miss
miss_of i w = record { index = i; word = w }

-- what a line `miss I WORD` says, where `after` is the index of the line before
unfoldable pub miss_line : Probe → Option ℕ → List ℕ → Result Miss LocateRefusal
miss_line probe after text = do
  _ ← keyword (codes "miss") text
  i ← read_index probe after text
  w ← answered_word probe i.1 text
  _ ← ends_at text 3
  Ok (miss_of i.0 w)
