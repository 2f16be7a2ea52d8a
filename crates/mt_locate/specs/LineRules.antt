-- The lines of a fault location as their reader has them: which texts are such lines, and which rule refuses another text.
use Rattle.std.specs.Prelude.{ℕ, ◌+◌, ◌*◌, ◌^◌, ◌≡◌, ◌≢◌, ◌<◌, ◌≤◌, ◌↔◌, ◌⊎◌, ◌==◌, nat_lt, nat_le, not, is_some, is_none, codes, Bool, true, false, ◌&&◌, ◌||◌, List, [], ◌∷◌, map, length, slice_get, Option, Some, None, option_map, option_and_then, Result, Ok, Err}
use Rattle.std.specs.List.{AllByRecursion}
use Rattle.std.specs.Str.{bytes_eq}
use Rattle.mt_word.specs.Word.{width_bits}
use Rattle.mt_hex.specs.Hex.{hex_of}
use Rattle.mt_port.specs.declared.board.Shape.{Shape}
use Rattle.mt_seq.specs.declared.sequence.Slice.{Slice}
use Rattle.mt_seq.specs.Sequence.{is_transparent}
use Rattle.mt_blocks.specs.declared.span.Span.{Span}
use Rattle.mt_blocks.specs.declared.config.Block.{Block}
use Rattle.mt_blocks.specs.declared.config.ParamSet.{ParamSet}
use Rattle.mt_blocks.specs.Accepted.{set_at, block_at}
use Rattle.mt_blocks.specs.Slices.{slice_count, slice_of}
use Rattle.mt_text.specs.Tokens.{Token, tokens, begins_word, number_of}
use Rattle.mt_locate.specs.declared.probe.Probe.{Probe}
use Rattle.mt_locate.specs.declared.probe.Miss.{Miss}
use Rattle.mt_locate.specs.declared.evidence.CheckedRead.{CheckedRead}
use Rattle.mt_locate.specs.declared.refusal.LocateKind.{LocateKind}
use Rattle.mt_locate.specs.declared.refusal.LocateKind.TheVariants.{Spelling, Number, WordTooWide, SliceUnknown, TooManyBits, NotLocated, MissOrder}
use Rattle.mt_locate.specs.declared.refusal.LocateRefusal.{LocateRefusal}
use Rattle.mt_locate.specs.Suspects.{checked_at}
use Rattle.mt_locate.specs.LocateLines.{kind_number, slice_line, miss_line, probe_of}

-- the bytes of the tokens of a line
abbrev pub words_of : List ℕ → List (List ℕ)
words_of text = map (λ (t : Token). t.bytes) (tokens 1 text)

-- ---- which texts are lines

-- a number above the one before, where there is one before
abbrev pub IsAbove : Option ℕ → ℕ → Type 0
IsAbove None i = Unit {0}
IsAbove (Some before) i = before < i

-- The text is `miss I WORD`: I is the index of a checked read, above the one before, and WORD a word of the width that the
-- read was not to answer.
pub record IsMissLine (probe : Probe) (after : Option ℕ) (text : List ℕ) (miss : Miss) : Type 0 where
  pub index : List ℕ
  pub answer : List ℕ
  pub words : words_of text ≡ codes "miss" ∷ index ∷ answer ∷ []
  pub spells_index : number_of index ≡ Some miss.index
  pub spells_word : hex_of answer ≡ Some miss.word
  pub rises : IsAbove after miss.index
  pub read : CheckedRead
  pub checked : checked_at probe miss.index ≡ Some read
  pub fits : miss.word < 2 ^ width_bits probe.width
  pub differs : miss.word ≢ read.word

-- The text is `slice S B J`: set S is there and keeps no background of its own, block B is there in it, and slice J in that,
-- which has at most 128 bits.
pub record IsSliceLine (shape : Shape) (sets : List ParamSet) (text : List ℕ) (set : ParamSet) (slice : Slice) : Type 0 where
  pub set_word : List ℕ
  pub block_word : List ℕ
  pub slice_word : List ℕ
  pub words : words_of text ≡ codes "slice" ∷ set_word ∷ block_word ∷ slice_word ∷ []
  pub s : ℕ
  pub b : ℕ
  pub j : ℕ
  pub spells_set : number_of set_word ≡ Some s
  pub spells_block : number_of block_word ≡ Some b
  pub spells_slice : number_of slice_word ≡ Some j
  pub set_is_there : s < length sets
  pub set_is : set ≡ set_at sets s
  pub is_located : is_transparent set.alg ≡ false
  pub block_is_there : b < length set.blocks
  pub slice_is_there : j < slice_count set.atomic ((block_at set.blocks b).span)
  pub slice_is : slice ≡ slice_of set.atomic ((block_at set.blocks b).span) (j * set.atomic)
  pub few_bits : slice.n * width_bits shape.width ≤ 128

-- a text is read as a miss exactly where it is that line
abbrev pub MissLinesAreExact : Type 0
MissLinesAreExact =
    (probe : Probe) (after : Option ℕ) (text : List ℕ) (miss : Miss)
    → (miss_line probe after text ≡ Ok miss) ↔ IsMissLine probe after text miss

-- a text is read as a probe exactly where it is a line for the probe's slice
abbrev pub SliceLinesAreExact : Type 0
SliceLinesAreExact =
    (shape : Shape) (initial : ℕ) (sets : List ParamSet) (text : List ℕ) (probe : Probe)
    → (slice_line shape initial sets text ≡ Ok probe)
    ↔ ((set : ParamSet) × (slice : Slice) × IsSliceLine shape sets text set slice × (probe ≡ probe_of shape initial set slice))

-- ---- which rule refuses a text

-- a rule, and whether a token breaks it
abbrev pub Rule : Type 0
Rule = LocateKind × Bool

-- a rule of this kind is broken
abbrev pub IsBroken : LocateKind → List Rule → Type 0
IsBroken kind [] = ⊥
IsBroken kind (rule ∷ rules) = ((rule.0 ≡ kind) × (rule.1 ≡ true)) ⊎ IsBroken kind rules

-- no rule is broken
abbrev pub AreKept : List Rule → Type 0
AreKept rules = AllByRecursion (λ rule. rule.1 ≡ false) rules

-- a rule of this kind is broken, and none that has a lesser number
abbrev pub IsLeastBroken : LocateKind → List Rule → Type 0
IsLeastBroken kind rules =
    IsBroken kind rules × AllByRecursion (λ rule. rule.1 ≡ true → kind_number kind ≤ kind_number rule.0) rules

-- the place of a token, and the one after the last byte where it is not there
abbrev pub place_or : ℕ → Option Token → ℕ
place_or end None = end
place_or end (Some t) = t.place

-- Of tokens with their rules, the first that breaks one is told, by its place and by the least of the rules that it breaks.
abbrev pub TellsTheFirst : ℕ → List (Option Token × List Rule) → LocateRefusal → Type 0
TellsTheFirst end [] refusal = ⊥
TellsTheFirst end (t ∷ ts) refusal =
    ((refusal.place ≡ place_or end t.0) × IsLeastBroken refusal.kind t.1) ⊎ (AreKept t.1 × TellsTheFirst end ts refusal)

-- the bytes of a token are these
abbrev pub is_token : List ℕ → Option Token → Bool
is_token word None = false
is_token word (Some t) = bytes_eq t.bytes word

-- a token is a word, and no bracket or semicolon
abbrev pub is_value : Option Token → Bool
is_value None = false
is_value (Some t) = begins_word t.bytes

-- what a token spells
abbrev pub value_in : (List ℕ → Option ℕ) → Option Token → Option ℕ
value_in spells None = None
value_in spells (Some t) = spells t.bytes

-- what is true of a value that is spelled
abbrev pub holds : {A : Type 0} → (A → Bool) → Option A → Bool
holds test None = false
holds test (Some x) = test x

-- the rules of a fixed word, and of the line's end
abbrev pub word_rules : List ℕ → Option Token → List Rule
word_rules word t = (Spelling, not (is_token word t)) ∷ []

abbrev pub end_rules : Option Token → List Rule
end_rules t = (Spelling, is_some t) ∷ []

-- the rules of a value, before those of its place
abbrev pub value_rules : (List ℕ → Option ℕ) → Option Token → List Rule → List Rule
value_rules spells t rules = (Spelling, not (is_value t)) ∷ (Number, is_none (value_in spells t)) ∷ rules

-- I is not above the index before
abbrev pub is_not_above : Option ℕ → ℕ → Bool
is_not_above None i = false
is_not_above (Some before) i = nat_le i before

-- the read with the index that a token spells
abbrev pub read_in : Probe → Option Token → Option CheckedRead
read_in probe t = option_and_then (checked_at probe) (value_in number_of t)

-- the rule of the index, and those of the word
abbrev pub rise_rules : Probe → Option ℕ → Option Token → List Rule
rise_rules probe after t =
    (MissOrder, holds (λ i. is_not_above after i || is_none (checked_at probe i)) (value_in number_of t)) ∷ []

abbrev pub miss_word_rules : Probe → Option CheckedRead → Option Token → List Rule
miss_word_rules probe read t =
    (MissOrder, holds (λ w. holds (λ (r : CheckedRead). w == r.word) read) (value_in hex_of t))
    ∷ (WordTooWide, holds (λ w. nat_le (2 ^ width_bits probe.width) w) (value_in hex_of t)) ∷ []

abbrev pub index_rules : Probe → Option ℕ → Option Token → List Rule
index_rules probe after t = value_rules number_of t (rise_rules probe after t)

abbrev pub answer_rules : Probe → Option CheckedRead → Option Token → List Rule
answer_rules probe read t = value_rules hex_of t (miss_word_rules probe read t)

-- the tokens of `miss I WORD` with their rules
abbrev pub miss_rules : Probe → Option ℕ → List Token → List (Option Token × List Rule)
miss_rules probe after ts =
    (slice_get ts 0, word_rules (codes "miss") (slice_get ts 0))
    ∷ (slice_get ts 1, index_rules probe after (slice_get ts 1))
    ∷ (slice_get ts 2, answer_rules probe (read_in probe (slice_get ts 1)) (slice_get ts 2))
    ∷ (slice_get ts 3, end_rules (slice_get ts 3))
    ∷ []

-- a line of a miss that is refused tells the least rule that its first wrong token breaks
abbrev pub MissRefusalsAreLeast : Type 0
MissRefusalsAreLeast =
    (probe : Probe) (after : Option ℕ) (text : List ℕ) (refusal : LocateRefusal) → miss_line probe after text ≡ Err refusal
    → TellsTheFirst (length text + 1) (miss_rules probe after (tokens 1 text)) refusal

-- the set, and the block, that tokens name
abbrev pub set_in : List ParamSet → Option Token → Option ParamSet
set_in sets t = option_map (set_at sets) (value_in number_of t)

abbrev pub block_in : Option ParamSet → Option Token → Option Block
block_in set t = option_and_then (λ (s : ParamSet). option_map (block_at s.blocks) (value_in number_of t)) set

-- the rules of the numbers of a set, a block and a slice
abbrev pub known_set_rules : List ParamSet → Option Token → List Rule
known_set_rules sets t =
    (NotLocated, holds (λ s. nat_lt s (length sets) && is_transparent (set_at sets s).alg) (value_in number_of t))
    ∷ (SliceUnknown, holds (λ s. nat_le (length sets) s) (value_in number_of t)) ∷ []

abbrev pub set_rules : List ParamSet → Option Token → List Rule
set_rules sets t = value_rules number_of t (known_set_rules sets t)

abbrev pub known_block_rules : Option ParamSet → Option Token → List Rule
known_block_rules set t =
    (SliceUnknown, holds (λ b. holds (λ (s : ParamSet). nat_le (length s.blocks) b) set) (value_in number_of t)) ∷ []

abbrev pub block_rules : Option ParamSet → Option Token → List Rule
block_rules set t = value_rules number_of t (known_block_rules set t)

-- whether a slice has more than 128 bits
abbrev pub is_wide : Shape → Slice → Bool
is_wide shape slice = nat_lt 128 (slice.n * width_bits shape.width)

abbrev pub has_wide_slice : Shape → ParamSet → ℕ → Block → Bool
has_wide_slice shape set j block =
    nat_lt j (slice_count set.atomic block.span) && is_wide shape (slice_of set.atomic block.span (j * set.atomic))

abbrev pub known_slice_rules : Shape → Option ParamSet → Option Block → Option Token → List Rule
known_slice_rules shape set block t =
    (TooManyBits, holds (λ j. holds (λ s. holds (has_wide_slice shape s j) block) set) (value_in number_of t))
    ∷ (SliceUnknown, holds (λ j. holds (λ (s : ParamSet). holds (λ (k : Block). nat_le (slice_count s.atomic k.span) j) block) set) (value_in number_of t)) ∷ []

abbrev pub slice_rules : Shape → Option ParamSet → Option Block → Option Token → List Rule
slice_rules shape set block t = value_rules number_of t (known_slice_rules shape set block t)

-- the tokens of `slice S B J` with their rules
abbrev pub slice_line_rules : Shape → List ParamSet → List Token → List (Option Token × List Rule)
slice_line_rules shape sets ts =
    (slice_get ts 0, word_rules (codes "slice") (slice_get ts 0))
    ∷ (slice_get ts 1, set_rules sets (slice_get ts 1))
    ∷ (slice_get ts 2, block_rules (set_in sets (slice_get ts 1)) (slice_get ts 2))
    ∷ (slice_get ts 3, slice_rules shape (set_in sets (slice_get ts 1)) (block_in (set_in sets (slice_get ts 1)) (slice_get ts 2)) (slice_get ts 3))
    ∷ (slice_get ts 4, end_rules (slice_get ts 4))
    ∷ []

-- a line of a slice that is refused tells the least rule that its first wrong token breaks
abbrev pub SliceRefusalsAreLeast : Type 0
SliceRefusalsAreLeast =
    (shape : Shape) (initial : ℕ) (sets : List ParamSet) (text : List ℕ) (refusal : LocateRefusal) → slice_line shape initial sets text ≡ Err refusal
    → TellsTheFirst (length text + 1) (slice_line_rules shape sets (tokens 1 text)) refusal
