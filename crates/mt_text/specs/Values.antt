-- The places of values on a line: what a token spells there, and the table of the rules that it may break, in the order in which they are told.
use Rattle.std.specs.Prelude.{ℕ, ◌^◌, ◌==◌, ◌||◌, nat_lt, nat_le, not, is_none, codes, Bool, true, false, if◌then◌else◌, List, [], ◌∷◌, drop, Option, Some, None, Result, Ok, Err}
use Rattle.std.specs.Str.{bytes_eq}
use Rattle.std.specs.Option.{option_map}
use Rattle.mt_word.specs.Word.{width_bits}
use Rattle.mt_hex.specs.Hex.{hex_of}
use Rattle.mt_fault.specs.declared.fault.Spot.{Spot}
use Rattle.mt_port.specs.declared.board.Shape.{Shape}
use Rattle.mt_text.specs.Tokens.{begins_word, number_of, spot_of}
use Rattle.mt_text.specs.declared.request.Mark.{Mark}
use Rattle.mt_text.specs.declared.line.LineKind.{LineKind}
use Rattle.mt_text.specs.declared.line.LineKind.TheVariants.{Spelling, Number, Address, WordTooWide, OffsetsFall, TooManyRequests, FaultRefused}

-- the places of numbers; an other address isn't that of the word that is named
pub data Slot : Type 0 where
  Num : Slot
  Addr : Slot
  FlashAddr : Slot
  OtherAddr : ℕ → Slot
  Data : Slot
  Bit : Slot

-- the places of spots; an other spot's word isn't the one that is named
pub data SpotSlot : Type 0 where
  RamSpot : SpotSlot
  OtherSpot : ℕ → SpotSlot
  FlashSpot : SpotSlot

-- a rule, and whether a token breaks it
abbrev pub Rule : Type 0
Rule = LineKind × Bool

-- what is true of a value that is spelled
abbrev pub holds : {A : Type 0} → (A → Bool) → Option A → Bool
holds test None = false
holds test (Some x) = test x

-- the first rule that is broken
abbrev pub first_broken : List Rule → Option LineKind
first_broken [] = None
first_broken (rule ∷ rules) = if rule.1 then Some rule.0 else first_broken rules

-- what a token spells, or that rule; where no rule is broken something is spelled
abbrev pub told : {A : Type 0} → Option LineKind → Option A → Result A LineKind
told (Some kind) spelled = Err kind
told None None = Err Number
told None (Some x) = Ok x

-- what a token spells, or the first rule of its place that it breaks
abbrev pub judged : {A : Type 0} → List Rule → Option A → Result A LineKind
judged rules spelled = told (first_broken rules) spelled

-- the bit that is spelled
abbrev pub bit_of : List ℕ → Option ℕ
bit_of bytes = if bytes_eq bytes (codes "0") then Some 0 else (if bytes_eq bytes (codes "1") then Some 1 else None)

-- ---- in the place of a number

-- what the word spells
abbrev pub spelled_in : Slot → List ℕ → Option ℕ
spelled_in Data bytes = hex_of bytes
spelled_in Bit bytes = bit_of bytes
spelled_in slot bytes = number_of bytes

-- an address that is not below its size
abbrev pub is_outside : Shape → Slot → ℕ → Bool
is_outside shape Addr n = not (nat_lt n shape.ram)
is_outside shape (OtherAddr a) n = not (nat_lt n shape.ram)
is_outside shape FlashAddr n = not (nat_lt n shape.flash)
is_outside shape slot n = false

-- a word that does not fit
abbrev pub is_too_wide : Shape → Slot → ℕ → Bool
is_too_wide shape Data n = not (nat_lt n (2 ^ width_bits shape.width))
is_too_wide shape slot n = false

-- the address that was named before
abbrev pub is_first_address : Slot → ℕ → Bool
is_first_address (OtherAddr a) n = n == a
is_first_address slot n = false

abbrev pub value_rules : Shape → Slot → List ℕ → List Rule
value_rules shape slot bytes =
    (Spelling, not (begins_word bytes))
    ∷ (Number, is_none (spelled_in slot bytes))
    ∷ (Address, holds (is_outside shape slot) (spelled_in slot bytes))
    ∷ (WordTooWide, holds (is_too_wide shape slot) (spelled_in slot bytes))
    ∷ (FaultRefused, holds (is_first_address slot) (spelled_in slot bytes))
    ∷ []

unfoldable pub value_at : Shape → Slot → List ℕ → Result ℕ LineKind
value_at shape slot bytes = judged (value_rules shape slot bytes) (spelled_in slot bytes)

-- ---- in the place of a spot

-- the number of words of the memory
abbrev pub size_of : Shape → SpotSlot → ℕ
size_of shape RamSpot = shape.ram
size_of shape (OtherSpot a) = shape.ram
size_of shape FlashSpot = shape.flash

-- the word that was named before
abbrev pub is_first_word : SpotSlot → ℕ → Bool
is_first_word (OtherSpot a) word = word == a
is_first_word slot word = false

-- the spot that a word spells
abbrev pub spot_in : List ℕ → Option Spot
spot_in bytes = option_map (λ p. record { word = p.0; bit = p.1 }) (spot_of bytes)

abbrev pub spot_rules : Shape → SpotSlot → List ℕ → List Rule
spot_rules shape slot bytes =
    (Spelling, not (begins_word bytes))
    ∷ (Number, is_none (spot_in bytes))
    ∷ (Address, holds (λ s. not (nat_lt s.word (size_of shape slot))) (spot_in bytes))
    ∷ (FaultRefused, holds (λ s. not (nat_lt s.bit (width_bits shape.width)) || is_first_word slot s.word) (spot_in bytes))
    ∷ []

unfoldable pub spot_at : Shape → SpotSlot → List ℕ → Result Spot LineKind
spot_at shape slot bytes = judged (spot_rules shape slot bytes) (spot_in bytes)

-- ---- in the place of a request

-- the byte of a mark: `!` where the request is urgent, else `@`
abbrev pub mark_byte : Bool → ℕ
mark_byte true = 33
mark_byte false = 64

-- a request's mark is first
abbrev pub begins_mark : List ℕ → Bool
begins_mark [] = false
begins_mark (b ∷ bs) = b == mark_byte false || b == mark_byte true

-- the mark of an urgent request is first
abbrev pub begins_urgent : List ℕ → Bool
begins_urgent [] = false
begins_urgent (b ∷ bs) = b == mark_byte true

-- the mark that a word spells
abbrev pub mark_in : List ℕ → Option Mark
mark_in bytes = option_map (λ n. record { offset = n; urgent = begins_urgent bytes }) (number_of (drop 1 bytes))

abbrev pub mark_rules : ℕ → ℕ → List ℕ → List Rule
mark_rules last count bytes =
    (Spelling, not (begins_mark bytes))
    ∷ (Number, is_none (mark_in bytes))
    ∷ (OffsetsFall, holds (λ k. nat_lt k.offset last) (mark_in bytes))
    ∷ (TooManyRequests, nat_le 16 count)
    ∷ []

unfoldable pub mark_at : ℕ → ℕ → List ℕ → Result Mark LineKind
mark_at last count bytes = judged (mark_rules last count bytes) (mark_in bytes)
