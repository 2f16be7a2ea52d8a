-- Laws of marches and their texts.
use Rattle.std.specs.Prelude.{◌≡◌, ◌<◌, ◌≤◌, ◌-◌, ◌↔◌, ℕ, List, Some, None, slice_index}
use Rattle.mt_march.specs.declared.march.Element.{Element}
use Rattle.mt_march.specs.declared.march.MarchKind.{MarchKind}
use Rattle.mt_march.specs.declared.march.MarchRefusal.{MarchRefusal}
use Rattle.mt_march.specs.Grammar.{IsMarch, SpellsMarch}
use Rattle.mt_march.specs.Placed.{MarchAt, elements_of, SpellsMarchAt}
use Rattle.mt_march.specs.Rules.{rule_broken}
use Rattle.mt_march.specs.Reading.{Refuses, march_number, march_refusal}
use Rattle.mt_march.specs.Value.{march_of}
use Rattle.mt_march.specs.Accepted.{IsAcceptedMarch}
use Rattle.mt_march.specs.Canonical.{canonical}
use Rattle.mt_march.specs.Broken.{Breaks}

-- the march of a text breaks no rule exactly where it is an accepted one
abbrev pub AcceptedBreaksNoRule : Type 0
AcceptedBreaksNoRule = (text : List ℕ) (march : MarchAt) → SpellsMarchAt text march → (rule_broken march ≡ None) ↔ IsAcceptedMarch (elements_of march)

-- an accepted march has a text
abbrev pub AcceptedIsMarch : Type 0
AcceptedIsMarch = (march : List Element) → IsAcceptedMarch march → IsMarch march

-- the canonical text spells its march
abbrev pub CanonicalSpells : Type 0
CanonicalSpells = (march : List Element) → IsMarch march → SpellsMarch (canonical march) march

-- a byte of the canonical text is a space exactly where the byte before it is a semicolon
abbrev pub SpacesFollowSemicolons : Type 0
SpacesFollowSemicolons = (march : List Element) (i : ℕ)
    → (slice_index (canonical march) i ≡ 32) ↔ ((0 < i) × (slice_index (canonical march) (i - 1) ≡ 59))

-- a text spells one march
abbrev pub SpellsOne : Type 0
SpellsOne = (text : List ℕ) (a b : List Element) → SpellsMarch text a → SpellsMarch text b → a ≡ b

-- a march that is spelled at places is spelled
abbrev pub PlacedIsSpelled : Type 0
PlacedIsSpelled = (text : List ℕ) (march : MarchAt) → SpellsMarchAt text march → SpellsMarch text (elements_of march)

-- a march that is spelled has places
abbrev pub SpelledHasPlaces : Type 0
SpelledHasPlaces = (text : List ℕ) (march : List Element) → SpellsMarch text march → (placed : MarchAt) × SpellsMarchAt text placed × (elements_of placed ≡ march)

-- and no others
abbrev pub PlacesAreOne : Type 0
PlacesAreOne = (text : List ℕ) (a b : MarchAt) → SpellsMarchAt text a → SpellsMarchAt text b → a ≡ b

-- a text has the refusal that refuses it
abbrev pub RefusalIsOfText : Type 0
RefusalIsOfText = (text : List ℕ) (refusal : MarchRefusal) → Refuses text refusal ↔ (march_refusal text ≡ Some refusal)

-- a text that has none spells a march, which is an accepted one
abbrev pub UnrefusedIsMarch : Type 0
UnrefusedIsMarch = (text : List ℕ) → march_refusal text ≡ None → SpellsMarch text (march_of text) × IsAcceptedMarch (march_of text)

-- a text breaks the rule of its refusal, and breaks none that has a lesser number
abbrev pub RefusalIsLeast : Type 0
RefusalIsLeast = (text : List ℕ) (refusal : MarchRefusal) → Refuses text refusal
    → Breaks refusal.kind text × ((kind : MarchKind) → Breaks kind text → march_number refusal.kind ≤ march_number kind)
