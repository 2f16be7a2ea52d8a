-- What refuses a march text.
use Rattle.std.specs.Prelude.{◌≡◌, ◌⊎◌, ℕ, List, Option, Some}
use Rattle.mt_march.specs.Grammar.{IsSpellingPlace}
use Rattle.mt_march.specs.Placed.{MarchAt, SpellsMarchAt}
use Rattle.mt_march.specs.Rules.{or_else, rule_broken}
use Rattle.mt_march.specs.Machine.{fault}
use Rattle.mt_march.specs.Scan.{rule_found}
use Rattle.mt_march.specs.declared.spelling.Expects.TheVariants.{Brace}
use Rattle.mt_march.specs.declared.march.MarchKind.{MarchKind}
use Rattle.mt_march.specs.declared.march.MarchKind.TheVariants.{Spelling, TooLong, ReadBeforeWrite, WrongExpectation, OneValueOnly}
use Rattle.mt_march.specs.declared.march.MarchRefusal.{MarchRefusal}

-- the text is of no march, or the march that it spells breaks a rule
abbrev pub Refuses : List ℕ → MarchRefusal → Type 0
Refuses text refusal =
    ((refusal.kind ≡ Spelling) × IsSpellingPlace text refusal.place)
    ⊎ ((march : MarchAt) × SpellsMarchAt text march × (rule_broken march ≡ Some refusal))

-- the numbers of the rules
abbrev pub march_number : MarchKind → ℕ
march_number Spelling = 1
march_number TooLong = 2
march_number ReadBeforeWrite = 3
march_number WrongExpectation = 4
march_number OneValueOnly = 5

-- the refusal of a text, where there is one, as the reader comes to it
unfoldable pub march_refusal : List ℕ → Option MarchRefusal
march_refusal text = or_else (fault Brace 1 text) Spelling (rule_found text)
