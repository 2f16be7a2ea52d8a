-- Which rules a text breaks, each by itself.
use Rattle.std.specs.Prelude.{◌≡◌, ◌≤◌, ◌&&◌, ℕ, true, false, All, List, length, None}
use Rattle.mt_march.specs.declared.march.Element.{Element}
use Rattle.mt_march.specs.declared.march.MarchKind.{MarchKind}
use Rattle.mt_march.specs.declared.march.MarchKind.TheVariants.{Spelling, TooLong, ReadBeforeWrite, WrongExpectation, OneValueOnly}
use Rattle.mt_march.specs.Grammar.{IsText, SpellsMarch}
use Rattle.mt_march.specs.Accepted.{operations, begins_with_write, reads_agree, reads}

-- at most 16 elements, of at most 8 operations each
pub record IsShort (march : List Element) : Type 0 where
  pub few : length march ≤ 16
  pub short : All (λ (e : Element). length e.ops.items ≤ 8) march

-- a march that breaks a rule
abbrev pub BreaksRule : MarchKind → List Element → Type 0
BreaksRule Spelling march = ⊥
BreaksRule TooLong march = ¬ (IsShort march)
BreaksRule ReadBeforeWrite march = begins_with_write (operations march) ≡ false
BreaksRule WrongExpectation march = reads_agree None (operations march) ≡ false
BreaksRule OneValueOnly march = (reads false (operations march) && reads true (operations march)) ≡ false

-- the march that a text spells breaks a rule
abbrev pub SpellsBreaking : MarchKind → List ℕ → Type 0
SpellsBreaking kind text = (march : List Element) × SpellsMarch text march × BreaksRule kind march

-- a text breaks a rule, whatever other rules it breaks
abbrev pub Breaks : MarchKind → List ℕ → Type 0
Breaks Spelling text = ¬ (IsText text)
Breaks TooLong text = SpellsBreaking TooLong text
Breaks ReadBeforeWrite text = SpellsBreaking ReadBeforeWrite text
Breaks WrongExpectation text = SpellsBreaking WrongExpectation text
Breaks OneValueOnly text = SpellsBreaking OneValueOnly text
