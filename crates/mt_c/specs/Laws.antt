-- The rules of a set-up, each by itself, and which of them C is told.
use Rattle.std.specs.Prelude.{ℕ, ◌+◌, ◌^◌, ◌<◌, ◌≤◌, ◌≡◌, ◌≢◌, ◌⊎◌, true, List, [], ◌∷◌, length, codes}
use Rattle.std.specs.List.{list_any}
use Rattle.std.specs.Str.{bytes_eq}
use Rattle.mt_march.specs.declared.march.MarchKind.{MarchKind}
use Rattle.mt_march.specs.Broken as march
use Rattle.mt_march.specs.Reading.{march_number}
use Rattle.mt_c.specs.declared.state.MtSettings.{MtSettings}
use Rattle.mt_c.specs.Codes.{refusal_told}

pub data Rule : Type 0 where
  BadWidth : Rule
  BadPolicy : Rule
  BadCount : Rule
  BadAddresses : Rule
  BadBackground : Rule
  BadFill : Rule
  LongText : Rule
  TransparentFill : Rule
  BadMarch : MarchKind → Rule

-- the numbers of the rules
abbrev pub rule_number : Rule → ℕ
rule_number BadWidth = 1
rule_number BadPolicy = 2
rule_number BadCount = 3
rule_number BadAddresses = 4
rule_number BadBackground = 5
rule_number BadFill = 6
rule_number LongText = 7
rule_number TransparentFill = 8
rule_number (BadMarch kind) = 8 + march_number kind

-- the names of algorithms
abbrev pub names : List (List ℕ)
names = codes "checkerboard" ∷ codes "walk-path" ∷ codes "galpat" ∷ codes "transparent-galpat" ∷ codes "march-c-minus" ∷ codes "mats-plus" ∷ []

abbrev pub IsName : List ℕ → Type 0
IsName text = list_any (λ name. bytes_eq text name) names ≡ true

-- the numbers of a width are its bits: 8, 16, 32 or 64
pub record IsNoWidth (number : ℕ) : Type 0 where
  pub no_8 : number ≢ 8
  pub no_16 : number ≢ 16
  pub no_32 : number ≢ 32
  pub no_64 : number ≢ 64

-- settings and a text break a rule, whatever other rules they break
abbrev pub Breaks : Rule → MtSettings → List ℕ → Type 0
Breaks BadWidth s text = IsNoWidth s.width
Breaks BadPolicy s text = 1 < s.policy
Breaks BadCount s text = (s.count < 1) ⊎ (64 < s.count)
Breaks BadAddresses s text = 2 ^ 32 ≤ s.first + s.count
Breaks BadBackground s text = 2 ^ s.width ≤ s.background
Breaks BadFill s text = 2 ^ s.width ≤ s.fill
Breaks LongText s text = 448 < length text
Breaks TransparentFill s text = (bytes_eq text (codes "transparent-galpat") ≡ true) × (s.policy ≡ 1)
Breaks (BadMarch kind) s text = ¬ (IsName text) × march.Breaks kind text

-- the rule that is told is broken
abbrev pub ToldRulesAreBroken : Type 0
ToldRulesAreBroken = (s : MtSettings) (text : List ℕ) → (refusal_told s text).rule ≢ 0 → (rule : Rule) × ((rule_number rule ≡ (refusal_told s text).rule) × Breaks rule s text)

-- where a rule is broken one is told, and none with a greater number
abbrev pub LeastRulesAreTold : Type 0
LeastRulesAreTold =
    (s : MtSettings) (text : List ℕ) (rule : Rule) → Breaks rule s text
    → (1 ≤ (refusal_told s text).rule) × ((refusal_told s text).rule ≤ rule_number rule)
