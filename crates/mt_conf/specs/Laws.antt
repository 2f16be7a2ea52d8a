-- Laws of readings.
use Rattle.std.specs.Prelude.{◌≡◌, ◌≤◌, ◌⊎◌, codes, List, [], ◌∷◌, ◌++◌, All, Option, Some, None}
use Rattle.toml.specs.Data.{Members, get_member}
use Rattle.mt_conf.specs.declared.config.ConfigRefusal.{ConfigRefusal}
use Rattle.mt_conf.specs.Lookup.{array_at}
use Rattle.mt_conf.specs.Keys.{IsKeyed, OfTables}
use Rattle.mt_conf.specs.Outcome.{rules_of, first_broken, config_of, number_of}
use Rattle.mt_conf.specs.declared.config.Config.{Config}
use Rattle.mt_conf.specs.Accepted.{IsAcceptedConfig}
use Rattle.mt_conf.specs.Fields.{IsOfTable}

-- the refusal is that of a broken rule, and no rule before it is broken
abbrev pub IsFirst : List (Option ConfigRefusal) → ConfigRefusal → Type 0
IsFirst rules refusal = (before after : List (Option ConfigRefusal)) × (rules ≡ before ++ Some refusal ∷ after) × All (λ rule. rule ≡ None) before

-- a refusal's rule is broken, and every rule before it holds
abbrev pub RefusalIsLeast : Type 0
RefusalIsLeast = (t : Members) (e : ConfigRefusal) → first_broken t ≡ Some e → IsFirst (rules_of t) e

-- where nothing is refused, every rule holds
abbrev pub AcceptedBreaksNoRule : Type 0
AcceptedBreaksNoRule = (t : Members) → first_broken t ≡ None → All (λ rule. rule ≡ None) (rules_of t)

-- where nothing is refused, the configuration is one that the modules take
abbrev pub AcceptedIsTaken : Type 0
AcceptedIsTaken = (t : Members) → first_broken t ≡ None → IsAcceptedConfig (config_of t)

-- where nothing is refused, each field of the configuration is the table's entry of that name, or its default
abbrev pub FieldsAreEntries : Type 0
FieldsAreEntries = (t : Members) → first_broken t ≡ None → IsOfTable t (config_of t)

-- a rule is broken
abbrev pub IsBroken : List (Option ConfigRefusal) → ConfigRefusal → Type 0
IsBroken [] e = ⊥
IsBroken (rule ∷ rules) e = (rule ≡ Some e) ⊎ IsBroken rules e

-- the refusal has the least number of those of the rules that are broken
abbrev pub RefusalHasLeastNumber : Type 0
RefusalHasLeastNumber = (t : Members) (e other : ConfigRefusal) → first_broken t ≡ Some e → IsBroken (rules_of t) other → number_of e ≤ number_of other

-- where nothing is refused, no table has a key that is not listed
abbrev pub AcceptedHasListedKeys : Type 0
AcceptedHasListedKeys = (t : Members) → first_broken t ≡ None → IsKeyed t

-- version 1 has no key `retries`
abbrev pub IsOfItsVersion : Members → Config → Type 0
IsOfItsVersion t config = config.version ≡ 1 → OfTables (λ s. get_member (codes "retries") s ≡ None) (array_at (codes "set") t)

-- A table whose entries are the fields of a configuration that the modules take, and that has no key that is not listed, is
-- not refused.
abbrev pub EachIsAccepted : Type 0
EachIsAccepted = (t : Members) (config : Config) → IsOfTable t config → IsAcceptedConfig config → IsKeyed t → IsOfItsVersion t config → first_broken t ≡ None
