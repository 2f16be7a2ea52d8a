-- The keys that each table of a configuration may have, and no other.
use Rattle.std.specs.Prelude.{ℕ, ◌≡◌, ◌⊎◌, List, [], ◌∷◌, codes, Some}
use Rattle.toml.specs.Data.{Data, table, Members, no_members, member, get_member}
use Rattle.mt_conf.specs.declared.schema.Part.{Part}
use Rattle.mt_conf.specs.declared.schema.Part.TheVariants.{Top, Set, Block, Fls, FlashBlock}
use Rattle.mt_conf.specs.Lookup.{array_at}

abbrev pub keys_in : Part → List (List ℕ)
keys_in Top = codes "version" ∷ codes "width" ∷ codes "ram" ∷ codes "flash" ∷ codes "initial" ∷ codes "set" ∷ codes "fls" ∷ []
keys_in Set = codes "algorithm" ∷ codes "march" ∷ codes "background" ∷ codes "atomic" ∷ codes "cells" ∷ codes "retries" ∷ codes "block" ∷ []
keys_in Block = codes "first" ∷ codes "last" ∷ codes "policy" ∷ codes "fill" ∷ []
keys_in Fls = codes "atomic" ∷ codes "cells" ∷ codes "interval_end" ∷ codes "bgnd" ∷ codes "fgnd" ∷ []
keys_in FlashBlock = codes "first" ∷ codes "last" ∷ codes "copy" ∷ []

abbrev pub IsAmong : List (List ℕ) → List ℕ → Type 0
IsAmong [] key = ⊥
IsAmong (k ∷ ks) key = (k ≡ key) ⊎ IsAmong ks key

-- a table has no other keys
abbrev pub HasOnly : List (List ℕ) → Members → Type 0
HasOnly keys no_members = Unit {0}
HasOnly keys (member key d ms) = IsAmong keys key × HasOnly keys ms

-- what holds of each table of a list
abbrev pub OfTables : (Members → Type 0) → List Data → Type 0
OfTables P [] = Unit {0}
OfTables P (d ∷ ds) = ((t : Members) → d ≡ table t → P t) × OfTables P ds

-- a set and its blocks
pub record IsKeyedSet (s : Members) : Type 0 where
  pub own : HasOnly (keys_in Set) s
  pub blocks : OfTables (HasOnly (keys_in Block)) (array_at (codes "block") s)

-- `fls` and its blocks
pub record IsKeyedFls (f : Members) : Type 0 where
  pub own : HasOnly (keys_in Fls) f
  pub bgnd : OfTables (HasOnly (keys_in FlashBlock)) (array_at (codes "bgnd") f)
  pub fgnd : OfTables (HasOnly (keys_in FlashBlock)) (array_at (codes "fgnd") f)

-- no table of the document has a key that is not listed
pub record IsKeyed (t : Members) : Type 0 where
  pub own : HasOnly (keys_in Top) t
  pub sets : OfTables IsKeyedSet (array_at (codes "set") t)
  pub fls_tst : (f : Members) → get_member (codes "fls") t ≡ Some (table f) → IsKeyedFls f
