-- What a configuration has for each key of its tables: the entry of that name, or the default of the key's row.
use Rattle.std.specs.Prelude.{ℕ, pos, ◌≡◌, ◌⊎◌, List, [], ◌∷◌, codes, Some, None}
use Rattle.toml.specs.Data.{Data, integer, string, array, table, Items, Members, get_member}
use Rattle.mt_word.specs.declared.Width.{Width}
use Rattle.mt_word.specs.Word.{width_bits}
use Rattle.mt_hex.specs.Hex.{word_of}
use Rattle.mt_march.specs.Grammar.{SpellsMarch}
use Rattle.mt_march.specs.Known.{march_c_minus}
use Rattle.mt_plan.specs.declared.algorithm.Algorithm.{Algorithm}
use Rattle.mt_plan.specs.declared.algorithm.Algorithm.TheVariants.{March as Marches}
use Rattle.mt_blocks.specs.declared.config.Block.{Block as RamBlock}
use Rattle.mt_blocks.specs.declared.config.FlashBlock.{FlashBlock as CopiedBlock}
use Rattle.mt_blocks.specs.declared.config.ParamSet.{ParamSet}
use Rattle.mt_blocks.specs.declared.config.FlsConfig.{FlsConfig}
use Rattle.mt_conf.specs.declared.config.Config.{Config}
use Rattle.mt_conf.specs.declared.schema.Part.{Part}
use Rattle.mt_conf.specs.declared.schema.Part.TheVariants.{Top, Set, Block, Fls, FlashBlock}
use Rattle.mt_conf.specs.declared.schema.Otherwise.{Otherwise}
use Rattle.mt_conf.specs.declared.schema.Otherwise.TheVariants.{Number, ZeroBits, MarchCMinus, NoBlocks, NoFlashTest}
use Rattle.mt_conf.specs.Schema.{otherwise_of}
use Rattle.mt_conf.specs.Lookup.{listed}
use Rattle.mt_conf.specs.Canonical.{algorithm_name, policy_name}
use Rattle.mt_conf.specs.Outcome.{no_fls}

-- The table has an entry at the key, of which the one holds; or it leaves the key out, and the other holds of the default.
abbrev pub IsField : Part → List ℕ → Members → (Data → Type 0) → (Otherwise → Type 0) → Type 0
IsField part key t IsEntry IsDefault = ((d : Data) × (get_member key t ≡ Some d) × IsEntry d) ⊎ ((get_member key t ≡ None) × IsDefault (otherwise_of part key))

-- a whole number
abbrev pub HasNumber : Part → List ℕ → Members → ℕ → Type 0
HasNumber part key t n = IsField part key t (λ d. d ≡ integer (pos n)) (λ o. o ≡ Number n)

-- a name
abbrev pub HasName : Part → List ℕ → Members → List ℕ → Type 0
HasName part key t name = IsField part key t (λ d. d ≡ string name) (λ o. ⊥)

-- a word of the width
abbrev pub HasWord : Width → Part → List ℕ → Members → ℕ → Type 0
HasWord width part key t word =
    IsField part key t (λ d. (text : List ℕ) × (d ≡ string text) × (word_of width text ≡ Some word)) (λ o. (o ≡ ZeroBits) × (word ≡ 0))

-- each data of a list is a table that has what stands at its place in the other list
abbrev pub AreTables : {X : Type 0} → (Members → X → Type 0) → List Data → List X → Type 0
AreTables IsTable [] [] = Unit {0}
AreTables IsTable (d ∷ ds) (x ∷ xs) = ((t : Members) × (d ≡ table t) × IsTable t x) × AreTables IsTable ds xs
AreTables IsTable _ _ = ⊥

-- an array of tables
abbrev pub HasTables : {X : Type 0} → Part → List ℕ → Members → (Members → X → Type 0) → List X → Type 0
HasTables part key t IsTable xs = IsField part key t (λ d. (ds : Items) × (d ≡ array ds) × AreTables IsTable (listed ds) xs) (λ o. (o ≡ NoBlocks) × (xs ≡ []))

-- a march that the text spells, and March C- where there is none; for the other algorithms none is there
abbrev pub HasMarch : Members → Algorithm → Type 0
HasMarch s (Marches m) =
    IsField Set (codes "march") s (λ d. (text : List ℕ) × (d ≡ string text) × SpellsMarch text m.elements.items) (λ o. (o ≡ MarchCMinus) × (m.elements.items ≡ march_c_minus))
HasMarch s _ = get_member (codes "march") s ≡ None

-- a block of RAM words
pub record IsBlock (width : Width) (t : Members) (b : RamBlock) : Type 0 where
  pub first : HasNumber Block (codes "first") t b.span.first
  pub last : HasNumber Block (codes "last") t b.span.last
  pub policy : HasName Block (codes "policy") t (policy_name b.policy)
  pub fill : HasWord width Block (codes "fill") t b.fill

-- a parameter set
pub record IsSet (width : Width) (t : Members) (set : ParamSet) : Type 0 where
  pub algorithm : HasName Set (codes "algorithm") t (algorithm_name set.alg)
  pub march : HasMarch t set.alg
  pub background : HasWord width Set (codes "background") t set.background
  pub atomic : HasNumber Set (codes "atomic") t set.atomic
  pub cells : HasNumber Set (codes "cells") t set.cells
  pub retries : HasNumber Set (codes "retries") t set.retries
  pub blocks : HasTables Set (codes "block") t (IsBlock width) set.blocks

-- a block of flash words
pub record IsFlashBlock (t : Members) (b : CopiedBlock) : Type 0 where
  pub first : HasNumber FlashBlock (codes "first") t b.span.first
  pub last : HasNumber FlashBlock (codes "last") t b.span.last
  pub copy : HasNumber FlashBlock (codes "copy") t b.copy

-- what FlsTst compares
pub record IsFls (t : Members) (fls : FlsConfig) : Type 0 where
  pub atomic : HasNumber Fls (codes "atomic") t fls.atomic
  pub cells : HasNumber Fls (codes "cells") t fls.cells
  pub interval_end : HasNumber Fls (codes "interval_end") t fls.interval_end
  pub bgnd : HasTables Fls (codes "bgnd") t IsFlashBlock fls.bgnd
  pub fgnd : HasTables Fls (codes "fgnd") t IsFlashBlock fls.fgnd

-- a configuration
pub record IsOfTable (t : Members) (config : Config) : Type 0 where
  pub version : HasNumber Top (codes "version") t config.version
  pub width : HasNumber Top (codes "width") t (width_bits config.shape.width)
  pub ram : HasNumber Top (codes "ram") t config.shape.ram
  pub flash : HasNumber Top (codes "flash") t config.shape.flash
  pub initial : HasWord config.shape.width Top (codes "initial") t config.initial
  pub sets : HasTables Top (codes "set") t (IsSet config.shape.width) config.ram_tst.sets
  pub fls_tst : IsField Top (codes "fls") t (λ d. (f : Members) × (d ≡ table f) × IsFls f config.fls_tst) (λ o. (o ≡ NoFlashTest) × (config.fls_tst ≡ no_fls))
