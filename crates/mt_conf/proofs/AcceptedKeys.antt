-- Fields break none of the rules on keys.
use Rattle.std.proofs.Common.{◌≡◌, ℕ, Bool, true, false, List, [], ◌∷◌, refl, sym, ap, subst, inl, inr}
use Rattle.std.specs.Prelude.{◌||◌, not, codes}
use Rattle.std.specs.List.{list_any}
use Rattle.std.specs.Str.{bytes_eq}
use Rattle.std.proofs.lemmas.Slice.Eq.{bytes_eq-Decides}
use Rattle.toml.specs.Data.{string, integer, Members, no_members, member}
use Rattle.mt_word.specs.declared.Width.{Width}
use Rattle.mt_blocks.specs.declared.config.Block.{Block as RamBlock}
use Rattle.mt_blocks.specs.declared.config.FlashBlock.{FlashBlock as CopiedBlock}
use Rattle.mt_blocks.specs.declared.config.ParamSet.{ParamSet}
use Rattle.mt_blocks.specs.declared.config.FlsConfig.{FlsConfig}
use Rattle.mt_conf.specs.declared.config.Config.{Config}
use Rattle.mt_conf.specs.declared.schema.Part.{Part}
use Rattle.mt_conf.specs.declared.schema.Part.TheVariants.{Top, Set, Block, Fls, FlashBlock}
use Rattle.mt_conf.specs.declared.shape.KeyRule.{KeyRule}
use Rattle.mt_conf.specs.declared.shape.KeyRule.TheVariants.{UnknownKey, MissingKey, WrongType}
use Rattle.mt_conf.specs.Canonical.{algorithm_name, policy_name}
use Rattle.mt_conf.specs.Lookup.{array_at}
use Rattle.mt_conf.specs.Schema.{Row, rows_of}
use Rattle.mt_conf.specs.Rules.{any_at, any_block, any_flash_block, any_in_set, any_in_fls, any_set, breaks, breaks_somewhere, has_unlisted_key, lacks_key, has_wrong_type, in_fls, is_listed, keys_of}
use Rattle.mt_conf.specs.Fields.{IsBlock, IsSet, IsFlashBlock, IsFls, IsOfTable, HasTables}
use Rattle.mt_conf.specs.Keys.{keys_in, HasOnly, IsAmong, OfTables, IsKeyedSet, IsKeyedFls, IsKeyed}
use Rattle.mt_conf.proofs.Keyed.{row_keys, rows_are}
use Rattle.mt_conf.proofs.Accepting.{or_both, needed, number_kind, there, named_at, name_kind, word_kind, march_kind, tables_at, tables_kind, tables_there, none_passes, any_items, fls_kind, fls_passes_not}

-- ---- keys that are listed

true_or : (a b : Bool) → a ≡ true → (a || b) ≡ true
true_or true b e = refl
true_or false b e = absurd cc

or_true : (a b : Bool) → b ≡ true → (a || b) ≡ true
or_true true b e = refl
or_true false b e = e

among : (rows : List Row) (key : List ℕ) → IsAmong (row_keys rows) key → is_listed rows key ≡ true
among [] key h = absurd h
among (row ∷ rows) key (inl same) = true_or (bytes_eq row.key key) (is_listed rows key) ((bytes_eq-Decides row.key key).1 same)
among (row ∷ rows) key (inr later) = or_true (bytes_eq row.key key) (is_listed rows key) (among rows key later)

only : (rows : List Row) (ms : Members) → HasOnly (row_keys rows) ms → list_any (λ key. not (is_listed rows key)) (keys_of ms) ≡ false
only rows no_members h = refl
only rows (member key d ms) h = or_both (not (is_listed rows key)) (list_any (λ k. not (is_listed rows k)) (keys_of ms)) (ap not (among rows key h.0)) (only rows ms h.1)

listed : (part : Part) (t : Members) → HasOnly (keys_in part) t → has_unlisted_key part t ≡ false
unfolding has_unlisted_key
listed part t h = only (rows_of part) t (subst (λ (keys : List (List ℕ)). HasOnly keys t) (sym (rows_are part)) h)

-- ---- blocks of RAM words

block_breaks : (rule : KeyRule) (width : Width) (t : Members) (b : RamBlock) → IsBlock width t b → HasOnly (keys_in Block) t → breaks rule Block t ≡ false
unfolding lacks_key has_wrong_type
block_breaks UnknownKey width t b is keys = listed Block t keys
block_breaks MissingKey width t b is keys =
    let first = there (codes "first") t (integer _) (needed Block (codes "first") t b.span.first refl is.first) in
    let last = there (codes "last") t (integer _) (needed Block (codes "last") t b.span.last refl is.last) in
    let policy = there (codes "policy") t (string _) (named_at Block (codes "policy") t (policy_name b.policy) is.policy) in
    or_both _ _ (ap not first) (or_both _ _ (ap not last) (or_both _ _ (ap not policy) refl))
block_breaks WrongType width t b is keys =
    or_both _ _ (number_kind Block (codes "first") t b.span.first is.first)
    (or_both _ _ (number_kind Block (codes "last") t b.span.last is.last)
    (or_both _ _ (name_kind Block (codes "policy") t (policy_name b.policy) is.policy)
    (or_both _ _ (word_kind width Block (codes "fill") t b.fill is.fill) refl)))

-- ---- sets

set_alone : (rule : KeyRule) (width : Width) (s : Members) (set : ParamSet) → IsSet width s set → HasOnly (keys_in Set) s → breaks rule Set s ≡ false
unfolding lacks_key has_wrong_type
set_alone UnknownKey width s set is keys = listed Set s keys
set_alone MissingKey width s set is keys =
    let algorithm = there (codes "algorithm") s (string _) (named_at Set (codes "algorithm") s (algorithm_name set.alg) is.algorithm) in
    let atomic = there (codes "atomic") s (integer _) (needed Set (codes "atomic") s set.atomic refl is.atomic) in
    let cells = there (codes "cells") s (integer _) (needed Set (codes "cells") s set.cells refl is.cells) in
    let block = tables_there Set (codes "block") s (IsBlock width) set.blocks refl is.blocks in
    or_both _ _ (ap not algorithm) (or_both _ _ (ap not atomic) (or_both _ _ (ap not cells) (or_both _ _ (ap not block) refl)))
set_alone WrongType width s set is keys =
    or_both _ _ (name_kind Set (codes "algorithm") s (algorithm_name set.alg) is.algorithm)
    (or_both _ _ (march_kind s set.alg is.march)
    (or_both _ _ (word_kind width Set (codes "background") s set.background is.background)
    (or_both _ _ (number_kind Set (codes "atomic") s set.atomic is.atomic)
    (or_both _ _ (number_kind Set (codes "cells") s set.cells is.cells)
    (or_both _ _ (number_kind Set (codes "retries") s set.retries is.retries)
    (or_both _ _ (tables_kind Set (codes "block") s (IsBlock width) set.blocks is.blocks) refl))))))

set_breaks : (rule : KeyRule) (width : Width) (s : Members) (set : ParamSet) → IsSet width s set → IsKeyedSet s → any_in_set (breaks rule) s ≡ false
set_breaks rule width s set is keys =
    or_both (breaks rule Set s) (any_block (breaks rule Block) s) (set_alone rule width s set is keys.own)
    (none_passes (breaks rule Block) (IsBlock width) (λ b. Unit {0}) (HasOnly (keys_in Block)) (λ t b r p q. block_breaks rule width t b r q) (array_at (codes "block") s) set.blocks
    (tables_at Set (codes "block") s (IsBlock width) set.blocks is.blocks) (any_items set.blocks) keys.blocks)

-- ---- `fls`

flash_breaks : (rule : KeyRule) (t : Members) (b : CopiedBlock) → IsFlashBlock t b → HasOnly (keys_in FlashBlock) t → breaks rule FlashBlock t ≡ false
unfolding lacks_key has_wrong_type
flash_breaks UnknownKey t b is keys = listed FlashBlock t keys
flash_breaks MissingKey t b is keys =
    let first = there (codes "first") t (integer _) (needed FlashBlock (codes "first") t b.span.first refl is.first) in
    let last = there (codes "last") t (integer _) (needed FlashBlock (codes "last") t b.span.last refl is.last) in
    let copy = there (codes "copy") t (integer _) (needed FlashBlock (codes "copy") t b.copy refl is.copy) in
    or_both _ _ (ap not first) (or_both _ _ (ap not last) (or_both _ _ (ap not copy) refl))
flash_breaks WrongType t b is keys =
    or_both _ _ (number_kind FlashBlock (codes "first") t b.span.first is.first)
    (or_both _ _ (number_kind FlashBlock (codes "last") t b.span.last is.last)
    (or_both _ _ (number_kind FlashBlock (codes "copy") t b.copy is.copy) refl))

fls_alone : (rule : KeyRule) (f : Members) (fls : FlsConfig) → IsFls f fls → HasOnly (keys_in Fls) f → breaks rule Fls f ≡ false
unfolding lacks_key has_wrong_type
fls_alone UnknownKey f fls is keys = listed Fls f keys
fls_alone MissingKey f fls is keys =
    let atomic = there (codes "atomic") f (integer _) (needed Fls (codes "atomic") f fls.atomic refl is.atomic) in
    let cells = there (codes "cells") f (integer _) (needed Fls (codes "cells") f fls.cells refl is.cells) in
    let end = there (codes "interval_end") f (integer _) (needed Fls (codes "interval_end") f fls.interval_end refl is.interval_end) in
    or_both _ _ (ap not atomic) (or_both _ _ (ap not cells) (or_both _ _ (ap not end) refl))
fls_alone WrongType f fls is keys =
    or_both _ _ (number_kind Fls (codes "atomic") f fls.atomic is.atomic)
    (or_both _ _ (number_kind Fls (codes "cells") f fls.cells is.cells)
    (or_both _ _ (number_kind Fls (codes "interval_end") f fls.interval_end is.interval_end)
    (or_both _ _ (tables_kind Fls (codes "bgnd") f IsFlashBlock fls.bgnd is.bgnd)
    (or_both _ _ (tables_kind Fls (codes "fgnd") f IsFlashBlock fls.fgnd is.fgnd) refl))))

blocks_break : (rule : KeyRule) (key : List ℕ) (f : Members) (blocks : List CopiedBlock) → HasTables Fls key f IsFlashBlock blocks → OfTables (HasOnly (keys_in FlashBlock)) (array_at key f) → any_at key (breaks rule FlashBlock) f ≡ false
blocks_break rule key f blocks is keys =
    none_passes (breaks rule FlashBlock) IsFlashBlock (λ b. Unit {0}) (HasOnly (keys_in FlashBlock)) (λ t b r p q. flash_breaks rule t b r q) (array_at key f) blocks (tables_at Fls key f IsFlashBlock blocks is) (any_items blocks) keys

fls_breaks : (rule : KeyRule) (f : Members) (fls : FlsConfig) → IsFls f fls → IsKeyedFls f → any_in_fls (breaks rule) f ≡ false
fls_breaks rule f fls is keys =
    or_both (breaks rule Fls f) (any_flash_block (breaks rule FlashBlock) f) (fls_alone rule f fls is keys.own)
    (or_both (any_at (codes "bgnd") (breaks rule FlashBlock) f) (any_at (codes "fgnd") (breaks rule FlashBlock) f)
    (blocks_break rule (codes "bgnd") f fls.bgnd is.bgnd keys.bgnd) (blocks_break rule (codes "fgnd") f fls.fgnd is.fgnd keys.fgnd))

-- ---- the document

top_alone : (rule : KeyRule) (t : Members) (config : Config) → IsOfTable t config → HasOnly (keys_in Top) t → breaks rule Top t ≡ false
unfolding lacks_key has_wrong_type
top_alone UnknownKey t config is keys = listed Top t keys
top_alone MissingKey t config is keys =
    let version = there (codes "version") t (integer _) (needed Top (codes "version") t _ refl is.version) in
    let width = there (codes "width") t (integer _) (needed Top (codes "width") t _ refl is.width) in
    let ram = there (codes "ram") t (integer _) (needed Top (codes "ram") t _ refl is.ram) in
    let set = tables_there Top (codes "set") t (IsSet config.shape.width) config.ram_tst.sets refl is.sets in
    or_both _ _ (ap not version) (or_both _ _ (ap not width) (or_both _ _ (ap not ram) (or_both _ _ (ap not set) refl)))
top_alone WrongType t config is keys =
    or_both _ _ (number_kind Top (codes "version") t _ is.version)
    (or_both _ _ (number_kind Top (codes "width") t _ is.width)
    (or_both _ _ (number_kind Top (codes "ram") t _ is.ram)
    (or_both _ _ (number_kind Top (codes "flash") t _ is.flash)
    (or_both _ _ (word_kind config.shape.width Top (codes "initial") t config.initial is.initial)
    (or_both _ _ (tables_kind Top (codes "set") t (IsSet config.shape.width) config.ram_tst.sets is.sets)
    (or_both _ _ (fls_kind t config.fls_tst is.fls_tst) refl))))))

pub keys_break : (rule : KeyRule) (t : Members) (config : Config) → IsOfTable t config → IsKeyed t → breaks_somewhere rule t ≡ false
unfolding breaks_somewhere
keys_break rule t config is keys =
    or_both (breaks rule Top t || any_set (any_in_set (breaks rule)) t) (in_fls (any_in_fls (breaks rule)) t)
    (or_both (breaks rule Top t) (any_set (any_in_set (breaks rule)) t) (top_alone rule t config is keys.own)
    (none_passes (any_in_set (breaks rule)) (IsSet config.shape.width) (λ s. Unit {0}) IsKeyedSet (λ s set r p q. set_breaks rule config.shape.width s set r q) (array_at (codes "set") t) config.ram_tst.sets
    (tables_at Top (codes "set") t (IsSet config.shape.width) config.ram_tst.sets is.sets) (any_items config.ram_tst.sets) keys.sets))
    (fls_passes_not (any_in_fls (breaks rule)) t config.fls_tst (λ f e r. fls_breaks rule f config.fls_tst r (keys.fls_tst f e)) is.fls_tst)
