-- The keys of a table that breaks no rule.
use Rattle.std.proofs.Common.{◌≡◌, ℕ, Bool, true, false, List, [], ◌∷◌, refl, sym, ap, ◌∙◌, subst, inl, inr}
use Rattle.std.specs.Prelude.{◌||◌, not, codes}
use Rattle.std.specs.List.{list_any}
use Rattle.std.specs.Str.{bytes_eq}
use Rattle.std.proofs.lemmas.Bool.{or_parts, or_cases}
use Rattle.std.proofs.lemmas.Slice.Eq.{bytes_eq-Decides}
use Rattle.toml.specs.Data.{Data, Members, no_members, member}
use Rattle.mt_conf.specs.declared.schema.Part.{Part}
use Rattle.mt_conf.specs.declared.schema.Part.TheVariants.{Top, Set, Block, Fls, FlashBlock}
use Rattle.mt_conf.specs.declared.shape.KeyRule.TheVariants.{UnknownKey}
use Rattle.mt_conf.specs.Lookup.{array_at}
use Rattle.mt_conf.specs.Schema.{Row, rows_of}
use Rattle.mt_conf.specs.Rules.{any_at, any_block, any_flash_block, any_in_set, any_in_fls, any_set, breaks, breaks_somewhere, has_unlisted_key, in_fls, in_option, in_table, is_listed, keys_of}
use Rattle.mt_conf.specs.Outcome.{first_broken, rules_of}
use Rattle.mt_conf.specs.Keys.{keys_in, HasOnly, IsAmong, OfTables, IsKeyedSet, IsKeyedFls, IsKeyed}
use Rattle.mt_conf.specs.Laws.{AcceptedHasListedKeys}
use Rattle.mt_conf.proofs.Least.{holds, none_by}
use Rattle.mt_conf.proofs.Numbers.{not_false}

-- the keys of rows
abbrev pub row_keys : List Row → List (List ℕ)
row_keys [] = []
row_keys (row ∷ rows) = row.key ∷ row_keys rows

among : (rows : List Row) (key : List ℕ) → is_listed rows key ≡ true → IsAmong (row_keys rows) key
among [] key h = absurd cc
among (row ∷ rows) key h =
    elim (or_cases (bytes_eq row.key key) (is_listed rows key) h) [
      | inl e ↦ inl ((bytes_eq-Decides row.key key).0 e)
      | inr later ↦ inr (among rows key later)
    ]

pub rows_are : (part : Part) → row_keys (rows_of part) ≡ keys_in part
rows_are Top = refl
rows_are Set = refl
rows_are Block = refl
rows_are Fls = refl
rows_are FlashBlock = refl

only : (rows : List Row) (ms : Members) → list_any (λ key. not (is_listed rows key)) (keys_of ms) ≡ false → HasOnly (row_keys rows) ms
only rows no_members h = tt
only rows (member key d ms) h =
    let parts = or_parts (not (is_listed rows key)) (list_any (λ k. not (is_listed rows k)) (keys_of ms)) h in
    (among rows key (not_false _ parts.0), only rows ms parts.1)

listed : (part : Part) (t : Members) → breaks UnknownKey part t ≡ false → HasOnly (keys_in part) t
unfolding has_unlisted_key
listed part t h = subst (λ (keys : List (List ℕ)). HasOnly keys t) (rows_are part) (only (rows_of part) t h)

of_tables : (test : Members → Bool) (P : Members → Type 0) → ((t : Members) → test t ≡ false → P t) → (ds : List Data) → list_any (in_table test) ds ≡ false → OfTables P ds
of_tables test P each [] h = tt
of_tables test P each (d ∷ ds) h =
    let parts = or_parts (in_table test d) (list_any (in_table test) ds) h in
    ((λ t e. each t (sym (ap (in_table test) e) ∙ parts.0)), of_tables test P each ds parts.1)

blocks_listed : (part : Part) (key : List ℕ) (t : Members) → any_at key (breaks UnknownKey part) t ≡ false → OfTables (HasOnly (keys_in part)) (array_at key t)
blocks_listed part key t h = of_tables (breaks UnknownKey part) (HasOnly (keys_in part)) (listed part) (array_at key t) h

set_listed : (s : Members) → any_in_set (breaks UnknownKey) s ≡ false → IsKeyedSet s
set_listed s h = let parts = or_parts (breaks UnknownKey Set s) (any_block (breaks UnknownKey Block) s) h in
    record { own = listed Set s parts.0; blocks = blocks_listed Block (codes "block") s parts.1 }

fls_listed : (f : Members) → any_in_fls (breaks UnknownKey) f ≡ false → IsKeyedFls f
fls_listed f h =
    let parts = or_parts (breaks UnknownKey Fls f) (any_flash_block (breaks UnknownKey FlashBlock) f) h in
    let blocks = or_parts (any_at (codes "bgnd") (breaks UnknownKey FlashBlock) f) (any_at (codes "fgnd") (breaks UnknownKey FlashBlock) f) parts.1 in
    record { own = listed Fls f parts.0; bgnd = blocks_listed FlashBlock (codes "bgnd") f blocks.0; fgnd = blocks_listed FlashBlock (codes "fgnd") f blocks.1 }

keyed : (t : Members) → breaks_somewhere UnknownKey t ≡ false → IsKeyed t
unfolding breaks_somewhere
keyed t h =
    let parts = or_parts (breaks UnknownKey Top t || any_set (any_in_set (breaks UnknownKey)) t) (in_fls (any_in_fls (breaks UnknownKey)) t) h in
    let front = or_parts (breaks UnknownKey Top t) (any_set (any_in_set (breaks UnknownKey)) t) parts.0 in
    record {
      own = listed Top t front.0;
      sets = of_tables (any_in_set (breaks UnknownKey)) IsKeyedSet set_listed (array_at (codes "set") t) front.1;
      fls_tst = λ f e. fls_listed f (sym (ap (in_option (any_in_fls (breaks UnknownKey))) e) ∙ parts.1);
    }

pub keys_are_listed : AcceptedHasListedKeys
unfolding first_broken
keys_are_listed t h = keyed t (holds _ _ (none_by (rules_of t) h).0)
