-- The rules, each a test of the whole table: true where it is broken.
use Rattle.std.specs.Prelude.{ℕ, ℤ, ◌+ℤ◌, ◌-ℤ◌, pos, int_lt, int_le, nat_lt, nat_le, List, [], ◌∷◌, length, map, codes, Bool, false, not, ◌&&◌, ◌||◌, if◌then◌else◌, Option, Some, None, is_none, is_some, unwrap_or}
use Rattle.std.specs.List.{list_any, list_all}
use Rattle.std.specs.Ordering.{int_eq}
use Rattle.std.specs.Str.{bytes_eq}
use denote.Ref.{Bor}
use Rattle.mt_word.specs.declared.Width.{Width}
use Rattle.mt_word.specs.declared.Width.TheVariants.{W8, W16, W32, W64}
use Rattle.mt_hex.specs.Hex.{word_of}
use Rattle.toml.specs.Data.{Data, table, Members, no_members, member, as_table, get_member}
use Rattle.mt_conf.specs.declared.schema.Part.{Part}
use Rattle.mt_conf.specs.declared.schema.Part.TheVariants.{Top, Set, Block, Fls, FlashBlock}
use Rattle.mt_conf.specs.declared.schema.Kind.{Kind}
use Rattle.mt_conf.specs.declared.schema.Kind.TheVariants.{Number, Text, Table, Tables}
use Rattle.mt_conf.specs.declared.shape.KeyRule.{KeyRule}
use Rattle.mt_conf.specs.declared.shape.KeyRule.TheVariants.{UnknownKey, MissingKey, WrongType}
use Rattle.mt_conf.specs.Schema.{Row, is_refused, rows_of}
use Rattle.mt_conf.specs.Lookup.{has_key, has_number, has_text, has_array, has_table, number_at, text_at, array_at}

-- the test holds of a value that is a table
abbrev pub in_table : (Members → Bool) → Data → Bool
in_table test (table ms) = test ms
in_table test _ = false

-- some member of the array at the key is a table of which the test holds
abbrev pub any_at : List ℕ → (Members → Bool) → Members → Bool
any_at key test t = list_any (in_table test) (array_at key t)

-- some table of `set` passes; some block of one does; some flash block of `fls` does
abbrev pub any_set : (Members → Bool) → Members → Bool
any_set = any_at (codes "set")

abbrev pub any_block : (Members → Bool) → Members → Bool
any_block = any_at (codes "block")

abbrev pub any_flash_block : (Members → Bool) → Members → Bool
any_flash_block test f = any_at (codes "bgnd") test f || any_at (codes "fgnd") test f

-- the test holds of the value, where there is one and it is a table
abbrev pub in_option : (Members → Bool) → Option Data → Bool
in_option test None = false
in_option test (Some d) = in_table test d

-- `fls` is there, and is a table of which the test holds
abbrev pub in_fls : (Members → Bool) → Members → Bool
in_fls test t = in_option test (get_member (codes "fls") t)

-- what references to texts point to
abbrev pub texts : List (Bor (List ℕ)) → List (List ℕ)
texts names = map (λ name. name.now) names

abbrev pub is_one_of : List (List ℕ) → List ℕ → Bool
is_one_of names key = list_any (λ name. bytes_eq name key) names

-- ---- keys and types, by the rows of the tables

-- some table of the document passes, with its part: the top table, a set or one of its blocks, or `fls` or one of its blocks
abbrev pub any_in_set : (Part → Members → Bool) → Members → Bool
any_in_set test s = test Set s || any_block (test Block) s

abbrev pub any_in_fls : (Part → Members → Bool) → Members → Bool
any_in_fls test f = test Fls f || any_flash_block (test FlashBlock) f

abbrev pub any_part : (Part → Members → Bool) → Members → Bool
any_part test t = (test Top t || any_set (any_in_set test) t) || in_fls (any_in_fls test) t

-- the keys of a table
abbrev pub keys_of : Members → List (List ℕ)
keys_of no_members = []
keys_of (member key d ms) = key ∷ keys_of ms

-- Unknown key: a table has a key that its rows don't list.
abbrev pub is_listed : List Row → List ℕ → Bool
is_listed rows key = list_any (λ (row : Row). bytes_eq row.key key) rows

unfoldable pub has_unlisted_key : Part → Members → Bool
has_unlisted_key part t = list_any (λ key. not (is_listed (rows_of part) key)) (keys_of t)

-- Missing key: a table lacks a key that its rows don't let it leave out.
abbrev pub is_missing : Members → Row → Bool
is_missing t row = is_refused row.otherwise && not (has_key row.key t)

unfoldable pub lacks_key : Part → Members → Bool
lacks_key part t = list_any (is_missing t) (rows_of part)

-- Wrong type: a listed key has another type, or a member of an array of tables is no table.
abbrev pub has_tables : List ℕ → Members → Bool
has_tables key t = has_array key t && list_all (λ d. is_some (as_table d)) (array_at key t)

abbrev pub has_kind : Kind → List ℕ → Members → Bool
has_kind Number key t = has_number key t
has_kind Text key t = has_text key t
has_kind Table key t = has_table key t
has_kind Tables key t = has_tables key t

abbrev pub has_other_kind : Members → Row → Bool
has_other_kind t row = has_key row.key t && not (has_kind row.kind row.key t)

unfoldable pub has_wrong_type : Part → Members → Bool
has_wrong_type part t = list_any (has_other_kind t) (rows_of part)

-- a rule on keys is broken in a table, and in some table of the document
abbrev pub breaks : KeyRule → Part → Members → Bool
breaks UnknownKey = has_unlisted_key
breaks MissingKey = lacks_key
breaks WrongType = has_wrong_type

unfoldable pub breaks_somewhere : KeyRule → Members → Bool
breaks_somewhere rule t = any_part (breaks rule) t

-- ---- values

-- Version: `version` is not 1 or 2.
abbrev pub is_version : ℕ → Members → Bool
is_version n t = int_eq (number_at (codes "version") t) (pos n)

unfoldable pub wrong_version : Members → Bool
wrong_version t = not (is_version 1 t || is_version 2 t)

-- Width: `width` is not 8, 16 or 32, nor 64 in version 2.
abbrev pub width_of : ℤ → Option Width
width_of z =
    if int_eq z (pos 8) then Some W8
    else (if int_eq z (pos 16) then Some W16
    else (if int_eq z (pos 32) then Some W32
    else (if int_eq z (pos 64) then Some W64
    else None)))

abbrev pub width_at : Members → Width
width_at t = unwrap_or (width_of (number_at (codes "width") t)) W8

unfoldable pub wrong_width : Members → Bool
wrong_width t = is_none (width_of (number_at (codes "width") t)) || (is_version 1 t && int_eq (number_at (codes "width") t) (pos 64))

-- Size: `ram` is not 1 to 65,536, or `flash` is not 0 to 65,536.
abbrev pub is_within : ℤ → ℤ → ℤ → Bool
is_within low high z = int_le low z && int_le z high

unfoldable pub wrong_size : Members → Bool
wrong_size t = not (is_within (pos 1) (pos 65536) (number_at (codes "ram") t)) || not (is_within (pos 0) (pos 65536) (number_at (codes "flash") t))

-- Word: `initial`, a `background` or a `fill` is not exactly width / 4 hexadecimal digits, of either case.
abbrev pub no_word : Width → List ℕ → Members → Bool
no_word width key t = has_key key t && is_none (word_of width (text_at key t))

unfoldable pub wrong_word_in_set : Width → Members → Bool
wrong_word_in_set width s = no_word width (codes "background") s || any_block (no_word width (codes "fill")) s

unfoldable pub wrong_word : Members → Bool
wrong_word t = no_word (width_at t) (codes "initial") t || any_set (wrong_word_in_set (width_at t)) t

-- Count: there are not 1 to 16 sets, or a set has not 1 to 64 blocks, or `bgnd` or `fgnd` has more than 64 members.
abbrev pub is_count : ℕ → ℕ → Bool
is_count most n = nat_le 1 n && nat_le n most

unfoldable pub wrong_count_in_set : Members → Bool
wrong_count_in_set s = not (is_count 64 (length (array_at (codes "block") s)))

unfoldable pub wrong_count_in_fls : Members → Bool
wrong_count_in_fls f = nat_lt 64 (length (array_at (codes "bgnd") f)) || nat_lt 64 (length (array_at (codes "fgnd") f))

unfoldable pub wrong_count : Members → Bool
wrong_count t = (not (is_count 16 (length (array_at (codes "set") t))) || any_set wrong_count_in_set t) || in_fls wrong_count_in_fls t

-- Algorithm: a name that is none of an algorithm; `march` with another algorithm than `march`; a policy of another name.
abbrev pub is_named : List ℕ → List ℕ → Members → Bool
is_named key name t = bytes_eq name (text_at key t)

abbrev pub algorithm_names : List (List ℕ)
algorithm_names = codes "checkerboard" ∷ codes "march" ∷ codes "walk-path" ∷ codes "galpat" ∷ codes "transparent-galpat" ∷ []

abbrev pub policy_names : List (List ℕ)
policy_names = codes "non-destructive" ∷ codes "destructive" ∷ []

unfoldable pub wrong_policy : Members → Bool
wrong_policy b = not (is_one_of policy_names (text_at (codes "policy") b))

unfoldable pub idle_march : Members → Bool
idle_march s = has_key (codes "march") s && not (is_named (codes "algorithm") (codes "march") s)

unfoldable pub wrong_algorithm_in_set : Members → Bool
wrong_algorithm_in_set s = (not (is_one_of algorithm_names (text_at (codes "algorithm") s)) || idle_march s) || any_block wrong_policy s

unfoldable pub wrong_algorithm : Members → Bool
wrong_algorithm t = any_set wrong_algorithm_in_set t

-- Transparent and destructive: a set with `transparent-galpat` has a destructive block.
unfoldable pub is_destructive : Members → Bool
is_destructive b = is_named (codes "policy") (codes "destructive") b

unfoldable pub transparent_destructive_in_set : Members → Bool
transparent_destructive_in_set s = is_named (codes "algorithm") (codes "transparent-galpat") s && any_block is_destructive s

unfoldable pub transparent_destructive : Members → Bool
transparent_destructive t = any_set transparent_destructive_in_set t

-- Block range: a block of a set has not 0 at most `first`, `first` at most `last`, and `last` below `ram`.
abbrev pub in_order : ℤ → Members → Bool
in_order limit b =
    (int_le (pos 0) (number_at (codes "first") b) && int_le (number_at (codes "first") b) (number_at (codes "last") b)) && int_lt (number_at (codes "last") b) limit

unfoldable pub wrong_range : ℤ → Members → Bool
wrong_range ram b = not (in_order ram b)

unfoldable pub wrong_block_range : Members → Bool
wrong_block_range t = any_set (any_block (wrong_range (number_at (codes "ram") t))) t

-- Overlap: two blocks of one set share a word.
abbrev pub span_of : Data → ℤ × ℤ
span_of (table b) = (number_at (codes "first") b, number_at (codes "last") b)
span_of _ = (pos 0, pos 0)

-- two spans share a word
abbrev pub meet : ℤ × ℤ → ℤ × ℤ → Bool
meet a b = int_le a.0 b.1 && int_le b.0 a.1

-- two of the spans share a word
abbrev pub any_meet : List (ℤ × ℤ) → Bool
any_meet [] = false
any_meet (a ∷ spans) = list_any (meet a) spans || any_meet spans

unfoldable pub overlap_in_set : Members → Bool
overlap_in_set s = any_meet (map span_of (array_at (codes "block") s))

unfoldable pub overlap : Members → Bool
overlap t = any_set overlap_in_set t

-- Cells: `atomic` is not 1 to 64, or `cells` is not from `atomic` to 65,536, or `retries` is not 0 to 16, or is there in version 1.
unfoldable pub wrong_cells : Members → Bool
wrong_cells s =
    let atomic = number_at (codes "atomic") s in
    not (is_within (pos 1) (pos 64) atomic && is_within atomic (pos 65536) (number_at (codes "cells") s))

unfoldable pub wrong_retries : Bool → Members → Bool
wrong_retries first s = has_key (codes "retries") s && (first || not (is_within (pos 0) (pos 16) (number_at (codes "retries") s)))

unfoldable pub wrong_cells_in_set : Bool → Members → Bool
wrong_cells_in_set first s = wrong_cells s || wrong_retries first s

unfoldable pub wrong_cells_range : Members → Bool
wrong_cells_range t = any_set (wrong_cells_in_set (is_version 1 t)) t

-- the last address of its copy
abbrev pub copy_last : Members → ℤ
copy_last b = number_at (codes "copy") b +ℤ number_at (codes "last") b -ℤ number_at (codes "first") b

-- Flash range, of a block: its first and last word are not in order within the flash, or its copy is not within it.
unfoldable pub wrong_flash_block : ℤ → Members → Bool
wrong_flash_block flash b = not (in_order flash b && (int_le (pos 0) (number_at (codes "copy") b) && int_lt (copy_last b) flash))

-- Flash range, of `fls`: as for the cells of a set, `interval_end` is not 0 to 65,535, or some block is wrong.
unfoldable pub wrong_fls : ℤ → Members → Bool
wrong_fls flash f = (wrong_cells f || not (is_within (pos 0) (pos 65535) (number_at (codes "interval_end") f))) || any_flash_block (wrong_flash_block flash) f

unfoldable pub wrong_flash_range : Members → Bool
wrong_flash_range t = in_fls (wrong_fls (number_at (codes "flash") t)) t

-- Copy overlap: a flash block and its copy share a word.
unfoldable pub meets_copy : Members → Bool
meets_copy b = meet (number_at (codes "first") b, number_at (codes "last") b) (number_at (codes "copy") b, copy_last b)

unfoldable pub copy_overlap_in_fls : Members → Bool
copy_overlap_in_fls f = any_flash_block meets_copy f

unfoldable pub copy_overlap : Members → Bool
copy_overlap t = in_fls copy_overlap_in_fls t
