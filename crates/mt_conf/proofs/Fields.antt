-- Each field of a configuration is the table's entry of that name, or its default.
use Rattle.std.proofs.Common.{◌≡◌, ◌⊎◌, ℕ, ℤ, pos, ◌≤◌, Bool, true, false, cond, List, [], ◌∷◌, Option, Some, None, refl, sym, ap, arith, inl, inr}
use Rattle.std.specs.Prelude.{codes, not, ◌&&◌, ◌||◌, is_none, is_some, option_and_then, unwrap_or}
use Rattle.std.specs.List.{list_all, AllByRecursion}
use Rattle.std.specs.Ordering.{int_eq}
use Rattle.std.specs.Str.{bytes_eq}
use Rattle.std.proofs.lemmas.Bool.{or_parts}
use Rattle.std.proofs.lemmas.Bool.Decides.{Decides-int_eq}
use Rattle.std.proofs.lemmas.Slice.Eq.{bytes_eq-Decides}
use Rattle.toml.specs.Data.{Data, as_integer, string, integer, float, boolean, datetime, array, table, Members, as_table, as_str, get_member}
use Rattle.mt_word.specs.declared.Width.{Width}
use Rattle.mt_word.specs.declared.Width.TheVariants.{W8, W16, W32, W64}
use Rattle.mt_word.specs.Word.{width_bits}
use Rattle.mt_march.specs.declared.march.March.{March}
use Rattle.mt_march.specs.Grammar.{SpellsMarch}
use Rattle.mt_march.specs.Known.{march_c_minus}
use Rattle.mt_march.specs.Laws.{UnrefusedIsMarch}
use Rattle.mt_march.specs.Reading.{march_refusal}
use Rattle.mt_march.specs.Value.{march_of}
use Rattle.mt_plan.specs.declared.algorithm.Algorithm.TheVariants.{Checkerboard, March as Marches, WalkPath, Galpat, TransparentGalpat}
use Rattle.mt_plan.specs.declared.algorithm.Policy.TheVariants.{NonDestructive, Destructive}
use Rattle.mt_conf.specs.declared.schema.Part.TheVariants.{Top, Set, Block, Fls, FlashBlock}
use Rattle.mt_conf.specs.declared.schema.Otherwise.TheVariants.{MarchCMinus, NoFlashTest}
use Rattle.mt_conf.specs.Lookup.{has_key, has_text, number_or, text_or, number_at, text_at, array_at, fields}
use Rattle.mt_conf.specs.Rules.{any_block, any_at, any_in_fls, in_option, lacks_key, has_wrong_type, wrong_version, is_version, wrong_width, width_at, no_word, wrong_word_in_set, wrong_policy, idle_march, wrong_algorithm_in_set, is_named, wrong_cells, wrong_retries, is_within, wrong_flash_block, wrong_fls}
use Rattle.mt_conf.specs.Outcome.{small, block_of, march_at, algorithm_at, set_of, flash_block_of, fls_of, no_fls, fls_or, fls_at, shape_of, version_at, config_of, first_broken}
use Rattle.mt_conf.specs.Canonical.{algorithm_name, policy_name}
use Rattle.mt_conf.specs.Fields.{HasMarch, IsBlock, IsSet, IsFlashBlock, IsFls, IsOfTable}
use Rattle.mt_conf.proofs.Numbers.{not_false, within, cells_exact}
use Rattle.mt_conf.proofs.Tables.{is_table, each}
use Rattle.mt_conf.proofs.Apart.{IsExact}
use Rattle.mt_conf.proofs.Sets.{SetFacts, IsUnrefused, block_tables, blocks_exact, set_rule}
use Rattle.mt_conf.proofs.FlashBlocks.{block_sizes, fls_ranges, flash_tables}
use Rattle.mt_conf.proofs.Entries.{needed_number, optional_number, needed_name, optional_word, some_tables}
use Rattle.mt_conf.proofs.Taken.{facts, set_facts, none_missing, well_typed}

same_bytes : (a b : List ℕ) → bytes_eq a b ≡ true → a ≡ b
same_bytes a b h = (bytes_eq-Decides a b).0 h

-- a key that may not be left out is not
no_default : {P : Type 0} (b : Bool) → not b ≡ false → b ≡ false → P
no_default true h k = absurd cc
no_default false h k = absurd cc

-- ---- blocks

policy_by : (a b : Bool) (text : List ℕ) → (a ≡ true → codes "non-destructive" ≡ text) → (b ≡ true → codes "destructive" ≡ text) → (a || (b || false)) ≡ true
    → policy_name (cond b Destructive NonDestructive) ≡ text
policy_by a true text ha hb known = hb refl
policy_by true false text ha hb known = ha refl
policy_by false false text ha hb known = absurd cc

policy_is : (w : Width) (b : Members) → wrong_policy b ≡ false → policy_name (block_of w b).policy ≡ text_at (codes "policy") b
unfolding wrong_policy block_of
policy_is w b h =
    let text = text_at (codes "policy") b in
    policy_by (bytes_eq (codes "non-destructive") text) (bytes_eq (codes "destructive") text) text (same_bytes (codes "non-destructive") text) (same_bytes (codes "destructive") text) (not_false _ h)

-- what the rules say of one block
record BlockFacts (w : Width) (d : Data) : Type 0 where
  keys : lacks_key Block (fields d) ≡ false
  types : has_wrong_type Block (fields d) ≡ false
  fill : no_word w (codes "fill") (fields d) ≡ false
  policy : wrong_policy (fields d) ≡ false
  exact : IsExact d

block_fields : (w : Width) (d : Data) → BlockFacts w d → IsBlock w (fields d) (block_of w (fields d))
unfolding block_of
block_fields w d f =
    let b = fields d in
    let keys = none_missing Block b f.keys in
    let types = well_typed Block b f.types in
    record {
      first = needed_number Block (codes "first") b (small (number_at (codes "first") b)) keys.0 types.0 f.exact.0;
      last = needed_number Block (codes "last") b (small (number_at (codes "last") b)) keys.1.0 types.1.0 f.exact.1;
      policy = needed_name Block (codes "policy") b (policy_name (block_of w b).policy) keys.1.1.0 types.1.1.0 (policy_is w b f.policy);
      fill = optional_word w Block (codes "fill") b refl types.1.1.1.0 f.fill;
    }

all_block_fields : (w : Width) (ds : List Data) → AllByRecursion (λ d. lacks_key Block (fields d) ≡ false) ds → AllByRecursion (λ d. has_wrong_type Block (fields d) ≡ false) ds
    → AllByRecursion (λ d. no_word w (codes "fill") (fields d) ≡ false) ds → AllByRecursion (λ d. wrong_policy (fields d) ≡ false) ds → AllByRecursion IsExact ds
    → AllByRecursion (λ d. IsBlock w (fields d) (block_of w (fields d))) ds
all_block_fields w [] n t f p e = tt
all_block_fields w (d ∷ ds) n t f p e =
    (block_fields w d (record { keys = n.0; types = t.0; fill = f.0; policy = p.0; exact = e.0 }), all_block_fields w ds n.1 t.1 f.1 p.1 e.1)

-- ---- sets

algorithm_by : (a b c d e : Bool) (m : March) (text : List ℕ) → (a ≡ true → codes "checkerboard" ≡ text) → (b ≡ true → codes "march" ≡ text) → (c ≡ true → codes "walk-path" ≡ text)
    → (d ≡ true → codes "galpat" ≡ text) → (e ≡ true → codes "transparent-galpat" ≡ text) → (a || (b || (c || (d || (e || false))))) ≡ true
    → algorithm_name (cond a Checkerboard (cond b (Marches m) (cond c WalkPath (cond d Galpat TransparentGalpat)))) ≡ text
algorithm_by true b c d e m text ha hb hc hd he known = ha refl
algorithm_by false true c d e m text ha hb hc hd he known = hb refl
algorithm_by false false true d e m text ha hb hc hd he known = hc refl
algorithm_by false false false true e m text ha hb hc hd he known = hd refl
algorithm_by false false false false true m text ha hb hc hd he known = he refl
algorithm_by false false false false false m text ha hb hc hd he known = absurd cc

algorithm_is : (s : Members) → wrong_algorithm_in_set s ≡ false → algorithm_name (algorithm_at s) ≡ text_at (codes "algorithm") s
unfolding algorithm_at wrong_algorithm_in_set
algorithm_is s h =
    let text = text_at (codes "algorithm") s in
    algorithm_by (bytes_eq (codes "checkerboard") text) (bytes_eq (codes "march") text) (bytes_eq (codes "walk-path") text) (bytes_eq (codes "galpat") text)
    (bytes_eq (codes "transparent-galpat") text) (march_at s) text (same_bytes (codes "checkerboard") text) (same_bytes (codes "march") text) (same_bytes (codes "walk-path") text)
    (same_bytes (codes "galpat") text) (same_bytes (codes "transparent-galpat") text) (not_false _ (or_parts _ _ (or_parts _ _ h).0).0)

no_entry : (o : Option Data) → is_some o ≡ false → o ≡ None
no_entry None h = refl
no_entry (Some d) h = absurd cc

idle_by : (written named : Bool) → (written && not named) ≡ false → named ≡ false → written ≡ false
idle_by true named h is = absurd cc
idle_by false named h is = refl

idle : (s : Members) → wrong_algorithm_in_set s ≡ false → is_named (codes "algorithm") (codes "march") s ≡ false → get_member (codes "march") s ≡ None
unfolding wrong_algorithm_in_set idle_march
idle s h other = no_entry (get_member (codes "march") s) (idle_by (has_key (codes "march") s) (is_named (codes "algorithm") (codes "march") s) (or_parts _ _ (or_parts _ _ h).0).1 other)

-- a text that is `checkerboard` is not `march`
apart_names : (text : List ℕ) → bytes_eq (codes "checkerboard") text ≡ true → bytes_eq (codes "march") text ≡ false
apart_names text h = ap (bytes_eq (codes "march")) (sym (same_bytes (codes "checkerboard") text h))

march_cases : (a b c d : Bool) (s : Members) (m : March) → (a ≡ true → get_member (codes "march") s ≡ None) → (b ≡ false → get_member (codes "march") s ≡ None) → HasMarch s (Marches m)
    → HasMarch s (cond a Checkerboard (cond b (Marches m) (cond c WalkPath (cond d Galpat TransparentGalpat))))
march_cases true b c d s m ha hb has = ha refl
march_cases false true c d s m ha hb has = has
march_cases false false true d s m ha hb has = hb refl
march_cases false false false true s m ha hb has = hb refl
march_cases false false false false s m ha hb has = hb refl

marches_by : UnrefusedIsMarch → (o : Option Data) → (is_some o && not (is_some (option_and_then as_str o))) ≡ false → (is_some o ≡ true → march_refusal (text_or (option_and_then as_str o)) ≡ None)
    → ((d : Data) × (o ≡ Some d) × ((text : List ℕ) × (d ≡ string text) × SpellsMarch text (cond (is_some o) (march_of (text_or (option_and_then as_str o))) march_c_minus)))
    ⊎ ((o ≡ None) × ((MarchCMinus ≡ MarchCMinus) × (cond (is_some o) (march_of (text_or (option_and_then as_str o))) march_c_minus ≡ march_c_minus)))
marches_by law None type h = inr (refl, (refl, refl))
marches_by law (Some (string text)) type h = inl (string text, refl, (text, refl, (law text (h refl)).0))
marches_by law (Some (integer z)) type h = absurd cc
marches_by law (Some (float x)) type h = absurd cc
marches_by law (Some (boolean b)) type h = absurd cc
marches_by law (Some (datetime t)) type h = absurd cc
marches_by law (Some (array ds)) type h = absurd cc
marches_by law (Some (table ms)) type h = absurd cc

marches : UnrefusedIsMarch → (s : Members) → (has_key (codes "march") s && not (has_text (codes "march") s)) ≡ false → IsUnrefused s → HasMarch s (Marches (march_at s))
unfolding march_at
marches law s type h = marches_by law (get_member (codes "march") s) type h

march_field : UnrefusedIsMarch → (s : Members) → wrong_algorithm_in_set s ≡ false → (has_key (codes "march") s && not (has_text (codes "march") s)) ≡ false → IsUnrefused s → HasMarch s (algorithm_at s)
unfolding algorithm_at
march_field law s known type h =
    march_cases _ _ _ _ s (march_at s) (λ is. idle s known (apart_names (text_at (codes "algorithm") s) is)) (λ other. idle s known other) (marches law s type h)

retries_by : (o : Option Data) (first : Bool) (z : ℤ) → z ≡ number_or (option_and_then as_integer o) → (is_some o && (first || not (is_within (pos 0) (pos 16) z))) ≡ false → z ≡ pos (small z)
retries_by None first z is h = rw is refl
retries_by (Some d) true z is h = absurd cc
retries_by (Some d) false z is h = (within z 0 16 (omega arith) (not_false _ h)).0

retries_exact : (first : Bool) (s : Members) → wrong_retries first s ≡ false → number_at (codes "retries") s ≡ pos (small (number_at (codes "retries") s))
unfolding wrong_retries
retries_exact first s h = retries_by (get_member (codes "retries") s) first (number_at (codes "retries") s) refl h

set_words : (w : Width) (s : Members) → wrong_word_in_set w s ≡ false → (no_word w (codes "background") s ≡ false) × (any_block (no_word w (codes "fill")) s ≡ false)
unfolding wrong_word_in_set
set_words w s h = or_parts _ _ h

set_policies : (s : Members) → wrong_algorithm_in_set s ≡ false → any_block wrong_policy s ≡ false
unfolding wrong_algorithm_in_set
set_policies s h = (or_parts _ _ h).1

set_numbers : (s : Members) → wrong_cells s ≡ false → (number_at (codes "atomic") s ≡ pos (small (number_at (codes "atomic") s))) × (number_at (codes "cells") s ≡ pos (small (number_at (codes "cells") s)))
unfolding wrong_cells
set_numbers s h = cells_exact (number_at (codes "atomic") s) (number_at (codes "cells") s) h

set_fields : UnrefusedIsMarch → (first : Bool) (w : Width) (ram : ℤ) (s : Members) → ram ≡ pos (small ram) → small ram ≤ 65536 → SetFacts first w ram s → IsSet w s (set_of w s)
unfolding set_of
set_fields law first w ram s e few f =
    let own = or_parts _ _ f.keys in
    let kinds = or_parts _ _ f.types in
    let keys = none_missing Set s own.0 in
    let types = well_typed Set s kinds.0 in
    let words = set_words w s f.words in
    let cells = set_rule first s f.cells in
    let numbers = set_numbers s cells.0 in
    let ds = array_at (codes "block") s in
    let tables = block_tables s f.types in
    record {
      algorithm = needed_name Set (codes "algorithm") s (algorithm_name (algorithm_at s)) keys.0 types.0 (algorithm_is s f.algorithm);
      march = march_field law s f.algorithm types.1.0 f.march;
      background = optional_word w Set (codes "background") s refl types.1.1.0 words.0;
      atomic = needed_number Set (codes "atomic") s (small (number_at (codes "atomic") s)) keys.1.1.1.0 types.1.1.1.0 numbers.0;
      cells = needed_number Set (codes "cells") s (small (number_at (codes "cells") s)) keys.1.1.1.1.0 types.1.1.1.1.0 numbers.1;
      retries = optional_number Set (codes "retries") s refl types.1.1.1.1.1.0 (retries_exact first s cells.1);
      blocks = some_tables (IsBlock w) (block_of w) Set (codes "block") s (λ none. no_default _ keys.1.1.1.1.1.1.0 none) types.1.1.1.1.1.1.0
          (all_block_fields w ds (each (lacks_key Block) ds tables own.1) (each (has_wrong_type Block) ds tables kinds.1) (each (no_word w (codes "fill")) ds tables words.1)
          (each wrong_policy ds tables (set_policies s f.algorithm)) (blocks_exact ram s e few f.types f.range));
    }

all_set_fields : UnrefusedIsMarch → (first : Bool) (w : Width) (ram : ℤ) (ds : List Data) → ram ≡ pos (small ram) → small ram ≤ 65536 → AllByRecursion (λ d. SetFacts first w ram (fields d)) ds
    → AllByRecursion (λ d. IsSet w (fields d) (set_of w (fields d))) ds
all_set_fields law first w ram [] e few all = tt
all_set_fields law first w ram (d ∷ ds) e few all = (set_fields law first w ram (fields d) e few all.0, all_set_fields law first w ram ds e few all.1)

-- ---- FlsTst

flash_block_fields : (flash : ℤ) (b : Members) → flash ≡ pos (small flash) → small flash ≤ 65536 → lacks_key FlashBlock b ≡ false → has_wrong_type FlashBlock b ≡ false → wrong_flash_block flash b ≡ false
    → IsFlashBlock b (flash_block_of b)
unfolding flash_block_of
flash_block_fields flash b e few n t h =
    let keys = none_missing FlashBlock b n in
    let types = well_typed FlashBlock b t in
    let sizes = block_sizes flash b e few h in
    record {
      first = needed_number FlashBlock (codes "first") b (small (number_at (codes "first") b)) keys.0 types.0 sizes.first;
      last = needed_number FlashBlock (codes "last") b (small (number_at (codes "last") b)) keys.1.0 types.1.0 sizes.last;
      copy = needed_number FlashBlock (codes "copy") b (small (number_at (codes "copy") b)) keys.1.1.0 types.1.1.0 sizes.copied.copy;
    }

all_flash_fields : (flash : ℤ) (ds : List Data) → flash ≡ pos (small flash) → small flash ≤ 65536 → AllByRecursion (λ d. lacks_key FlashBlock (fields d) ≡ false) ds
    → AllByRecursion (λ d. has_wrong_type FlashBlock (fields d) ≡ false) ds → AllByRecursion (λ d. wrong_flash_block flash (fields d) ≡ false) ds
    → AllByRecursion (λ d. IsFlashBlock (fields d) (flash_block_of (fields d))) ds
all_flash_fields flash [] e few n t h = tt
all_flash_fields flash (d ∷ ds) e few n t h = (flash_block_fields flash (fields d) e few n.0 t.0 h.0, all_flash_fields flash ds e few n.1 t.1 h.1)

flash_fields : (flash : ℤ) (key : List ℕ) (f : Members) → flash ≡ pos (small flash) → small flash ≤ 65536 → list_all is_table (array_at key f) ≡ true → any_at key (lacks_key FlashBlock) f ≡ false
    → any_at key (has_wrong_type FlashBlock) f ≡ false → any_at key (wrong_flash_block flash) f ≡ false → AllByRecursion (λ d. IsFlashBlock (fields d) (flash_block_of (fields d))) (array_at key f)
flash_fields flash key f e few tables n t h =
    let ds = array_at key f in
    all_flash_fields flash ds e few (each (lacks_key FlashBlock) ds tables n) (each (has_wrong_type FlashBlock) ds tables t) (each (wrong_flash_block flash) ds tables h)

interval_exact : (flash : ℤ) (f : Members) → wrong_fls flash f ≡ false → number_at (codes "interval_end") f ≡ pos (small (number_at (codes "interval_end") f))
unfolding wrong_fls
interval_exact flash f h = (within (number_at (codes "interval_end") f) 0 65535 (omega arith) (not_false _ (or_parts _ _ (or_parts _ _ h).0).1)).0

fls_fields : (flash : ℤ) (f : Members) → flash ≡ pos (small flash) → small flash ≤ 65536 → any_in_fls lacks_key f ≡ false → any_in_fls has_wrong_type f ≡ false → wrong_fls flash f ≡ false → IsFls f (fls_of f)
unfolding fls_of
fls_fields flash f e few n t h =
    let own = or_parts _ _ n in
    let kinds = or_parts _ _ t in
    let keys = none_missing Fls f own.0 in
    let types = well_typed Fls f kinds.0 in
    let block_keys = or_parts _ _ own.1 in
    let block_types = or_parts _ _ kinds.1 in
    let ranges = fls_ranges flash f h in
    let numbers = set_numbers f ranges.0 in
    record {
      atomic = needed_number Fls (codes "atomic") f (small (number_at (codes "atomic") f)) keys.0 types.0 numbers.0;
      cells = needed_number Fls (codes "cells") f (small (number_at (codes "cells") f)) keys.1.0 types.1.0 numbers.1;
      interval_end = needed_number Fls (codes "interval_end") f (small (number_at (codes "interval_end") f)) keys.1.1.0 types.1.1.0 (interval_exact flash f h);
      bgnd = some_tables IsFlashBlock flash_block_of Fls (codes "bgnd") f (λ none. refl) types.1.1.1.0
          (flash_fields flash (codes "bgnd") f e few (flash_tables f t).0 block_keys.0 block_types.0 ranges.2);
      fgnd = some_tables IsFlashBlock flash_block_of Fls (codes "fgnd") f (λ none. refl) types.1.1.1.1.0
          (flash_fields flash (codes "fgnd") f e few (flash_tables f t).1 block_keys.1 block_types.1 ranges.3);
    }

fls_by : (flash : ℤ) (o : Option Data) → flash ≡ pos (small flash) → small flash ≤ 65536 → (is_some o && not (is_some (option_and_then as_table o))) ≡ false → in_option (any_in_fls lacks_key) o ≡ false
    → in_option (any_in_fls has_wrong_type) o ≡ false → in_option (wrong_fls flash) o ≡ false
    → ((d : Data) × (o ≡ Some d) × ((f : Members) × (d ≡ table f) × IsFls f (fls_or o))) ⊎ ((o ≡ None) × ((NoFlashTest ≡ NoFlashTest) × (fls_or o ≡ no_fls)))
fls_by flash None e few type n t h = inr (refl, (refl, refl))
fls_by flash (Some (table f)) e few type n t h = inl (table f, refl, (f, refl, fls_fields flash f e few n t h))
fls_by flash (Some (string s)) e few type n t h = absurd cc
fls_by flash (Some (integer z)) e few type n t h = absurd cc
fls_by flash (Some (float x)) e few type n t h = absurd cc
fls_by flash (Some (boolean b)) e few type n t h = absurd cc
fls_by flash (Some (datetime d)) e few type n t h = absurd cc
fls_by flash (Some (array ds)) e few type n t h = absurd cc

-- ---- the top table

version_by : (z : ℤ) (a b : Bool) → (a ≡ true → z ≡ pos 1) → (b ≡ true → z ≡ pos 2) → not (a || b) ≡ false → z ≡ pos (cond a 1 2)
version_by z true b ha hb h = ha refl
version_by z false true ha hb h = hb refl
version_by z false false ha hb h = absurd cc

version_is : (t : Members) → wrong_version t ≡ false → number_at (codes "version") t ≡ pos (version_at t)
unfolding wrong_version
version_is t h =
    let z = number_at (codes "version") t in
    version_by z (int_eq z (pos 1)) (int_eq z (pos 2)) (Decides-int_eq z (pos 1)).0 (Decides-int_eq z (pos 2)).0 h

width_by : (z : ℤ) (a b c d : Bool) → (a ≡ true → z ≡ pos 8) → (b ≡ true → z ≡ pos 16) → (c ≡ true → z ≡ pos 32) → (d ≡ true → z ≡ pos 64)
    → is_none (cond a (Some W8) (cond b (Some W16) (cond c (Some W32) (cond d (Some W64) None)))) ≡ false
    → z ≡ pos (width_bits (unwrap_or (cond a (Some W8) (cond b (Some W16) (cond c (Some W32) (cond d (Some W64) None)))) W8))
width_by z true b c d ha hb hc hd h = ha refl
width_by z false true c d ha hb hc hd h = hb refl
width_by z false false true d ha hb hc hd h = hc refl
width_by z false false false true ha hb hc hd h = hd refl
width_by z false false false false ha hb hc hd h = absurd cc

width_is : (t : Members) → wrong_width t ≡ false → number_at (codes "width") t ≡ pos (width_bits (width_at t))
unfolding wrong_width
width_is t h =
    let z = number_at (codes "width") t in
    width_by z (int_eq z (pos 8)) (int_eq z (pos 16)) (int_eq z (pos 32)) (int_eq z (pos 64)) (Decides-int_eq z (pos 8)).0 (Decides-int_eq z (pos 16)).0 (Decides-int_eq z (pos 32)).0 (Decides-int_eq z (pos 64)).0
    (or_parts _ _ h).0

pub fields_are_entries : UnrefusedIsMarch → (t : Members) → first_broken t ≡ None → IsOfTable t (config_of t)
unfolding config_of shape_of fls_at
fields_are_entries law t h =
    let f = facts t h in
    let ram = within (number_at (codes "ram") t) 1 65536 (omega arith) f.ram in
    let flash = within (number_at (codes "flash") t) 0 65536 (omega arith) f.flash in
    let sets = all_set_fields law (is_version 1 t) (width_at t) (number_at (codes "ram") t) (array_at (codes "set") t) ram.0 ram.2 (set_facts t f) in
    record {
      version = needed_number Top (codes "version") t (version_at t) f.keys.0 f.types.0 (version_is t f.version);
      width = needed_number Top (codes "width") t (width_bits (width_at t)) f.keys.1.0 f.types.1.0 (width_is t f.width);
      ram = needed_number Top (codes "ram") t (small (number_at (codes "ram") t)) f.keys.1.1.0 f.types.1.1.0 ram.0;
      flash = optional_number Top (codes "flash") t refl f.types.1.1.1.0 flash.0;
      initial = optional_word (width_at t) Top (codes "initial") t refl f.types.1.1.1.1.0 f.initial;
      sets = some_tables (IsSet (width_at t)) (set_of (width_at t)) Top (codes "set") t (λ none. no_default _ f.keys.1.1.1.1.1.0 none) f.types.1.1.1.1.1.0 sets;
      fls_tst = fls_by (number_at (codes "flash") t) (get_member (codes "fls") t) flash.0 flash.2 f.fls f.fls_keys f.fls_types f.flash_ranges;
    }
