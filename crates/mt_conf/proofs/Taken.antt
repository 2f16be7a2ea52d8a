-- The configuration of a table that breaks no rule is one that the modules take.
use Rattle.std.proofs.Common.{◌≡◌, ◌≢◌, ◌⊎◌, ℕ, ℤ, pos, ◌≤◌, Bool, true, false, cond, List, [], ◌∷◌, length, map, All, Option, Some, None, refl, arith, inl, inr}
use Rattle.std.specs.Prelude.{codes, not, ◌&&◌, is_some, option_and_then, unwrap_or}
use Rattle.std.specs.List.{AllByRecursion}
use Rattle.std.proofs.lemmas.Bool.{or_parts}
use Rattle.std.proofs.lemmas.Bool.Decides.{nat_tests}
use Rattle.std.proofs.lemmas.List.{length-map}
use Rattle.toml.specs.Data.{Data, Members, get_member, as_integer}
use Rattle.mt_port.specs.Board.{IsWithinLimits}
use Rattle.mt_word.specs.declared.Width.{Width}
use Rattle.mt_word.specs.declared.Width.TheVariants.{W8, W16, W32, W64}
use Rattle.mt_hex.specs.Laws.{WordsFit}
use Rattle.mt_march.specs.Laws.{UnrefusedIsMarch}
use Rattle.mt_blocks.specs.Accepted.{IsAcceptedSet, IsAcceptedRam, IsAcceptedFls}
use Rattle.mt_conf.specs.declared.shape.KeyRule.{KeyRule}
use Rattle.mt_conf.specs.declared.schema.Part.{Part}
use Rattle.mt_conf.specs.declared.schema.Part.TheVariants.{Top}
use Rattle.mt_conf.specs.declared.shape.KeyRule.TheVariants.{MissingKey, WrongType}
use Rattle.mt_conf.specs.Schema.{rows_of}
use Rattle.mt_conf.specs.Lookup.{has_key, number_or, number_at, text_at, array_at, has_table, fields}
use Rattle.mt_conf.specs.Rules.{any_in_set, any_in_fls, breaks, breaks_somewhere, is_missing, lacks_key, no_word, wrong_word_in_set, wrong_word, wrong_version, has_tables, has_other_kind, has_wrong_type, any_set, any_block, in_fls, is_version, wrong_width, wrong_size, wrong_count_in_set, wrong_count_in_fls, wrong_count, is_count, wrong_algorithm_in_set, wrong_algorithm, transparent_destructive_in_set, transparent_destructive, wrong_range, wrong_block_range, overlap_in_set, overlap, wrong_cells_in_set, wrong_cells_range, wrong_fls, wrong_flash_range, copy_overlap_in_fls, copy_overlap, is_within, width_at}
use Rattle.mt_conf.specs.Outcome.{small, number_in, rules_of, first_broken, refused_march, set_of, fls_at, shape_of, config_of}
use Rattle.mt_blocks.specs.declared.config.ParamSet.{ParamSet}
use Rattle.mt_conf.specs.Accepted.{IsOfFirstVersion, IsAcceptedConfig}
use Rattle.mt_conf.proofs.Least.{none_by, holds}
use Rattle.mt_conf.proofs.Words.{word_fits}
use Rattle.mt_conf.proofs.Tables.{each, each_item, are_tables, all_mapped}
use Rattle.mt_conf.proofs.Numbers.{not_false, within}
use Rattle.mt_conf.proofs.Sets.{SetFacts, IsUnrefused, all_unrefused, first_retries, set_accepted}
use Rattle.mt_conf.proofs.FlashBlocks.{fls_taken}

-- what the rules say of a table, that of its sets and of `fls` apart
pub record Facts (t : Members) : Type 0 where
  pub keys : AllByRecursion (λ row. is_missing t row ≡ false) (rows_of Top)
  pub types : AllByRecursion (λ row. has_other_kind t row ≡ false) (rows_of Top)
  pub set_keys : any_set (any_in_set lacks_key) t ≡ false
  pub fls_keys : in_fls (any_in_fls lacks_key) t ≡ false
  pub version : wrong_version t ≡ false
  pub initial : no_word (width_at t) (codes "initial") t ≡ false
  pub words : any_set (wrong_word_in_set (width_at t)) t ≡ false
  pub sets : (has_key (codes "set") t && not (has_tables (codes "set") t)) ≡ false
  pub fls : (has_key (codes "fls") t && not (has_table (codes "fls") t)) ≡ false
  pub set_types : any_set (any_in_set has_wrong_type) t ≡ false
  pub fls_types : in_fls (any_in_fls has_wrong_type) t ≡ false
  pub width : wrong_width t ≡ false
  pub ram : is_within (pos 1) (pos 65536) (number_at (codes "ram") t) ≡ true
  pub flash : is_within (pos 0) (pos 65536) (number_at (codes "flash") t) ≡ true
  pub count : not (is_count 16 (length (array_at (codes "set") t))) ≡ false
  pub set_counts : any_set wrong_count_in_set t ≡ false
  pub fls_counts : in_fls wrong_count_in_fls t ≡ false
  pub algorithms : any_set wrong_algorithm_in_set t ≡ false
  pub marches : refused_march t ≡ None
  pub kept : any_set transparent_destructive_in_set t ≡ false
  pub ranges : any_set (any_block (wrong_range (number_at (codes "ram") t))) t ≡ false
  pub overlaps : any_set overlap_in_set t ≡ false
  pub cells : any_set (wrong_cells_in_set (is_version 1 t)) t ≡ false
  pub flash_ranges : in_fls (wrong_fls (number_at (codes "flash") t)) t ≡ false
  pub copies : in_fls copy_overlap_in_fls t ≡ false

keys : (rule : KeyRule) (t : Members) → breaks_somewhere rule t ≡ false → (breaks rule Top t ≡ false) × (any_set (any_in_set (breaks rule)) t ≡ false) × (in_fls (any_in_fls (breaks rule)) t ≡ false)
unfolding breaks_somewhere
keys rule t h = let parts = or_parts _ _ h in let own = or_parts _ _ parts.0 in (own.0, own.1, parts.1)

pub none_missing : (part : Part) (t : Members) → lacks_key part t ≡ false → AllByRecursion (λ row. is_missing t row ≡ false) (rows_of part)
unfolding lacks_key
none_missing part t h = each_item (is_missing t) (rows_of part) h

pub well_typed : (part : Part) (t : Members) → has_wrong_type part t ≡ false → AllByRecursion (λ row. has_other_kind t row ≡ false) (rows_of part)
unfolding has_wrong_type
well_typed part t h = each_item (has_other_kind t) (rows_of part) h

words : (t : Members) → wrong_word t ≡ false → (no_word (width_at t) (codes "initial") t ≡ false) × (any_set (wrong_word_in_set (width_at t)) t ≡ false)
unfolding wrong_word
words t h = or_parts _ _ h

sizes : (t : Members) → wrong_size t ≡ false → (is_within (pos 1) (pos 65536) (number_at (codes "ram") t) ≡ true) × (is_within (pos 0) (pos 65536) (number_at (codes "flash") t) ≡ true)
unfolding wrong_size
sizes t h = let parts = or_parts _ _ h in (not_false _ parts.0, not_false _ parts.1)

counts : (t : Members) → wrong_count t ≡ false → (not (is_count 16 (length (array_at (codes "set") t))) ≡ false) × (any_set wrong_count_in_set t ≡ false) × (in_fls wrong_count_in_fls t ≡ false)
unfolding wrong_count
counts t h = let parts = or_parts _ _ h in let own = or_parts _ _ parts.0 in (own.0, own.1, parts.1)

set_rules : (t : Members) → wrong_algorithm t ≡ false → transparent_destructive t ≡ false → wrong_block_range t ≡ false → overlap t ≡ false → wrong_cells_range t ≡ false
    → (any_set wrong_algorithm_in_set t ≡ false) × (any_set transparent_destructive_in_set t ≡ false) × (any_set (any_block (wrong_range (number_at (codes "ram") t))) t ≡ false)
    × (any_set overlap_in_set t ≡ false) × (any_set (wrong_cells_in_set (is_version 1 t)) t ≡ false)
unfolding wrong_algorithm transparent_destructive wrong_block_range overlap wrong_cells_range
set_rules t a b c d e = (a, b, c, d, e)

fls_rules : (t : Members) → wrong_flash_range t ≡ false → copy_overlap t ≡ false → (in_fls (wrong_fls (number_at (codes "flash") t)) t ≡ false) × (in_fls copy_overlap_in_fls t ≡ false)
unfolding wrong_flash_range copy_overlap
fls_rules t a b = (a, b)

pub facts : (t : Members) → first_broken t ≡ None → Facts t
unfolding first_broken
facts t h =
    let none = none_by (rules_of t) h in
    let from_types = none.1.1 in
    let from_size = from_types.1.1.1 in
    let from_count = from_size.1.1 in
    let from_march = from_count.1.1 in
    let from_overlap = from_march.1.1.1 in
    let key = keys MissingKey t (holds _ _ none.1.0) in
    let type = keys WrongType t (holds _ _ from_types.0) in
    let top = well_typed Top t type.0 in
    let word = words t (holds _ _ from_size.1.0) in
    let size = sizes t (holds _ _ from_size.0) in
    let number = counts t (holds _ _ from_count.0) in
    let sets = set_rules t (holds _ _ from_count.1.0) (holds _ _ from_march.1.0) (holds _ _ from_march.1.1.0) (holds _ _ from_overlap.0) (holds _ _ from_overlap.1.0) in
    let fls = fls_rules t (holds _ _ from_overlap.1.1.0) (holds _ _ from_overlap.1.1.1.0) in
    record {
      keys = none_missing Top t key.0;
      types = top;
      set_keys = key.1;
      fls_keys = key.2;
      version = holds _ _ from_types.1.0;
      initial = word.0;
      words = word.1;
      sets = top.1.1.1.1.1.0;
      fls = top.1.1.1.1.1.1.0;
      set_types = type.1;
      fls_types = type.2;
      width = holds _ _ from_types.1.1.0;
      ram = size.0;
      flash = size.1;
      count = number.0;
      set_counts = number.1;
      fls_counts = number.2;
      algorithms = sets.0;
      marches = from_march.0;
      kept = sets.1;
      ranges = sets.2;
      overlaps = sets.3;
      cells = sets.4;
      flash_ranges = fls.0;
      copies = fls.1;
    }

-- what the rules say of each set
pub set_facts : (t : Members) → Facts t → AllByRecursion (λ d. SetFacts (is_version 1 t) (width_at t) (number_at (codes "ram") t) (fields d)) (array_at (codes "set") t)
unfolding refused_march
set_facts t f =
    let ds = array_at (codes "set") t in
    let tables = are_tables (codes "set") t f.sets in
    let first = is_version 1 t in
    let width = width_at t in
    let ram = number_at (codes "ram") t in
    joined first width ram ds (each (any_in_set lacks_key) ds tables f.set_keys) (each (wrong_word_in_set width) ds tables f.words) (each (any_in_set has_wrong_type) ds tables f.set_types)
    (each wrong_count_in_set ds tables f.set_counts) (each wrong_algorithm_in_set ds tables f.algorithms) (all_unrefused 0 ds f.marches) (each transparent_destructive_in_set ds tables f.kept)
    (each (any_block (wrong_range ram)) ds tables f.ranges) (each overlap_in_set ds tables f.overlaps) (each (wrong_cells_in_set first) ds tables f.cells)
  where
    joined : (first : Bool) (width : Width) (ram : ℤ) (ds : List Data)
        → AllByRecursion (λ d. any_in_set lacks_key (fields d) ≡ false) ds → AllByRecursion (λ d. wrong_word_in_set width (fields d) ≡ false) ds
        → AllByRecursion (λ d. any_in_set has_wrong_type (fields d) ≡ false) ds → AllByRecursion (λ d. wrong_count_in_set (fields d) ≡ false) ds
        → AllByRecursion (λ d. wrong_algorithm_in_set (fields d) ≡ false) ds → AllByRecursion (λ d. IsUnrefused (fields d)) ds → AllByRecursion (λ d. transparent_destructive_in_set (fields d) ≡ false) ds
        → AllByRecursion (λ d. any_block (wrong_range ram) (fields d) ≡ false) ds → AllByRecursion (λ d. overlap_in_set (fields d) ≡ false) ds → AllByRecursion (λ d. wrong_cells_in_set first (fields d) ≡ false) ds
        → AllByRecursion (λ d. SetFacts first width ram (fields d)) ds
    joined first width ram [] n w a b c m k r o e = tt
    joined first width ram (d ∷ ds) n w a b c m k r o e = (
      record { keys = n.0; words = w.0; types = a.0; count = b.0; algorithm = c.0; march = m.0; kept = k.0; range = r.0; overlap = o.0; cells = e.0 },
      joined first width ram ds n.1 w.1 a.1 b.1 c.1 m.1 k.1 r.1 o.1 e.1,
    )

flash_is_by : (o : Option Data) → cond (is_some o) (small (number_or (option_and_then as_integer o))) 0 ≡ small (number_or (option_and_then as_integer o))
flash_is_by None = refl
flash_is_by (Some d) = refl

-- the default of `flash` is what is read where no number stands
flash_is : (t : Members) → number_in Top (codes "flash") t ≡ small (number_at (codes "flash") t)
flash_is t = flash_is_by (get_member (codes "flash") t)

limits : (t : Members) → Facts t → IsWithinLimits (shape_of t)
unfolding shape_of
limits t f =
    let ram = within (number_at (codes "ram") t) 1 65536 (omega arith) f.ram in
    let flash = within (number_at (codes "flash") t) 0 65536 (omega arith) f.flash in
    record { some = ram.1; ram = ram.2; flash = rw (flash_is t) flash.2 }

count_low : (n : ℕ) → not (is_count 16 n) ≡ false → (1 ≤ n) × (n ≤ 16)
count_low n h = (grind (arith, nat_tests, h), grind (arith, nat_tests, h))

sets_taken : WordsFit → UnrefusedIsMarch → (t : Members) → Facts t → All (IsAcceptedSet (shape_of t)) (map (λ d. set_of (width_at t) (fields d)) (array_at (codes "set") t))
unfolding shape_of
sets_taken fit law t f =
    let ram = number_at (codes "ram") t in
    let size = within ram 1 65536 (omega arith) f.ram in
    all_mapped (λ d. SetFacts (is_version 1 t) (width_at t) ram (fields d)) (IsAcceptedSet (shape_of t)) (λ d. set_of (width_at t) (fields d)) (λ d facts. set_accepted fit law (is_version 1 t) (shape_of t) ram (fields d) size.0 size.2 refl facts)
    (array_at (codes "set") t) (set_facts t f)

ram_taken : WordsFit → UnrefusedIsMarch → (t : Members) → Facts t → IsAcceptedRam (shape_of t) (record { sets = map (λ d. set_of (width_at t) (fields d)) (array_at (codes "set") t) })
ram_taken fit law t f =
    let count : (1 ≤ length (map (λ d. set_of (width_at t) (fields d)) (array_at (codes "set") t))) × (length (map (λ d. set_of (width_at t) (fields d)) (array_at (codes "set") t)) ≤ 16) =
    rw (length-map (array_at (codes "set") t) (λ d. set_of (width_at t) (fields d))) (count_low (length (array_at (codes "set") t)) f.count) in
    record { limits = limits t f; some = count.0; few = count.1; sets = sets_taken fit law t f }

flash_taken : (t : Members) → Facts t → IsAcceptedFls (shape_of t) (fls_at t)
unfolding fls_at shape_of
flash_taken t f =
    let flash = number_at (codes "flash") t in
    let size = within flash 0 65536 (omega arith) f.flash in
    fls_taken (shape_of t) flash (get_member (codes "fls") t) (limits t f) (flash_is t) size.0 size.2 f.fls f.fls_types f.fls_counts f.flash_ranges f.copies

-- the version, which a test decides
number : Bool → ℕ
number first = cond first 1 2

version_by : (first : Bool) → (number first ≡ 1) ⊎ (number first ≡ 2)
unfolding number
version_by true = inl refl
version_by false = inr refl

first_by : (first : Bool) → number first ≡ 1 → first ≡ true
unfolding number
first_by true h = refl
first_by false h = absurd (omega arith)

-- the width, which four tests decide
width_by : Bool → Bool → Bool → Bool → Width
width_by a b c d = unwrap_or (cond a (Some W8) (cond b (Some W16) (cond c (Some W32) (cond d (Some W64) None)))) W8

narrow_by : (a b c d : Bool) → d ≡ false → width_by a b c d ≡ W64 → ⊥
unfolding width_by
narrow_by true b c d e h = absurd cc
narrow_by false true c d e h = absurd cc
narrow_by false false true d e h = absurd cc
narrow_by false false false true e h = absurd cc
narrow_by false false false false e h = absurd cc

other_by : (first wide : Bool) → first ≡ true → (first && wide) ≡ false → wide ≡ false
other_by true wide is h = h
other_by false wide is h = absurd cc

narrow : (t : Members) → is_version 1 t ≡ true → wrong_width t ≡ false → width_at t ≢ W64
unfolding wrong_width width_by
narrow t is h = narrow_by _ _ _ _ (other_by (is_version 1 t) _ is (or_parts _ _ h).1)

first_version : (t : Members) → Facts t → is_version 1 t ≡ true → IsOfFirstVersion (config_of t)
unfolding config_of shape_of
first_version t f is = record {
  width = narrow t is f.width;
  retries = all_mapped (λ d. SetFacts (is_version 1 t) (width_at t) (number_at (codes "ram") t) (fields d)) (λ (set : ParamSet). set.retries ≡ 2) (λ d. set_of (width_at t) (fields d))
      (λ d facts. first_retries (is_version 1 t) (width_at t) (number_at (codes "ram") t) (fields d) is facts) (array_at (codes "set") t) (set_facts t f);
}

pub taken : WordsFit → UnrefusedIsMarch → (t : Members) → first_broken t ≡ None → IsAcceptedConfig (config_of t)
unfolding config_of shape_of number
taken fit law t h =
    let f = facts t h in
    record {
      version = version_by (is_version 1 t);
      limits = limits t f;
      initial = word_fits fit (width_at t) (text_at (codes "initial") t);
      ram_tst = ram_taken fit law t f;
      fls_tst = flash_taken t f;
      first_version = λ h. first_version t f (first_by (is_version 1 t) h);
    }
