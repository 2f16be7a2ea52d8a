-- A flash configuration that breaks no rule is an accepted one.
use Rattle.std.proofs.Common.{◌≡◌, ℕ, ℤ, pos, ◌+◌, ◌-◌, ◌<◌, ◌≤◌, true, false, List, [], length, map, All, Option, Some, None, arith}
use Rattle.std.specs.Prelude.{codes, not, ◌&&◌, is_some, option_and_then, nat_lt, int_le}
use Rattle.std.specs.List.{list_all}
use Rattle.std.proofs.lemmas.Bool.{and_parts, or_parts}
use Rattle.std.proofs.lemmas.Bool.Decides.{nat_tests}
use Rattle.std.proofs.lemmas.List.{length-map}
use Rattle.std.proofs.lemmas.List.Elements.{All-from_recursion}
use Rattle.toml.specs.Data.{Data, Members, as_table}
use Rattle.mt_port.specs.declared.board.Shape.{Shape}
use Rattle.mt_port.specs.Board.{IsWithinLimits}
use Rattle.mt_blocks.specs.Accepted.{AreApart, IsAcceptedFlashBlock, IsAcceptedFls}
use Rattle.mt_conf.specs.declared.schema.Part.TheVariants.{Fls}
use Rattle.mt_conf.specs.Schema.{rows_of}
use Rattle.mt_conf.specs.Lookup.{has_key, number_at, array_at, fields}
use Rattle.mt_conf.specs.Rules.{any_at, in_option, any_in_fls, has_tables, has_other_kind, has_wrong_type, in_order, wrong_count_in_fls, copy_last, wrong_flash_block, wrong_fls, wrong_cells, meets_copy, copy_overlap_in_fls}
use Rattle.mt_conf.specs.Outcome.{small, flash_block_of, fls_of, no_fls, fls_or}
use Rattle.mt_conf.proofs.Tables.{is_table, here, each, each_item, both, are_tables, all_mapped}
use Rattle.mt_conf.proofs.Numbers.{not_false, order, within, nat_apart, IsWithinCopy, copy_within}
use Rattle.mt_conf.proofs.Sets.{set_cells}

-- what the rules say of one flash block
abbrev IsGood : ℤ → Data → Type 0
IsGood flash d = (wrong_flash_block flash (fields d) ≡ false) × (meets_copy (fields d) ≡ false)

-- its numbers are what they are as small numbers, in order, and its copy is within the flash
pub record BlockSizes (flash : ℤ) (b : Members) : Type 0 where
  pub first : number_at (codes "first") b ≡ pos (small (number_at (codes "first") b))
  pub last : number_at (codes "last") b ≡ pos (small (number_at (codes "last") b))
  pub ordered : small (number_at (codes "first") b) ≤ small (number_at (codes "last") b)
  pub inside : small (number_at (codes "last") b) < small flash
  pub copied : IsWithinCopy (number_at (codes "copy") b) (number_at (codes "first") b) (number_at (codes "last") b) flash

pub block_sizes : (flash : ℤ) (b : Members) → flash ≡ pos (small flash) → small flash ≤ 65536 → wrong_flash_block flash b ≡ false → BlockSizes flash b
unfolding wrong_flash_block
block_sizes flash b e few h =
    let parts = and_parts (in_order flash b) _ (not_false _ h) in
    let o = order (number_at (codes "first") b) (number_at (codes "last") b) flash e few parts.0 in
    record {
      first = o.0;
      last = o.1;
      ordered = o.2;
      inside = o.3;
      copied = copy_within (number_at (codes "copy") b) (number_at (codes "first") b) (number_at (codes "last") b) flash o.0 o.1 e o.2 few parts.1;
    }

copy_apart : (flash : ℤ) (b : Members) → BlockSizes flash b → meets_copy b ≡ false
    → AreApart (flash_block_of b).span
    (record { first = (flash_block_of b).copy; last = (flash_block_of b).copy + ((flash_block_of b).span.last - (flash_block_of b).span.first) })
unfolding meets_copy flash_block_of
copy_apart flash b sizes h =
    nat_apart (small (number_at (codes "first") b)) (small (number_at (codes "last") b)) (small (number_at (codes "copy") b))
    (small (number_at (codes "copy") b) + (small (number_at (codes "last") b) - small (number_at (codes "first") b)))
    (apart_by (number_at (codes "first") b) (number_at (codes "last") b) (number_at (codes "copy") b) (copy_last b) _ _ _ _ sizes.first sizes.last sizes.copied.copy sizes.copied.last h)
  where
    apart_by : (a b c d : ℤ) (i j k l : ℕ) → a ≡ pos i → b ≡ pos j → c ≡ pos k → d ≡ pos l → (int_le a d && int_le c b) ≡ false → (int_le (pos i) (pos l) && int_le (pos k) (pos j)) ≡ false
    apart_by a b c d i j k l ea eb ec ed h = rw (ea, eb, ec, ed) at h

block_accepted : (shape : Shape) (flash : ℤ) (d : Data) → shape.flash ≡ small flash → flash ≡ pos (small flash) → small flash ≤ 65536 → IsGood flash d → IsAcceptedFlashBlock shape (flash_block_of (fields d))
unfolding flash_block_of
block_accepted shape flash d same e few good =
    let sizes = block_sizes flash (fields d) e few good.0 in
    record {
      ordered = sizes.ordered;
      inside = rw same sizes.inside;
      copy = rw same sizes.copied.inside;
      apart = copy_apart flash (fields d) sizes good.1;
    }

blocks_accepted : (shape : Shape) (flash : ℤ) (key : List ℕ) (f : Members) → shape.flash ≡ small flash → flash ≡ pos (small flash) → small flash ≤ 65536 → (has_key key f && not (has_tables key f)) ≡ false
    → any_at key (wrong_flash_block flash) f ≡ false → any_at key meets_copy f ≡ false → All (IsAcceptedFlashBlock shape) (map (λ d. flash_block_of (fields d)) (array_at key f))
blocks_accepted shape flash key f same e few types range overlap =
    let ds = array_at key f in
    let tables = are_tables key f types in
    all_mapped (IsGood flash) (IsAcceptedFlashBlock shape) (λ d. flash_block_of (fields d)) (λ d good. block_accepted shape flash d same e few good) ds
    (both (λ d. wrong_flash_block flash (fields d) ≡ false) (λ d. meets_copy (fields d) ≡ false) ds (each (wrong_flash_block flash) ds tables range) (each meets_copy ds tables overlap))

few_by : (n : ℕ) → nat_lt 64 n ≡ false → n ≤ 64
few_by n h = grind (arith, nat_tests, h)

fls_counts : (f : Members) → wrong_count_in_fls f ≡ false
    → (length (map (λ d. flash_block_of (fields d)) (array_at (codes "bgnd") f)) ≤ 64) × (length (map (λ d. flash_block_of (fields d)) (array_at (codes "fgnd") f)) ≤ 64)
unfolding wrong_count_in_fls
fls_counts f h =
    let parts = or_parts _ _ h in (
      rw (length-map (array_at (codes "bgnd") f) (λ d. flash_block_of (fields d))) (few_by _ parts.0),
      rw (length-map (array_at (codes "fgnd") f) (λ d. flash_block_of (fields d))) (few_by _ parts.1),
    )

pub fls_types : (f : Members) → any_in_fls has_wrong_type f ≡ false
    → ((has_key (codes "bgnd") f && not (has_tables (codes "bgnd") f)) ≡ false) × ((has_key (codes "fgnd") f && not (has_tables (codes "fgnd") f)) ≡ false)
unfolding has_wrong_type
fls_types f h = let rows = each_item (has_other_kind f) (rows_of Fls) (or_parts _ _ h).0 in (rows.1.1.1.0, rows.1.1.1.1.0)

pub flash_tables : (f : Members) → any_in_fls has_wrong_type f ≡ false → (list_all is_table (array_at (codes "bgnd") f) ≡ true) × (list_all is_table (array_at (codes "fgnd") f) ≡ true)
flash_tables f h = let types = fls_types f h in (are_tables (codes "bgnd") f types.0, are_tables (codes "fgnd") f types.1)

pub fls_ranges : (flash : ℤ) (f : Members) → wrong_fls flash f ≡ false
    → (wrong_cells f ≡ false) × (small (number_at (codes "interval_end") f) ≤ 65535) × (any_at (codes "bgnd") (wrong_flash_block flash) f ≡ false) × (any_at (codes "fgnd") (wrong_flash_block flash) f ≡ false)
unfolding wrong_fls
fls_ranges flash f h =
    let parts = or_parts _ _ h in
    let own = or_parts _ _ parts.0 in
    let blocks = or_parts _ _ parts.1 in
    let interval = within (number_at (codes "interval_end") f) 0 65535 (omega arith) (not_false _ own.1) in
    (own.0, interval.2, blocks.0, blocks.1)

fls_overlaps : (f : Members) → copy_overlap_in_fls f ≡ false → (any_at (codes "bgnd") meets_copy f ≡ false) × (any_at (codes "fgnd") meets_copy f ≡ false)
unfolding copy_overlap_in_fls
fls_overlaps f h = or_parts _ _ h

fls_accepted : (shape : Shape) (flash : ℤ) (f : Members) → IsWithinLimits shape → shape.flash ≡ small flash → flash ≡ pos (small flash) → small flash ≤ 65536
    → any_in_fls has_wrong_type f ≡ false → wrong_count_in_fls f ≡ false → wrong_fls flash f ≡ false → copy_overlap_in_fls f ≡ false → IsAcceptedFls shape (fls_of f)
unfolding fls_of
fls_accepted shape flash f limits same e few types count range overlap =
    let ranges = fls_ranges flash f range in
    let sizes = set_cells f ranges.0 in
    let counts = fls_counts f count in
    let tables = fls_types f types in
    let overlaps = fls_overlaps f overlap in
    record {
      limits = limits;
      atomic_some = sizes.0;
      atomic_small = sizes.1;
      cells_low = sizes.2;
      cells_high = sizes.3;
      interval_end = ranges.1;
      bgnd_few = counts.0;
      fgnd_few = counts.1;
      bgnd = blocks_accepted shape flash (codes "bgnd") f same e few tables.0 ranges.2 overlaps.0;
      fgnd = blocks_accepted shape flash (codes "fgnd") f same e few tables.1 ranges.3 overlaps.1;
    }

no_fls_accepted : (shape : Shape) → IsWithinLimits shape → IsAcceptedFls shape no_fls
no_fls_accepted shape limits = record {
  limits = limits;
  atomic_some = omega arith;
  atomic_small = omega arith;
  cells_low = omega arith;
  cells_high = omega arith;
  interval_end = omega arith;
  bgnd_few = omega arith;
  fgnd_few = omega arith;
  bgnd = All-from_recursion (IsAcceptedFlashBlock shape) [] tt;
  fgnd = All-from_recursion (IsAcceptedFlashBlock shape) [] tt;
}

pub fls_taken : (shape : Shape) (flash : ℤ) (o : Option Data) → IsWithinLimits shape → shape.flash ≡ small flash → flash ≡ pos (small flash) → small flash ≤ 65536
    → (is_some o && not (is_some (option_and_then as_table o))) ≡ false
    → in_option (any_in_fls has_wrong_type) o ≡ false → in_option wrong_count_in_fls o ≡ false → in_option (wrong_fls flash) o ≡ false → in_option copy_overlap_in_fls o ≡ false → IsAcceptedFls shape (fls_or o)
fls_taken shape flash None limits same e few table types count range overlap = no_fls_accepted shape limits
fls_taken shape flash (Some d) limits same e few table types count range overlap =
    let is = not_false (is_table d) table in
    fls_accepted shape flash (fields d) limits same e few (here (any_in_fls has_wrong_type) d is types) (here wrong_count_in_fls d is count) (here (wrong_fls flash) d is range) (here copy_overlap_in_fls d is overlap)
