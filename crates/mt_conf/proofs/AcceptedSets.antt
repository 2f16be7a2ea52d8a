-- Fields of a configuration that the modules take break none of the rules on blocks and cells.
use Rattle.std.proofs.Common.{◌≡◌, ℕ, ℤ, suc, pos, ◌+◌, ◌-◌, ◌≤◌, ◌<◌, Bool, true, false, List, [], ◌∷◌, length, map, All, Some, None, refl, ap, ◌∙◌, inl, inr, arith}
use Rattle.std.specs.Prelude.{◌⊎◌, ◌&&◌, ◌||◌, not, codes, int_le, int_lt}
use Rattle.std.specs.List.{list_any}
use Rattle.std.proofs.lemmas.Bool.Decides.{nat_tests}
use Rattle.std.proofs.lemmas.List.{length-map}
use Rattle.std.proofs.lemmas.List.Elements.{recursion_from_All}
use Rattle.toml.specs.Data.{Data, string, integer, table, Members, get_member}
use Rattle.mt_word.specs.declared.Width.{Width}
use Rattle.mt_plan.specs.declared.algorithm.Algorithm.{Algorithm}
use Rattle.mt_plan.specs.declared.algorithm.Algorithm.TheVariants.{Checkerboard, March as Marches, WalkPath, Galpat, TransparentGalpat}
use Rattle.mt_plan.specs.declared.algorithm.Policy.TheVariants.{NonDestructive}
use Rattle.mt_seq.specs.Sequence.{is_transparent}
use Rattle.mt_blocks.specs.declared.span.Span.{Span}
use Rattle.mt_blocks.specs.declared.config.Block.{Block as RamBlock}
use Rattle.mt_blocks.specs.declared.config.FlashBlock.{FlashBlock as CopiedBlock}
use Rattle.mt_blocks.specs.declared.config.ParamSet.{ParamSet}
use Rattle.mt_blocks.specs.Slices.{span_at}
use Rattle.mt_blocks.specs.Accepted.{AreApart, IsAcceptedBlock, IsAcceptedFlashBlock, IsAcceptedSet, spans_of}
use Rattle.mt_conf.specs.declared.config.Config.{Config}
use Rattle.mt_conf.specs.declared.schema.Part.TheVariants.{Set, Block, Fls, FlashBlock}
use Rattle.mt_conf.specs.Accepted.{IsAcceptedConfig}
use Rattle.mt_conf.specs.Canonical.{algorithm_name, policy_name}
use Rattle.mt_conf.specs.Lookup.{array_at, number_at}
use Rattle.mt_conf.specs.Rules.{any_block, any_flash_block, any_at, any_meet, any_set, copy_last, copy_overlap, copy_overlap_in_fls, in_order, is_destructive, is_version, is_within, meet, meets_copy, overlap, overlap_in_set, span_of, transparent_destructive, transparent_destructive_in_set, wrong_block_range, wrong_cells, wrong_cells_in_set, wrong_cells_range, wrong_flash_block, wrong_flash_range, wrong_fls, wrong_range, wrong_retries}
use Rattle.mt_conf.specs.Fields.{AreTables, HasNumber, HasTables, IsBlock, IsSet, IsFlashBlock, IsFls, IsOfTable}
use Rattle.mt_conf.specs.Laws.{IsOfItsVersion}
use Rattle.mt_conf.proofs.Numbers.{copy_nat}
use Rattle.mt_conf.proofs.Accepting.{or_both, and_both, le_int, lt_int, needed, named_at, tables_at, none_passes, any_tables, fls_passes_not}
use Rattle.mt_conf.proofs.AcceptedValues.{number_is, is_from, version_is, ram_is, flash_is, sets_are, sets_fit}

-- ---- spans

above : (a b : ℕ) → b < a → int_le (pos a) (pos b) ≡ false
above a b h = grind (arith, nat_tests)

first_false : (a b : Bool) → a ≡ false → (a && b) ≡ false
first_false true b e = absurd cc
first_false false b e = refl

second_false : (a b : Bool) → b ≡ false → (a && b) ≡ false
second_false true b e = e
second_false false b e = refl

abbrev pair : Span → ℤ × ℤ
pair s = (pos s.first, pos s.last)

apart_meets : (a b : Span) → AreApart a b → meet (pair a) (pair b) ≡ false
apart_meets a b (inl h) = second_false (int_le (pos a.first) (pos b.last)) (int_le (pos b.first) (pos a.last)) (above b.first a.last h)
apart_meets a b (inr h) = first_false (int_le (pos a.first) (pos b.last)) (int_le (pos b.first) (pos a.last)) (above a.first b.last h)

first_meets : (a : Span) (spans : List Span) → ((j : ℕ) → j < length spans → AreApart a (span_at spans j)) → list_any (meet (pair a)) (map pair spans) ≡ false
first_meets a [] h = refl
first_meets a (b ∷ spans) h = or_both (meet (pair a) (pair b)) (list_any (meet (pair a)) (map pair spans)) (apart_meets a b (h 0 (omega arith))) (first_meets a spans (λ j lt. h (suc j) (omega arith)))

none_meet : (spans : List Span) → ((i j : ℕ) → i < j → j < length spans → AreApart (span_at spans i) (span_at spans j)) → any_meet (map pair spans) ≡ false
none_meet [] h = refl
none_meet (a ∷ spans) h =
    or_both (list_any (meet (pair a)) (map pair spans)) (any_meet (map pair spans)) (first_meets a spans (λ j lt. h 0 (suc j) (omega arith) (omega arith)))
    (none_meet spans (λ i j less lt. h (suc i) (suc j) (omega arith) (omega arith)))

span_is : (width : Width) (d : Data) (t : Members) (b : RamBlock) → d ≡ table t → IsBlock width t b → span_of d ≡ pair b.span
span_is width d t b same is =
    ap span_of same ∙ rw (number_is (codes "first") t b.span.first (needed Block (codes "first") t b.span.first refl is.first), number_is (codes "last") t b.span.last (needed Block (codes "last") t b.span.last refl is.last))

spans_are : (width : Width) (ds : List Data) (blocks : List RamBlock) → AreTables (IsBlock width) ds blocks → map span_of ds ≡ map pair (spans_of blocks)
spans_are width [] [] h = refl
spans_are width [] (b ∷ blocks) h = absurd h
spans_are width (d ∷ ds) [] h = absurd h
spans_are width (d ∷ ds) (b ∷ blocks) h = rw (span_is width d h.0.0 b h.0.1 h.0.2, spans_are width ds blocks h.1)

ordered : (limit first last : ℕ) → first ≤ last → last < limit → ((int_le (pos 0) (pos first) && int_le (pos first) (pos last)) && int_lt (pos last) (pos limit)) ≡ true
ordered limit first last h g =
    and_both (int_le (pos 0) (pos first) && int_le (pos first) (pos last)) (int_lt (pos last) (pos limit))
    (and_both (int_le (pos 0) (pos first)) (int_le (pos first) (pos last)) (le_int 0 first (omega arith)) (le_int first last h)) (lt_int last limit g)

cells_in : (s : Members) (atomic cells : ℕ) → number_at (codes "atomic") s ≡ pos atomic → number_at (codes "cells") s ≡ pos cells → 1 ≤ atomic → atomic ≤ 64 → atomic ≤ cells → cells ≤ 65536 → wrong_cells s ≡ false
unfolding wrong_cells
cells_in s atomic cells e f some small low high =
    rw (e, f) (ap not (and_both (is_within (pos 1) (pos 64) (pos atomic)) (is_within (pos atomic) (pos 65536) (pos cells)) (is_from 1 64 atomic some small) (is_from atomic 65536 cells low high)))

-- ---- sets and `fls`

module _ (t : Members) (config : Config) (is : IsOfTable t config) (accepted : IsAcceptedConfig config) where
  abbrev width : Width
  width = config.shape.width

  blocks_of : (s : Members) (set : ParamSet) → IsSet width s set → AreTables (IsBlock width) (array_at (codes "block") s) set.blocks
  blocks_of s set is_set = tables_at Set (codes "block") s (IsBlock width) set.blocks is_set.blocks

  each_set : (test : Members → Bool) → ((s : Members) (set : ParamSet) → IsSet width s set → IsAcceptedSet config.shape set → test s ≡ false) → any_set test t ≡ false
  each_set test each =
      none_passes test (IsSet width) (IsAcceptedSet config.shape) (λ m. Unit {0}) (λ s set r p q. each s set r p) (array_at (codes "set") t) config.ram_tst.sets
      (sets_are t config is accepted) (sets_fit t config is accepted) (any_tables (array_at (codes "set") t))

  -- transparent Galpat has no block that is filled
  transparent_by : (s : Members) (set : ParamSet) (alg : Algorithm) → set.alg ≡ alg → IsSet width s set → IsAcceptedSet config.shape set → get_member (codes "algorithm") s ≡ Some (string (algorithm_name alg)) → transparent_destructive_in_set s ≡ false
  unfolding transparent_destructive_in_set is_destructive
  transparent_by s set Checkerboard same is_set fit e = rw e
  transparent_by s set (Marches m) same is_set fit e = rw e
  transparent_by s set WalkPath same is_set fit e = rw e
  transparent_by s set Galpat same is_set fit e = rw e
  transparent_by s set TransparentGalpat same is_set fit e =
      rw e (none_passes is_destructive (IsBlock width) (λ (b : RamBlock). b.policy ≡ NonDestructive) (λ m. Unit {0})
      (λ m b r p q. let named : get_member (codes "policy") m ≡ Some (string (policy_name b.policy)) = named_at Block (codes "policy") m (policy_name b.policy) r.policy in rw (named, p))
      (array_at (codes "block") s) set.blocks (blocks_of s set is_set)
      (recursion_from_All (λ (b : RamBlock). b.policy ≡ NonDestructive) set.blocks (fit.kept (ap is_transparent same))) (any_tables (array_at (codes "block") s)))

  pub transparent_fit : transparent_destructive t ≡ false
  unfolding transparent_destructive
  transparent_fit =
      each_set transparent_destructive_in_set (λ s set r p. transparent_by s set set.alg refl r p (named_at Set (codes "algorithm") s (algorithm_name set.alg) r.algorithm))

  -- blocks lie in the RAM
  block_fits : (b : Members) (block : RamBlock) → IsBlock width b block → IsAcceptedBlock config.shape block → wrong_range (number_at (codes "ram") t) b ≡ false
  unfolding wrong_range
  block_fits b block r fit =
      rw (
        ram_is t config is accepted,
        number_is (codes "first") b block.span.first (needed Block (codes "first") b block.span.first refl r.first),
        number_is (codes "last") b block.span.last (needed Block (codes "last") b block.span.last refl r.last),
      )
      (ap not (ordered config.shape.ram block.span.first block.span.last fit.ordered fit.inside))

  pub ranges_fit : wrong_block_range t ≡ false
  unfolding wrong_block_range
  ranges_fit =
      each_set (any_block (wrong_range (number_at (codes "ram") t))) (λ s set r p.
      none_passes (wrong_range (number_at (codes "ram") t)) (IsBlock width) (IsAcceptedBlock config.shape) (λ m. Unit {0}) (λ m b q fit u. block_fits m b q fit)
      (array_at (codes "block") s) set.blocks (blocks_of s set r) (recursion_from_All (IsAcceptedBlock config.shape) set.blocks p.blocks) (any_tables (array_at (codes "block") s)))

  -- no two blocks of a set share a word
  no_overlap : (s : Members) (set : ParamSet) → IsSet width s set → IsAcceptedSet config.shape set → overlap_in_set s ≡ false
  unfolding overlap_in_set
  no_overlap s set r fit =
      ap any_meet (spans_are width (array_at (codes "block") s) set.blocks (blocks_of s set r))
      ∙ none_meet (spans_of set.blocks) (λ i j less lt. fit.apart i j less (let same : length (spans_of set.blocks) ≡ length set.blocks = length-map set.blocks (λ (b : RamBlock). b.span) in omega (arith, same, lt)))

  pub overlaps_fit : overlap t ≡ false
  unfolding overlap
  overlaps_fit = each_set overlap_in_set no_overlap

  -- cells and tries
  cells_fit : (s : Members) (set : ParamSet) → IsSet width s set → IsAcceptedSet config.shape set → wrong_cells s ≡ false
  cells_fit s set r fit =
      cells_in s set.atomic set.cells (number_is (codes "atomic") s set.atomic (needed Set (codes "atomic") s set.atomic refl r.atomic))
      (number_is (codes "cells") s set.cells (needed Set (codes "cells") s set.cells refl r.cells)) fit.atomic_some fit.atomic_small fit.cells_low fit.cells_high

  retries_fit : (s : Members) (n : ℕ) → HasNumber Set (codes "retries") s n → n ≤ 16 → wrong_retries false s ≡ false
  unfolding wrong_retries
  retries_fit s n (inl (d, there, same)) few =
      let e : get_member (codes "retries") s ≡ Some (integer (pos n)) = there ∙ ap Some same in
      rw (e, is_from 0 16 n (omega arith) few)
  retries_fit s n (inr (none, default)) few = rw none

  no_retries : (s : Members) → get_member (codes "retries") s ≡ None → wrong_retries true s ≡ false
  unfolding wrong_retries
  no_retries s none = rw none

  tries_by : (n : ℕ) → config.version ≡ n → (n ≡ 1) ⊎ (n ≡ 2) → IsOfItsVersion t config → wrong_cells_range t ≡ false
  unfolding wrong_cells_range wrong_cells_in_set
  tries_by n same (inl e) its =
      let first : is_version 1 t ≡ true = rw (version_is t config is accepted, same, e) in
      rw first (none_passes (wrong_cells_in_set true) (IsSet width) (IsAcceptedSet config.shape) (λ s. get_member (codes "retries") s ≡ None)
      (λ s set r p none. or_both (wrong_cells s) (wrong_retries true s) (cells_fit s set r p) (no_retries s none))
      (array_at (codes "set") t) config.ram_tst.sets (sets_are t config is accepted) (sets_fit t config is accepted) (its (same ∙ e)))
  tries_by n same (inr e) its =
      let second : is_version 1 t ≡ false = rw (version_is t config is accepted, same, e) in
      rw second (each_set (wrong_cells_in_set false) (λ s set r p. or_both (wrong_cells s) (wrong_retries false s) (cells_fit s set r p) (retries_fit s set.retries r.retries p.retries)))

  pub tries_fit : IsOfItsVersion t config → wrong_cells_range t ≡ false
  tries_fit its = tries_by config.version refl accepted.version its

  -- flash blocks lie in the flash, and so do their copies
  abbrev IsFit : CopiedBlock → Type 0
  IsFit b = IsAcceptedFlashBlock config.shape b

  copy_is : (m : Members) (b : CopiedBlock) → IsFlashBlock m b → b.span.first ≤ b.span.last → copy_last m ≡ pos (b.copy + (b.span.last - b.span.first))
  copy_is m b r le =
      rw (
        number_is (codes "copy") m b.copy (needed FlashBlock (codes "copy") m b.copy refl r.copy),
        number_is (codes "last") m b.span.last (needed FlashBlock (codes "last") m b.span.last refl r.last),
        number_is (codes "first") m b.span.first (needed FlashBlock (codes "first") m b.span.first refl r.first),
      ) (copy_nat b.copy b.span.first b.span.last le)

  flash_fits : (m : Members) (b : CopiedBlock) → IsFlashBlock m b → IsFit b → wrong_flash_block (pos config.shape.flash) m ≡ false
  unfolding wrong_flash_block
  flash_fits m b r fit =
      let last : ℕ = b.copy + (b.span.last - b.span.first) in
      let lies : in_order (pos config.shape.flash) m ≡ true =
      rw (number_is (codes "first") m b.span.first (needed FlashBlock (codes "first") m b.span.first refl r.first), number_is (codes "last") m b.span.last (needed FlashBlock (codes "last") m b.span.last refl r.last))
      (ordered config.shape.flash b.span.first b.span.last fit.ordered fit.inside) in
      let low : int_le (pos 0) (number_at (codes "copy") m) ≡ true =
      rw (number_is (codes "copy") m b.copy (needed FlashBlock (codes "copy") m b.copy refl r.copy)) (le_int 0 b.copy (omega arith)) in
      let high : int_lt (copy_last m) (pos config.shape.flash) ≡ true =
      ap (λ (z : ℤ). int_lt z (pos config.shape.flash)) (copy_is m b r fit.ordered) ∙ lt_int last config.shape.flash fit.copy in
      ap not (and_both (in_order (pos config.shape.flash) m) (int_le (pos 0) (number_at (codes "copy") m) && int_lt (copy_last m) (pos config.shape.flash)) lies
      (and_both (int_le (pos 0) (number_at (codes "copy") m)) (int_lt (copy_last m) (pos config.shape.flash)) low high))

  copy_fits : (m : Members) (b : CopiedBlock) → IsFlashBlock m b → IsFit b → meets_copy m ≡ false
  unfolding meets_copy
  copy_fits m b r fit =
      let last : ℕ = b.copy + (b.span.last - b.span.first) in
      ap (λ (z : ℤ). meet (number_at (codes "first") m, number_at (codes "last") m) (number_at (codes "copy") m, z)) (copy_is m b r fit.ordered)
      ∙ ap (λ (z : ℤ). meet (z, number_at (codes "last") m) (number_at (codes "copy") m, pos last)) (number_is (codes "first") m b.span.first (needed FlashBlock (codes "first") m b.span.first refl r.first))
      ∙ ap (λ (z : ℤ). meet (pos b.span.first, z) (number_at (codes "copy") m, pos last)) (number_is (codes "last") m b.span.last (needed FlashBlock (codes "last") m b.span.last refl r.last))
      ∙ ap (λ (z : ℤ). meet (pair b.span) (z, pos last)) (number_is (codes "copy") m b.copy (needed FlashBlock (codes "copy") m b.copy refl r.copy))
      ∙ apart_meets b.span (record { first = b.copy; last = last }) fit.apart

  each_block : (test : Members → Bool) (key : List ℕ) (f : Members) (blocks : List CopiedBlock) → ((m : Members) (b : CopiedBlock) → IsFlashBlock m b → IsFit b → test m ≡ false)
      → HasTables Fls key f IsFlashBlock blocks → All IsFit blocks → any_at key test f ≡ false
  each_block test key f blocks each r fit =
      none_passes test IsFlashBlock IsFit (λ m. Unit {0}) (λ m b q p u. each m b q p) (array_at key f) blocks (tables_at Fls key f IsFlashBlock blocks r) (recursion_from_All IsFit blocks fit) (any_tables (array_at key f))

  flash_blocks : (test : Members → Bool) → ((m : Members) (b : CopiedBlock) → IsFlashBlock m b → IsFit b → test m ≡ false) → (f : Members) → IsFls f config.fls_tst → any_flash_block test f ≡ false
  flash_blocks test each f r =
      or_both (any_at (codes "bgnd") test f) (any_at (codes "fgnd") test f) (each_block test (codes "bgnd") f config.fls_tst.bgnd each r.bgnd accepted.fls_tst.bgnd)
      (each_block test (codes "fgnd") f config.fls_tst.fgnd each r.fgnd accepted.fls_tst.fgnd)

  fls_fits : (f : Members) → IsFls f config.fls_tst → wrong_fls (pos config.shape.flash) f ≡ false
  unfolding wrong_fls
  fls_fits f r =
      let end : is_within (pos 0) (pos 65535) (number_at (codes "interval_end") f) ≡ true =
      rw (number_is (codes "interval_end") f config.fls_tst.interval_end (needed Fls (codes "interval_end") f config.fls_tst.interval_end refl r.interval_end))
      (is_from 0 65535 config.fls_tst.interval_end (omega arith) accepted.fls_tst.interval_end) in
      or_both (wrong_cells f || not (is_within (pos 0) (pos 65535) (number_at (codes "interval_end") f))) (any_flash_block (wrong_flash_block (pos config.shape.flash)) f)
      (or_both (wrong_cells f) (not (is_within (pos 0) (pos 65535) (number_at (codes "interval_end") f)))
      (cells_in f config.fls_tst.atomic config.fls_tst.cells (number_is (codes "atomic") f config.fls_tst.atomic (needed Fls (codes "atomic") f config.fls_tst.atomic refl r.atomic))
      (number_is (codes "cells") f config.fls_tst.cells (needed Fls (codes "cells") f config.fls_tst.cells refl r.cells))
      accepted.fls_tst.atomic_some accepted.fls_tst.atomic_small accepted.fls_tst.cells_low accepted.fls_tst.cells_high) (ap not end))
      (flash_blocks (wrong_flash_block (pos config.shape.flash)) flash_fits f r)

  pub flash_range_fits : wrong_flash_range t ≡ false
  unfolding wrong_flash_range
  flash_range_fits = rw (flash_is t config is accepted) (fls_passes_not (wrong_fls (pos config.shape.flash)) t config.fls_tst (λ f e r. fls_fits f r) is.fls_tst)

  pub copies_fit : copy_overlap t ≡ false
  unfolding copy_overlap copy_overlap_in_fls
  copies_fit = fls_passes_not copy_overlap_in_fls t config.fls_tst (λ f e r. flash_blocks meets_copy copy_fits f r) is.fls_tst
