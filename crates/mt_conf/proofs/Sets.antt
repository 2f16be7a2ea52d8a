-- A set that breaks no rule is an accepted one.
use Rattle.std.proofs.Common.{◌≡◌, ℕ, ℤ, pos, ◌+◌, ◌<◌, ◌≤◌, Bool, true, false, cond, List, [], ◌∷◌, length, map, Option, Some, None, refl, arith, inl, inr}
use Rattle.std.specs.Prelude.{codes, not, ◌&&◌, ◌||◌, option_map}
use Rattle.std.specs.List.{list_all, AllByRecursion}
use Rattle.std.proofs.lemmas.Bool.{or_parts, and_cases}
use Rattle.std.proofs.lemmas.Bool.Decides.{nat_tests}
use Rattle.std.proofs.lemmas.List.{length-map}
use Rattle.std.proofs.lemmas.List.Elements.{All-from_recursion}
use Rattle.toml.specs.Data.{Data, Members}
use Rattle.mt_word.specs.declared.Width.{Width}
use Rattle.mt_march.specs.declared.march.Element.{Element}
use Rattle.mt_march.specs.declared.march.March.{March}
use Rattle.mt_march.specs.declared.march.MarchRefusal.{MarchRefusal}
use Rattle.mt_march.specs.Known.{march_c_minus}
use Rattle.mt_march.specs.Value.{march_of}
use Rattle.mt_march.specs.Accepted.{IsAcceptedMarch}
use Rattle.mt_hex.specs.Laws.{WordsFit}
use Rattle.mt_march.specs.Laws.{UnrefusedIsMarch}
use Rattle.mt_march.specs.Reading.{march_refusal}
use Rattle.mt_plan.specs.declared.algorithm.Algorithm.TheVariants.{Checkerboard, March as Marches, WalkPath, Galpat, TransparentGalpat}
use Rattle.mt_plan.specs.declared.algorithm.Policy.TheVariants.{NonDestructive, Destructive}
use Rattle.mt_plan.specs.Plan.{IsAccepted}
use Rattle.mt_seq.specs.Sequence.{is_transparent}
use Rattle.mt_port.specs.declared.board.Shape.{Shape}
use Rattle.mt_blocks.specs.declared.config.Block.{Block}
use Rattle.mt_blocks.specs.Slices.{span_at}
use Rattle.mt_blocks.specs.Accepted.{AreApart, spans_of, IsAcceptedBlock, IsAcceptedSet}
use Rattle.mt_conf.specs.declared.config.ConfigRefusal.{ConfigRefusal}
use Rattle.mt_conf.specs.declared.schema.Part.TheVariants.{Set}
use Rattle.mt_conf.specs.Schema.{rows_of}
use Rattle.mt_conf.specs.Lookup.{has_key, number_at, text_at, array_at, fields}
use Rattle.mt_conf.specs.Rules.{any_block, any_in_set, lacks_key, wrong_word_in_set, has_other_kind, has_wrong_type, wrong_count_in_set, wrong_algorithm_in_set, transparent_destructive_in_set, is_destructive, wrong_range, overlap_in_set, wrong_cells, wrong_retries, wrong_cells_in_set, is_within, is_named, is_count}
use Rattle.mt_conf.specs.Outcome.{small, march_of_set, first_some, refused_in_set, refused_from, block_of, march_at, algorithm_at, number_in, set_of}
use Rattle.mt_conf.proofs.Words.{word_fits}
use Rattle.mt_conf.proofs.Tables.{is_table, each, each_item, are_tables, all_mapped}
use Rattle.mt_conf.proofs.Numbers.{not_false, within, cells, order}
use Rattle.mt_conf.proofs.Apart.{first, last, IsExact, blocks_apart}

-- the march of a set is not refused, where there is one
abbrev pub IsUnrefused : Members → Type 0
IsUnrefused s = has_key (codes "march") s ≡ true → march_refusal (text_at (codes "march") s) ≡ None

-- what the rules say of one set, in the first version or not
pub record SetFacts (first : Bool) (width : Width) (ram : ℤ) (s : Members) : Type 0 where
  pub keys : any_in_set lacks_key s ≡ false
  pub words : wrong_word_in_set width s ≡ false
  pub types : any_in_set has_wrong_type s ≡ false
  pub count : wrong_count_in_set s ≡ false
  pub algorithm : wrong_algorithm_in_set s ≡ false
  pub march : IsUnrefused s
  pub kept : transparent_destructive_in_set s ≡ false
  pub range : any_block (wrong_range ram) s ≡ false
  pub overlap : overlap_in_set s ≡ false
  pub cells : wrong_cells_in_set first s ≡ false

none_left : (a b : Option ConfigRefusal) → first_some a b ≡ None → (a ≡ None) × (b ≡ None)
none_left None b h = (refl, h)
none_left (Some r) b h = absurd cc

c_minus_accepted : IsAcceptedMarch march_c_minus
c_minus_accepted =
    let short : AllByRecursion (λ (e : Element). (1 ≤ length e.ops.items) × (length e.ops.items ≤ 8)) march_c_minus =
    ((omega arith, omega arith), ((omega arith, omega arith), ((omega arith, omega arith), ((omega arith, omega arith), ((omega arith, omega arith), ((omega arith, omega arith), tt)))))) in
    record {
      some = omega arith;
      few = omega arith;
      short = All-from_recursion (λ (e : Element). (1 ≤ length e.ops.items) × (length e.ops.items ≤ 8)) march_c_minus short;
      written = refl;
      agree = refl;
      zeros = refl;
      ones = refl;
    }

none_mapped : (i : ℕ) (o : Option MarchRefusal) → option_map (march_of_set i) o ≡ None → o ≡ None
none_mapped i None h = refl
none_mapped i (Some r) h = absurd cc

unrefused_by : (i : ℕ) (written : Bool) (text : List ℕ) → cond written (option_map (march_of_set i) (march_refusal text)) None ≡ None → written ≡ true → march_refusal text ≡ None
unrefused_by i true text h is = none_mapped i (march_refusal text) h
unrefused_by i false text h is = absurd cc

unrefused : (i : ℕ) (s : Members) → refused_in_set i s ≡ None → IsUnrefused s
unfolding refused_in_set
unrefused i s h = unrefused_by i (has_key (codes "march") s) (text_at (codes "march") s) h

pub all_unrefused : (i : ℕ) (ds : List Data) → refused_from i ds ≡ None → AllByRecursion (λ d. IsUnrefused (fields d)) ds
all_unrefused i [] h = tt
all_unrefused i (d ∷ ds) h =
    let parts = none_left (refused_in_set i (fields d)) (refused_from (i + 1) ds) h in
    (unrefused i (fields d) parts.0, all_unrefused (i + 1) ds parts.1)

march_by : UnrefusedIsMarch → (written : Bool) (text : List ℕ) → (written ≡ true → march_refusal text ≡ None) → IsAcceptedMarch (cond written (march_of text) march_c_minus)
march_by law true text h = (law text (h refl)).1
march_by law false text h = c_minus_accepted

march_accepted : UnrefusedIsMarch → (s : Members) → IsUnrefused s → IsAcceptedMarch (march_at s).elements.items
unfolding march_at
march_accepted law s h = march_by law (has_key (codes "march") s) (text_at (codes "march") s) h

accepted_by : (a b c d : Bool) (m : March) → IsAcceptedMarch m.elements.items → IsAccepted (cond a Checkerboard (cond b (Marches m) (cond c WalkPath (cond d Galpat TransparentGalpat))))
accepted_by true b c d m h = tt
accepted_by false true c d m h = h
accepted_by false false true d m h = tt
accepted_by false false false true m h = tt
accepted_by false false false false m h = tt

transparent_by : (a b c d e : Bool) (m : March) → (a || (b || (c || (d || (e || false))))) ≡ true
    → is_transparent (cond a Checkerboard (cond b (Marches m) (cond c WalkPath (cond d Galpat TransparentGalpat)))) ≡ true → e ≡ true
transparent_by true b c d e m known h = absurd cc
transparent_by false true c d e m known h = absurd cc
transparent_by false false true d e m known h = absurd cc
transparent_by false false false true e m known h = absurd cc
transparent_by false false false false true m known h = refl
transparent_by false false false false false m known h = absurd cc

algorithm_accepted : (s : Members) → IsAcceptedMarch (march_at s).elements.items → IsAccepted (algorithm_at s)
unfolding algorithm_at
algorithm_accepted s h = accepted_by _ _ _ _ (march_at s) h

is_transparent_name : (s : Members) → wrong_algorithm_in_set s ≡ false → is_transparent (algorithm_at s) ≡ true → is_named (codes "algorithm") (codes "transparent-galpat") s ≡ true
unfolding algorithm_at wrong_algorithm_in_set
is_transparent_name s known h = transparent_by _ _ _ _ _ (march_at s) (not_false _ (or_parts _ _ (or_parts _ _ known).0).0) h

none_destructive : (s : Members) → wrong_algorithm_in_set s ≡ false → transparent_destructive_in_set s ≡ false → is_transparent (algorithm_at s) ≡ true → any_block is_destructive s ≡ false
unfolding transparent_destructive_in_set
none_destructive s known h transparent =
    let name = is_transparent_name s known transparent in
    elim (and_cases (is_named (codes "algorithm") (codes "transparent-galpat") s) (any_block is_destructive s) h) [ inl other ↦ absurd cc | inr none ↦ none ]

kept_policy : (b : Bool) → b ≡ false → cond b Destructive NonDestructive ≡ NonDestructive
kept_policy true h = absurd cc
kept_policy false h = refl

kept_block : (w : Width) (d : Data) → is_destructive (fields d) ≡ false → (block_of w (fields d)).policy ≡ NonDestructive
unfolding is_destructive block_of
kept_block w d h = kept_policy _ h

pub block_tables : (s : Members) → any_in_set has_wrong_type s ≡ false → list_all is_table (array_at (codes "block") s) ≡ true
unfolding has_wrong_type
block_tables s h = are_tables (codes "block") s (each_item (has_other_kind s) (rows_of Set) (or_parts _ _ h).0).1.1.1.1.1.1.0

-- a block's numbers, and that they are in order below the limit
abbrev IsOrdered : ℤ → Data → Type 0
IsOrdered ram d = IsExact d × (small (first d) ≤ small (last d)) × (small (last d) < small ram)

block_ordered : (ram : ℤ) (d : Data) → ram ≡ pos (small ram) → small ram ≤ 65536 → wrong_range ram (fields d) ≡ false → IsOrdered ram d
unfolding wrong_range
block_ordered ram d e few h = let o = order (first d) (last d) ram e few (not_false _ h) in ((o.0, o.1), o.2, o.3)

block_accepted : WordsFit → (shape : Shape) (ram : ℤ) (d : Data) → shape.ram ≡ small ram → IsOrdered ram d → IsAcceptedBlock shape (block_of shape.width (fields d))
unfolding block_of
block_accepted fit shape ram d same o = record {
  ordered = o.1;
  inside = rw (same) o.2;
  fill = word_fits fit shape.width (text_at (codes "fill") (fields d));
}

all_ordered : (ram : ℤ) (ds : List Data) → ram ≡ pos (small ram) → small ram ≤ 65536 → AllByRecursion (λ d. wrong_range ram (fields d) ≡ false) ds → AllByRecursion (IsOrdered ram) ds
all_ordered ram [] e few all = tt
all_ordered ram (d ∷ ds) e few all = (block_ordered ram d e few all.0, all_ordered ram ds e few all.1)

all_exact : (ram : ℤ) (ds : List Data) → AllByRecursion (IsOrdered ram) ds → AllByRecursion IsExact ds
all_exact ram [] all = tt
all_exact ram (d ∷ ds) all = (all.0.0, all_exact ram ds all.1)

blocks_ordered : (ram : ℤ) (s : Members) → ram ≡ pos (small ram) → small ram ≤ 65536 → any_in_set has_wrong_type s ≡ false → any_block (wrong_range ram) s ≡ false → AllByRecursion (IsOrdered ram) (array_at (codes "block") s)
blocks_ordered ram s e few types range =
    all_ordered ram (array_at (codes "block") s) e few (each (wrong_range ram) (array_at (codes "block") s) (block_tables s types) range)

pub blocks_exact : (ram : ℤ) (s : Members) → ram ≡ pos (small ram) → small ram ≤ 65536 → any_in_set has_wrong_type s ≡ false → any_block (wrong_range ram) s ≡ false → AllByRecursion IsExact (array_at (codes "block") s)
blocks_exact ram s e few types range = all_exact ram (array_at (codes "block") s) (blocks_ordered ram s e few types range)

set_apart : (ram : ℤ) (w : Width) (s : Members) (i j : ℕ) → AllByRecursion (IsOrdered ram) (array_at (codes "block") s) → overlap_in_set s ≡ false → i < j
    → j < length (map (λ d. block_of w (fields d)) (array_at (codes "block") s))
    → AreApart (span_at (spans_of (map (λ d. block_of w (fields d)) (array_at (codes "block") s))) i) (span_at (spans_of (map (λ d. block_of w (fields d)) (array_at (codes "block") s))) j)
unfolding overlap_in_set
set_apart ram w s i j ordered h less short =
    let ds = array_at (codes "block") s in
    blocks_apart w ds i j (all_exact ram ds ordered) h less (rw (length-map ds (λ d. block_of w (fields d))) at short)

count_low : (n : ℕ) → not (is_count 64 n) ≡ false → (1 ≤ n) × (n ≤ 64)
count_low n h = (grind (arith, nat_tests, h), grind (arith, nat_tests, h))

set_count : (w : Width) (s : Members) → wrong_count_in_set s ≡ false
    → (1 ≤ length (map (λ d. block_of w (fields d)) (array_at (codes "block") s))) × (length (map (λ d. block_of w (fields d)) (array_at (codes "block") s)) ≤ 64)
unfolding wrong_count_in_set
set_count w s h = rw (length-map (array_at (codes "block") s) (λ d. block_of w (fields d))) (count_low (length (array_at (codes "block") s)) h)

pub set_cells : (s : Members) → wrong_cells s ≡ false
    → (1 ≤ small (number_at (codes "atomic") s)) × (small (number_at (codes "atomic") s) ≤ 64) × (small (number_at (codes "atomic") s) ≤ small (number_at (codes "cells") s)) × (small (number_at (codes "cells") s) ≤ 65536)
unfolding wrong_cells
set_cells s h = cells (number_at (codes "atomic") s) (number_at (codes "cells") s) h

pub set_rule : (first : Bool) (s : Members) → wrong_cells_in_set first s ≡ false → (wrong_cells s ≡ false) × (wrong_retries first s ≡ false)
unfolding wrong_cells_in_set
set_rule first s h = or_parts _ _ h

retries_by : (first written : Bool) (z : ℤ) → (written && (first || not (is_within (pos 0) (pos 16) z))) ≡ false → (cond written (small z) 2 ≤ 16) × (first ≡ true → cond written (small z) 2 ≡ 2)
retries_by first false z h = (omega arith, λ e. refl)
retries_by true true z h = absurd cc
retries_by false true z h = let w = within z 0 16 (omega arith) (not_false _ h) in (w.2, λ e. absurd cc)

set_retries : (first : Bool) (s : Members) → wrong_retries first s ≡ false → (number_in Set (codes "retries") s ≤ 16) × (first ≡ true → number_in Set (codes "retries") s ≡ 2)
unfolding wrong_retries
set_retries first s h = retries_by first (has_key (codes "retries") s) (number_at (codes "retries") s) h

pub first_retries : (first : Bool) (w : Width) (ram : ℤ) (s : Members) → first ≡ true → SetFacts first w ram s → (set_of w s).retries ≡ 2
unfolding set_of
first_retries first w ram s is facts = (set_retries first s (set_rule first s facts.cells).1).1 is

pub set_accepted : WordsFit → UnrefusedIsMarch → (first : Bool) (shape : Shape) (ram : ℤ) (s : Members) → ram ≡ pos (small ram) → small ram ≤ 65536 → shape.ram ≡ small ram → SetFacts first shape.width ram s → IsAcceptedSet shape (set_of shape.width s)
unfolding set_of
set_accepted fit law first shape ram s e few same facts =
    let ordered = blocks_ordered ram s e few facts.types facts.range in
    let count = set_count shape.width s facts.count in
    let sizes = set_cells s (set_rule first s facts.cells).0 in
    record {
      accepted = algorithm_accepted s (march_accepted law s facts.march);
      kept = λ transparent.
          all_mapped (λ d. is_destructive (fields d) ≡ false) (λ (b : Block). b.policy ≡ NonDestructive) (λ d. block_of shape.width (fields d)) (λ d h. kept_block shape.width d h) (array_at (codes "block") s)
          (each is_destructive (array_at (codes "block") s) (block_tables s facts.types) (none_destructive s facts.algorithm facts.kept transparent));
      background = word_fits fit shape.width (text_at (codes "background") s);
      some = count.0;
      few = count.1;
      blocks = all_mapped (IsOrdered ram) (IsAcceptedBlock shape) (λ d. block_of shape.width (fields d)) (λ d o. block_accepted fit shape ram d same o) (array_at (codes "block") s) ordered;
      apart = λ i j less short. set_apart ram shape.width s i j ordered facts.overlap less short;
      atomic_some = sizes.0;
      atomic_small = sizes.1;
      cells_low = sizes.2;
      cells_high = sizes.3;
      retries = (set_retries first s (set_rule first s facts.cells).1).0;
    }
