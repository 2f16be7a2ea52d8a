-- Fields of a configuration that the modules take break none of the rules on single values.
use Rattle.std.proofs.Common.{◌≡◌, ℕ, pos, ◌≤◌, Bool, true, false, List, length, Option, Some, refl, sym, ap, ◌∙◌, subst, inl, inr, arith}
use Rattle.std.specs.Prelude.{◌&&◌, ◌||◌, not, codes, option_and_then, nat_le, nat_lt, int_le}
use Rattle.std.specs.List.{AllByRecursion}
use Rattle.std.proofs.lemmas.Bool.{le-leb, le-ltb}
use Rattle.std.proofs.lemmas.List.Elements.{recursion_from_All}
use Rattle.toml.specs.Data.{Data, string, integer, Members, as_integer, get_member}
use Rattle.mt_word.specs.declared.Width.{Width}
use Rattle.mt_word.specs.declared.Width.TheVariants.{W8, W16, W32, W64}
use Rattle.mt_word.specs.Word.{width_bits}
use Rattle.mt_plan.specs.declared.algorithm.Algorithm.{Algorithm}
use Rattle.mt_plan.specs.declared.algorithm.Algorithm.TheVariants.{Checkerboard, March as Marches, WalkPath, Galpat, TransparentGalpat}
use Rattle.mt_plan.specs.declared.algorithm.Policy.{Policy}
use Rattle.mt_plan.specs.declared.algorithm.Policy.TheVariants.{NonDestructive, Destructive}
use Rattle.mt_blocks.specs.declared.config.ParamSet.{ParamSet}
use Rattle.mt_blocks.specs.Accepted.{IsAcceptedSet}
use Rattle.mt_conf.specs.declared.config.Config.{Config}
use Rattle.mt_conf.specs.declared.schema.Part.TheVariants.{Top, Set, Block, Fls}
use Rattle.mt_conf.specs.declared.schema.Otherwise.{Otherwise}
use Rattle.mt_conf.specs.Schema.{default_number}
use Rattle.mt_conf.specs.Accepted.{IsAcceptedConfig}
use Rattle.mt_conf.specs.Canonical.{algorithm_name, policy_name}
use Rattle.mt_conf.specs.Lookup.{array_at, has_key, number_at, number_or, text_at}
use Rattle.mt_conf.specs.Rules.{any_block, any_set, is_count, is_version, is_within, is_one_of, algorithm_names, idle_march, in_fls, no_word, width_at, wrong_algorithm, wrong_algorithm_in_set, wrong_count, wrong_count_in_fls, wrong_count_in_set, wrong_policy, wrong_size, wrong_version, wrong_width, wrong_word, wrong_word_in_set}
use Rattle.mt_conf.specs.Fields.{AreTables, HasMarch, HasNumber, IsBlock, IsSet, IsFlashBlock, IsFls, IsOfTable}
use Rattle.mt_conf.proofs.Accepting.{or_both, and_both, le_int, needed, named_at, word_spelled, tables_at, same_length, none_passes, any_items, any_tables, fls_passes_not}

-- the number and the text at a key
pub number_is : (key : List ℕ) (t : Members) (n : ℕ) → get_member key t ≡ Some (integer (pos n)) → number_at key t ≡ pos n
number_is key t n e = ap (λ (o : Option Data). number_or (option_and_then as_integer o)) e

pub text_is : (key : List ℕ) (t : Members) (text : List ℕ) → get_member key t ≡ Some (string text) → text_at key t ≡ text
text_is key t text e = rw e

pub is_from : (low high n : ℕ) → low ≤ n → n ≤ high → is_within (pos low) (pos high) (pos n) ≡ true
is_from low high n l h = and_both (int_le (pos low) (pos n)) (int_le (pos n) (pos high)) (le_int low n l) (le_int n high h)

-- ---- names and counts

pub never : (b : Bool) → (b && false) ≡ false
never true = refl
never false = refl

counted : (most : ℕ) (ds : List Data) {n : ℕ} → length ds ≡ n → 1 ≤ n → n ≤ most → not (is_count most (length ds)) ≡ false
counted most ds {n} same some few = rw same (ap not (and_both (nat_le 1 n) (nat_le n most) (le-leb 1 n some) (le-leb n most few)))

few_at : (ds : List Data) {n : ℕ} → length ds ≡ n → n ≤ 64 → nat_lt 64 (length ds) ≡ false
few_at ds {n} same few = rw same (le-ltb 64 n few)

named_algorithm : (s : Members) (alg : Algorithm) → get_member (codes "algorithm") s ≡ Some (string (algorithm_name alg)) → HasMarch s alg → (not (is_one_of algorithm_names (text_at (codes "algorithm") s)) || idle_march s) ≡ false
unfolding idle_march
named_algorithm s Checkerboard e none = rw (e, none)
named_algorithm s (Marches m) e march = rw e (never (has_key (codes "march") s))
named_algorithm s WalkPath e none = rw (e, none)
named_algorithm s Galpat e none = rw (e, none)
named_algorithm s TransparentGalpat e none = rw (e, none)

named_policy : (b : Members) (policy : Policy) → get_member (codes "policy") b ≡ Some (string (policy_name policy)) → wrong_policy b ≡ false
unfolding wrong_policy
named_policy b NonDestructive e = rw e
named_policy b Destructive e = rw e

module _ (t : Members) (config : Config) (is : IsOfTable t config) (accepted : IsAcceptedConfig config) where
  pub version_is : number_at (codes "version") t ≡ pos config.version
  version_is = number_is (codes "version") t config.version (needed Top (codes "version") t config.version refl is.version)

  pub width_is : number_at (codes "width") t ≡ pos (width_bits config.shape.width)
  width_is = number_is (codes "width") t (width_bits config.shape.width) (needed Top (codes "width") t (width_bits config.shape.width) refl is.width)

  pub ram_is : number_at (codes "ram") t ≡ pos config.shape.ram
  ram_is = number_is (codes "ram") t config.shape.ram (needed Top (codes "ram") t config.shape.ram refl is.ram)

  pub flash_is : number_at (codes "flash") t ≡ pos config.shape.flash
  flash_is = by_field is.flash
    where
      by_field : HasNumber Top (codes "flash") t config.shape.flash → number_at (codes "flash") t ≡ pos config.shape.flash
      by_field (inl (d, there, same)) = number_is (codes "flash") t config.shape.flash (there ∙ ap Some same)
      by_field (inr (none, default)) = rw none (ap (λ (o : Otherwise). pos (default_number o)) default)

  pub version_fits : wrong_version t ≡ false
  unfolding wrong_version
  version_fits = rw version_is (elim accepted.version [ inl e ↦ rw e | inr e ↦ rw e ])

  pub size_fits : wrong_size t ≡ false
  unfolding wrong_size
  size_fits =
      let ram : is_within (pos 1) (pos 65536) (pos config.shape.ram) ≡ true = is_from 1 65536 config.shape.ram accepted.limits.some accepted.limits.ram in
      let flash : is_within (pos 0) (pos 65536) (pos config.shape.flash) ≡ true = is_from 0 65536 config.shape.flash (omega arith) accepted.limits.flash in
      rw (ram_is, flash_is, ram, flash)

  width_by : (width : Width) → config.shape.width ≡ width → wrong_width t ≡ false
  unfolding wrong_width
  width_by W8 e = rw (width_is, e) (ap (λ (b : Bool). false || b) (never (is_version 1 t)))
  width_by W16 e = rw (width_is, e) (never (is_version 1 t))
  width_by W32 e = rw (width_is, e) (never (is_version 1 t))
  width_by W64 e =
      elim accepted.version [
        | inl one ↦ absurd ((accepted.first_version one).width e)
        | inr two ↦ rw (width_is, e, version_is, two)
      ]

  pub width_fits : wrong_width t ≡ false
  width_fits = width_by config.shape.width refl

  same_width_by : (width : Width) → config.shape.width ≡ width → width_at t ≡ width
  same_width_by W8 e = rw (width_is, e)
  same_width_by W16 e = rw (width_is, e)
  same_width_by W32 e = rw (width_is, e)
  same_width_by W64 e = rw (width_is, e)

  same_width : width_at t ≡ config.shape.width
  same_width = same_width_by config.shape.width refl

  -- the sets of the table
  pub sets_are : AreTables (IsSet config.shape.width) (array_at (codes "set") t) config.ram_tst.sets
  sets_are = tables_at Top (codes "set") t (IsSet config.shape.width) config.ram_tst.sets is.sets

  pub sets_fit : AllByRecursion (IsAcceptedSet config.shape) config.ram_tst.sets
  sets_fit = recursion_from_All (IsAcceptedSet config.shape) config.ram_tst.sets accepted.ram_tst.sets

  word_in_set : (s : Members) (set : ParamSet) → IsSet config.shape.width s set → wrong_word_in_set config.shape.width s ≡ false
  unfolding wrong_word_in_set
  word_in_set s set is_set =
      or_both (no_word config.shape.width (codes "background") s) (any_block (no_word config.shape.width (codes "fill")) s) (word_spelled config.shape.width Set (codes "background") s set.background is_set.background)
      (none_passes (no_word config.shape.width (codes "fill")) (IsBlock config.shape.width) (λ b. Unit {0}) (λ m. Unit {0}) (λ m b r p q. word_spelled config.shape.width Block (codes "fill") m b.fill r.fill)
      (array_at (codes "block") s) set.blocks (tables_at Set (codes "block") s (IsBlock config.shape.width) set.blocks is_set.blocks) (any_items set.blocks) (any_tables (array_at (codes "block") s)))

  pub words_fit : wrong_word t ≡ false
  unfolding wrong_word
  words_fit =
      subst (λ (width : Width). (no_word width (codes "initial") t || any_set (wrong_word_in_set width) t) ≡ false) (sym same_width)
      (or_both (no_word config.shape.width (codes "initial") t) (any_set (wrong_word_in_set config.shape.width) t) (word_spelled config.shape.width Top (codes "initial") t config.initial is.initial)
      (none_passes (wrong_word_in_set config.shape.width) (IsSet config.shape.width) (λ set. Unit {0}) (λ m. Unit {0}) (λ s set r p q. word_in_set s set r)
      (array_at (codes "set") t) config.ram_tst.sets sets_are (any_items config.ram_tst.sets) (any_tables (array_at (codes "set") t))))

  count_in_set : (s : Members) (set : ParamSet) → IsSet config.shape.width s set → IsAcceptedSet config.shape set → wrong_count_in_set s ≡ false
  unfolding wrong_count_in_set
  count_in_set s set is_set fit =
      counted 64 (array_at (codes "block") s) (same_length (IsBlock config.shape.width) (array_at (codes "block") s) set.blocks (tables_at Set (codes "block") s (IsBlock config.shape.width) set.blocks is_set.blocks)) fit.some fit.few

  count_in_fls : (f : Members) → IsFls f config.fls_tst → wrong_count_in_fls f ≡ false
  unfolding wrong_count_in_fls
  count_in_fls f is_fls =
      or_both _ _ (few_at (array_at (codes "bgnd") f) (same_length IsFlashBlock (array_at (codes "bgnd") f) config.fls_tst.bgnd (tables_at Fls (codes "bgnd") f IsFlashBlock config.fls_tst.bgnd is_fls.bgnd)) accepted.fls_tst.bgnd_few)
      (few_at (array_at (codes "fgnd") f) (same_length IsFlashBlock (array_at (codes "fgnd") f) config.fls_tst.fgnd (tables_at Fls (codes "fgnd") f IsFlashBlock config.fls_tst.fgnd is_fls.fgnd)) accepted.fls_tst.fgnd_few)

  pub counts_fit : wrong_count t ≡ false
  unfolding wrong_count
  counts_fit =
      or_both (not (is_count 16 (length (array_at (codes "set") t))) || any_set wrong_count_in_set t) (in_fls wrong_count_in_fls t)
      (or_both (not (is_count 16 (length (array_at (codes "set") t)))) (any_set wrong_count_in_set t)
      (counted 16 (array_at (codes "set") t) (same_length (IsSet config.shape.width) (array_at (codes "set") t) config.ram_tst.sets sets_are) accepted.ram_tst.some accepted.ram_tst.few)
      (none_passes wrong_count_in_set (IsSet config.shape.width) (IsAcceptedSet config.shape) (λ m. Unit {0}) (λ s set r p q. count_in_set s set r p)
      (array_at (codes "set") t) config.ram_tst.sets sets_are sets_fit (any_tables (array_at (codes "set") t))))
      (fls_passes_not wrong_count_in_fls t config.fls_tst (λ f e r. count_in_fls f r) is.fls_tst)

  algorithm_in_set : (s : Members) (set : ParamSet) → IsSet config.shape.width s set → wrong_algorithm_in_set s ≡ false
  unfolding wrong_algorithm_in_set
  algorithm_in_set s set is_set =
      or_both (not (is_one_of algorithm_names (text_at (codes "algorithm") s)) || idle_march s) (any_block wrong_policy s)
      (named_algorithm s set.alg (named_at Set (codes "algorithm") s (algorithm_name set.alg) is_set.algorithm) is_set.march)
      (none_passes wrong_policy (IsBlock config.shape.width) (λ b. Unit {0}) (λ m. Unit {0}) (λ m b r p q. named_policy m b.policy (named_at Block (codes "policy") m (policy_name b.policy) r.policy))
      (array_at (codes "block") s) set.blocks (tables_at Set (codes "block") s (IsBlock config.shape.width) set.blocks is_set.blocks) (any_items set.blocks) (any_tables (array_at (codes "block") s)))

  pub algorithms_fit : wrong_algorithm t ≡ false
  unfolding wrong_algorithm
  algorithms_fit =
      none_passes wrong_algorithm_in_set (IsSet config.shape.width) (λ set. Unit {0}) (λ m. Unit {0}) (λ s set r p q. algorithm_in_set s set r)
      (array_at (codes "set") t) config.ram_tst.sets sets_are (any_items config.ram_tst.sets) (any_tables (array_at (codes "set") t))
