-- What the rules find in the fields of a table.
use Rattle.std.proofs.Common.{◌≡◌, ℕ, pos, ◌≤◌, ◌<◌, Bool, true, false, List, [], ◌∷◌, length, Option, Some, refl, sym, ap, ◌∙◌, subst, inl, inr, suc, arith}
use Rattle.std.specs.Prelude.{◌&&◌, ◌||◌, not, codes, is_some, option_and_then, int_le, int_lt}
use Rattle.std.specs.List.{list_all, list_any, AllByRecursion}
use Rattle.std.proofs.lemmas.Bool.Decides.{nat_tests}
use Rattle.toml.specs.Data.{Data, string, integer, array, table, Members, as_array, get_member}
use Rattle.mt_word.specs.declared.Width.{Width}
use Rattle.mt_plan.specs.declared.algorithm.Algorithm.{Algorithm}
use Rattle.mt_plan.specs.declared.algorithm.Algorithm.TheVariants.{Checkerboard, March as Marches, WalkPath, Galpat, TransparentGalpat}
use Rattle.mt_blocks.specs.declared.config.FlsConfig.{FlsConfig}
use Rattle.mt_conf.specs.declared.schema.Part.{Part}
use Rattle.mt_conf.specs.declared.schema.Part.TheVariants.{Top}
use Rattle.mt_conf.specs.declared.schema.Otherwise.TheVariants.{NoFlashTest}
use Rattle.mt_conf.specs.Schema.{is_refused, otherwise_of}
use Rattle.mt_conf.specs.Lookup.{has_key, has_number, has_text, has_table, items_or, array_at, listed}
use Rattle.mt_conf.specs.Rules.{has_tables, in_fls, in_option, in_table, no_word}
use Rattle.mt_conf.specs.Fields.{HasNumber, HasName, HasWord, HasTables, HasMarch, AreTables, IsField, IsFls}
use Rattle.mt_conf.specs.Outcome.{no_fls}
use Rattle.mt_conf.specs.Keys.{OfTables}
use Rattle.mt_conf.proofs.Tables.{is_table}

pub or_both : (a b : Bool) → a ≡ false → b ≡ false → (a || b) ≡ false
or_both false b e f = f
or_both true b e f = absurd cc

pub and_both : (a b : Bool) → a ≡ true → b ≡ true → (a && b) ≡ true
and_both true b e f = f
and_both false b e f = absurd cc

-- ---- numbers

pub le_int : (a b : ℕ) → a ≤ b → int_le (pos a) (pos b) ≡ true
le_int a b h = grind (arith, nat_tests)

pub lt_int : (a b : ℕ) → a < b → int_lt (pos a) (pos b) ≡ true
lt_int a b h = grind (arith, nat_tests)

pub needed : (part : Part) (key : List ℕ) (t : Members) (n : ℕ) → is_refused (otherwise_of part key) ≡ true → HasNumber part key t n → get_member key t ≡ Some (integer (pos n))
needed part key t n r (inl (d, there, same)) = there ∙ ap Some same
needed part key t n r (inr (none, default)) = absurd (let other : is_refused (otherwise_of part key) ≡ false = ap is_refused default in cc)

pub number_kind : (part : Part) (key : List ℕ) (t : Members) (n : ℕ) → HasNumber part key t n → (has_key key t && not (has_number key t)) ≡ false
number_kind part key t n (inl (d, there, same)) = let e : get_member key t ≡ Some (integer (pos n)) = there ∙ ap Some same in rw e
number_kind part key t n (inr (none, default)) = rw none

pub there : (key : List ℕ) (t : Members) (d : Data) → get_member key t ≡ Some d → has_key key t ≡ true
there key t d e = ap is_some e

-- ---- names and words

pub named_at : (part : Part) (key : List ℕ) (t : Members) (name : List ℕ) → HasName part key t name → get_member key t ≡ Some (string name)
named_at part key t name (inl (d, there, same)) = there ∙ ap Some same
named_at part key t name (inr (none, default)) = absurd default

pub name_kind : (part : Part) (key : List ℕ) (t : Members) (name : List ℕ) → HasName part key t name → (has_key key t && not (has_text key t)) ≡ false
name_kind part key t name h = rw (named_at part key t name h)

pub word_kind : (width : Width) (part : Part) (key : List ℕ) (t : Members) (word : ℕ) → HasWord width part key t word → (has_key key t && not (has_text key t)) ≡ false
word_kind width part key t word (inl (d, there, (text, same, spelled))) = let e : get_member key t ≡ Some (string text) = there ∙ ap Some same in rw e
word_kind width part key t word (inr (none, default)) = rw none

pub word_spelled : (width : Width) (part : Part) (key : List ℕ) (t : Members) (word : ℕ) → HasWord width part key t word → no_word width key t ≡ false
word_spelled width part key t word (inl (d, there, (text, same, spelled))) = let e : get_member key t ≡ Some (string text) = there ∙ ap Some same in rw (e, spelled)
word_spelled width part key t word (inr (none, default)) = rw none

pub march_kind : (s : Members) (alg : Algorithm) → HasMarch s alg → (has_key (codes "march") s && not (has_text (codes "march") s)) ≡ false
march_kind s (Marches m) (inl (d, there, (text, same, spelled))) = let e : get_member (codes "march") s ≡ Some (string text) = there ∙ ap Some same in rw e
march_kind s (Marches m) (inr (none, default)) = rw none
march_kind s Checkerboard none = rw none
march_kind s WalkPath none = rw none
march_kind s Galpat none = rw none
march_kind s TransparentGalpat none = rw none

-- ---- arrays of tables

all_tables : {X : Type 0} (R : Members → X → Type 0) (ds : List Data) (xs : List X) → AreTables R ds xs → list_all is_table ds ≡ true
all_tables R [] [] h = refl
all_tables R [] (x ∷ xs) h = absurd h
all_tables R (d ∷ ds) [] h = absurd h
all_tables R (d ∷ ds) (x ∷ xs) h = and_both (is_table d) (list_all is_table ds) (ap is_table h.0.1) (all_tables R ds xs h.1)

pub tables_at : {X : Type 0} (part : Part) (key : List ℕ) (t : Members) (R : Members → X → Type 0) (xs : List X) → HasTables part key t R xs → AreTables R (array_at key t) xs
tables_at part key t R xs (inl (d, there, (ds, same, all))) =
    let e : get_member key t ≡ Some (array ds) = there ∙ ap Some same in
    subst (λ (o : Option Data). AreTables R (items_or (option_and_then as_array o)) xs) (sym e) all
tables_at {X} part key t R xs (inr (none, (default, empty))) =
    subst (λ (o : Option Data). AreTables R (items_or (option_and_then as_array o)) xs) (sym none) (subst (λ (l : List X). AreTables R [] l) (sym empty) tt)

pub tables_kind : {X : Type 0} (part : Part) (key : List ℕ) (t : Members) (R : Members → X → Type 0) (xs : List X) → HasTables part key t R xs → (has_key key t && not (has_tables key t)) ≡ false
tables_kind part key t R xs (inl (d, there, (ds, same, all))) =
    let e : get_member key t ≡ Some (array ds) = there ∙ ap Some same in
    let good : list_all is_table (listed ds) ≡ true = all_tables R (listed ds) xs all in
    rw (e, good)
tables_kind part key t R xs (inr (none, default)) = rw none

pub tables_there : {X : Type 0} (part : Part) (key : List ℕ) (t : Members) (R : Members → X → Type 0) (xs : List X) → is_refused (otherwise_of part key) ≡ true → HasTables part key t R xs → has_key key t ≡ true
tables_there part key t R xs r (inl (d, there, more)) = ap is_some there
tables_there part key t R xs r (inr (none, (default, empty))) = absurd (let other : is_refused (otherwise_of part key) ≡ false = ap is_refused default in cc)

pub same_length : {X : Type 0} (R : Members → X → Type 0) (ds : List Data) (xs : List X) → AreTables R ds xs → length ds ≡ length xs
same_length R [] [] h = refl
same_length R [] (x ∷ xs) h = absurd h
same_length R (d ∷ ds) [] h = absurd h
same_length R (d ∷ ds) (x ∷ xs) h = ap suc (same_length R ds xs h.1)

-- a test that fails at each table of an array
pub none_passes : {X : Type 0} (test : Members → Bool) (R : Members → X → Type 0) (P : X → Type 0) (Q : Members → Type 0) → ((t : Members) (x : X) → R t x → P x → Q t → test t ≡ false)
    → (ds : List Data) (xs : List X) → AreTables R ds xs → AllByRecursion P xs → OfTables Q ds → list_any (in_table test) ds ≡ false
none_passes test R P Q each [] [] h p q = refl
none_passes test R P Q each [] (x ∷ xs) h p q = absurd h
none_passes test R P Q each (d ∷ ds) [] h p q = absurd h
none_passes test R P Q each (d ∷ ds) (x ∷ xs) h p q =
    or_both (in_table test d) (list_any (in_table test) ds) (ap (in_table test) h.0.1 ∙ each h.0.0 x h.0.2 p.0 (q.0 h.0.0 h.0.1)) (none_passes test R P Q each ds xs h.1 p.1 q.1)

pub any_items : {X : Type 0} (xs : List X) → AllByRecursion (λ x. Unit {0}) xs
any_items [] = tt
any_items (x ∷ xs) = (tt, any_items xs)

pub any_tables : (ds : List Data) → OfTables (λ t. Unit {0}) ds
any_tables [] = tt
any_tables (d ∷ ds) = ((λ t e. tt), any_tables ds)

-- ---- `fls`

abbrev pub HasFls : Members → FlsConfig → Type 0
HasFls t fls = IsField Top (codes "fls") t (λ d. (f : Members) × (d ≡ table f) × IsFls f fls) (λ o. (o ≡ NoFlashTest) × (fls ≡ no_fls))

pub fls_kind : (t : Members) (fls : FlsConfig) → HasFls t fls → (has_key (codes "fls") t && not (has_table (codes "fls") t)) ≡ false
fls_kind t fls (inl (d, there, (f, same, is))) = let e : get_member (codes "fls") t ≡ Some (table f) = there ∙ ap Some same in rw e
fls_kind t fls (inr (none, default)) = rw none

pub fls_passes_not : (test : Members → Bool) (t : Members) (fls : FlsConfig) → ((f : Members) → get_member (codes "fls") t ≡ Some (table f) → IsFls f fls → test f ≡ false) → HasFls t fls → in_fls test t ≡ false
fls_passes_not test t fls each (inl (d, there, (f, same, is))) =
    let e : get_member (codes "fls") t ≡ Some (table f) = there ∙ ap Some same in ap (in_option test) e ∙ each f e is
fls_passes_not test t fls each (inr (none, default)) = ap (in_option test) none
