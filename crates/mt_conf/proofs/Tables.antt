-- What a test of the tables of an array says of each.
use Rattle.std.proofs.Common.{◌≡◌, ℕ, Bool, true, false, List, [], ◌∷◌, map, All, Option, Some, None, refl}
use Rattle.std.specs.Prelude.{not, ◌&&◌, is_some, option_and_then}
use Rattle.std.specs.List.{list_any, list_all, AllByRecursion}
use Rattle.std.proofs.lemmas.Bool.{and_parts, or_parts}
use Rattle.std.proofs.lemmas.List.Elements.{All-from_recursion}
use Rattle.toml.specs.Data.{Data, string, integer, float, boolean, datetime, array, table, Members, as_table, as_array, get_member}
use Rattle.mt_conf.specs.Lookup.{has_key, items_or, array_at, fields}
use Rattle.mt_conf.specs.Rules.{in_table, has_tables}

abbrev pub is_table : Data → Bool
is_table d = is_some (as_table d)

pub here : (test : Members → Bool) (d : Data) → is_table d ≡ true → in_table test d ≡ false → test (fields d) ≡ false
here test (table ms) h k = k
here test (string s) h k = absurd cc
here test (integer z) h k = absurd cc
here test (float x) h k = absurd cc
here test (boolean b) h k = absurd cc
here test (datetime t) h k = absurd cc
here test (array ds) h k = absurd cc

pub each : (test : Members → Bool) (ds : List Data) → list_all is_table ds ≡ true → list_any (in_table test) ds ≡ false → AllByRecursion (λ d. test (fields d) ≡ false) ds
each test [] h k = tt
each test (d ∷ ds) h k =
    let hs = and_parts (is_table d) (list_all is_table ds) h in
    let ks = or_parts (in_table test d) (list_any (in_table test) ds) k in
    (here test d hs.0 ks.0, each test ds hs.1 ks.1)

pub both : {X : Type 0} (P Q : X → Type 0) (xs : List X) → AllByRecursion P xs → AllByRecursion Q xs → AllByRecursion (λ x. P x × Q x) xs
both P Q [] p q = tt
both P Q (x ∷ xs) p q = ((p.0, q.0), both P Q xs p.1 q.1)

pub mapped : {X Y : Type 0} (P : X → Type 0) (Q : Y → Type 0) (f : X → Y) → ((x : X) → P x → Q (f x)) → (xs : List X) → AllByRecursion P xs → AllByRecursion Q (map f xs)
mapped P Q f more [] p = tt
mapped P Q f more (x ∷ xs) p = (more x p.0, mapped P Q f more xs p.1)

pub all_mapped : {X Y : Type 0} (P : X → Type 0) (Q : Y → Type 0) (f : X → Y) → ((x : X) → P x → Q (f x)) → (xs : List X) → AllByRecursion P xs → All Q (map f xs)
all_mapped P Q f more xs p = All-from_recursion Q (map f xs) (mapped P Q f more xs p)

tables_by : (o : Option Data)
    → (is_some o && not (is_some (option_and_then as_array o) && list_all is_table (items_or (option_and_then as_array o)))) ≡ false
    → list_all is_table (items_or (option_and_then as_array o)) ≡ true
tables_by None h = refl
tables_by (Some d) h = true_by (is_some (as_array d)) (list_all is_table (items_or (as_array d))) h
  where
    true_by : (a b : Bool) → not (a && b) ≡ false → b ≡ true
    true_by true true k = refl
    true_by true false k = absurd cc
    true_by false b k = absurd cc

-- a test that no item passes fails at each
pub each_item : {X : Type 0} (test : X → Bool) (xs : List X) → list_any test xs ≡ false → AllByRecursion (λ x. test x ≡ false) xs
each_item test [] h = tt
each_item test (x ∷ xs) h = let parts = or_parts (test x) (list_any test xs) h in (parts.0, each_item test xs parts.1)

-- the members of an array of tables are tables
pub are_tables : (key : List ℕ) (t : Members) → (has_key key t && not (has_tables key t)) ≡ false → list_all is_table (array_at key t) ≡ true
are_tables key t h = tables_by (get_member key t) h
