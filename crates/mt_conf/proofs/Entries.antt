-- The fields of a table, by what the rules on its keys and values say.
use Rattle.std.proofs.Common.{◌≡◌, ◌⊎◌, ℕ, pos, Bool, true, false, cond, List, [], ◌∷◌, map, Option, Some, None, refl, sym, ap, inl, inr}
use Rattle.std.specs.Prelude.{not, ◌&&◌, is_some, is_none, option_and_then, unwrap_or}
use Rattle.std.specs.List.{list_all, AllByRecursion}
use Rattle.std.proofs.lemmas.Bool.{and_parts}
use Rattle.toml.specs.Data.{Data, string, integer, float, boolean, datetime, array, table, Items, Members, as_integer, as_str, as_array, get_member}
use Rattle.mt_word.specs.declared.Width.{Width}
use Rattle.mt_word.specs.declared.Width.TheVariants.{W8, W16, W32, W64}
use Rattle.mt_hex.specs.Hex.{word_of}
use Rattle.mt_conf.specs.declared.schema.Part.{Part}
use Rattle.mt_conf.specs.declared.schema.Otherwise.{Otherwise}
use Rattle.mt_conf.specs.declared.schema.Otherwise.TheVariants.{Number as Default, ZeroBits, NoBlocks}
use Rattle.mt_conf.specs.Schema.{default_number, otherwise_of}
use Rattle.mt_conf.specs.Lookup.{has_key, has_number, has_text, number_or, text_or, items_or, number_at, text_at, array_at, listed, fields}
use Rattle.mt_conf.specs.Rules.{has_tables, no_word}
use Rattle.mt_conf.specs.Outcome.{small, number_in, word_or_zero}
use Rattle.mt_conf.specs.Fields.{HasNumber, HasName, HasWord, HasTables, AreTables}
use Rattle.mt_conf.proofs.Tables.{is_table}

-- ---- numbers

number_entry : (o : Option Data) → not (is_some o) ≡ false → (is_some o && not (is_some (option_and_then as_integer o))) ≡ false → o ≡ Some (integer (number_or (option_and_then as_integer o)))
number_entry None n k = absurd cc
number_entry (Some (integer z)) n k = refl
number_entry (Some (string s)) n k = absurd cc
number_entry (Some (float x)) n k = absurd cc
number_entry (Some (boolean b)) n k = absurd cc
number_entry (Some (datetime t)) n k = absurd cc
number_entry (Some (array ds)) n k = absurd cc
number_entry (Some (table ms)) n k = absurd cc

-- a number that may not be left out
pub needed_number : (part : Part) (key : List ℕ) (t : Members) (n : ℕ) → not (has_key key t) ≡ false → (has_key key t && not (has_number key t)) ≡ false → number_at key t ≡ pos n → HasNumber part key t n
needed_number part key t n there type exact = inl (integer (number_at key t), number_entry (get_member key t) there type, ap integer exact)

left_number : (o : Option Data) (w : Otherwise) → w ≡ Default (default_number w) → (is_some o && not (is_some (option_and_then as_integer o))) ≡ false
    → number_or (option_and_then as_integer o) ≡ pos (small (number_or (option_and_then as_integer o)))
    → ((d : Data) × (o ≡ Some d) × (d ≡ integer (pos (cond (is_some o) (small (number_or (option_and_then as_integer o))) (default_number w))))) ⊎ ((o ≡ None) × (w ≡ Default (cond (is_some o) (small (number_or (option_and_then as_integer o))) (default_number w))))
left_number None w default k exact = inr (refl, default)
left_number (Some d) w default k exact = inl (integer (number_or (as_integer d)), number_entry (Some d) refl k, ap integer exact)

-- a number with a default
pub optional_number : (part : Part) (key : List ℕ) (t : Members) → otherwise_of part key ≡ Default (default_number (otherwise_of part key)) → (has_key key t && not (has_number key t)) ≡ false
    → number_at key t ≡ pos (small (number_at key t)) → HasNumber part key t (number_in part key t)
optional_number part key t default type exact = left_number (get_member key t) (otherwise_of part key) default type exact

-- ---- texts

text_entry : (o : Option Data) → not (is_some o) ≡ false → (is_some o && not (is_some (option_and_then as_str o))) ≡ false → o ≡ Some (string (text_or (option_and_then as_str o)))
text_entry None n k = absurd cc
text_entry (Some (string s)) n k = refl
text_entry (Some (integer z)) n k = absurd cc
text_entry (Some (float x)) n k = absurd cc
text_entry (Some (boolean b)) n k = absurd cc
text_entry (Some (datetime t)) n k = absurd cc
text_entry (Some (array ds)) n k = absurd cc
text_entry (Some (table ms)) n k = absurd cc

pub there_text : (key : List ℕ) (t : Members) → not (has_key key t) ≡ false → (has_key key t && not (has_text key t)) ≡ false → get_member key t ≡ Some (string (text_at key t))
there_text key t there type = text_entry (get_member key t) there type

pub needed_name : (part : Part) (key : List ℕ) (t : Members) (name : List ℕ) → not (has_key key t) ≡ false → (has_key key t && not (has_text key t)) ≡ false → name ≡ text_at key t → HasName part key t name
needed_name part key t name there type same = inl (string (text_at key t), there_text key t there type, ap string (sym same))

spelled : (o : Option ℕ) → is_none o ≡ false → o ≡ Some (unwrap_or o 0)
spelled None h = absurd cc
spelled (Some x) h = refl

no_digits : (w : Width) → word_or_zero w [] ≡ 0
unfolding word_of
no_digits W8 = refl
no_digits W16 = refl
no_digits W32 = refl
no_digits W64 = refl

left_word : (w : Width) (o : Option Data) (r : Otherwise) → r ≡ ZeroBits → (is_some o && not (is_some (option_and_then as_str o))) ≡ false
    → (is_some o && is_none (word_of w (text_or (option_and_then as_str o)))) ≡ false
    → ((d : Data) × (o ≡ Some d) × ((text : List ℕ) × (d ≡ string text) × (word_of w text ≡ Some (word_or_zero w (text_or (option_and_then as_str o))))))
    ⊎ ((o ≡ None) × ((r ≡ ZeroBits) × (word_or_zero w (text_or (option_and_then as_str o)) ≡ 0)))
left_word w None r default k h = inr (refl, (default, no_digits w))
left_word w (Some d) r default k h = inl (string (text_or (as_str d)), text_entry (Some d) refl k, (text_or (as_str d), refl, spelled (word_of w (text_or (as_str d))) h))

pub optional_word : (w : Width) (part : Part) (key : List ℕ) (t : Members) → otherwise_of part key ≡ ZeroBits → (has_key key t && not (has_text key t)) ≡ false → no_word w key t ≡ false
    → HasWord w part key t (word_or_zero w (text_at key t))
optional_word w part key t default type h = left_word w (get_member key t) (otherwise_of part key) default type h

-- ---- arrays of tables

pub as_fields : (d : Data) → is_table d ≡ true → d ≡ table (fields d)
as_fields (table ms) h = refl
as_fields (string s) h = absurd cc
as_fields (integer z) h = absurd cc
as_fields (float x) h = absurd cc
as_fields (boolean b) h = absurd cc
as_fields (datetime t) h = absurd cc
as_fields (array ds) h = absurd cc

tables_match : {X : Type 0} (R : Members → X → Type 0) (f : Members → X) (ds : List Data) → list_all is_table ds ≡ true → AllByRecursion (λ d. R (fields d) (f (fields d))) ds
    → AreTables R ds (map (λ d. f (fields d)) ds)
tables_match R f [] h all = tt
tables_match R f (d ∷ ds) h all = let parts = and_parts (is_table d) (list_all is_table ds) h in ((fields d, as_fields d parts.0, all.0), tables_match R f ds parts.1 all.1)

left_tables : {X : Type 0} (R : Members → X → Type 0) (f : Members → X) (o : Option Data) (r : Otherwise) → (is_some o ≡ false → r ≡ NoBlocks)
    → (is_some o && not (is_some (option_and_then as_array o) && list_all is_table (items_or (option_and_then as_array o)))) ≡ false
    → AllByRecursion (λ d. R (fields d) (f (fields d))) (items_or (option_and_then as_array o))
    → ((d : Data) × (o ≡ Some d) × ((ds : Items) × (d ≡ array ds) × AreTables R (listed ds) (map (λ d. f (fields d)) (items_or (option_and_then as_array o)))))
    ⊎ ((o ≡ None) × ((r ≡ NoBlocks) × (map (λ d. f (fields d)) (items_or (option_and_then as_array o)) ≡ [])))
left_tables R f None r default k all = inr (refl, (default refl, refl))
left_tables R f (Some (array ds)) r default k all = inl (array ds, refl, (ds, refl, tables_match R f (listed ds) (true_by (list_all is_table (listed ds)) k) all))
  where
    true_by : (b : Bool) → not b ≡ false → b ≡ true
    true_by true h = refl
    true_by false h = absurd cc
left_tables R f (Some (string s)) r default k all = absurd cc
left_tables R f (Some (integer z)) r default k all = absurd cc
left_tables R f (Some (float x)) r default k all = absurd cc
left_tables R f (Some (boolean b)) r default k all = absurd cc
left_tables R f (Some (datetime t)) r default k all = absurd cc
left_tables R f (Some (table ms)) r default k all = absurd cc

pub some_tables : {X : Type 0} (R : Members → X → Type 0) (f : Members → X) (part : Part) (key : List ℕ) (t : Members) → (has_key key t ≡ false → otherwise_of part key ≡ NoBlocks)
    → (has_key key t && not (has_tables key t)) ≡ false → AllByRecursion (λ d. R (fields d) (f (fields d))) (array_at key t) → HasTables part key t R (map (λ d. f (fields d)) (array_at key t))
some_tables R f part key t default type all = left_tables R f (get_member key t) (otherwise_of part key) default type all
