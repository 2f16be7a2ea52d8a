-- What a table has at a key.
use Rattle.std.specs.Prelude.{ℕ, ℤ, pos, List, [], ◌∷◌, Bool, Option, Some, None, is_some, option_and_then}
use Rattle.toml.specs.Data.{Data, table, Items, no_items, item, Members, no_members, get_member, as_integer, as_str, as_array, as_table}

-- the items as a list
abbrev pub listed : Items → List Data
listed no_items = []
listed (item d ds) = d ∷ listed ds

-- whether something stands at a key
abbrev pub has_key : List ℕ → Members → Bool
has_key key t = is_some (get_member key t)

-- whether what stands at a key has the type
abbrev pub has_number : List ℕ → Members → Bool
has_number key t = is_some (option_and_then as_integer (get_member key t))

abbrev pub has_text : List ℕ → Members → Bool
has_text key t = is_some (option_and_then as_str (get_member key t))

abbrev pub has_array : List ℕ → Members → Bool
has_array key t = is_some (option_and_then as_array (get_member key t))

abbrev pub has_table : List ℕ → Members → Bool
has_table key t = is_some (option_and_then as_table (get_member key t))

-- the value where it has the type, else 0, no byte, no item
abbrev pub number_or : Option ℤ → ℤ
number_or None = pos 0
number_or (Some z) = z

abbrev pub text_or : Option (List ℕ) → List ℕ
text_or None = []
text_or (Some s) = s

abbrev pub items_or : Option Items → List Data
items_or None = []
items_or (Some ds) = listed ds

-- the number, the text and the items of the array at a key
abbrev pub number_at : List ℕ → Members → ℤ
number_at key t = number_or (option_and_then as_integer (get_member key t))

abbrev pub text_at : List ℕ → Members → List ℕ
text_at key t = text_or (option_and_then as_str (get_member key t))

abbrev pub array_at : List ℕ → Members → List Data
array_at key t = items_or (option_and_then as_array (get_member key t))

-- the entries of a value that is a table, else none
abbrev pub fields : Data → Members
fields (table ms) = ms
fields _ = no_members
