-- The data of a value's items as a list.
use Rattle.std.proofs.Common.{◌≡◌, false, inl, inr, ℕ, ℤ, ◌+◌, ◌<◌, Bool, List, [], ◌∷◌, length, drop, get_or, map, refl, ap, String, Global}
use Rattle.std.proofs.lemmas.List.{drop_more}
use Rattle.std.specs.Prelude.{◌||◌}
use Rattle.std.specs.List.{list_any}
use Rattle.std.specs.Str.{IsUtf8, is_utf8}
use Rattle.std.proofs.lemmas.Str.{IsUtf8-from_is_utf8}
use Rattle.std.proofs.lemmas.Bool.{cases_Bool}
use Rattle.toml.specs.Data.{Data}
use Rattle.toml.specs.View.{view, items_view, members_view}
use Rattle.toml.specs.declared.value.Value.{Value}
use Rattle.std.specs.Prelude.{string_bytes}
use Rattle.std.specs.Map.{keys_of as entry_keys}
use Rattle.mt_conf.specs.Lookup.{listed}
use Rattle.mt_conf.specs.Rules.{keys_of, span_of, meet, any_meet}

pub listed-items_view : (vs : List Value) → map view vs ≡ listed (items_view vs)
listed-items_view [] = refl
listed-items_view (v ∷ vs) = ap (λ ds. view v ∷ ds) (listed-items_view vs)

pub list_any_map : {A B : Type 0} (p : B → Bool) (f : A → B) (xs : List A) → list_any (λ x. p (f x)) xs ≡ list_any p (map f xs)
list_any_map p f [] = refl
list_any_map p f (x ∷ xs) = ap (λ b. p (f x) || b) (list_any_map p f xs)

-- a test of each key of a map
pub keys_any : (p : List ℕ → Bool) (es : List (String Global × Value)) → list_any (λ k. p (string_bytes k)) (entry_keys es) ≡ list_any p (keys_of (members_view es))
keys_any p [] = refl
keys_any p (e ∷ es) = ap (λ b. p (string_bytes e.0) || b) (keys_any p es)

meet_later : (s : ℤ × ℤ) (vs : List Value) → list_any (λ v. meet s (span_of (view v))) vs ≡ list_any (meet s) (map span_of (map view vs))
meet_later s [] = refl
meet_later s (v ∷ vs) = ap (λ b. meet s (span_of (view v)) || b) (meet_later s vs)

-- the spans from one place on
pub any_meet-drop : (vs : List Value) (i : ℕ) (v : Value) (s : ℤ × ℤ) (r : Bool) → i < length vs → v ≡ get_or vs i v → s ≡ span_of (view v)
    → r ≡ list_any (λ w. meet s (span_of (view w))) (drop (i + 1) vs)
    → any_meet (map span_of (map view (drop i vs))) ≡ (r || any_meet (map span_of (map view (drop (i + 1) vs))))
any_meet-drop vs i v s r h is same met = rw (drop_more vs i v h, ← is, ← same, ← meet_later s (drop (i + 1) vs), met) refl

-- a list made of the data, and of the values
pub map_view : {A : Type 0} (f : Data → A) (vs : List Value) → map (λ v. f (view v)) vs ≡ map f (map view vs)
map_view f [] = refl
map_view f (v ∷ vs) = ap (λ fs. f (view v) ∷ fs) (map_view f vs)

pub not_utf8 : (bytes : List ℕ) → ¬ (IsUtf8 bytes) → is_utf8 bytes ≡ false
not_utf8 bytes h = elim (cases_Bool (is_utf8 bytes)) [ inl holds ↦ absurd (h (IsUtf8-from_is_utf8 bytes holds)) | inr fails ↦ fails ]
