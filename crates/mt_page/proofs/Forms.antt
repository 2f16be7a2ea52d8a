-- Which form words ask for depends on their bytes alone.
use Rattle.std.proofs.Common.{ℕ, ◌≡◌, List, [], ◌∷◌, map, Option, None, refl, sym, ap, ◌∙◌, String, string_bytes}
use Rattle.std.specs.Global.{Global}
use Rattle.mt_replay.specs.declared.form.Asked.{Asked}
use Rattle.mt_replay.specs.Replay.{form_of, form_named, soak_named, ask_named}

-- what words with these bytes ask for
form_by : List (List ℕ) → Option Asked
form_by [] = None
form_by (word ∷ []) = form_named word
form_by (word ∷ number ∷ []) = soak_named word number
form_by (word ∷ set ∷ budget ∷ []) = None
form_by (word ∷ set ∷ budget ∷ wait ∷ []) = ask_named word set budget wait
form_by (word ∷ set ∷ budget ∷ wait ∷ other ∷ words) = None

by_bytes : (words : List (String Global)) → form_of words ≡ form_by (map string_bytes words)
unfolding form_by
by_bytes [] = refl
by_bytes (word ∷ []) = refl
by_bytes (word ∷ number ∷ []) = refl
by_bytes (word ∷ set ∷ budget ∷ []) = refl
by_bytes (word ∷ set ∷ budget ∷ wait ∷ []) = refl
by_bytes (word ∷ set ∷ budget ∷ wait ∷ other ∷ words) = refl

pub same_form : (xs ys : List (String Global)) → map string_bytes xs ≡ map string_bytes ys → form_of xs ≡ form_of ys
same_form xs ys same = by_bytes xs ∙ ap form_by same ∙ sym (by_bytes ys)
