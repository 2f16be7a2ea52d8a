-- The lines of a file, one by one.
use Rattle.std.proofs.Common.{ℕ, zero, suc, ◌+◌, ◌-◌, ◌<◌, ◌≡◌, List, [], ◌∷◌, ◌++◌, length, map, take, get_or, slice_get, unwrap_or, Bor, refl, sym, ap, ◌∙◌, arith}
use Rattle.std.proofs.lemmas.List.{take-map, take_more, map-append}
use Rattle.mt_place.specs.Places.{line_at}

-- what references to texts point to
abbrev pub texts : List (Bor (List ℕ)) → List (List ℕ)
texts file = map (λ line. line.now) file

at_index : (file : List (Bor (List ℕ))) (i : ℕ) (d : Bor (List ℕ)) → i < length file → unwrap_or (slice_get (texts file) i) [] ≡ (get_or file i d).now
at_index [] i d inside = absurd (omega arith)
at_index (line ∷ file) zero d inside = refl
at_index (line ∷ file) (suc i) d inside = at_index file i d (omega arith)

-- the line with the number i + 1
pub line_here : (file : List (Bor (List ℕ))) (i : ℕ) (d : Bor (List ℕ)) → i < length file → line_at (texts file) (i + 1) ≡ (get_or file i d).now
line_here file i d inside =
    let same : i + 1 - 1 ≡ i = omega arith in
    ap (λ (k : ℕ). unwrap_or (slice_get (texts file) k) []) same ∙ at_index file i d inside

-- one line more
pub more : (file : List (Bor (List ℕ))) (i : ℕ) (d : Bor (List ℕ)) → i < length file → take (i + 1) (texts file) ≡ take i (texts file) ++ (get_or file i d).now ∷ []
more file i d inside =
    let now : Bor (List ℕ) → List ℕ = λ (line : Bor (List ℕ)). line.now in
    take-map now (i + 1) file
    ∙ ap (map now) (take_more file i d inside)
    ∙ map-append now (take i file) (get_or file i d ∷ [])
    ∙ ap (λ (xs : List (List ℕ)). xs ++ (get_or file i d).now ∷ []) (sym (take-map now i file))
