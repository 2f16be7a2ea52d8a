-- How text stands in a page.
use Rattle.std.specs.Prelude.{ℕ, ◌==◌, nat_lt, if◌then◌else◌, codes, List, [], ◌∷◌}
use Rattle.std.specs.List.{flat_map}

-- A byte of a text: what would begin or end markup is written as its entity.
unfoldable pub entity : ℕ → List ℕ
entity b =
    if b == 38 then codes "&amp;"
    else (if b == 60 then codes "&lt;"
    else (if b == 62 then codes "&gt;"
    else (if b == 34 then codes "&quot;"
    else (if b == 39 then codes "&#39;"
    else b ∷ []))))

-- a text
abbrev pub escaped : List ℕ → List ℕ
escaped text = flat_map entity text
