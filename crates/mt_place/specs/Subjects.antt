-- The keys that the rules on values speak of.
use Rattle.std.specs.Prelude.{ℕ, ◌≡◌, ◌==◌, true, if◌then◌else◌, List, [], ◌∷◌, codes, IfSome, ⊤}
use Rattle.mt_conf.specs.Rules.{is_one_of}
use Rattle.mt_place.specs.declared.note.Note.{Note}
use Rattle.mt_place.specs.declared.find.Target.{Target}
use Rattle.mt_place.specs.declared.find.Target.TheVariants.{Header, Key, Value}
use Rattle.mt_place.specs.Keys.{IsSpotOf}

-- a header, or one of these keys or its value
abbrev pub IsAt : List (List ℕ) → Target → Type 0
IsAt keys Header = ⊤
IsAt keys (Key key) = is_one_of keys key.now ≡ true
IsAt keys (Value key) = is_one_of keys key.now ≡ true

abbrev pub counted_keys : List (List ℕ)
counted_keys = codes "set" ∷ codes "block" ∷ codes "bgnd" ∷ codes "fgnd" ∷ []

abbrev pub word_keys : List (List ℕ)
word_keys = codes "initial" ∷ codes "background" ∷ codes "fill" ∷ []

abbrev pub name_keys : List (List ℕ)
name_keys = codes "algorithm" ∷ codes "march" ∷ codes "policy" ∷ []

abbrev pub cell_keys : List (List ℕ)
cell_keys = codes "atomic" ∷ codes "cells" ∷ codes "retries" ∷ []

abbrev pub flash_keys : List (List ℕ)
flash_keys = codes "atomic" ∷ codes "cells" ∷ codes "interval_end" ∷ codes "first" ∷ codes "last" ∷ codes "copy" ∷ []

-- the keys of a rule on values, by its number
abbrev pub rule_keys : ℕ → List (List ℕ)
rule_keys code =
    if code == 5 then codes "version" ∷ []
    else (if code == 6 then codes "width" ∷ []
    else (if code == 7 then codes "ram" ∷ codes "flash" ∷ []
    else (if code == 8 then word_keys
    else (if code == 9 then counted_keys
    else (if code == 10 then name_keys
    else (if code == 12 then codes "policy" ∷ []
    else (if code == 13 then codes "first" ∷ codes "last" ∷ []
    else (if code == 14 then codes "first" ∷ []
    else (if code == 15 then cell_keys
    else (if code == 16 then flash_keys
    else codes "copy" ∷ []))))))))))

-- what a note marks, if it marks anything, is a header in the file, or one of the keys or its value
abbrev pub MarksAt : List (List ℕ) → List (List ℕ) → Note → Type 0
MarksAt keys file note = IfSome note.mark (λ mark. (target : Target) × IsAt keys target × IsSpotOf file target (record { mark = mark; length = note.length }))
