-- Texts that are written part by part.
use Rattle.std.proofs.Common.{◌≡◌, ℕ, ◌+◌, ◌<◌, List, [], ◌∷◌, ◌++◌, length, take, drop, get_or, Option, sym, ap, ◌∙◌, subst, append_assoc, append-nil}
use Rattle.std.proofs.lemmas.List.{take_more, take-append-drop}
use Rattle.std.proofs.lemmas.Grind.{flat_map-append}
use Rattle.std.specs.Prelude.{flat_map}
use Rattle.std.specs.Io.KnownBytes.{Appends}
use Rattle.mt_port.specs.Streams.{AppendsFront}
use Rattle.mt_port.specs.Inner.Streams.{AppendsFront-after, AppendsFront-more}

-- five parts, one after another
pub five_parts : (out first second third fourth last a b c d e : List ℕ) → first ≡ out ++ a → second ≡ first ++ b → third ≡ second ++ c → fourth ≡ third ++ d → last ≡ fourth ++ e
    → last ≡ out ++ (a ++ b ++ c ++ d ++ e)
five_parts out first second third fourth last a b c d e p q r s t = rw (t, s, r, q, p) (simp append_assoc)

-- the text of the items so far, and then that of one more
pub one_more : {X : Type 0} (text : X → List ℕ) (items : List X) (i : ℕ) (item d : X) → i < length items → item ≡ get_or items i d
    → flat_map text (take (i + 1) items) ≡ flat_map text (take i items) ++ text item
one_more text items i item d less is =
    ap (flat_map text) (take_more items i d less) ∙ flat_map-append text (take i items) (get_or items i d ∷ []) ∙ ap (λ l. flat_map text (take i items) ++ l) (append-nil (text (get_or items i d)) ∙ ap text (sym is))

-- the items up to a place, and those from it on
pub all_parts : {X : Type 0} (text : X → List ℕ) (items : List X) (i : ℕ) → flat_map text (take i items) ++ flat_map text (drop i items) ≡ flat_map text items
all_parts text items i = sym (flat_map-append text (take i items) (drop i items)) ∙ ap (flat_map text) (take-append-drop i items)

-- the items up to a place, and then a front of the next one
pub front_of_all : {X : Type 0} (text : X → List ℕ) (items : List X) (i : ℕ) (item d : X) (a b c : Option (List ℕ)) → i < length items → item ≡ get_or items i d
    → Appends a b (flat_map text (take i items)) → AppendsFront b c (text item) → AppendsFront a c (flat_map text items)
front_of_all text items i item d a b c less is done next =
    let so_far = subst (AppendsFront a c) (sym (one_more text items i item d less is)) (AppendsFront-after a b c (flat_map text (take i items)) (text item) done next) in
    subst (AppendsFront a c) (all_parts text items (i + 1)) (AppendsFront-more a c (flat_map text (take (i + 1) items)) (flat_map text (drop (i + 1) items)) so_far)
