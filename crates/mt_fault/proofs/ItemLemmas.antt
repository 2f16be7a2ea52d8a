-- Test accesses that are made one after another.
use Rattle.std.proofs.Common.{ℕ, suc, ◌<◌, ◌≡◌, ◌==◌, Bool, true, false, ◌&&◌, List, [], ◌∷◌, ◌++◌, map, reverse, length, Option, refl, sym, ap, ◌∙◌, arith, append_assoc}
use Rattle.std.specs.Prelude.{All}
use Rattle.std.proofs.lemmas.List.{map-append, reverse-append}
use Rattle.std.proofs.lemmas.List.Elements.{All-tail}
use Rattle.mt_word.specs.declared.Width.{Width}
use Rattle.mt_fault.specs.declared.fault.Fault.{Fault}
use Rattle.mt_fault.specs.History.{History}
use Rattle.mt_fault.specs.Placement.{IsPlaced}
use Rattle.mt_fault.specs.Faulty.{words_after}
use Rattle.mt_fault.specs.Items.{Item, Look, Check, Store, place, access_of, history, agrees, passes}
use Rattle.mt_fault.proofs.Spans.{words_cut, answer_cut}

pub history-append : (xs ys : List Item) → history (xs ++ ys) ≡ history ys ++ history xs
unfolding history
history-append xs ys = ap reverse (map-append access_of xs ys) ∙ reverse-append (map access_of xs) (map access_of ys)

pub history-cons : (x : Item) (xs : List Item) (h : History) → history (x ∷ xs) ++ h ≡ history xs ++ (access_of x ∷ h)
unfolding history
history-cons x xs h = ap (λ l. l ++ h) (reverse-append (access_of x ∷ []) (map access_of xs)) ∙ append_assoc (reverse (map access_of xs)) (access_of x ∷ []) h

pub and_assoc : (a b c : Bool) → ((a && b) && c) ≡ (a && (b && c))
and_assoc true b c = refl
and_assoc false b c = refl

pub and_true : (b : Bool) → (b && true) ≡ b
and_true true = refl
and_true false = refl

-- the later ones are checked after the history of the earlier
pub passes-append : (fault : Option Fault) (first : List ℕ) (h : History) (xs ys : List Item)
    → passes fault first h (xs ++ ys) ≡ (passes fault first h xs && passes fault first (history xs ++ h) ys)
unfolding passes history
passes-append fault first h [] ys = refl
passes-append fault first h (x ∷ xs) ys =
    ap (λ r. agrees fault first h x && r) (passes-append fault first (access_of x ∷ h) xs ys)
    ∙ sym (and_assoc (agrees fault first h x) _ _)
    ∙ ap (λ k. (agrees fault first h x && passes fault first (access_of x ∷ h) xs) && passes fault first k ys) (sym (history-cons x xs h))

pub both : (p x q y : Bool) → p ≡ x → q ≡ y → (p && q) ≡ (x && y)
both p x q y e f = ap (λ (r : Bool). r && q) e ∙ ap (λ (r : Bool). x && r) f

first-lt : (n : ℕ) → 0 < suc n
first-lt n = omega arith

agrees_cut : (width : Width) (fault : Option Fault) (first : List ℕ) (later earlier : History) → IsPlaced width (length first) fault
    → (x : Item) → place x < length first → agrees fault first (later ++ earlier) x ≡ agrees fault (words_after fault first earlier) later x
agrees_cut width fault first later earlier placed (Look a) h = refl
agrees_cut width fault first later earlier placed (Check a w) h = ap (λ (x : ℕ). x == w) (answer_cut width fault first later earlier placed a h)
agrees_cut width fault first later earlier placed (Store a w) h = refl

-- what is checked after an earlier history is checked from the words after it
pub passes_cut : (width : Width) (fault : Option Fault) (first : List ℕ) (later earlier : History) → IsPlaced width (length first) fault
    → (xs : List Item) → All (λ x. place x < length first) xs → passes fault first (later ++ earlier) xs ≡ passes fault (words_after fault first earlier) later xs
unfolding passes
passes_cut width fault first later earlier placed [] all = refl
passes_cut width fault first later earlier placed (x ∷ xs) all =
    both _ _ _ _ (agrees_cut width fault first later earlier placed x (all 0 x (first-lt (length xs)))) (passes_cut width fault first (access_of x ∷ later) earlier placed xs (All-tail (λ y. place y < length first) x xs all))

-- the words after two lists of accesses
pub words_append : (width : Width) (fault : Option Fault) (first : List ℕ) (xs ys : List Item) → IsPlaced width (length first) fault
    → words_after fault first (history (xs ++ ys)) ≡ words_after fault (words_after fault first (history xs)) (history ys)
words_append width fault first xs ys placed =
    ap (words_after fault first) (history-append xs ys) ∙ words_cut width fault first (history ys) (history xs) placed
