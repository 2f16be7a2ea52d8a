-- Which checked reads of an algorithm a fault disturbs.
use Rattle.std.specs.Prelude.{ℕ, ◌≡◌, ◌↔◌, Bool, true, not, List, [], map, length, take, get_or, Option, None}
use Rattle.std.specs.List.{find, range_with_len}
use Rattle.mt_word.specs.declared.Width.{Width}
use Rattle.mt_fault.specs.declared.fault.Fault.{Fault}
use Rattle.mt_fault.specs.Items.{Item, Look, history, agrees, passes}
use Rattle.mt_plan.specs.declared.algorithm.Algorithm.{Algorithm}
use Rattle.mt_plan.specs.Accesses.{item_of}
use Rattle.mt_plan.specs.Plan.{steps_of}

-- the accesses of an algorithm on the n words from `first` on, with one background word for all of them
unfoldable pub accesses : Width → Algorithm → (background first n : ℕ) → List Item
accesses width algorithm background first n = map (item_of width first (λ cell. background)) (steps_of algorithm n)

-- whether the access with an index is a checked read that, after all accesses before it, answers another word
abbrev pub is_miss : Option Fault → List ℕ → List Item → ℕ → Bool
is_miss fault words items i = not (agrees fault words (history (take i items)) (get_or items i (Look 0)))

-- the least such index; none where each checked read answers its word
unfoldable pub first_miss : Option Fault → List ℕ → List Item → Option ℕ
first_miss fault words items = find (is_miss fault words items) (range_with_len 0 (length items))

-- nothing is missed exactly where each checked read answers its word
abbrev pub NothingIsMissedWhereAllPass : Type 0
NothingIsMissedWhereAllPass =
    (fault : Option Fault) (words : List ℕ) (items : List Item)
    → (first_miss fault words items ≡ None) ↔ (passes fault words [] items ≡ true)
