-- Flash words compared with their copies.
use Rattle.std.specs.Prelude.{ℕ, ◌+◌, ◌*◌, ◌==◌, not, List, [], ◌∷◌, map, Option, slice_index}
use Rattle.std.specs.List.{flat_map, filter, slice_get}
use Rattle.mt_plan.specs.Lists.{cells}
use Rattle.mt_port.specs.declared.board.Touch.{Touch}
use Rattle.mt_port.specs.declared.board.Touch.TheVariants as touches

-- the addresses of those of n words from `first` that differ from their copy, which begins at `copy`, in rising order
abbrev pub differing : List ℕ → (first copy n : ℕ) → List ℕ
differing flash first copy n = map (λ k. first + k) (filter (λ k. not (slice_index flash (first + k) == slice_index flash (copy + k))) (cells n))

-- the address of the first such word; none where no word differs
unfoldable pub comparison : List ℕ → (first copy n : ℕ) → Option ℕ
comparison flash first copy n = slice_get (differing flash first copy n) 0

-- the accesses of a flash sequence: each word, and then its copy
unfoldable pub compare_touches : (first copy n : ℕ) → List Touch
compare_touches first copy n = flat_map (λ k. touches.Flash (first + k) ∷ touches.Flash (copy + k) ∷ []) (cells n)

-- how many they are
unfoldable pub compare_hold : ℕ → ℕ
compare_hold n = 2 * n
