-- The algorithms as functions of a list of cells, which are given in rising order.
use Rattle.std.specs.Prelude.{ℕ, suc, zero, Bool, true, false, ◌==◌, not, List, [], ◌∷◌, ◌++◌, map, reverse}
use Rattle.std.specs.List.{flat_map, filter}
use Rattle.mt_fault.specs.Faulty.{is_odd}
use Rattle.mt_march.specs.declared.march.Order.{Order}
use Rattle.mt_march.specs.declared.march.Order.TheVariants.{Up, Down, Either}
use Rattle.mt_march.specs.declared.march.Op.{Op}
use Rattle.mt_march.specs.declared.march.Op.TheVariants.{R0, R1, W0, W1}
use Rattle.mt_march.specs.declared.march.Element.{Element}
use Rattle.mt_plan.specs.declared.algorithm.Act.{Act}
use Rattle.mt_plan.specs.declared.algorithm.Act.TheVariants.{WritePlain, WriteFlipped, ReadPlain, ReadFlipped}
use Rattle.mt_plan.specs.declared.algorithm.Step.{Step}

-- whether an act writes
abbrev pub is_write : Act → Bool
is_write WritePlain = true
is_write WriteFlipped = true
is_write ReadPlain = false
is_write ReadFlipped = false

-- whether an act writes or expects the complement
abbrev pub is_flipped : Act → Bool
is_flipped WritePlain = false
is_flipped WriteFlipped = true
is_flipped ReadPlain = false
is_flipped ReadFlipped = true

-- a write of the background word, or of its complement
abbrev pub write_act : Bool → Act
write_act true = WriteFlipped
write_act false = WritePlain

-- a read that expects the background word, or its complement
abbrev pub read_act : Bool → Act
read_act true = ReadFlipped
read_act false = ReadPlain

-- the cells of a slice, from 0 to n less 1
abbrev pub cells : ℕ → List ℕ
cells zero = []
cells (suc n) = cells n ++ n ∷ []

abbrev pub step : ℕ → Act → Step
step cell act = record { cell = cell; act = act }

-- an operation: 0 is the background word, and 1 its complement
abbrev pub act_of : Op → Act
act_of R0 = ReadPlain
act_of R1 = ReadFlipped
act_of W0 = WritePlain
act_of W1 = WriteFlipped

-- the cells in the order of an element
abbrev pub in_order : Order → List ℕ → List ℕ
in_order Up js = js
in_order Down js = reverse js
in_order Either js = js

-- all operations of an element on one cell
abbrev pub ops_on : List Op → ℕ → List Step
ops_on ops j = map (λ op. step j (act_of op)) ops

-- an element: cell by cell, all its operations
abbrev pub element_on : List ℕ → Element → List Step
element_on js e = flat_map (ops_on e.ops.items) (in_order e.order js)

-- a march: element by element
abbrev pub march_on : List ℕ → List Element → List Step
march_on js march = flat_map (element_on js) march

-- checkerboard: the complement stands in odd cells at first, and then in even ones
abbrev pub checkerboard_on : List ℕ → List Step
checkerboard_on js =
    (map (λ j. step j (write_act (is_odd j))) js ++ map (λ j. step j (read_act (is_odd j))) js)
    ++ (map (λ j. step j (write_act (not (is_odd j)))) js ++ map (λ j. step j (read_act (not (is_odd j)))) js)

-- the cells other than i
abbrev pub others : ℕ → List ℕ → List ℕ
others i js = filter (λ j. not (j == i)) js

-- walk path at a base: all others are read once, and then the base
abbrev pub walk_base : Bool → List ℕ → ℕ → List Step
walk_base v js i =
    ((step i (write_act (not v)) ∷ []) ++ map (λ j. step j (read_act v)) (others i js)) ++ step i (read_act (not v)) ∷ step i (write_act v) ∷ []

-- a round: v in all cells, and then each base in turn
abbrev pub walk_round : Bool → List ℕ → List Step
walk_round v js = map (λ j. step j (write_act v)) js ++ flat_map (walk_base v js) js

-- walk path: a round on the background words, and one on their complements
abbrev pub walk_on : List ℕ → List Step
walk_on js = walk_round false js ++ walk_round true js

-- Galpat at a base: the base is read first, and again after each other cell
abbrev pub galpat_base : Bool → List ℕ → ℕ → List Step
galpat_base v js i =
    ((step i (write_act (not v)) ∷ step i (read_act (not v)) ∷ [])
    ++ flat_map (λ j. step j (read_act v) ∷ step i (read_act (not v)) ∷ []) (others i js))
    ++ step i (write_act v) ∷ []

abbrev pub galpat_round : Bool → List ℕ → List Step
galpat_round v js = map (λ j. step j (write_act v)) js ++ flat_map (galpat_base v js) js

-- Galpat: the same two rounds
abbrev pub galpat_on : List ℕ → List Step
galpat_on js = galpat_round false js ++ galpat_round true js
