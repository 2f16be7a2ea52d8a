-- An algorithm cut into parts, and each part into rows, so that a step has a place.
use Rattle.std.specs.Prelude.{ℕ, zero, suc, ◌+◌, ◌-◌, ◌==◌, Bool, not, if◌then◌else◌, List, [], map, length, Option, Some, None, slice_get}
use Rattle.std.specs.List.{flat_map}
use Rattle.mt_march.specs.declared.march.Order.{Order}
use Rattle.mt_march.specs.declared.march.Order.TheVariants.{Up, Down, Either}
use Rattle.mt_march.specs.declared.march.Element.{Element}
use Rattle.mt_plan.specs.declared.algorithm.Algorithm.{Algorithm}
use Rattle.mt_plan.specs.declared.algorithm.Algorithm.TheVariants.{Checkerboard, March as Marches, WalkPath, Galpat, TransparentGalpat}
use Rattle.mt_plan.specs.declared.algorithm.Act.{Act}
use Rattle.mt_plan.specs.declared.algorithm.Step.{Step}
use Rattle.mt_fault.specs.Faulty.{is_odd}
use Rattle.mt_plan.specs.Lists.{cells, step, ops_on, write_act, read_act, walk_base, galpat_base}

-- how many parts: the quarters of checkerboard, the elements of a march, the rounds of the others
abbrev pub part_count : Algorithm → ℕ
part_count Checkerboard = 4
part_count (Marches march) = length march.elements.items
part_count WalkPath = 2
part_count Galpat = 2
part_count TransparentGalpat = 2

-- how many rows of a part: one of a quarter, one a cell of an element, and in a round one more before those of the bases
abbrev pub row_count : Algorithm → ℕ → ℕ
row_count Checkerboard n = 1
row_count (Marches march) n = n
row_count WalkPath n = n + 1
row_count Galpat n = n + 1
row_count TransparentGalpat n = n + 1

-- the act of checkerboard in a quarter of its steps
abbrev pub quarter_act : ℕ → Bool → Act
quarter_act quarter odd =
    if quarter == 0 then write_act odd else (if quarter == 1 then read_act odd else (if quarter == 2 then write_act (not odd) else read_act (not odd)))

-- the cell at a place of an element's order
abbrev pub cell_at : Order → ℕ → ℕ → ℕ
cell_at Up n place = place
cell_at Down n place = n - 1 - place
cell_at Either n place = place

-- an element on the cell at a place of its order
abbrev pub element_row : Option Element → ℕ → ℕ → List Step
element_row None n row = []
element_row (Some e) n row = ops_on e.ops.items (cell_at e.order n row)

-- a round: the writes of all cells, and then each base
abbrev pub round_row : Bool → (ℕ → List Step) → ℕ → ℕ → List Step
round_row v base n zero = map (λ j. step j (write_act v)) (cells n)
round_row v base n (suc i) = base i

abbrev pub is_second : ℕ → Bool
is_second part = part == 1

-- the steps of a row
abbrev pub row_of : Algorithm → ℕ → ℕ → ℕ → List Step
row_of Checkerboard n part row = map (λ j. step j (quarter_act part (is_odd j))) (cells n)
row_of (Marches march) n part row = element_row (slice_get march.elements.items part) n row
row_of WalkPath n part row = round_row (is_second part) (walk_base (is_second part) (cells n)) n row
row_of Galpat n part row = round_row (is_second part) (galpat_base (is_second part) (cells n)) n row
row_of TransparentGalpat n part row = round_row (is_second part) (galpat_base (is_second part) (cells n)) n row

-- the steps of the first rows of a part
abbrev pub rows_of : Algorithm → ℕ → ℕ → ℕ → List Step
rows_of algorithm n part count = flat_map (row_of algorithm n part) (cells count)

-- the steps of the first parts
abbrev pub parts_of : Algorithm → ℕ → ℕ → List Step
parts_of algorithm n count = flat_map (λ part. rows_of algorithm n part (row_count algorithm n)) (cells count)
