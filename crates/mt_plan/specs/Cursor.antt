-- What a cursor over the steps of an algorithm stands at.
use Rattle.std.specs.Prelude.{◌≡◌, ℕ, zero, suc, ◌+◌, ◌*◌, ◌<◌, ◌≤◌, length, Bool, true, false, ◌==◌, ◌&&◌, if◌then◌else◌, List, map, Option, Some, None, slice_get}
use Rattle.std.specs.List.{flat_map}
use Rattle.mt_fault.specs.Faulty.{is_odd}
use Rattle.mt_march.specs.declared.march.Element.{Element}
use Rattle.mt_plan.specs.declared.algorithm.Act.TheVariants.{ReadPlain}
use Rattle.mt_plan.specs.declared.algorithm.Algorithm.{Algorithm}
use Rattle.mt_plan.specs.declared.algorithm.Algorithm.TheVariants.{Checkerboard, March as Marches, WalkPath, Galpat, TransparentGalpat}
use Rattle.mt_plan.specs.declared.algorithm.Step.{Step}
use Rattle.mt_plan.specs.declared.cursor.Steps.{Steps}
use Rattle.mt_plan.specs.declared.line.Line.{Line}
use Rattle.mt_plan.specs.declared.line.Line.TheVariants.{EachCell, OnCell, WalkBase, GalpatBase}
use Rattle.mt_plan.specs.declared.place.Place.{Place}
use Rattle.mt_plan.specs.Lists.{cells, step, ops_on, write_act, walk_base, galpat_base}
use Rattle.mt_plan.specs.Plan.{IsAccepted}
use Rattle.mt_plan.specs.Rows.{part_count, row_count, row_of, rows_of, parts_of, quarter_act, cell_at, is_second}

-- the index of the step at a place
abbrev pub index_of : Algorithm → ℕ → Place → ℕ
index_of algorithm n place =
    length (parts_of algorithm n place.part) + length (rows_of algorithm n place.part place.row) + place.at

-- There is a step at the place.
pub record IsPlace (algorithm : Algorithm) (n : ℕ) (place : Place) : Type 0 where
  pub part : place.part < part_count algorithm
  pub row : place.row < row_count algorithm n
  pub at : place.at < length (row_of algorithm n place.part place.row)

-- the steps that a line stands for, where an element is under way
abbrev pub line_steps : Element → ℕ → Line → List Step
line_steps element n (EachCell even odd) = map (λ j. step j (if is_odd j then odd else even)) (cells n)
line_steps element n (OnCell cell) = ops_on element.ops.items cell
line_steps element n (WalkBase flipped base) = walk_base flipped (cells n) base
line_steps element n (GalpatBase flipped base) = galpat_base flipped (cells n) base

-- the line of a march's row
abbrev pub element_line : Option Element → ℕ → ℕ → Line
element_line None n row = EachCell ReadPlain ReadPlain
element_line (Some e) n row = OnCell (cell_at e.order n row)

-- the line of a round's row: the writes of all cells, and then each base
abbrev pub round_line : Bool → (ℕ → Line) → ℕ → Line
round_line flipped base zero = EachCell (write_act flipped) (write_act flipped)
round_line flipped base (suc i) = base i

-- the line of a row
abbrev pub line_of : Algorithm → ℕ → ℕ → ℕ → Line
line_of Checkerboard n part row = EachCell (quarter_act part false) (quarter_act part true)
line_of (Marches march) n part row = element_line (slice_get march.elements.items part) n row
line_of WalkPath n part row = round_line (is_second part) (WalkBase (is_second part)) row
line_of Galpat n part row = round_line (is_second part) (GalpatBase (is_second part)) row
line_of TransparentGalpat n part row = round_line (is_second part) (GalpatBase (is_second part)) row

-- a line stays on n cells
abbrev pub IsLineOn : ℕ → Line → Type 0
IsLineOn n (EachCell even odd) = Unit {0}
IsLineOn n (OnCell cell) = cell < n
IsLineOn n (WalkBase flipped base) = base < n
IsLineOn n (GalpatBase flipped base) = base < n

-- an element is that of a march's part
abbrev pub IsElementOf : Algorithm → ℕ → Element → Type 0
IsElementOf Checkerboard part element = Unit {0}
IsElementOf (Marches march) part element = slice_get march.elements.items part ≡ Some element
IsElementOf WalkPath part element = Unit {0}
IsElementOf Galpat part element = Unit {0}
IsElementOf TransparentGalpat part element = Unit {0}

-- The row at a place is worked out: its line, the element that it is of, and how many steps it has.
pub record IsRow (algorithm : Algorithm) (steps : Steps) : Type 0 where
  pub place : IsPlace algorithm steps.n steps.place
  pub line : steps.line ≡ line_of algorithm steps.n steps.place.part steps.place.row
  pub element : IsElementOf algorithm steps.place.part steps.element
  pub row_end : steps.row_end ≡ length (row_of algorithm steps.n steps.place.part steps.place.row)

-- A cursor stands before the step with the index that it tells, or after the last one.
pub record Stands (algorithm : Algorithm) (steps : Steps) : Type 0 where
  pub accepted : IsAccepted algorithm
  pub some : 1 ≤ steps.n
  pub small : steps.n ≤ 64
  pub rows : steps.rows ≡ row_count algorithm steps.n
  pub index : steps.made ≡ index_of algorithm steps.n steps.place
  pub parts : steps.place.part ≤ part_count algorithm
  pub row : steps.place.part < part_count algorithm → IsRow algorithm steps
  pub end : steps.place.part ≡ part_count algorithm → (steps.place.row ≡ 0) × (steps.place.at ≡ 0)

-- A cursor over the steps of the algorithm: `next` hands out the step with the index `made_by`.
unfoldable pub IsCursor : Algorithm → Steps → Type 0
IsCursor algorithm steps = Stands algorithm steps

-- on how many cells a cursor goes
abbrev pub cells_of : Steps → ℕ
cells_of steps = steps.n

-- how many steps a cursor has handed out
abbrev pub made_by : Steps → ℕ
made_by steps = steps.made

-- the line under way, and the element of a march that it is of
abbrev pub line_under : Steps → Line
line_under steps = steps.line

abbrev pub element_under : Steps → Element
element_under steps = steps.element

-- The steps that are made at once from the begin of a line on: those of the line, and of an element those on all cells.
abbrev pub span_steps : Element → ℕ → Line → List Step
span_steps element n (EachCell even odd) = line_steps element n (EachCell even odd)
span_steps element n (OnCell cell) = flat_map (λ place. ops_on element.ops.items (cell_at element.order n place)) (cells n)
span_steps element n (WalkBase flipped base) = walk_base flipped (cells n) base
span_steps element n (GalpatBase flipped base) = galpat_base flipped (cells n) base

abbrev pub span_of : Steps → List Step
span_of steps = span_steps steps.element steps.n steps.line

-- whether a line is one of an element's
abbrev pub is_on_cell : Line → Bool
is_on_cell (EachCell even odd) = false
is_on_cell (OnCell cell) = true
is_on_cell (WalkBase flipped base) = false
is_on_cell (GalpatBase flipped base) = false

-- how many such steps there are
abbrev pub span_count : Element → ℕ → Line → ℕ
span_count element n (EachCell even odd) = n
span_count element n (OnCell cell) = n * length element.ops.items
span_count element n (WalkBase flipped base) = n + 2
span_count element n (GalpatBase flipped base) = 2 * n + 1

abbrev pub SpansAreCounted : Type 0
SpansAreCounted = (element : Element) (n : ℕ) (line : Line) → IsLineOn n line → length (span_steps element n line) ≡ span_count element n line

abbrev pub IsMarch : Algorithm → Type 0
IsMarch Checkerboard = ⊥
IsMarch (Marches march) = Unit {0}
IsMarch WalkPath = ⊥
IsMarch Galpat = ⊥
IsMarch TransparentGalpat = ⊥

-- whether such steps begin at a row and a place of it
abbrev pub is_span_place : Bool → ℕ → ℕ → Bool
is_span_place true row at = (row == 0) && (at == 0)
is_span_place false row at = at == 0

-- whether a cursor stands where such steps begin
abbrev pub begins_span : Steps → Bool
begins_span steps = is_span_place (is_on_cell steps.line) steps.place.row steps.place.at

-- The steps of the list are these from an index on.
abbrev pub Continues : List Step → ℕ → List Step → Type 0
Continues steps from span = (k : ℕ) (t : Step) → slice_get span k ≡ Some t → slice_get steps (from + k) ≡ Some t
