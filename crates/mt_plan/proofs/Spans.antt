-- The spans of a cursor: rows, and elements on all cells.
use Rattle.std.proofs.Common.{ℕ, ◌≡◌, ◌+◌, ◌-◌, ◌*◌, ◌<◌, ◌≤◌, zero, suc, Bool, true, false, List, length, refl, arith, ap, sym, ◌∙◌, subst, Some}
use Rattle.std.specs.Prelude.{◌==◌, slice_get}
use Rattle.std.specs.List.{flat_map}
use Rattle.std.proofs.lemmas.Bool.{and_parts, eqb-true}
use Rattle.std.proofs.lemmas.List.{length-map}
use Rattle.std.proofs.lemmas.Option.{slice_get_within}
use Rattle.mt_march.specs.declared.march.Element.{Element}
use Rattle.mt_march.specs.declared.march.Op.{Op}
use Rattle.mt_plan.specs.declared.algorithm.Algorithm.{Algorithm}
use Rattle.mt_plan.specs.declared.algorithm.Algorithm.TheVariants.{Checkerboard, March as Marches, WalkPath, Galpat, TransparentGalpat}
use Rattle.mt_plan.specs.declared.algorithm.Step.{Step}
use Rattle.mt_plan.specs.declared.cursor.Steps.{Steps}
use Rattle.mt_plan.specs.declared.line.Line.{Line}
use Rattle.mt_plan.specs.declared.line.Line.TheVariants.{EachCell, OnCell, WalkBase, GalpatBase}
use Rattle.mt_plan.specs.declared.place.Place.{Place}
use Rattle.mt_plan.specs.Lists.{cells, step, act_of, ops_on}
use Rattle.mt_plan.specs.Plan.{steps_of}
use Rattle.mt_plan.specs.Rows.{part_count, row_count, row_of, rows_of, element_row, cell_at}
use Rattle.mt_plan.specs.Cursor.{Continues, IsElementOf, IsMarch, IsPlace, IsRow, SpansAreCounted, Stands, begins_span, index_of, is_on_cell, is_span_place, line_of, line_steps, span_of, span_steps}
use Rattle.mt_plan.proofs.Bases.{length-galpat_base, length-walk_base}
use Rattle.mt_plan.proofs.Items.{in_piece, length-cells, length-pieces}
use Rattle.mt_plan.proofs.Lines.{each_len, line_is, row_some}
use Rattle.mt_plan.proofs.Standing.{few_made, march_rows, step_at_place}
use Rattle.mt_plan.proofs.Whole.{whole}

-- ---- an element on all cells

abbrev pub element_steps : Element → ℕ → List Step
element_steps e n = flat_map (λ place. ops_on e.ops.items (cell_at e.order n place)) (cells n)

-- A part is an element.
pub record IsElementPart (algorithm : Algorithm) (n part : ℕ) (e : Element) : Type 0 where
  pub rows : row_count algorithm n ≡ n
  pub whole : rows_of algorithm n part (row_count algorithm n) ≡ element_steps e n
  pub line : (row : ℕ) → line_of algorithm n part row ≡ OnCell (cell_at e.order n row)
  pub long : (k : ℕ) → length (rows_of algorithm n part k) ≡ k * length e.ops.items
  pub one : (row : ℕ) → length (row_of algorithm n part row) ≡ length e.ops.items

pub element_part : (algorithm : Algorithm) (n part row : ℕ) (e : Element) → IsElementOf algorithm part e → is_on_cell (line_of algorithm n part row) ≡ true
    → IsElementPart algorithm n part e
element_part Checkerboard n part row e is on = cc
element_part (Marches march) n part row e is on = record {
  rows = refl;
  whole = ap (λ o. flat_map (element_row o n) (cells n)) is;
  line = λ r. rw is refl;
  long = λ k. march_rows march n part k e is;
  one = λ r. ap (λ o. length (element_row o n r)) is ∙ length-map e.ops.items (λ (op : Op). step (cell_at e.order n r) (act_of op));
}
element_part WalkPath n part zero e is on = cc
element_part WalkPath n part (suc i) e is on = cc
element_part Galpat n part zero e is on = cc
element_part Galpat n part (suc i) e is on = cc
element_part TransparentGalpat n part zero e is on = cc
element_part TransparentGalpat n part (suc i) e is on = cc

-- the part of a cursor whose line is on a cell
pub cursor_part : (algorithm : Algorithm) (s : Steps) → IsRow algorithm s → is_on_cell s.line ≡ true → IsElementPart algorithm s.n s.place.part s.element
cursor_part algorithm s row on = element_part algorithm s.n s.place.part s.place.row s.element row.element (sym (ap is_on_cell row.line) ∙ on)

-- ---- where it begins

both_places : (row at : ℕ) → is_span_place true row at ≡ true → (row ≡ 0) × (at ≡ 0)
both_places row at h = let both = and_parts (row == 0) (at == 0) h in (eqb-true row 0 both.0, eqb-true at 0 both.1)

pub element_place : (s : Steps) → begins_span s ≡ true → is_on_cell s.line ≡ true → (s.place.row ≡ 0) × (s.place.at ≡ 0)
element_place s begins on = both_places s.place.row s.place.at (subst (λ (b : Bool). is_span_place b s.place.row s.place.at ≡ true) on begins)

pub row_place : (s : Steps) → begins_span s ≡ true → is_on_cell s.line ≡ false → s.place.at ≡ 0
row_place s begins off = eqb-true s.place.at 0 (subst (λ (b : Bool). is_span_place b s.place.row s.place.at ≡ true) off begins)

-- ---- what the span is

row_span : (e : Element) (n : ℕ) (line : Line) → is_on_cell line ≡ false → span_steps e n line ≡ line_steps e n line
row_span e n (EachCell even odd) off = refl
row_span e n (OnCell cell) off = cc
row_span e n (WalkBase flipped base) off = refl
row_span e n (GalpatBase flipped base) off = refl

element_span : (e : Element) (n : ℕ) (line : Line) → is_on_cell line ≡ true → span_steps e n line ≡ element_steps e n
element_span e n (EachCell even odd) on = cc
element_span e n (OnCell cell) on = refl
element_span e n (WalkBase flipped base) on = cc
element_span e n (GalpatBase flipped base) on = cc

span_row : (algorithm : Algorithm) (s : Steps) → IsRow algorithm s → is_on_cell s.line ≡ false → span_of s ≡ row_of algorithm s.n s.place.part s.place.row
span_row algorithm s row off =
    row_span s.element s.n s.line off ∙ ap (line_steps s.element s.n) row.line ∙ line_is algorithm s.n s.place.part s.place.row s.element row.element

span_part : (algorithm : Algorithm) (s : Steps) → IsRow algorithm s → is_on_cell s.line ≡ true → span_of s ≡ rows_of algorithm s.n s.place.part (row_count algorithm s.n)
span_part algorithm s row on = element_span s.element s.n s.line on ∙ sym (cursor_part algorithm s row on).whole

-- ---- it comes next

pub next_row_span : (algorithm : Algorithm) (s : Steps) → Stands algorithm s → s.place.part < part_count algorithm → is_on_cell s.line ≡ false → s.place.at ≡ 0
    → Continues (steps_of algorithm s.n) s.made (span_of s)
next_row_span algorithm s is h off none k t at =
    let row : IsRow algorithm s = is.row h in
    let place : Place = record { part = s.place.part; row = s.place.row; at = k } in
    let here : slice_get (row_of algorithm s.n s.place.part s.place.row) k ≡ Some t = ap (λ (l : List Step). slice_get l k) (sym (span_row algorithm s row off)) ∙ at in
    let index : index_of algorithm s.n place ≡ s.made + k = omega (arith, is.index) in
    subst (λ (i : ℕ). slice_get (steps_of algorithm s.n) i ≡ Some t) index
    (step_at_place algorithm s.n place t (record { part = h; row = row.place.row; at = slice_get_within (row_of algorithm s.n s.place.part s.place.row) k t here }) here)

pub next_element_span : (algorithm : Algorithm) (s : Steps) → Stands algorithm s → s.place.part < part_count algorithm → is_on_cell s.line ≡ true → s.place.row ≡ 0 → s.place.at ≡ 0
    → Continues (steps_of algorithm s.n) s.made (span_of s)
next_element_span algorithm s is h on first none k t at =
    let row : IsRow algorithm s = is.row h in
    let here : slice_get (rows_of algorithm s.n s.place.part (row_count algorithm s.n)) k ≡ Some t = ap (λ (l : List Step). slice_get l k) (sym (span_part algorithm s row on)) ∙ at in
    let empty : length (rows_of algorithm s.n s.place.part s.place.row) ≡ 0 = ap (λ (r : ℕ). length (rows_of algorithm s.n s.place.part r)) first in
    rw (whole algorithm s.n)
    (in_piece (λ part. rows_of algorithm s.n part (row_count algorithm s.n)) (part_count algorithm) s.place.part k (s.made + k) t h here (omega (arith, is.index, empty)))

-- ---- how long it is

pub row_span_len : (algorithm : Algorithm) (s : Steps) → IsRow algorithm s → is_on_cell s.line ≡ false → s.row_end ≡ length (span_of s)
row_span_len algorithm s row off = row.row_end ∙ ap length (sym (span_row algorithm s row off))

pub element_span_len : (algorithm : Algorithm) (s : Steps) → IsRow algorithm s → is_on_cell s.line ≡ true → s.n * s.row_end ≡ length (span_of s)
element_span_len algorithm s row on =
    let part = cursor_part algorithm s row on in
    let ops : s.row_end ≡ length s.element.ops.items = row.row_end ∙ part.one s.place.row in
    ap (λ (k : ℕ). s.n * k) ops ∙ ap (λ (k : ℕ). k * length s.element.ops.items) (sym part.rows) ∙ sym (part.long (row_count algorithm s.n)) ∙ ap length (sym (span_part algorithm s row on))

pub row_end_some : (algorithm : Algorithm) (s : Steps) → Stands algorithm s → s.place.part < part_count algorithm → 0 < s.row_end
row_end_some algorithm s is h =
    let row : IsRow algorithm s = is.row h in
    omega (arith, row.row_end, row_some algorithm s.n s.place.part s.place.row s.element is.accepted is.some h row.element)

some_product : (m n : ℕ) → 0 < m → 0 < n → 0 < m * n
some_product zero n h g = absurd (omega arith)
some_product (suc m) n h g = let e : suc m * n ≡ n + m * n = omega arith in omega arith

pub element_some : (algorithm : Algorithm) (s : Steps) → Stands algorithm s → s.place.part < part_count algorithm → 0 < s.n * s.row_end
element_some algorithm s is h = some_product s.n s.row_end (omega (arith, is.some)) (row_end_some algorithm s is h)

-- ---- the last place of it

-- another place of the row
pub stands_along : (algorithm : Algorithm) (s : Steps) (made at : ℕ) → Stands algorithm s → s.place.part < part_count algorithm → at < s.row_end → made + s.place.at ≡ s.made + at
    → Stands algorithm (record { n = s.n; made = made; place = record { part = s.place.part; row = s.place.row; at = at }; rows = s.rows; row_end = s.row_end; line = s.line; element = s.element })
stands_along algorithm s made at is h within index =
    let row : IsRow algorithm s = is.row h in
    record {
      accepted = is.accepted;
      some = is.some;
      small = is.small;
      rows = is.rows;
      index = omega (arith, is.index);
      parts = is.parts;
      row = λ g. record {
        place = record { part = g; row = row.place.row; at = omega (arith, row.row_end) };
        line = row.line;
        element = row.element;
        row_end = row.row_end;
      };
      end = λ e. absurd (omega arith);
    }

-- the last operation on the last cell of an element
pub stands_last : (algorithm : Algorithm) (s : Steps) (cell : ℕ) → Stands algorithm s → s.place.part < part_count algorithm → is_on_cell s.line ≡ true → s.place.row ≡ 0 → s.place.at ≡ 0
    → cell ≡ cell_at s.element.order s.n (s.rows - 1)
    → Stands algorithm (record { n = s.n; made = s.made + (s.n * s.row_end - 1); place = record { part = s.place.part; row = s.rows - 1; at = s.row_end - 1 }; rows = s.rows; row_end = s.row_end; line = OnCell cell; element = s.element })
stands_last algorithm s cell is h on first none same =
    let row : IsRow algorithm s = is.row h in
    let part = cursor_part algorithm s row on in
    let ops : s.row_end ≡ length s.element.ops.items = row.row_end ∙ part.one s.place.row in
    let some : 0 < s.row_end = row_end_some algorithm s is h in
    let back : s.n ≡ suc (s.rows - 1) = omega (arith, is.rows, part.rows, is.some) in
    let product : s.n * s.row_end ≡ s.row_end + (s.rows - 1) * s.row_end = ap (λ (k : ℕ). k * s.row_end) back ∙ omega arith in
    let before : length (rows_of algorithm s.n s.place.part (s.rows - 1)) ≡ (s.rows - 1) * s.row_end = part.long (s.rows - 1) ∙ ap (λ (k : ℕ). (s.rows - 1) * k) (sym ops) in
    let empty : length (rows_of algorithm s.n s.place.part s.place.row) ≡ 0 = ap (λ (r : ℕ). length (rows_of algorithm s.n s.place.part r)) first in
    let long : s.row_end ≡ length (row_of algorithm s.n s.place.part (s.rows - 1)) = ops ∙ sym (part.one (s.rows - 1)) in
    record {
      accepted = is.accepted;
      some = is.some;
      small = is.small;
      rows = is.rows;
      index = omega (arith, is.index, empty, before, product, some);
      parts = is.parts;
      row = λ g. record {
        place = record { part = g; row = omega (arith, is.rows, row.place.row); at = omega (arith, long, some) };
        line = ap OnCell same ∙ sym (part.line (s.rows - 1));
        element = row.element;
        row_end = long;
      };
      end = λ e. absurd (omega arith);
    }

-- there are few
pub row_few : (algorithm : Algorithm) (s : Steps) → Stands algorithm s → s.place.part < part_count algorithm → s.made + s.row_end < 16640 + 1 + s.place.at
row_few algorithm s is h =
    let some : 0 < s.row_end = row_end_some algorithm s is h in
    let at : Stands algorithm (record { n = s.n; made = s.made + (s.row_end - 1) - s.place.at; place = record { part = s.place.part; row = s.place.row; at = s.row_end - 1 }; rows = s.rows; row_end = s.row_end; line = s.line; element = s.element }) =
    stands_along algorithm s (s.made + (s.row_end - 1) - s.place.at) (s.row_end - 1) is h (omega arith) (omega (arith, (is.row h).place.at, (is.row h).row_end)) in
    omega (arith, at.index, few_made algorithm s.n _ is.accepted is.small (at.row h).place)

-- no element is long
pub product_few : (algorithm : Algorithm) (s : Steps) → Stands algorithm s → s.place.part < part_count algorithm → is_on_cell s.line ≡ true → s.n * s.row_end < 16640 + 1
product_few algorithm s is h on =
    let row : IsRow algorithm s = is.row h in
    let part = cursor_part algorithm s row on in
    let ops : s.row_end ≡ length s.element.ops.items = row.row_end ∙ part.one s.place.row in
    let some : 0 < s.row_end = row_end_some algorithm s is h in
    let back : s.n ≡ suc (s.rows - 1) = omega (arith, is.rows, part.rows, is.some) in
    let product : s.n * s.row_end ≡ s.row_end + (s.rows - 1) * s.row_end = ap (λ (k : ℕ). k * s.row_end) back ∙ omega arith in
    let before : length (rows_of algorithm s.n s.place.part (s.rows - 1)) ≡ (s.rows - 1) * s.row_end = part.long (s.rows - 1) ∙ ap (λ (k : ℕ). (s.rows - 1) * k) (sym ops) in
    let long : s.row_end ≡ length (row_of algorithm s.n s.place.part (s.rows - 1)) = ops ∙ sym (part.one (s.rows - 1)) in
    let last : Place = record { part = s.place.part; row = s.rows - 1; at = s.row_end - 1 } in
    omega (arith, before, product, some, few_made algorithm s.n last is.accepted is.small (record { part = h; row = omega (arith, is.rows, row.place.row); at = omega (arith, long, some) }))

pub element_few : (algorithm : Algorithm) (s : Steps) → Stands algorithm s → s.place.part < part_count algorithm → is_on_cell s.line ≡ true → s.place.row ≡ 0 → s.place.at ≡ 0
    → s.made + s.n * s.row_end < 16640 + 1
element_few algorithm s is h on first none =
    let last = stands_last algorithm s (cell_at s.element.order s.n (s.rows - 1)) is h on first none refl in
    omega (arith, last.index, element_some algorithm s is h, few_made algorithm s.n _ is.accepted is.small (last.row h).place)

-- ---- how many steps a span has

pub spans_counted : SpansAreCounted
spans_counted e n (EachCell even odd) on = each_len e n even odd
spans_counted e n (OnCell cell) on =
    length-pieces (λ (place : ℕ). ops_on e.ops.items (cell_at e.order n place)) (length e.ops.items) (cells n) (λ place. length-map e.ops.items (λ (op : Op). step (cell_at e.order n place) (act_of op)))
    ∙ ap (λ (k : ℕ). k * length e.ops.items) (length-cells n)
spans_counted e n (WalkBase flipped base) on = length-walk_base flipped n base on
spans_counted e n (GalpatBase flipped base) on = length-galpat_base flipped n base on

-- only a march has lines on a cell
pub on_cell_march : (algorithm : Algorithm) (n part row : ℕ) (e : Element) → IsElementOf algorithm part e → is_on_cell (line_of algorithm n part row) ≡ true → IsMarch algorithm
on_cell_march Checkerboard n part row e is on = cc
on_cell_march (Marches march) n part row e is on = tt
on_cell_march WalkPath n part zero e is on = cc
on_cell_march WalkPath n part (suc i) e is on = cc
on_cell_march Galpat n part zero e is on = cc
on_cell_march Galpat n part (suc i) e is on = cc
on_cell_march TransparentGalpat n part zero e is on = cc
on_cell_march TransparentGalpat n part (suc i) e is on = cc

pub cursor_march : (algorithm : Algorithm) (s : Steps) → Stands algorithm s → s.place.part < part_count algorithm → is_on_cell s.line ≡ true → IsMarch algorithm
cursor_march algorithm s is h on =
    let row : IsRow algorithm s = is.row h in
    on_cell_march algorithm s.n s.place.part s.place.row s.element row.element (sym (ap is_on_cell row.line) ∙ on)
