-- The step at a place of an algorithm, and the place after it.
use Rattle.std.proofs.Common.{ℕ, ◌≡◌, ◌+◌, ◌-◌, ◌*◌, ◌/◌, ◌%◌, ◌<◌, ◌≤◌, zero, suc, length, length-append, add-one, get_or, refl, arith, ap, sym, ◌∙◌, subst, Some, None, inl, inr}
use Rattle.std.specs.Prelude.{slice_get}
use Rattle.std.proofs.lemmas.Bool.{cases_eq, cases_lt}
use Rattle.std.proofs.lemmas.List.{length-map}
use Rattle.std.proofs.lemmas.Option.{slice_get_past, slice_get-get_or}
use Rattle.std.proofs.Math.Nat.{div-lt_iff_lt-mul}
use Rattle.mt_fault.specs.Faulty.{is_odd}
use Rattle.mt_march.specs.Accepted.{operations}
use Rattle.mt_march.specs.declared.march.March.{March}
use Rattle.mt_march.specs.declared.march.Element.{Element}
use Rattle.mt_plan.specs.declared.algorithm.Algorithm.{Algorithm}
use Rattle.mt_plan.specs.declared.algorithm.Algorithm.TheVariants.{Checkerboard, March as Marches, WalkPath, Galpat, TransparentGalpat}
use Rattle.mt_plan.specs.declared.algorithm.Act.TheVariants.{ReadPlain}
use Rattle.mt_plan.specs.declared.algorithm.Step.{Step}
use Rattle.mt_plan.specs.declared.place.Place.{Place}
use Rattle.mt_plan.specs.declared.cursor.Steps.{Steps}
use Rattle.mt_plan.specs.declared.line.Line.{Line}
use Rattle.mt_plan.specs.declared.line.Line.TheVariants.{OnCell}
use Rattle.mt_plan.specs.Lists.{cells, step, act_of, walk_base, galpat_base}
use Rattle.mt_plan.specs.Plan.{IsAccepted, steps_of, step_count}
use Rattle.mt_plan.specs.Rows.{part_count, row_count, row_of, rows_of, parts_of, element_row, cell_at, is_second, quarter_act}
use Rattle.mt_plan.specs.Cursor.{IsPlace, IsRow, Stands, index_of, line_of, line_steps, IsElementOf, IsLineOn}
use Rattle.mt_plan.proofs.Items.{in_piece, within_piece, one_more, length-one_more, length-even, length-cells}
use Rattle.mt_plan.proofs.Bases.{first_len, walk_len, galpat_len}
use Rattle.mt_plan.proofs.Lines.{line_is, row_some, row_on, on_cell, on_cell_len}
use Rattle.mt_plan.proofs.Whole.{whole}
use Rattle.mt_plan.proofs.Counts.{length-steps, steps_few}

pub step_at_place : (algorithm : Algorithm) (n : ℕ) (place : Place) (t : Step) → IsPlace algorithm n place → slice_get (row_of algorithm n place.part place.row) place.at ≡ Some t → slice_get (steps_of algorithm n) (index_of algorithm n place) ≡ Some t
step_at_place algorithm n place t is at =
    rw (whole algorithm n)
    (in_piece (λ part. rows_of algorithm n part (row_count algorithm n)) (part_count algorithm) place.part (length (rows_of algorithm n place.part place.row) + place.at) (index_of algorithm n place) t is.part
    (in_piece (row_of algorithm n place.part) (row_count algorithm n) place.row place.at _ t is.row at refl) (omega arith))

pub index_within : (algorithm : Algorithm) (n : ℕ) (place : Place) → IsPlace algorithm n place → index_of algorithm n place < step_count algorithm n
index_within algorithm n place is =
    let inner : length (rows_of algorithm n place.part place.row) + place.at < length (rows_of algorithm n place.part (row_count algorithm n)) = within_piece (row_of algorithm n place.part) (row_count algorithm n) place.row place.at is.row is.at in
    let outer : length (parts_of algorithm n place.part) + (length (rows_of algorithm n place.part place.row) + place.at) < length (parts_of algorithm n (part_count algorithm)) = within_piece (λ part. rows_of algorithm n part (row_count algorithm n)) (part_count algorithm) place.part _ is.part inner in
    omega (arith, ap length (whole algorithm n), length-steps algorithm n)

pub few_made : (algorithm : Algorithm) (n : ℕ) (place : Place) → IsAccepted algorithm → n ≤ 64 → IsPlace algorithm n place → index_of algorithm n place < 16640
few_made algorithm n place accepted small is = omega (arith, index_within algorithm n place is, steps_few algorithm n accepted small)

-- behind the last part
pub none_at_end : (algorithm : Algorithm) (n : ℕ) (place : Place) → place.part ≡ part_count algorithm → place.row ≡ 0 → place.at ≡ 0 → slice_get (steps_of algorithm n) (index_of algorithm n place) ≡ None
none_at_end algorithm n place part row at =
    slice_get_past (steps_of algorithm n) (index_of algorithm n place)
    (rw (part, row) (omega (arith, ap length (whole algorithm n))))

-- the next row, and the next part
pub next_row : (algorithm : Algorithm) (n part row : ℕ) → length (rows_of algorithm n part (row + 1)) ≡ length (rows_of algorithm n part row) + length (row_of algorithm n part row)
next_row algorithm n part row = length-one_more (row_of algorithm n part) row

pub next_part : (algorithm : Algorithm) (n part : ℕ) → length (parts_of algorithm n (part + 1)) ≡ length (parts_of algorithm n part) + length (rows_of algorithm n part (row_count algorithm n))
next_part algorithm n part = length-one_more (λ p. rows_of algorithm n p (row_count algorithm n)) part

-- ---- the place of an index

pub length-quarter : (n part row : ℕ) → length (row_of Checkerboard n part row) ≡ n
length-quarter n part row = length-map (cells n) (λ (j : ℕ). step j (quarter_act part (is_odd j))) ∙ length-cells n

pub checkerboard_index : (n part at : ℕ) → index_of Checkerboard n (record { part = part; row = 0; at = at }) ≡ part * n + at
checkerboard_index n part at =
    let one : (p : ℕ) → length (rows_of Checkerboard n p 1) ≡ n = λ p. omega (arith, length-even (row_of Checkerboard n p) n 1 (λ m g. length-quarter n p m)) in
    omega (arith, length-even (λ p. rows_of Checkerboard n p 1) n part (λ m g. one m))

pub march_rows : (march : March) (n part k : ℕ) (e : Element) → slice_get march.elements.items part ≡ Some e → length (rows_of (Marches march) n part k) ≡ k * length e.ops.items
march_rows march n part k e is =
    length-even (row_of (Marches march) n part) (length e.ops.items) k
    (λ m g. ap (λ o. length (element_row o n m)) is ∙ length-map e.ops.items (λ op. step (cell_at e.order n m) (act_of op)))

-- An algorithm of two rounds, whose bases have so many steps.
pub record IsRounds (algorithm : Algorithm) (n len : ℕ) : Type 0 where
  pub parts : part_count algorithm ≡ 2
  pub rows : row_count algorithm n ≡ n + 1
  pub first : (part row : ℕ) → row ≡ 0 → length (row_of algorithm n part row) ≡ n
  pub later : (part row : ℕ) → 1 ≤ row → row < n + 1 → length (row_of algorithm n part row) ≡ len

pub walk_rounds : (n : ℕ) → IsRounds WalkPath n (n + 2)
walk_rounds n = record {
  parts = refl;
  rows = refl;
  first = λ part row e. first_len (is_second part) (walk_base (is_second part) (cells n)) n row e;
  later = λ part row h g. walk_len (is_second part) n row h g;
}

pub galpat_rounds : (n : ℕ) → IsRounds Galpat n (2 * n + 1)
galpat_rounds n = record {
  parts = refl;
  rows = refl;
  first = λ part row e. first_len (is_second part) (galpat_base (is_second part) (cells n)) n row e;
  later = λ part row h g. galpat_len (is_second part) n row h g;
}

pub transparent_rounds : (n : ℕ) → IsRounds TransparentGalpat n (2 * n + 1)
transparent_rounds n = record {
  parts = refl;
  rows = refl;
  first = λ part row e. first_len (is_second part) (galpat_base (is_second part) (cells n)) n row e;
  later = λ part row h g. galpat_len (is_second part) n row h g;
}

-- the writes and k bases
round_rows : (algorithm : Algorithm) (n len part k : ℕ) → IsRounds algorithm n len → k ≤ n → length (rows_of algorithm n part (suc k)) ≡ n + k * len
round_rows algorithm n len part zero is h =
    omega (arith, ap length (one_more (row_of algorithm n part) 0), is.first part 0 refl)
round_rows algorithm n len part (suc k) is h =
    let m : suc k * len ≡ k * len + len = omega arith in
    omega (arith, ap length (one_more (row_of algorithm n part) (suc k)), length-append (rows_of algorithm n part (suc k)) (row_of algorithm n part (suc k)), round_rows algorithm n len part k is (omega arith), is.later part (suc k) (omega arith) (omega arith))

round_parts : (algorithm : Algorithm) (n len part : ℕ) → IsRounds algorithm n len → length (parts_of algorithm n part) ≡ part * (n + n * len)
round_parts algorithm n len part is =
    length-even (λ p. rows_of algorithm n p (row_count algorithm n)) (n + n * len) part
    (λ p g. ap (λ (k : ℕ). length (rows_of algorithm n p k)) (is.rows ∙ add-one n) ∙ round_rows algorithm n len p n is (omega arith))

-- A place and its index.
pub record IsPlaceOf (algorithm : Algorithm) (n i : ℕ) (place : Place) : Type 0 where
  pub stands : IsPlace algorithm n place
  pub index : index_of algorithm n place ≡ i

pub round_place_is : (algorithm : Algorithm) (n len i : ℕ) (place : Place) → IsRounds algorithm n len → place.part < 2 → place.row < n + 1
    → (place.row ≡ 0 → (place.at < n) × (place.part * (n + n * len) + place.at ≡ i))
    → (1 ≤ place.row → (place.at < len) × (place.part * (n + n * len) + (n + (place.row - 1) * len) + place.at ≡ i))
    → IsPlaceOf algorithm n i place
round_place_is algorithm n len i place is part row first later =
    elim (cases_eq place.row 0) [
      | inl e ↦ (let f = first e in record {
        stands = record { part = rw is.parts part; row = rw is.rows row; at = rw (is.first place.part place.row e) f.0 };
        index = rw (round_parts algorithm n len place.part is) (let none : length (rows_of algorithm n place.part place.row) ≡ 0 = ap (λ (k : ℕ). length (rows_of algorithm n place.part k)) e in omega (arith, f.1));
      })
      | inr ne ↦ (let f = later (omega arith) in record {
        stands = record { part = rw is.parts part; row = rw is.rows row; at = rw (is.later place.part place.row (omega arith) row) f.0 };
        index = (let back : place.row ≡ suc (place.row - 1) = omega arith in
            let rows : length (rows_of algorithm n place.part place.row) ≡ n + (place.row - 1) * len = ap (λ (k : ℕ). length (rows_of algorithm n place.part k)) back ∙ round_rows algorithm n len place.part (place.row - 1) is (omega arith) in
            omega (arith, f.1, rows, round_parts algorithm n len place.part is));
      })
    ]

some_factor : (left n ops : ℕ) → left < n * ops → 0 < ops
some_factor left n zero h = absurd (omega arith)
some_factor left n (suc ops) h = omega arith

-- an index inside the element with a number
pub march_place_is : (march : March) (n part left i : ℕ) (e : Element) → slice_get march.elements.items part ≡ Some e → part < length march.elements.items → left < n * length e.ops.items
    → length (parts_of (Marches march) n part) + left ≡ i → IsPlaceOf (Marches march) n i (record { part = part; row = left / length e.ops.items; at = left % length e.ops.items })
march_place_is march n part left i e is within here index =
    let ops : ℕ = length e.ops.items in
    let some : 0 < ops = some_factor left n ops here in
    let row : left / ops < n = (div-lt_iff_lt-mul some).1 here in
    let at : left % ops < ops = omega arith in
    let len : length (row_of (Marches march) n part (left / ops)) ≡ ops = ap (λ o. length (element_row o n (left / ops))) is ∙ length-map e.ops.items (λ op. step (cell_at e.order n (left / ops)) (act_of op)) in
    let back : left / ops * ops + left % ops ≡ left = omega arith in
    record {
      stands = record { part = within; row = row; at = rw len at };
      index = omega (arith, march_rows march n part (left / ops) e is, back, index);
    }

-- an index behind the element with a number
pub march_past : (march : March) (n part left i : ℕ) (e : Element) → slice_get march.elements.items part ≡ Some e → n * length e.ops.items ≤ left
    → length (parts_of (Marches march) n part) + left ≡ i → length (parts_of (Marches march) n (part + 1)) + (left - n * length e.ops.items) ≡ i
march_past march n part left i e is past index =
    omega (arith, next_part (Marches march) n part, march_rows march n part n e is)

-- no index is behind the last element
pub march_done : (march : March) (n part left i : ℕ) → part ≡ length march.elements.items → length (parts_of (Marches march) n part) + left ≡ i → i < length (operations march.elements.items) * n → ⊥
march_done march n part left i is index within =
    let all : length (parts_of (Marches march) n part) ≡ length (operations march.elements.items) * n = ap (λ (k : ℕ). length (parts_of (Marches march) n k)) is ∙ ap length (sym (whole (Marches march) n)) ∙ length-steps (Marches march) n ∙ unfold step_count in refl in
    omega arith

-- an index is below the closed form
pub within_count : (algorithm exact : Algorithm) (n i : ℕ) → algorithm ≡ exact → i < length (steps_of algorithm n) → i < step_count exact n
within_count algorithm exact n i is h = omega (arith, length-steps algorithm n, ap (λ (a : Algorithm). step_count a n) is)

-- ---- the cursor

pub some_part : (algorithm : Algorithm) → IsAccepted algorithm → 0 < part_count algorithm
some_part Checkerboard is = omega arith
some_part (Marches march) is = omega (arith, is.some)
some_part WalkPath is = omega arith
some_part Galpat is = omega arith
some_part TransparentGalpat is = omega arith

pub some_row : (algorithm : Algorithm) (n : ℕ) → 1 ≤ n → 0 < row_count algorithm n
some_row Checkerboard n h = omega arith
some_row (Marches march) n h = omega arith
some_row WalkPath n h = omega arith
some_row Galpat n h = omega arith
some_row TransparentGalpat n h = omega arith

-- the row at a place, where its line has so many steps
at_row : (algorithm : Algorithm) (n part row len : ℕ) (line : Line) (e : Element) → IsElementOf algorithm part e → line ≡ line_of algorithm n part row
    → len ≡ length (line_steps e n line) → len ≡ length (row_of algorithm n part row)
at_row algorithm n part row len line e is line_is' long =
    long ∙ ap (λ (l : Line). length (line_steps e n l)) line_is' ∙ ap length (line_is algorithm n part row e is)

-- the first row of a part
pub begins_part : (algorithm : Algorithm) (n made rows part len : ℕ) (line : Line) (e : Element) → IsAccepted algorithm → 1 ≤ n → n ≤ 64 → rows ≡ row_count algorithm n
    → made ≡ length (parts_of algorithm n part) → part < part_count algorithm → IsElementOf algorithm part e → line ≡ line_of algorithm n part 0 → len ≡ length (line_steps e n line)
    → Stands algorithm (record { n = n; made = made; place = record { part = part; row = 0; at = 0 }; rows = rows; row_end = len; line = line; element = e })
begins_part algorithm n made rows part len line e accepted some small count index inside is at long = record {
  accepted = accepted;
  some = some;
  small = small;
  rows = count;
  index = omega arith;
  parts = omega arith;
  row = λ h. record {
    place = record { part = inside; row = some_row algorithm n some; at = row_some algorithm n part 0 e accepted some inside is };
    line = at;
    element = is;
    row_end = at_row algorithm n part 0 len line e is at long;
  };
  end = λ h. absurd (omega arith);
}

-- behind the last part
pub begins_none : (algorithm : Algorithm) (s : Steps) (made part : ℕ) → IsAccepted algorithm → 1 ≤ s.n → s.n ≤ 64 → s.rows ≡ row_count algorithm s.n
    → made ≡ length (parts_of algorithm s.n part) → part ≡ part_count algorithm
    → Stands algorithm (record { n = s.n; made = made; place = record { part = part; row = 0; at = 0 }; rows = s.rows; row_end = s.row_end; line = s.line; element = s.element })
begins_none algorithm s made part accepted some small count index is = record {
  accepted = accepted;
  some = some;
  small = small;
  rows = count;
  index = omega arith;
  parts = omega arith;
  row = λ h. absurd (omega arith);
  end = λ h. (refl, refl);
}

pub made_few : (algorithm : Algorithm) (s : Steps) → Stands algorithm s → s.place.part < part_count algorithm → s.made < 16640
made_few algorithm s is h = omega (arith, is.index, few_made algorithm s.n s.place is.accepted is.small (is.row h).place)

-- one place on in the row
pub stands_on : (algorithm : Algorithm) (s : Steps) → Stands algorithm s → s.place.part < part_count algorithm → s.place.at + 1 < s.row_end
    → Stands algorithm (record { n = s.n; made = s.made + 1; place = record { part = s.place.part; row = s.place.row; at = s.place.at + 1 }; rows = s.rows; row_end = s.row_end; line = s.line; element = s.element })
stands_on algorithm s is h more =
    let row : IsRow algorithm s = is.row h in
    record {
      accepted = is.accepted;
      some = is.some;
      small = is.small;
      rows = is.rows;
      index = omega (arith, is.index);
      parts = is.parts;
      row = λ g. record {
        place = record { part = g; row = row.place.row; at = omega (arith, row.row_end) };
        line = row.line;
        element = row.element;
        row_end = row.row_end;
      };
      end = λ e. absurd (omega arith);
    }

-- in the next row
pub stands_row : (algorithm : Algorithm) (s : Steps) (line : Line) (len : ℕ) → Stands algorithm s → s.place.part < part_count algorithm → s.row_end ≤ s.place.at + 1 → s.place.row + 1 < s.rows
    → line ≡ line_of algorithm s.n s.place.part (s.place.row + 1) → len ≡ length (line_steps s.element s.n line)
    → Stands algorithm (record { n = s.n; made = s.made + 1; place = record { part = s.place.part; row = s.place.row + 1; at = 0 }; rows = s.rows; row_end = len; line = line; element = s.element })
stands_row algorithm s line len is h done more at long =
    let row : IsRow algorithm s = is.row h in
    record {
      accepted = is.accepted;
      some = is.some;
      small = is.small;
      rows = is.rows;
      index = omega (arith, is.index, row.row_end, row.place.at, next_row algorithm s.n s.place.part s.place.row);
      parts = is.parts;
      row = λ g. record {
        place = record { part = g; row = omega (arith, is.rows); at = row_some algorithm s.n s.place.part (s.place.row + 1) s.element is.accepted is.some g row.element };
        line = at;
        element = row.element;
        row_end = at_row algorithm s.n s.place.part (s.place.row + 1) len line s.element row.element at long;
      };
      end = λ e. absurd (omega arith);
    }

-- on the next cell of an element
pub stands_cell : (algorithm : Algorithm) (s : Steps) (was cell : ℕ) → Stands algorithm s → s.place.part < part_count algorithm → s.row_end ≤ s.place.at + 1 → s.place.row + 1 < s.rows
    → s.line ≡ OnCell was → cell ≡ cell_at s.element.order s.n (s.place.row + 1)
    → Stands algorithm (record { n = s.n; made = s.made + 1; place = record { part = s.place.part; row = s.place.row + 1; at = 0 }; rows = s.rows; row_end = s.row_end; line = OnCell cell; element = s.element })
stands_cell algorithm s was cell is h done more on at =
    let row : IsRow algorithm s = is.row h in
    let line : OnCell cell ≡ line_of algorithm s.n s.place.part (s.place.row + 1) =
    ap OnCell at ∙ sym (on_cell algorithm s.n s.place.part s.place.row (s.place.row + 1) s.element was row.element (sym row.line ∙ on)) in
    stands_row algorithm s (OnCell cell) s.row_end is h done more line
    (row.row_end ∙ on_cell_len algorithm s.n s.place.part s.place.row s.element was cell row.element (sym row.line ∙ on))

-- how many steps are before the next part
pub before_part : (algorithm : Algorithm) (s : Steps) → Stands algorithm s → s.place.part < part_count algorithm → s.row_end ≤ s.place.at + 1 → s.rows ≤ s.place.row + 1
    → s.made + 1 ≡ length (parts_of algorithm s.n (s.place.part + 1))
before_part algorithm s is h done last =
    let row : IsRow algorithm s = is.row h in
    let count : row_count algorithm s.n ≡ s.place.row + 1 = omega (arith, row.place.row, is.rows) in
    let all : length (rows_of algorithm s.n s.place.part (row_count algorithm s.n)) ≡ length (rows_of algorithm s.n s.place.part s.place.row) + length (row_of algorithm s.n s.place.part s.place.row) = ap (λ (k : ℕ). length (rows_of algorithm s.n s.place.part k)) count ∙ next_row algorithm s.n s.place.part s.place.row in
    omega (arith, is.index, row.row_end, row.place.at, all, next_part algorithm s.n s.place.part)

-- what a cursor hands out
pub stands_step : (algorithm : Algorithm) (s : Steps) (t : Step) → Stands algorithm s → s.place.part < part_count algorithm → slice_get (line_steps s.element s.n s.line) s.place.at ≡ Some t → slice_get (steps_of algorithm s.n) s.made ≡ Some t
stands_step algorithm s t is h at =
    let row : IsRow algorithm s = is.row h in
    let here : line_steps s.element s.n s.line ≡ row_of algorithm s.n s.place.part s.place.row = ap (line_steps s.element s.n) row.line ∙ line_is algorithm s.n s.place.part s.place.row s.element row.element in
    subst (λ (i : ℕ). slice_get (steps_of algorithm s.n) i ≡ Some t) (sym is.index) (step_at_place algorithm s.n s.place t row.place (rw here at at))

-- a step that is handed out is one of its line
pub stands_at : (algorithm : Algorithm) (s : Steps) → Stands algorithm s → s.place.part < part_count algorithm → s.place.at < length (line_steps s.element s.n s.line)
stands_at algorithm s is h =
    let row : IsRow algorithm s = is.row h in
    omega (arith, row.place.at, ap (λ (l : Line). length (line_steps s.element s.n l)) row.line, ap length (line_is algorithm s.n s.place.part s.place.row s.element row.element))

pub stands_line : (algorithm : Algorithm) (s : Steps) → Stands algorithm s → s.place.part < part_count algorithm → IsLineOn s.n s.line
stands_line algorithm s is h =
    let row : IsRow algorithm s = is.row h in
    subst (IsLineOn s.n) (sym row.line) (row_on algorithm s.n s.place.part s.place.row s.element row.place.row row.element)

-- where a step is left the cursor is inside a part
pub stands_inside : (algorithm : Algorithm) (s : Steps) → Stands algorithm s → s.made < length (steps_of algorithm s.n) → s.place.part < part_count algorithm
stands_inside algorithm s is left =
    elim (cases_lt s.place.part (part_count algorithm)) [
      | inl lt ↦ lt
      | inr le ↦ (let e : s.place.part ≡ part_count algorithm = omega (arith, is.parts) in
          let none : slice_get (steps_of algorithm s.n) s.made ≡ None = subst (λ (i : ℕ). slice_get (steps_of algorithm s.n) i ≡ None) (sym is.index) (none_at_end algorithm s.n s.place e (is.end e).0 (is.end e).1) in
          let d : Step = record { cell = 0; act = ReadPlain } in
          let some : slice_get (steps_of algorithm s.n) s.made ≡ Some (get_or (steps_of algorithm s.n) s.made d) = slice_get-get_or (steps_of algorithm s.n) s.made d left in
          cc)
    ]
