-- The lines of the rows.
use Rattle.std.proofs.Common.{ℕ, ◌≡◌, ◌≢◌, ◌+◌, ◌*◌, ◌%◌, ◌<◌, ◌≤◌, zero, suc, Bool, true, false, List, [], ◌∷◌, map, length, get_or, refl, arith, ap, sym, ◌∙◌, subst, Some}
use Rattle.std.specs.Prelude.{All, if◌then◌else◌, slice_get}
use Rattle.std.proofs.lemmas.Bool.{eq-eqb, ne_eqb}
use Rattle.std.proofs.lemmas.List.{length-map}
use Rattle.std.proofs.lemmas.Option.{slice_get-get_or}
use Rattle.mt_fault.specs.Faulty.{is_odd}
use Rattle.mt_march.specs.declared.march.Op.{Op}
use Rattle.mt_march.specs.declared.march.Element.{Element}
use Rattle.mt_march.specs.declared.march.Order.{Order}
use Rattle.mt_march.specs.declared.march.Order.TheVariants.{Up, Down, Either}
use Rattle.mt_plan.specs.declared.algorithm.Algorithm.{Algorithm}
use Rattle.mt_plan.specs.declared.algorithm.Algorithm.TheVariants.{Checkerboard, March as Marches, WalkPath, Galpat, TransparentGalpat}
use Rattle.mt_plan.specs.declared.algorithm.Act.{Act}
use Rattle.mt_plan.specs.declared.algorithm.Step.{Step}
use Rattle.mt_plan.specs.declared.line.Line.{Line}
use Rattle.mt_plan.specs.declared.line.Line.TheVariants.{EachCell, OnCell, WalkBase, GalpatBase}
use Rattle.mt_plan.specs.Lists.{cells, step, act_of, write_act}
use Rattle.mt_plan.specs.Plan.{IsAccepted}
use Rattle.mt_plan.specs.Rows.{part_count, row_count, row_of, quarter_act, cell_at, is_second}
use Rattle.mt_plan.specs.Cursor.{line_of, line_steps, IsElementOf, IsLineOn}
use Rattle.mt_plan.proofs.Items.{at_map, at_cells, length-cells}
use Rattle.mt_plan.proofs.Bases.{length-writes, length-walk_base, length-galpat_base}

-- ---- how long a line is

pub each_len : (e : Element) (n : ℕ) (even odd : Act) → length (line_steps e n (EachCell even odd)) ≡ n
each_len e n even odd = length-map (cells n) (λ (j : ℕ). step j (if is_odd j then odd else even)) ∙ length-cells n

pub ops_len : (e : Element) (n cell : ℕ) → length (line_steps e n (OnCell cell)) ≡ length e.ops.items
ops_len e n cell = length-map e.ops.items (λ (op : Op). step cell (act_of op))

abbrev long : Element → ℕ → Line → ℕ
long e n line = length (line_steps e n line)

pub each_long : (e : Element) (n : ℕ) (line : Line) (even odd : Act) → line ≡ EachCell even odd → length (line_steps e n line) ≡ n
each_long e n line even odd is = ap (long e n) is ∙ each_len e n even odd

pub ops_long : (e : Element) (n : ℕ) (line : Line) (cell : ℕ) → line ≡ OnCell cell → length (line_steps e n line) ≡ length e.ops.items
ops_long e n line cell is = ap (long e n) is ∙ ops_len e n cell

pub walk_long : (e : Element) (n : ℕ) (line : Line) (v : Bool) (base : ℕ) → line ≡ WalkBase v base → IsLineOn n line → length (line_steps e n line) ≡ n + 2
walk_long e n line v base is on = ap (long e n) is ∙ length-walk_base v n base (subst (IsLineOn n) is on)

pub galpat_long : (e : Element) (n : ℕ) (line : Line) (v : Bool) (base : ℕ) → line ≡ GalpatBase v base → IsLineOn n line → length (line_steps e n line) ≡ 2 * n + 1
galpat_long e n line v base is on = ap (long e n) is ∙ length-galpat_base v n base (subst (IsLineOn n) is on)

-- ---- the steps of a line

each_at : (e : Element) (n at : ℕ) (line : Line) (even odd : Act) → line ≡ EachCell even odd → at < n → slice_get (line_steps e n line) at ≡ Some (step at (if is_odd at then odd else even))
each_at e n at line even odd is h =
    ap (λ (l : Line). slice_get (line_steps e n l) at) is ∙ at_map (λ (j : ℕ). step j (if is_odd j then odd else even)) (cells n) at at (at_cells n at h)

pub odd_at : (e : Element) (n at : ℕ) (line : Line) (even odd : Act) → line ≡ EachCell even odd → at < n → at % 2 ≡ 1 → slice_get (line_steps e n line) at ≡ Some (step at odd)
odd_at e n at line even odd is h one =
    let b : is_odd at ≡ true = eq-eqb _ _ one in each_at e n at line even odd is h ∙ ap (λ (x : Bool). Some (step at (if x then odd else even))) b

pub even_at : (e : Element) (n at : ℕ) (line : Line) (even odd : Act) → line ≡ EachCell even odd → at < n → at % 2 ≢ 1 → slice_get (line_steps e n line) at ≡ Some (step at even)
even_at e n at line even odd is h zero' =
    let b : is_odd at ≡ false = ne_eqb _ _ zero' in each_at e n at line even odd is h ∙ ap (λ (x : Bool). Some (step at (if x then odd else even))) b

pub op_at : (e : Element) (n at cell : ℕ) (line : Line) (op : Op) → line ≡ OnCell cell → slice_get e.ops.items at ≡ Some op → slice_get (line_steps e n line) at ≡ Some (step cell (act_of op))
op_at e n at cell line op is h =
    ap (λ (l : Line). slice_get (line_steps e n l) at) is ∙ at_map (λ (o : Op). step cell (act_of o)) e.ops.items at op h

-- ---- a line stands for its row

each_same : (even odd : Act) (f : ℕ → Act) (js : List ℕ) → ((j : ℕ) → (if is_odd j then odd else even) ≡ f j)
    → map (λ (j : ℕ). step j (if is_odd j then odd else even)) js ≡ map (λ (j : ℕ). step j (f j)) js
each_same even odd f [] same = refl
each_same even odd f (j ∷ js) same = ap (λ (a : Act). step j a ∷ map (λ (k : ℕ). step k (if is_odd k then odd else even)) js) (same j) ∙ ap (λ (l : List Step). step j (f j) ∷ l) (each_same even odd f js same)

pick : (f : Bool → Act) (b : Bool) → (if b then f true else f false) ≡ f b
pick f true = refl
pick f false = refl

either : (a : Act) (b : Bool) → (if b then a else a) ≡ a
either a true = refl
either a false = refl

pub line_is : (algorithm : Algorithm) (n part row : ℕ) (e : Element) → IsElementOf algorithm part e → line_steps e n (line_of algorithm n part row) ≡ row_of algorithm n part row
line_is Checkerboard n part row e is = each_same (quarter_act part false) (quarter_act part true) (λ (j : ℕ). quarter_act part (is_odd j)) (cells n) (λ j. pick (quarter_act part) (is_odd j))
line_is (Marches march) n part row e is = rw is refl
line_is WalkPath n part zero e is = each_same (write_act (is_second part)) (write_act (is_second part)) (λ (j : ℕ). write_act (is_second part)) (cells n) (λ j. either (write_act (is_second part)) (is_odd j))
line_is WalkPath n part (suc i) e is = refl
line_is Galpat n part zero e is = each_same (write_act (is_second part)) (write_act (is_second part)) (λ (j : ℕ). write_act (is_second part)) (cells n) (λ j. either (write_act (is_second part)) (is_odd j))
line_is Galpat n part (suc i) e is = refl
line_is TransparentGalpat n part zero e is = each_same (write_act (is_second part)) (write_act (is_second part)) (λ (j : ℕ). write_act (is_second part)) (cells n) (λ j. either (write_act (is_second part)) (is_odd j))
line_is TransparentGalpat n part (suc i) e is = refl

cell_in : (o : Order) (n row : ℕ) → row < n → cell_at o n row < n
cell_in Up n row h = h
cell_in Down n row h = omega arith
cell_in Either n row h = h

-- it stays on the cells
pub row_on : (algorithm : Algorithm) (n part row : ℕ) (e : Element) → row < row_count algorithm n → IsElementOf algorithm part e → IsLineOn n (line_of algorithm n part row)
row_on Checkerboard n part row e h is = tt
row_on (Marches march) n part row e h is = rw is (cell_in e.order n row h)
row_on WalkPath n part zero e h is = tt
row_on WalkPath n part (suc i) e h is = omega arith
row_on Galpat n part zero e h is = tt
row_on Galpat n part (suc i) e h is = omega arith
row_on TransparentGalpat n part zero e h is = tt
row_on TransparentGalpat n part (suc i) e h is = omega arith

-- it has steps
ops_some : (es : List Element) (part : ℕ) (e : Element) → All (λ (x : Element). (1 ≤ length x.ops.items) × (length x.ops.items ≤ 8)) es → part < length es → slice_get es part ≡ Some e → 0 < length e.ops.items
ops_some es part e all inside is =
    let same : get_or es part e ≡ e = cc (slice_get-get_or es part e inside) in
    let some : 1 ≤ length (get_or es part e).ops.items = (all part e inside).0 in
    omega (arith, ap (λ (x : Element). length x.ops.items) same)

fills_some : (v : Bool) (n : ℕ) → 1 ≤ n → 0 < length (map (λ j. step j (write_act v)) (cells n))
fills_some v n h = omega (arith, length-writes v n)

pub row_some : (algorithm : Algorithm) (n part row : ℕ) (e : Element) → IsAccepted algorithm → 1 ≤ n → part < part_count algorithm → IsElementOf algorithm part e → 0 < length (row_of algorithm n part row)
row_some Checkerboard n part row e accepted some inside is = omega (arith, length-map (cells n) (λ (j : ℕ). step j (quarter_act part (is_odd j))), length-cells n)
row_some (Marches march) n part row e accepted some inside is =
    let ops : 0 < length e.ops.items = ops_some march.elements.items part e accepted.short inside is in
    rw is (omega (arith, length-map e.ops.items (λ (op : Op). step (cell_at e.order n row) (act_of op))))
row_some WalkPath n part zero e accepted some inside is = fills_some (is_second part) n some
row_some WalkPath n part (suc i) e accepted some inside is = omega arith
row_some Galpat n part zero e accepted some inside is = fills_some (is_second part) n some
row_some Galpat n part (suc i) e accepted some inside is = omega arith
row_some TransparentGalpat n part zero e accepted some inside is = fills_some (is_second part) n some
row_some TransparentGalpat n part (suc i) e accepted some inside is = omega arith

-- ---- an element's rows

-- a line on a cell is that of an element, whose other lines are on its other cells
pub on_cell : (algorithm : Algorithm) (n part row other : ℕ) (e : Element) (cell : ℕ) → IsElementOf algorithm part e → line_of algorithm n part row ≡ OnCell cell
    → line_of algorithm n part other ≡ OnCell (cell_at e.order n other)
on_cell Checkerboard n part row other e cell is on = cc
on_cell (Marches march) n part row other e cell is on = rw is refl
on_cell WalkPath n part zero other e cell is on = cc
on_cell WalkPath n part (suc i) other e cell is on = cc
on_cell Galpat n part zero other e cell is on = cc
on_cell Galpat n part (suc i) other e cell is on = cc
on_cell TransparentGalpat n part zero other e cell is on = cc
on_cell TransparentGalpat n part (suc i) other e cell is on = cc

pub on_cell_len : (algorithm : Algorithm) (n part row : ℕ) (e : Element) (was cell : ℕ) → IsElementOf algorithm part e → line_of algorithm n part row ≡ OnCell was
    → length (row_of algorithm n part row) ≡ length (line_steps e n (OnCell cell))
on_cell_len algorithm n part row e was cell is on =
    ap length (sym (line_is algorithm n part row e is)) ∙ ap (long e n) on ∙ ops_len e n was ∙ sym (ops_len e n cell)
