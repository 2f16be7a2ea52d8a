-- The accesses of a sequence on the cells that a fault names, as loops make them.
use Rattle.std.specs.Prelude.{ℕ, ◌+◌, ◌==◌, Bool, true, false, not, All, List, ◌++◌, map, reverse, filter, slice_index, if◌then◌else◌}
use Rattle.std.specs.List.{flat_map, list_any}
use Rattle.mt_word.specs.declared.Width.{Width}
use Rattle.mt_word.specs.Word.{complement_of}
use Rattle.mt_fault.specs.Faulty.{is_odd}
use Rattle.mt_fault.specs.Items.{Item, Look, Store}
use Rattle.mt_fault.specs.Projection.{cells_of_fault}
use Rattle.mt_march.specs.declared.march.Element.{Element}
use Rattle.mt_march.specs.declared.march.Op.{Op}
use Rattle.mt_march.specs.declared.march.Order.{Order}
use Rattle.mt_march.specs.declared.march.Order.TheVariants.{Up, Down, Either}
use Rattle.mt_plan.specs.declared.algorithm.Act.{Act}
use Rattle.mt_plan.specs.declared.algorithm.Algorithm.{Algorithm}
use Rattle.mt_plan.specs.declared.algorithm.Algorithm.TheVariants.{Checkerboard, March as Marches, WalkPath, Galpat, TransparentGalpat}
use Rattle.mt_plan.specs.Lists.{cells, is_flipped, others, read_act, write_act}
use Rattle.mt_port.specs.Board.{Board, answered}
use Rattle.mt_seq.specs.declared.own.Named.{Named}
use Rattle.mt_seq.specs.declared.sequence.Job.{Job}
use Rattle.mt_seq.specs.declared.sequence.Slice.{Slice}
use Rattle.mt_seq.specs.declared.span.Ground.{Ground}
use Rattle.mt_seq.specs.declared.span.Target.{Target}
use Rattle.mt_seq.specs.Inner.Ground.{IsTarget, access_for, operation}
use Rattle.mt_seq.specs.Sequence.{back_of, saved_words}

-- an act on a word
abbrev pub doing : Target → Act → Item
doing target act = access_for target.addr (if is_flipped act then target.flipped else target.plain) act

-- each word is one that accesses can be made of
abbrev pub AreTargets : Board → List Named → Type 0
AreTargets b named = All (λ (m : Named). IsTarget b m.target) named

-- an act on each cell
abbrev pub own_each : (ℕ → Act) → List Named → List Item
own_each act named = map (λ (m : Named). doing m.target (act m.cell)) named

-- all operations on each cell
abbrev pub own_ops : List Op → List Named → List Item
own_ops ops named = flat_map (λ (m : Named). map (operation m.target) ops) named

-- the cells in the order of an element
abbrev pub turned : Order → List Named → List Named
turned Up named = named
turned Down named = reverse named
turned Either named = named

abbrev pub own_element : List Named → Element → List Item
own_element named e = own_ops e.ops.items (turned e.order named)

abbrev pub own_march : List Named → List Element → List Item
own_march named elements = flat_map (own_element named) elements

abbrev pub own_checkerboard : List Named → List Item
own_checkerboard named =
    (own_each (λ j. write_act (is_odd j)) named ++ own_each (λ j. read_act (is_odd j)) named)
    ++ (own_each (λ j. write_act (not (is_odd j))) named ++ own_each (λ j. read_act (not (is_odd j))) named)

-- the cell that is a base, if it is named, and the others
abbrev pub at_base : ℕ → List Named → List Named
at_base base named = filter (λ (m : Named). m.cell == base) named

abbrev pub off_base : ℕ → List Named → List Named
off_base base named = filter (λ (m : Named). not (m.cell == base)) named

abbrev pub own_walk_base : Bool → List Named → ℕ → List Item
own_walk_base v named base =
    (own_each (λ j. write_act (not v)) (at_base base named) ++ own_each (λ j. read_act v) (off_base base named))
    ++ (own_each (λ j. read_act (not v)) (at_base base named) ++ own_each (λ j. write_act v) (at_base base named))

abbrev pub own_walk_round : Bool → ℕ → List Named → List Item
own_walk_round v n named = own_each (λ j. write_act v) named ++ flat_map (own_walk_base v named) (cells n)

-- a read of a cell, if it is named, and of the base after it
abbrev pub own_pair : Bool → List Named → ℕ → ℕ → List Item
own_pair v named base j = own_each (λ k. read_act v) (at_base j named) ++ own_each (λ k. read_act (not v)) (at_base base named)

abbrev pub own_pairs : Bool → ℕ → List Named → ℕ → List Item
own_pairs v n named base =
    if list_any (λ (m : Named). m.cell == base) named then flat_map (own_pair v named base) (others base (cells n))
    else own_each (λ j. read_act v) (off_base base named)

abbrev pub own_galpat_base : Bool → ℕ → List Named → ℕ → List Item
own_galpat_base v n named base =
    ((own_each (λ j. write_act (not v)) (at_base base named) ++ own_each (λ j. read_act (not v)) (at_base base named)) ++ own_pairs v n named base)
    ++ own_each (λ j. write_act v) (at_base base named)

abbrev pub own_galpat_round : Bool → ℕ → List Named → List Item
own_galpat_round v n named = own_each (λ j. write_act v) named ++ flat_map (own_galpat_base v n named) (cells n)

-- the algorithm's accesses
abbrev pub own_steps : Algorithm → ℕ → List Named → List Item
own_steps Checkerboard n named = own_checkerboard named
own_steps (Marches march) n named = own_march named march.elements.items
own_steps WalkPath n named = own_walk_round false n named ++ own_walk_round true n named
own_steps Galpat n named = own_galpat_round false n named ++ own_galpat_round true n named
own_steps TransparentGalpat n named = own_galpat_round false n named ++ own_galpat_round true n named

abbrev pub own_looks : ℕ → List ℕ → List Item
own_looks first js = map (λ cell. Look (first + cell)) js

abbrev pub own_stores : List Named → List Item
own_stores named = map (λ (m : Named). Store m.target.addr m.saved) named

-- a cell of a slice, with its saved word and its background word
abbrev pub named_on : Width → ℕ → (ℕ → ℕ) → List ℕ → ℕ → Named
named_on width first back saved cell = record {
  cell = cell;
  saved = slice_index saved cell;
  target = record { addr = first + cell; plain = back cell; flipped = complement_of width (back cell) };
}

-- the cells of a slice that the fault of a board names
abbrev pub named_cells : Board → Job → Slice → List Named
named_cells b job slice =
    let saved = saved_words job.policy b.fault b.words slice in
    map (named_on b.shape.width slice.first (back_of job saved) saved) (cells_of_fault b.fault slice.first slice.n)

-- the accesses of a sequence that keeps the words on these cells
unfoldable pub own_accesses : Board → Job → Slice → List Item
own_accesses b job slice =
    (own_looks slice.first (cells_of_fault b.fault slice.first slice.n) ++ own_steps job.alg slice.n (named_cells b job slice))
    ++ own_stores (named_cells b job slice)

-- a cell of a slice by what its saving read answered
abbrev pub named_with : Ground → ℕ → ℕ → Named
named_with area cell word =
    let plain = if area.transparent then word else area.background in
    record { cell = cell; saved = word; target = record { addr = area.first + cell; plain = plain; flipped = complement_of area.width plain } }

-- the same by what a memory answers
abbrev pub read_cell : Ground → Board → ℕ → Named
read_cell area b cell = named_with area cell (answered b.fault b.words (area.first + cell))
