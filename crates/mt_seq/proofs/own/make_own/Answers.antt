use Rattle.std.proofs.Common.{ℕ, ◌≡◌, ◌+◌, ◌<◌, Bool, List, length, map, refl, arith, ap, sym, ◌∙◌, subst}
use Rattle.std.proofs.Math.Bool.{and-true}
use Rattle.std.proofs.lemmas.List.{length-map}
use Rattle.std.specs.Prelude.{All}
use Rattle.mt_fault.specs.Items.{Look}
use Rattle.mt_fault.specs.Projection.{cells_of_fault}
use Rattle.mt_word.specs.declared.Width.{Width}
use Rattle.mt_plan.specs.declared.algorithm.Algorithm.{Algorithm}
use Rattle.mt_plan.specs.declared.algorithm.Policy.TheVariants.{NonDestructive}
use Rattle.mt_port.specs.declared.board.Shape.{Shape}
use Rattle.mt_port.specs.Board.{Board}
use Rattle.mt_seq.specs.declared.sequence.Frame.{Frame}
use Rattle.mt_seq.specs.declared.sequence.Slice.{Slice}
use Rattle.mt_seq.specs.Sequence.{is_transparent}
use Rattle.mt_seq.specs.declared.own.Named.{Named}
use Rattle.mt_seq.specs.declared.sequence.Job.{Job}
use Rattle.mt_seq.specs.Inner.Own.{named_cells, own_accesses, own_looks, own_steps, own_stores, read_cell}
use Rattle.mt_seq.specs.Stepping.{job_of}
use Rattle.mt_seq.proofs.Makes.{Makes-append, Makes-same}
use Rattle.mt_seq.proofs.NamedCells.{fault_cells_low, named_is, own_room}
use Rattle.mt_seq.proofs.own.make_own.Goals as goal

pub save_named-named-requires-clause-inside : goal.save_named-named-requires-clause-inside
save_named-named-requires-clause-inside g c =
    let low = subst (All (λ (k : ℕ). k < c.args.slice.n)) (sym c.requires.cells) (fault_cells_low (g.P.Port.state c.args.port.now).fault c.args.slice.first c.args.slice.n) in
    λ k d h. omega (arith, low k d h, c.requires.slice.inside)

pub save_named-named-requires-clause-room : goal.save_named-named-requires-clause-room
save_named-named-requires-clause-room g c =
    omega (arith, own_room (g.P.Port.state c.args.port.now) (job_of c.args.alg.now c.args.frame) c.args.slice c.requires.keeps, ap length c.requires.cells, c.requires.room)

-- the cells that were read are those of the sequence
read_are : (b : Board) (alg : Algorithm) (frame : Frame) (slice : Slice) (width : Width) (transparent : Bool) (js : List ℕ) (named read : List Named) → frame.policy ≡ NonDestructive → width ≡ b.shape.width → transparent ≡ is_transparent alg
    → js ≡ cells_of_fault b.fault slice.first slice.n → read ≡ map (read_cell (record { first = slice.first; n = slice.n; width = width; background = frame.background; transparent = transparent }) b) js → named ≡ read → named ≡ named_cells b (job_of alg frame) slice
read_are b alg frame slice width transparent js named read keeps w t these e f =
    f ∙ e ∙ ap (map (read_cell (record { first = slice.first; n = slice.n; width = width; background = frame.background; transparent = transparent }) b)) these
    ∙ named_is b alg frame slice slice.n width transparent keeps w t

pub make_steps-good-requires-clause-room : goal.make_steps-good-requires-clause-room
make_steps-good-requires-clause-room g c =
    let b : Board = g.P.Port.state c.args.port.now in
    let are = read_are b c.args.alg.now c.args.frame c.args.slice c.shape.result.width c.is_transparent.result c.args.cells.now c.as_slice-2.result.now c.save_named-named.result.items
    c.requires.keeps (ap (λ (s : Shape). s.width) c.shape.ensures) c.is_transparent.ensures c.requires.cells c.save_named-named.ensures.named c.as_slice-2.ensures.value in
    omega (
      arith,
      own_room b (job_of c.args.alg.now c.args.frame) c.args.slice c.requires.keeps,
      ap length c.requires.cells,
      ap (λ (l : List Named). length (own_steps c.args.alg.now c.args.slice.n l)) are,
      length-map c.args.cells.now (λ (cell : ℕ). Look (c.args.slice.first + cell)),
      c.save_named-named.ensures.makes.count,
      c.requires.room,
    )

pub restore_named-requires-clause-room : goal.restore_named-requires-clause-room
restore_named-requires-clause-room g c =
    let b : Board = g.P.Port.state c.args.port.now in
    let are = read_are b c.args.alg.now c.args.frame c.args.slice c.shape.result.width c.is_transparent.result c.args.cells.now c.as_slice-2.result.now c.save_named-named.result.items
    c.requires.keeps (ap (λ (s : Shape). s.width) c.shape.ensures) c.is_transparent.ensures c.requires.cells c.save_named-named.ensures.named c.as_slice-2.ensures.value in
    omega (
      arith,
      own_room b (job_of c.args.alg.now c.args.frame) c.args.slice c.requires.keeps,
      ap length c.requires.cells,
      ap (λ (l : List Named). length (own_steps c.args.alg.now c.args.slice.n l)) are,
      ap length are,
      ap length (c.as_slice-4.ensures.value ∙ sym c.as_slice-2.ensures.value),
      length-map c.args.cells.now (λ (cell : ℕ). Look (c.args.slice.first + cell)),
      c.save_named-named.ensures.makes.count,
      c.make_steps-good.ensures.count,
      c.requires.room,
    )

pub returns : goal.returns
unfolding own_accesses
returns g c =
    let b : Board = g.P.Port.state c.args.port.now in
    let job : Job = job_of c.args.alg.now c.args.frame in
    let js : List ℕ = cells_of_fault b.fault c.args.slice.first c.args.slice.n in
    let ms : List Named = named_cells b job c.args.slice in
    let are = read_are b c.args.alg.now c.args.frame c.args.slice c.shape.result.width c.is_transparent.result c.args.cells.now c.as_slice-2.result.now c.save_named-named.result.items
    c.requires.keeps (ap (λ (s : Shape). s.width) c.shape.ensures) c.is_transparent.ensures c.requires.cells c.save_named-named.ensures.named c.as_slice-2.ensures.value in
    let looks = Makes-same (ap (own_looks c.args.slice.first) c.requires.cells) refl c.save_named-named.ensures.makes in
    let steps = Makes-same (ap (own_steps c.args.alg.now c.args.slice.n) are) refl c.make_steps-good.ensures in
    let stores = Makes-same (ap own_stores (c.as_slice-4.ensures.value ∙ sym c.as_slice-2.ensures.value ∙ are)) refl c.restore_named.ensures in
    Makes-same refl (and-true c.make_steps-good.result) (Makes-append (g.met.P.Port.sound c.args.port.now) (Makes-append (g.met.P.Port.sound c.args.port.now) looks steps) stores)
