use Rattle.std.proofs.Common.{ℕ, ◌≡◌, ◌+◌, ◌<◌, List, [], ◌∷◌, ◌++◌, map, take, length, get_or, Option, refl, arith, ap, sym, ◌∙◌, subst, add-one}
use Rattle.std.specs.Prelude.{All}
use Rattle.std.proofs.Math.Seq.{take-suc}
use Rattle.std.proofs.lemmas.List.{length-map, length-take-le, map-append, take_all}
use Rattle.std.proofs.lemmas.List.Elements.{All-append, All-cons, All-nil}
use Rattle.std.proofs.lemmas.Option.{slice_get-get_or}
use Rattle.mt_word.specs.Word.{Fits}
use Rattle.mt_fault.specs.declared.fault.Fault.{Fault}
use Rattle.mt_fault.specs.Items.{Look}
use Rattle.mt_port.specs.declared.board.Shape.{Shape}
use Rattle.mt_port.specs.Board.{Board, answered}
use Rattle.mt_seq.specs.declared.own.Named.{Named}
use Rattle.mt_seq.specs.declared.span.Ground.{Ground}
use Rattle.mt_seq.specs.declared.span.Target.{Target}
use Rattle.mt_seq.specs.Inner.Ground.{IsTarget}
use Rattle.mt_seq.specs.Inner.Own.{named_with, own_looks, read_cell}
use Rattle.mt_seq.proofs.Makes.{Makes-more, Makes-nil, Makes-same}
use Rattle.mt_seq.proofs.own.save_named.Goals as goal

-- a cell that is read later is the same
same_cell : (ground : Ground) (a b : Board) (cell : ℕ) → a.fault ≡ b.fault → a.words ≡ b.words → read_cell ground a cell ≡ read_cell ground b cell
same_cell ground a b cell e f = ap (λ (w : ℕ). named_with ground cell w) (ap (λ (fault : Option Fault). answered fault a.words (ground.first + cell)) e ∙ ap (λ (ws : List ℕ). answered b.fault ws (ground.first + cell)) f)

same_target : (a b : Board) (target : Target) → a.held ≡ b.held → a.shape ≡ b.shape → IsTarget a target → IsTarget b target
same_target a b target e f is = record {
  held = sym e ∙ is.held;
  inside = subst (λ (s : Shape). target.addr < s.ram) f is.inside;
  plain = subst (λ (s : Shape). Fits s.width target.plain) f is.plain;
  flipped = subst (λ (s : Shape). Fits s.width target.flipped) f is.flipped;
}

map_take : {X Y : Type 0} (f : X → Y) (xs : List X) (i : ℕ) (d : X) → i < length xs → map f (take (i + 1) xs) ≡ map f (take i xs) ++ f (get_or xs i d) ∷ []
map_take f xs i d h = ap (λ (k : ℕ). map f (take k xs)) (add-one i) ∙ ap (map f) (take-suc xs i d h) ∙ map-append f (take i xs) (get_or xs i d ∷ [])

pub loop-cell-init : goal.loop-cell-init
loop-cell-init g c = record {
  does = Makes-nil (g.P.Port.state c.args.port.now) (g.P.Port.tape c.args.port.now) (g.met.P.Port.sound c.args.port.now);
  words = refl;
  named = c.new-named.ensures;
  targets = rw c.new-named.ensures (All-nil (λ (m : Named). IsTarget (g.P.Port.state c.args.port.now) m.target));
  fit = rw c.new-named.ensures (All-nil (λ (m : Named). Fits (g.P.Port.state c.args.port.now).shape.width m.saved));
}

pub save_cell-requires-clause-held : goal.save_cell-requires-clause-held
save_cell-requires-clause-held g c = c.loop-cell.invariant.does.held ∙ c.requires.held

pub save_cell-requires-clause-inside : goal.save_cell-requires-clause-inside
save_cell-requires-clause-inside g c =
    subst (λ (s : Shape). c.args.ground.first + get_or c.args.cells.now c.loop-cell.cell-index 0 < s.ram) (sym c.loop-cell.invariant.does.shape) (c.requires.inside c.loop-cell.cell-index 0 c.loop-cell-test.true)

pub save_cell-requires-clause-width : goal.save_cell-requires-clause-width
save_cell-requires-clause-width g c = c.requires.width ∙ ap (λ (s : Shape). s.width) (sym c.loop-cell.invariant.does.shape)

pub save_cell-requires-clause-room : goal.save_cell-requires-clause-room
save_cell-requires-clause-room g c =
    omega (
      arith,
      c.loop-cell.invariant.does.count,
      length-map (take c.loop-cell.cell-index c.args.cells.now) (λ (cell : ℕ). Look (c.args.ground.first + cell)),
      length-take-le c.loop-cell.cell-index c.args.cells.now (omega arith),
      c.requires.room,
      c.loop-cell-test.true,
    )

pub loop-cell-preserved : goal.loop-cell-preserved
loop-cell-preserved g c =
    let inv = c.loop-cell.invariant in
    let now : Board = g.P.Port.state c.loop-cell.port in
    let was : Board = g.P.Port.state c.args.port.now in
    let js : List ℕ = c.args.cells.now in
    let i : ℕ = c.loop-cell.cell-index in
    let cell : ℕ = get_or js i 0 in
    let target : Named → Type 0 = λ m. IsTarget was m.target in
    let fit : Named → Type 0 = λ m. Fits was.shape.width m.saved in
    record {
      does = Makes-more (λ (k : ℕ). Look (c.args.ground.first + k)) js i cell (g.met.P.Port.sound c.args.port.now) (slice_get-get_or js i 0 c.loop-cell-test.true) inv.does c.save_cell.ensures.makes;
      words = c.save_cell.ensures.words ∙ inv.words;
      named = c.push.ensures.items
          ∙ ap (λ (l : List Named). l ++ c.save_cell.result ∷ []) inv.named
          ∙ ap (λ (m : Named). map (read_cell c.args.ground was) (take i js) ++ m ∷ []) (c.save_cell.ensures.named ∙ same_cell c.args.ground now was cell (ap (λ (b : Board). b.fault) inv.does.state) inv.words)
          ∙ sym (map_take (read_cell c.args.ground was) js i 0 c.loop-cell-test.true);
      targets = subst (λ (l : List Named). All target l) (sym c.push.ensures.items)
          (All-append target c.loop-cell.named.items (c.save_cell.result ∷ []) inv.targets (All-cons target c.save_cell.result [] (same_target now was c.save_cell.result.target inv.does.held inv.does.shape c.save_cell.ensures.target) (All-nil target)));
      fit = subst (λ (l : List Named). All fit l) (sym c.push.ensures.items)
          (All-append fit c.loop-cell.named.items (c.save_cell.result ∷ []) inv.fit (All-cons fit c.save_cell.result [] (subst (λ (s : Shape). Fits s.width c.save_cell.result.saved) inv.does.shape c.save_cell.ensures.fits) (All-nil fit)));
    }

pub returns : goal.returns
returns g c =
    let inv = c.loop-cell.invariant in
    let all = take_all c.loop-cell.cell-index c.args.cells.now (omega arith) in
    record {
      makes = Makes-same (ap (own_looks c.args.ground.first) all) refl inv.does;
      named = inv.named ∙ ap (map (read_cell c.args.ground (g.P.Port.state c.args.port.now))) all;
      targets = inv.targets;
      fit = inv.fit;
    }
