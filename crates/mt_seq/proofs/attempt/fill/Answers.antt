use Rattle.std.proofs.Common.{◌≡◌, ◌+◌, ℕ, map, refl, arith, ap, sym, subst, ◌∙◌}
use Rattle.mt_word.specs.Word.{Fits}
use Rattle.mt_plan.specs.Lists.{cells}
use Rattle.mt_port.specs.declared.board.Shape.{Shape}
use Rattle.mt_fault.specs.Items.{Store}
use Rattle.mt_seq.proofs.Makes.{Makes-nil, Makes-cell, Makes-same}
use Rattle.mt_seq.proofs.attempt.fill.Goals as goal

pub loop-cell-init : goal.loop-cell-init
loop-cell-init g c = record {
  made = omega arith;
  does = Makes-nil (g.P.Port.state c.args.port.now) (g.P.Port.tape c.args.port.now) (g.met.P.Port.sound c.args.port.now);
}

pub make-requires-clause-held : goal.make-requires-clause-held
make-requires-clause-held g c = c.loop-cell.invariant.does.held ∙ c.requires.held

pub make-requires-clause-inside : goal.make-requires-clause-inside
make-requires-clause-inside g c = omega (arith, c.from.ensures, ap (λ (s : Shape). s.ram) c.loop-cell.invariant.does.shape, c.requires.inside, c.loop-cell-test.true)

pub make-requires-clause-fits : goal.make-requires-clause-fits
make-requires-clause-fits g c = subst (λ (s : Shape). Fits s.width c.args.word) (sym c.loop-cell.invariant.does.shape) c.requires.fits

pub make-requires-clause-room : goal.make-requires-clause-room
make-requires-clause-room g c = omega (arith, c.loop-cell.invariant.made, c.requires.room, c.loop-cell-test.true)

pub loop-cell-preserved : goal.loop-cell-preserved
loop-cell-preserved g c =
    let inv = c.loop-cell.invariant in
    let i : ℕ = c.loop-cell.cell in
    let at : c.from.result ≡ i = c.from.ensures in
    let done = c.make.ensures.made in
    record {
      made = omega (arith, done.count, inv.made);
      does = Makes-cell (λ cell. Store (c.args.slice.first + cell) c.args.word) i (g.met.P.Port.sound c.args.port.now) inv.does (rw at at done);
    }

pub returns : goal.returns
returns g c =
    let e : c.loop-cell.cell ≡ c.args.slice.n = omega arith in
    Makes-same (ap (λ (n : ℕ). map (λ cell. Store (c.args.slice.first + cell) c.args.word) (cells n)) e) refl c.loop-cell.invariant.does
