use Rattle.std.proofs.Common.{◌≡◌, ℕ, sym, ap}
use Rattle.mt_port.specs.Board.{Board}
use Rattle.mt_seq.proofs.Comparison.{Compares-none, Compares-more, pair_fits, comparison-none, found_more, differ}
use Rattle.mt_seq.proofs.compare.compare.Goals as goal

pub loop-cell-init : goal.loop-cell-init
loop-cell-init g c = record {
  found = sym (comparison-none (g.P.Port.state c.args.port.now).flash c.args.first c.args.copy);
  does = Compares-none c.args.first c.args.copy (g.P.Port.state c.args.port.now) (g.P.Port.tape c.args.port.now);
}

pub differs-differ-requires-clause-room : goal.differs-differ-requires-clause-room
differs-differ-requires-clause-room g c =
    pair_fits c.args.first c.args.copy c.loop-cell.cell c.args.n c.loop-cell.invariant.does c.loop-cell-test.true c.requires.room

pub loop-cell-preserved : goal.loop-cell-preserved
loop-cell-preserved g c =
    let inv = c.loop-cell.invariant in
    let a : Board = g.P.Port.state c.args.port.now in
    let first : ℕ = c.args.first in
    let copy : ℕ = c.args.copy in
    let i : ℕ = c.loop-cell.cell in
    let at : c.from.result ≡ i = c.from.ensures in
    let also : c.from-in-loop-cell.result ≡ i = c.from-in-loop-cell.ensures in
    let flash : (g.P.Port.state c.loop-cell.port).flash ≡ a.flash = ap (λ (b : Board). b.flash) inv.does.state in
    let answer : c.differs-differ.result ≡ differ a.flash first copy i = rw (flash, at, also) at c.differs-differ.ensures.answer in
    record {
      found = found_more a.flash first copy i inv.found answer (rw at at c.then_some.ensures) c.or-found.ensures;
      does = Compares-more first copy i inv.does c.differs-differ.ensures.state (rw (at, also) at c.differs-differ.ensures.tape);
    }
