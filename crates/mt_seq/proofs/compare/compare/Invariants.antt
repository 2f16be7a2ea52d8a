use Rattle.std.proofs.Common.{◌≡◌}
use Rattle.mt_seq.specs.Compare.{comparison}
use Rattle.mt_seq.proofs.Comparison.{Compares}
use Rattle.mt_seq.proofs.compare.compare.Given as goal

abbrev pub invariant-loop-cell : goal.invariant-loop-cell
invariant-loop-cell g l = record {
  found : l.found ≡ comparison (g.P.Port.state l.initial.port).flash l.first l.copy l.cell;
  does : Compares l.first l.copy l.cell (g.P.Port.state l.initial.port) (g.P.Port.state l.port) (g.P.Port.tape l.initial.port) (g.P.Port.tape l.port);
}
