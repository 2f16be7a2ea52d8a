use Rattle.std.proofs.Common.{◌≡◌, ◌≤◌, ◌<◌, ◌+◌, map}
use Rattle.mt_plan.specs.Lists.{cells}
use Rattle.mt_seq.specs.Inner.Ground.{item_on, other_reads}
use Rattle.mt_seq.specs.Makes.{Makes}
use Rattle.mt_seq.proofs.span.read_others.Given as goal

abbrev pub invariant-loop-cell : goal.invariant-loop-cell
invariant-loop-cell g l = record {
  before : l.cell ≤ l.base.cell → (g.P.Port.state l.port).count ≡ (g.P.Port.state l.initial.port).count + l.cell;
  behind : l.base.cell < l.cell → (g.P.Port.state l.port).count + 1 ≡ (g.P.Port.state l.initial.port).count + l.cell;
  does : Makes (map (item_on l.ground l.saved) (other_reads l.base.flipped l.base.cell (cells l.cell)))
      (g.P.Port.state l.initial.port) (g.P.Port.state l.port) (g.P.Port.tape l.initial.port) (g.P.Port.tape l.port) l.good;
}
