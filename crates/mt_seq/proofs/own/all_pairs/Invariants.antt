use Rattle.std.specs.List.{flat_map}
use Rattle.mt_plan.specs.Lists.{cells, others}
use Rattle.mt_seq.specs.Inner.Own.{own_pair}
use Rattle.mt_seq.specs.Makes.{Makes}
use Rattle.mt_seq.proofs.own.all_pairs.Given as goal

abbrev pub invariant-loop-cell : goal.invariant-loop-cell
invariant-loop-cell g l = record {
  does : Makes (flat_map (own_pair l.base.flipped l.named l.base.cell) (others l.base.cell (cells l.cell))) (g.P.Port.state l.initial.port) (g.P.Port.state l.port) (g.P.Port.tape l.initial.port) (g.P.Port.tape l.port) l.good;
}
