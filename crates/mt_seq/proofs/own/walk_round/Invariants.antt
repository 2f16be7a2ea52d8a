use Rattle.std.specs.List.{flat_map}
use Rattle.mt_plan.specs.Lists.{cells}
use Rattle.mt_seq.specs.Inner.Own.{own_walk_base}
use Rattle.mt_seq.specs.Makes.{Makes}
use Rattle.mt_seq.proofs.own.walk_round.Given as goal

abbrev pub invariant-loop-cell : goal.invariant-loop-cell
invariant-loop-cell g l = record {
  does : Makes (flat_map (own_walk_base l.flipped l.named) (cells l.cell)) (g.P.Port.state l.initial.port) (g.P.Port.state l.port) (g.P.Port.tape l.initial.port) (g.P.Port.tape l.port) l.good;
}
