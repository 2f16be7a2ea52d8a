use Rattle.std.specs.List.{flat_map}
use Rattle.mt_plan.specs.Lists.{cells}
use Rattle.mt_seq.specs.Inner.Own.{own_galpat_base}
use Rattle.mt_seq.specs.Makes.{Makes}
use Rattle.mt_seq.proofs.own.galpat_round.Given as goal

abbrev pub invariant-loop-cell : goal.invariant-loop-cell
invariant-loop-cell g l = record {
  does : Makes (flat_map (own_galpat_base l.flipped l.n l.named) (cells l.cell)) (g.P.Port.state l.initial.port) (g.P.Port.state l.port) (g.P.Port.tape l.initial.port) (g.P.Port.tape l.port) l.good;
}
