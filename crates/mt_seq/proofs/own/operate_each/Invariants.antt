use Rattle.std.proofs.Common.{take, map}
use Rattle.std.specs.List.{flat_map}
use Rattle.mt_seq.specs.declared.own.Named.{Named}
use Rattle.mt_seq.specs.Inner.Ground.{operation}
use Rattle.mt_seq.specs.Makes.{Makes}
use Rattle.mt_seq.proofs.own.operate_each.Given as goal

abbrev pub invariant-loop-m : goal.invariant-loop-m
invariant-loop-m g l = record {
  does : Makes (flat_map (λ (m : Named). map (operation m.target) l.ops) (take l.m-index l.named)) (g.P.Port.state l.initial.port) (g.P.Port.state l.port) (g.P.Port.tape l.initial.port) (g.P.Port.tape l.port) l.good;
}
