use Rattle.std.proofs.Common.{◌==◌, cond, [], ◌∷◌, take}
use Rattle.std.specs.List.{flat_map}
use Rattle.mt_seq.specs.declared.own.Named.{Named}
use Rattle.mt_seq.specs.Inner.Own.{doing}
use Rattle.mt_seq.specs.Makes.{Makes}
use Rattle.mt_seq.proofs.own.on_base.Given as goal

abbrev pub invariant-loop-m : goal.invariant-loop-m
invariant-loop-m g l = record {
  does : Makes (flat_map (λ (m : Named). cond (m.cell == l.base) (doing m.target l.act ∷ []) []) (take l.m-index l.named)) (g.P.Port.state l.initial.port) (g.P.Port.state l.port) (g.P.Port.tape l.initial.port) (g.P.Port.tape l.port) l.good;
}
