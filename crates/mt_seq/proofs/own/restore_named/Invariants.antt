use Rattle.std.proofs.Common.{true, take}
use Rattle.mt_seq.specs.Inner.Own.{own_stores}
use Rattle.mt_seq.specs.Makes.{Makes}
use Rattle.mt_seq.proofs.own.restore_named.Given as goal

abbrev pub invariant-loop-m : goal.invariant-loop-m
invariant-loop-m g l = record {
  does : Makes (own_stores (take l.m-index l.named)) (g.P.Port.state l.initial.port) (g.P.Port.state l.port) (g.P.Port.tape l.initial.port) (g.P.Port.tape l.port) true;
}
