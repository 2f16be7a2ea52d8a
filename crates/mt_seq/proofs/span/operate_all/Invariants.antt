use Rattle.std.proofs.Common.{◌≡◌, ◌+◌, map, take}
use Rattle.mt_seq.specs.Inner.Ground.{MakesToo, operation}
use Rattle.mt_seq.proofs.span.operate_all.Given as goal

abbrev pub invariant-loop-op : goal.invariant-loop-op
invariant-loop-op g l = record {
  made : (g.P.Port.state l.port).count ≡ (g.P.Port.state l.initial.port).count + l.op-index;
  does : MakesToo (map (operation l.target) (take l.op-index l.ops)) (g.P.Port.state l.initial.port) (g.P.Port.state l.port) (g.P.Port.tape l.initial.port) (g.P.Port.tape l.port) l.initial.all l.all;
}
