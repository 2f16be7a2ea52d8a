use Rattle.std.proofs.Common.{◌≡◌, ◌+◌, ◌≤◌, drop, length, false}
use Rattle.mt_window.specs.Serving.{scene, operated_all}
use Rattle.mt_window.proofs.serve.operate_all.Given as goal

abbrev pub invariant-loop-op : goal.invariant-loop-op
invariant-loop-op g l = record {
  free : (g.P.Port.state l.port).held ≡ false;
  shape : (g.P.Port.state l.port).shape ≡ (g.P.Port.state l.initial.port).shape;
  room : length l.log + length l.ops ≤ 256 + l.op-index;
  same : operated_all g.C.Callee.table (drop l.op-index l.ops) (scene (g.P.Port.state l.port) l.callee l.log)
      ≡ operated_all g.C.Callee.table l.ops (scene (g.P.Port.state l.initial.port) l.initial.callee l.initial.log);
  setting : g.C.Callee.setting l.callee ≡ g.C.Callee.setting l.initial.callee;
  tape : g.P.Port.tape l.port ≡ g.P.Port.tape l.initial.port;
}
