use Rattle.std.proofs.Common.{◌≡◌, length}
use Rattle.mt_window.specs.Serving.{scene, serve_left, IsReady}
use Rattle.mt_window.proofs.serve.serve_left.Given as goal

abbrev pub invariant-loop-due : goal.invariant-loop-due
invariant-loop-due g l = record {
  ready : IsReady g.C.Callee.kind (g.P.Port.state l.port) l.log;
  same : serve_left g.C.Callee.table (scene (g.P.Port.state l.port) l.callee l.log)
      ≡ serve_left g.C.Callee.table (scene (g.P.Port.state l.initial.port) l.initial.callee l.initial.log);
  setting : g.C.Callee.setting l.callee ≡ g.C.Callee.setting l.initial.callee;
  tape : g.P.Port.tape l.port ≡ g.P.Port.tape l.initial.port;
}

abbrev pub decreases-loop-due : goal.decreases-loop-due
decreases-loop-due g l = length (g.P.Port.state l.port).left
