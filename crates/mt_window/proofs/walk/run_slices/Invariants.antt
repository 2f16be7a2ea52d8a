use Rattle.std.proofs.Common.{◌≡◌, ◌<◌, ◌+◌, ◌*◌, ◌^◌, length}
use Rattle.mt_window.specs.Serving.{scene, IsReady}
use Rattle.mt_window.specs.Slices.{started}
use Rattle.mt_window.proofs.Slices.{Reaches}
use Rattle.mt_window.proofs.walk.run_slices.Given as goal

abbrev pub invariant-loop-walk : goal.invariant-loop-walk
invariant-loop-walk g l =
    let W = g.W.Walk in
    record {
      ready : IsReady g.C.Callee.kind (g.P.Port.state l.port) l.log;
      fits : W.Fits l.walk l.callee;
      origin : W.origin l.walk ≡ W.origin l.initial.walk;
      name : W.call l.walk ≡ W.call l.initial.walk;
      setting : g.C.Callee.setting l.callee ≡ g.C.Callee.setting l.initial.callee;
      shape : (g.P.Port.state l.port).shape ≡ W.shape l.callee;
      room : (g.P.Port.state l.port).count + W.most l.walk l.callee + W.longest * length (g.P.Port.state l.port).left < 2 ^ 32;
      tries : l.tries < 2 ^ 32;
      reach : Reaches W.tests (W.left l.initial.walk l.initial.callee) (started (W.failed l.initial.walk) (scene (g.P.Port.state l.initial.port) l.initial.callee l.initial.log)) (g.P.Port.tape l.initial.port)
          l.tries (W.left l.walk l.callee) (W.failed l.walk) (scene (g.P.Port.state l.port) l.callee l.log) (g.P.Port.tape l.port);
    }

abbrev pub decreases-loop-walk : goal.decreases-loop-walk
decreases-loop-walk g l = length (g.W.Walk.left l.walk l.callee) + length (g.P.Port.state l.port).left
