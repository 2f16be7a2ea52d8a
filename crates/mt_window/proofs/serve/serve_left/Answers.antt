use Rattle.std.proofs.Common.{◌∙◌, sym, ap, subst, arith, length, refl, List}
use Rattle.std.specs.Prelude.{All}
use Rattle.mt_port.specs.Board.{Board}
use Rattle.mt_port.specs.declared.board.Shape.{Shape}
use Rattle.mt_port.specs.declared.request.Request.{Request}
use Rattle.mt_window.specs.Serving.{scene, IsSoundHandlerOp}
use Rattle.mt_window.proofs.Serving.{left_handed, handed_served, left_step, ready_step, handler_sound, served-left}
use Rattle.mt_window.proofs.serve.serve_left.Goals as goal

pub serve_one-requires-clause-sound : goal.serve_one-requires-clause-sound
serve_one-requires-clause-sound g c =
    let b = g.P.Port.state c.loop-due.port in
    let due = c.in-Some.due in
    let taken = ap (λ (x : Board). x.shape) c.in-Some.ensures.state in
    let h = left_handed b due c.in-Some.ensures.due in
    subst (λ (x : Shape). All (IsSoundHandlerOp x g.C.Callee.kind) due.request.ops.items) (sym taken) (handler_sound g.C.Callee.kind b due h c.loop-due.invariant.ready.sound)

pub loop-due-smaller : goal.loop-due-smaller
loop-due-smaller g c =
    let b = g.P.Port.state c.loop-due.port in
    let due = c.in-Some.due in
    let t = g.C.Callee.table in
    let a = scene b c.loop-due.callee c.loop-due.log in
    let z = scene (g.P.Port.state c.serve_one.new.port) c.serve_one.new.callee c.serve_one.new.log in
    let h = left_handed b due c.in-Some.ensures.due in
    let e = handed_served t a z (g.P.Port.state c.take_left.new.self) due (0) (0) h refl c.in-Some.ensures.state c.serve_one.ensures.scene in
    omega (arith, ap (λ (l : List Request). length l) (served-left t a z due _ h e), ap (λ (l : List Request). length l) h.split)

pub loop-due-preserved : goal.loop-due-preserved
loop-due-preserved g c =
    let b = g.P.Port.state c.loop-due.port in
    let due = c.in-Some.due in
    let t = g.C.Callee.table in
    let a = scene b c.loop-due.callee c.loop-due.log in
    let z = scene (g.P.Port.state c.serve_one.new.port) c.serve_one.new.callee c.serve_one.new.log in
    let h = left_handed b due c.in-Some.ensures.due in
    let e = handed_served t a z (g.P.Port.state c.take_left.new.self) due (0) (0) h refl c.in-Some.ensures.state c.serve_one.ensures.scene in
    record {
      ready = ready_step t g.C.Callee.kind a z due _ h e c.loop-due.invariant.ready;
      same = left_step t a z due h e ∙ c.loop-due.invariant.same;
      setting = c.serve_one.ensures.setting ∙ c.loop-due.invariant.setting;
      tape = c.serve_one.ensures.tape ∙ c.in-Some.ensures.tape ∙ c.loop-due.invariant.tape;
    }
