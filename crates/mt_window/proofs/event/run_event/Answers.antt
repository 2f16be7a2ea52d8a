use Rattle.std.proofs.Common.{◌∙◌, ◌≤◌, sym, arith, length}
use Rattle.std.proofs.Math.Nat.{mul-le-mul_left}
use Rattle.mt_window.specs.Serving.{scene}
use Rattle.mt_window.specs.Slices.{started}
use Rattle.mt_window.proofs.Events.{slices_shape}
use Rattle.mt_window.proofs.Walks.{served_board, left_board, length-cost}
use Rattle.mt_window.proofs.event.run_event.Goals as goal

pub run_slices-requires-clause-shape : goal.run_slices-requires-clause-shape
run_slices-requires-clause-shape g c =
    let W = g.W.Walk in
    let a = scene (g.P.Port.state c.args.port.now) c.clear.new.callee c.args.log.now in
    let o = scene (g.P.Port.state c.serve_due.new.port) c.serve_due.new.callee c.serve_due.new.log in
    (served_board g.C.Callee.table a o c.serve_due.ensures.scene).shape ∙ c.requires.shape
    ∙ sym (g.met.W.Walk.same_shape c.enter-walk.new.callee c.args.callee.now (c.enter-walk.ensures.setting ∙ c.serve_due.ensures.setting ∙ c.clear.ensures.setting))

pub run_slices-requires-clause-room : goal.run_slices-requires-clause-room
run_slices-requires-clause-room g c =
    let a = scene (g.P.Port.state c.args.port.now) c.clear.new.callee c.args.log.now in
    let o = scene (g.P.Port.state c.serve_due.new.port) c.serve_due.new.callee c.serve_due.new.log in
    let few : length o.board.left ≤ 256 = omega (arith, length-cost o.board.left, c.serve_due.ensures.ready.room) in
    omega (arith, mul-le-mul_left {m = length o.board.left} {n = 256} g.W.Walk.longest few, (served_board g.C.Callee.table a o c.serve_due.ensures.scene).count, c.requires.start, c.enter-walk.ensures.most)

pub returns-clause-shape : goal.returns-clause-shape
returns-clause-shape g c =
    let W = g.W.Walk in
    let a = scene (g.P.Port.state c.args.port.now) c.clear.new.callee c.args.log.now in
    let o = scene (g.P.Port.state c.serve_due.new.port) c.serve_due.new.callee c.serve_due.new.log in
    let i = scene (g.P.Port.state c.serve_due.new.port) c.enter-walk.new.callee c.serve_due.new.log in
    let y = scene (g.P.Port.state c.run_slices.new.port) c.run_slices.new.callee c.run_slices.new.log in
    let z = scene (g.P.Port.state c.run_slices.new.port) c.leave.new.callee c.run_slices.new.log in
    let f = scene (g.P.Port.state c.serve_left.new.port) c.serve_left.new.callee c.serve_left.new.log in
    (left_board g.C.Callee.table z f c.serve_left.ensures.scene).shape
    ∙ slices_shape W.tests (W.left c.enter-walk.result i.callee) (started (W.failed c.enter-walk.result) i) y c.run_slices.ensures.scene
    ∙ (served_board g.C.Callee.table a o c.serve_due.ensures.scene).shape
