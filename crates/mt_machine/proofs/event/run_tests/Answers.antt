use Rattle.std.proofs.Common.{◌∙◌, ap, sym, subst, List}
use Rattle.mt_port.specs.declared.board.Shape.{Shape}
use Rattle.mt_port.specs.Board.{Board, AreSoundRequests}
use Rattle.mt_window.specs.declared.log.Entry.{Entry}
use Rattle.mt_window.specs.Serving.{IsReady as IsReadyToServe}
use Rattle.mt_machine.proofs.Services.{ready_to_serve}
use Rattle.mt_machine.proofs.event.run_tests.Goals as goal

pub run-reply-requires-clause-ready : goal.run-reply-requires-clause-ready
run-reply-requires-clause-ready g c =
    let state = c.begin_event.ensures.state in
    let board = g.B.Port.state c.begin_event.new.self in
    let requests = c.args.requests.now.items in
    let sound = subst (λ (s : Shape). AreSoundRequests s requests) (sym (ap (λ (b : Board). b.shape) state)) c.requires.requests.sound in
    subst (λ (l : List Entry). IsReadyToServe g.M.Callee.kind board l) (sym c.requires.empty)
    (ready_to_serve g.M.Callee.kind board requests (ap (λ (b : Board). b.held) state ∙ c.requires.free.free) (ap (λ (b : Board). b.left) state) sound c.requires.requests.callees)
