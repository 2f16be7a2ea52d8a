use Rattle.mt_machine.proofs.Services.{does_driven}
use Rattle.mt_machine.proofs.event.answer_call.Goals as goal

pub returns-in-Runs-clause-does : goal.returns-in-Runs-clause-does
returns-in-Runs-clause-does g c with =
    let taken = c.in-Runs.ensures.taken in
    does_driven g.M.Driven.calls with (g.B.Port.state c.args.board.now) c.args.module.now c.take.new.self c.args.call (g.M.Driven.calls.running c.args.call) c.in-Runs.running
    c.args.requests.now.items taken.0 taken.1 (c.run_tests.ensures.does with)
