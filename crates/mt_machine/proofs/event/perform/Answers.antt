use Rattle.mt_machine.specs.Machine.{Machine, with_ram, with_fls, running_call, fls_running_call}
use Rattle.mt_machine.proofs.Services.{does_event, does_same, ram_driven, fls_driven}
use Rattle.mt_machine.proofs.event.perform.Goals as goal

pub returns-in-TickRam-clause-gives : goal.returns-in-TickRam-clause-gives
returns-in-TickRam-clause-gives g c =
    does_event _ c.args.line.now c.in-TickRam.is (c.run_tests.ensures.does (with_ram c.args.modules.now))

pub returns-in-TickFls-clause-gives : goal.returns-in-TickFls-clause-gives
returns-in-TickFls-clause-gives g c =
    does_event _ c.args.line.now c.in-TickFls.is (c.run_tests-in-TickFls.ensures.does (with_fls c.args.modules.now))

pub returns-in-Ram-clause-gives : goal.returns-in-Ram-clause-gives
returns-in-Ram-clause-gives g c =
    let m : Machine = record { board = g.B.Port.state c.args.board.now; modules = c.args.modules.now } in
    let call = c.in-Ram.call in
    does_event m c.args.line.now c.in-Ram.is
    (does_same (ram_driven m call (running_call call) c.args.line.now.requests.items) (c.answer_call.ensures.does (with_ram c.args.modules.now)))

pub returns-in-Fls-clause-gives : goal.returns-in-Fls-clause-gives
returns-in-Fls-clause-gives g c =
    let m : Machine = record { board = g.B.Port.state c.args.board.now; modules = c.args.modules.now } in
    let call = c.in-Fls.call in
    does_event m c.args.line.now c.in-Fls.is
    (does_same (fls_driven m call (fls_running_call call) c.args.line.now.requests.items) (c.answer_call-in-Fls.ensures.does (with_fls c.args.modules.now)))
