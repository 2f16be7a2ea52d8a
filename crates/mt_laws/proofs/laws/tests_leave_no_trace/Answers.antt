use Rattle.mt_laws.proofs.Plain.{leave_no_trace, no_trace}
use Rattle.mt_laws.proofs.laws.tests_leave_no_trace.Goals as goal

pub returns : goal.returns
returns c =
    let traces = c.tests_leave_no_trace.ensures in
    let settings = c.running_calls_leave_setting.ensures in
    no_trace
    (leave_no_trace traces.tick traces.full traces.partial settings.tick settings.full settings.partial c.services_leave_setting.ensures c.lines_keep_the_board.ensures.calls)
