use Rattle.mt_laws.proofs.Plain.{leave_no_trace}
use Rattle.mt_laws.proofs.RamAlarms.{ram_alarms}
use Rattle.mt_laws.proofs.laws.no_false_alarm_of_ram.Goals as goal

pub returns : goal.returns
returns c =
    let traces = c.tests_leave_no_trace.ensures in
    let settings = c.running_calls_leave_setting.ensures in
    ram_alarms
    (leave_no_trace traces.tick traces.full traces.partial settings.tick settings.full settings.partial c.services_leave_setting.ensures c.lines_keep_the_board.ensures.calls)
    c.attempts_on_sound_memory.ensures.passes
