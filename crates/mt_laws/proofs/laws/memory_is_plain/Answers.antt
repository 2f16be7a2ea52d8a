use Rattle.mt_ram.specs.Laws.{TestsItsSet}
use Rattle.mt_laws.proofs.Calls.{each_call}
use Rattle.mt_laws.proofs.Plain.{leave_no_trace}
use Rattle.mt_laws.proofs.PlainMemories.{memory_plain}
use Rattle.mt_laws.proofs.laws.memory_is_plain.Goals as goal

pub returns : goal.returns
returns c =
    let traces = c.tests_leave_no_trace.ensures in
    let settings = c.running_calls_leave_setting.ensures in
    let tests = c.running_calls_test_their_set.ensures in
    memory_plain
    (leave_no_trace traces.tick traces.full traces.partial settings.tick settings.full settings.partial c.services_leave_setting.ensures c.lines_keep_the_board.ensures.calls)
    (record {
      tests = each_call TestsItsSet tests.tick tests.full tests.partial;
      stays = c.attempts_on_sound_memory.ensures.stays;
      passes = c.attempts_on_sound_memory.ensures.passes;
    })
