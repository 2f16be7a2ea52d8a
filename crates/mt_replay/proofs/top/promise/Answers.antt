use Rattle.mt_replay.proofs.Promises.{InputLaws, are_served_in_time, leaves_no_trace, finds_faults, gives_evidence, no_false_alarm}
use Rattle.mt_replay.proofs.Taken.{ReadingLaws}
use Rattle.mt_replay.proofs.top.promise.Goals as goal

pub returns : goal.returns
returns c =
    let reading : ReadingLaws = record { spelled = c.reading_is_spelling.ensures.ok; accepted = c.spelled_lines_are_accepted.ensures } in
    let input : InputLaws = record {
      taken = c.accepted_is_taken.ensures;
      reading = reading;
      lines = c.scripts_are_accepted.ensures.accepted;
      config = c.job_config_is_accepted.ensures;
    } in
    record {
      latency = are_served_in_time c.requests_are_served_in_time.ensures reading c.scripts_are_accepted.ensures.accepted;
      transparent = leaves_no_trace c.tests_leave_no_trace.ensures c.memory_is_plain.ensures input;
      calm = no_false_alarm c.no_false_alarm_of_ram.ensures c.no_false_alarm_of_fls.ensures input;
      detects = finds_faults c.passes_find_faults.ensures input;
      evidence = gives_evidence c.ok_is_evidence.ensures input;
    }
