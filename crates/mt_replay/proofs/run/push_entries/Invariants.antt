use Rattle.std.proofs.Common.{◌*◌, ◌≤◌, ◌≡◌, length, take}
use Rattle.mt_text.specs.Trace.{entries_text}
use Rattle.mt_replay.proofs.run.push_entries.Given as goal

abbrev pub invariant-loop-entry : goal.invariant-loop-entry
invariant-loop-entry l = record {
  text : l.page.items ≡ entries_text l.width l.number (take l.entry-index l.entries);
  short : length l.page.items ≤ 64 * l.entry-index;
}
