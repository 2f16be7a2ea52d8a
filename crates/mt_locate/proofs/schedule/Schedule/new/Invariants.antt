use Rattle.std.proofs.Common.{◌≡◌, length, take}
use Rattle.mt_plan.specs.Cursor.{IsCursor, cells_of, made_by}
use Rattle.mt_plan.specs.Plan.{steps_of}
use Rattle.mt_locate.proofs.schedule.Schedule.new.Given as goal

abbrev pub invariant-loop-index : goal.invariant-loop-index
invariant-loop-index l = record {
  cursor : IsCursor l.probe.alg l.cursor;
  cells : cells_of l.cursor ≡ l.probe.n;
  made : made_by l.cursor ≡ l.index;
  size : length l.places ≡ 4160;
  kept : take l.index l.places ≡ take l.index (steps_of l.probe.alg l.probe.n);
}
