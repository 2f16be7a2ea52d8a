use Rattle.std.proofs.Common.{◌≡◌, ◌-◌, ◌+◌, ◌≤◌, length}
use Rattle.std.specs.Prelude.{filter}
use Rattle.std.specs.List.{range_with_len}
use Rattle.mt_unit.specs.Tables.{is_needed}
use Rattle.mt_unit.proofs.tables.lengths_below.Given as goal

abbrev pub invariant-loop-length : goal.invariant-loop-length
invariant-loop-length l = record {
  items : l.lengths.items ≡ filter (is_needed l.set) (range_with_len 1 (l.length - 1));
  from : 1 ≤ l.length;
  short : length l.lengths.items + 1 ≤ l.length;
}
