use Rattle.std.proofs.Common.{◌≡◌, ◌+◌, ◌≤◌, length, drop, None}
use Rattle.mt_march.specs.Scan.{too_long}
use Rattle.mt_march.specs.Value.{march_of, parts}
use Rattle.mt_march.specs.Building.{element_count, finished}
use Rattle.mt_march.proofs.reading.build.Given as goal

abbrev pub invariant-loop-i : goal.invariant-loop-i
invariant-loop-i l = record {
  whole : finished l.builder (parts (drop l.i l.text)) ≡ march_of l.text;
  room : too_long (l.i + 1) (element_count l.builder) (length l.builder.ops.items) (drop l.i l.text) ≡ None;
  elements : element_count l.builder ≤ 16;
  ops : length l.builder.ops.items ≤ 8;
}
