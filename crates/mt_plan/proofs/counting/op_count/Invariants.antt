use Rattle.std.proofs.Common.{◌≡◌, ◌≤◌, ◌*◌, length, take}
use Rattle.mt_march.specs.Accepted.{operations}
use Rattle.mt_plan.proofs.counting.op_count.Given as goal

abbrev pub invariant-loop-element : goal.invariant-loop-element
invariant-loop-element l = record {
  count : l.count ≡ length (operations (take l.element-index l.march.elements.items));
  few : l.count ≤ 8 * l.element-index;
}
