use Rattle.std.proofs.Common.{◌≡◌, take}
use Rattle.mt_plan.proofs.rows.copy_into.Given as goal

abbrev pub invariant-loop-op : goal.invariant-loop-op
invariant-loop-op l = record {
  order : l.element.order ≡ l.initial.element.order;
  ops : l.element.ops.items ≡ take l.op-index l.op-items;
}
