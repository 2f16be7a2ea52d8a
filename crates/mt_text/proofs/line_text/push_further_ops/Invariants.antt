use Rattle.std.proofs.Common.{◌≡◌, ◌≤◌, ◌+◌, ◌*◌, ◌++◌, drop, length}
use Rattle.mt_text.specs.Canonical.{text_of, further_ops}
use Rattle.mt_text.proofs.line_text.push_further_ops.Given as goal

abbrev pub invariant-loop-op : goal.invariant-loop-op
invariant-loop-op l = record {
  text : l.out.items ++ text_of (further_ops l.width (drop l.op-index l.ops)) ≡ l.initial.out.items ++ text_of (further_ops l.width l.ops);
  short : length l.out.items ≤ length l.initial.out.items + 43 * l.op-index;
}
