use Rattle.std.proofs.Common.{◌≡◌, ◌≤◌, ◌+◌, true, false, Bool, List, ℕ, length}
use Rattle.mt_text.specs.declared.request.Mark.{Mark}
use Rattle.mt_text.specs.Cursors.{left}
use Rattle.mt_text.specs.Lines.{Open}
use Rattle.mt_text.specs.Reader.{behind_op, rest_from}
use Rattle.mt_text.specs.declared.line.Event.{Event}
use Rattle.mt_port.specs.declared.request.Request.{Request}
use Rattle.mt_text.proofs.request.handler.Given as goal

abbrev pub to_do : Bool → ℕ → ℕ
to_do true n = n
to_do false n = n + 1

abbrev pub invariant-loop-ended : goal.invariant-loop-ended
invariant-loop-ended l = record {
  same : (ev : Event) (rs : List Request) (n : Mark) → rest_from l.shape l.fn.cursor (Open l.callee ev rs n) ≡ rest_from l.shape l.cursor (behind_op l.ended l.callee ev rs n l.ops.items);
  shorter : length (left l.cursor) ≤ length (left l.fn.cursor);
  few : length l.ops.items ≤ 8;
}

abbrev pub decreases-loop-ended : goal.decreases-loop-ended
decreases-loop-ended l = to_do l.ended (length (left l.cursor))
