use Rattle.std.proofs.Common.{◌≡◌, ◌+◌, ◌*◌, ◌≤◌, Some, map, length}
use Rattle.mt_blocks.specs.declared.pass.Position.{Position}
use Rattle.mt_blocks.specs.Slices.{IsValid, from_next, pass}
use Rattle.mt_blocks.specs.Groups.{ticks}
use Rattle.mt_blocks.proofs.Cuts.{opened}
use Rattle.mt_blocks.proofs.pass.ticks_of.Given as goal

abbrev pub invariant-loop-next : goal.invariant-loop-next
invariant-loop-next g l = record {
  valid : (p : Position) → l.next ≡ Some p → IsValid l.atomic (map g.T.HasSpan.span_of l.blocks) p;
  same : l.ticks + opened l.cells l.left (from_next l.atomic (map g.T.HasSpan.span_of l.blocks) l.next) ≡ ticks l.cells (pass l.atomic (map g.T.HasSpan.span_of l.blocks));
  room : l.ticks + length (from_next l.atomic (map g.T.HasSpan.span_of l.blocks) l.next) ≤ 65536 * 64;
}

abbrev pub decreases-loop-next : goal.decreases-loop-next
decreases-loop-next g l = length (from_next l.atomic (map g.T.HasSpan.span_of l.blocks) l.next)
