use Rattle.std.proofs.Common.{◌≡◌, ◌+◌, ◌*◌, ◌≤◌, length}
use Rattle.std.specs.Prelude.{IfSome, All}
use Rattle.mt_blocks.specs.Slices.{IsValid}
use Rattle.mt_blocks.specs.Accepted.{spans_of}
use Rattle.mt_cut.specs.Holds.{pass_holds, holds_next}
use Rattle.mt_cut.specs.Cuts.{Exceeds, longest_runs}
use Rattle.mt_cut.proofs.run.least_ticks.Given as goal

abbrev pub invariant-loop-next : goal.invariant-loop-next
invariant-loop-next l = record {
  valid : IfSome l.next (IsValid l.set.atomic (spans_of l.set.blocks));
  same : l.ticks + length (longest_runs l.budget (holds_next l.set l.next)) ≡ length (longest_runs l.budget (pass_holds l.set));
  few : length (longest_runs l.budget (pass_holds l.set)) ≤ 64 * 65536;
  low : All (λ hold. hold ≤ l.budget) (holds_next l.set l.next) → All (λ hold. hold ≤ l.budget) (pass_holds l.set);
  high : Exceeds l.budget (holds_next l.set l.next) → Exceeds l.budget (pass_holds l.set);
}

abbrev pub decreases-loop-next : goal.decreases-loop-next
decreases-loop-next l = length (holds_next l.set l.next)
