use Rattle.std.proofs.Common.{◌≡◌, ◌+◌, ◌*◌, ◌≤◌, length}
use Rattle.std.specs.Prelude.{IfSome, All}
use Rattle.mt_blocks.specs.Slices.{IsValid}
use Rattle.mt_blocks.specs.Accepted.{spans_of}
use Rattle.mt_cut.specs.Holds.{pass_holds, holds_next}
use Rattle.mt_cut.specs.Cuts.{longest_runs}
use Rattle.mt_replay.specs.Cut.{count_text, ticks_text}
use Rattle.mt_replay.proofs.Ticks.{Partly, left_text}
use Rattle.mt_replay.proofs.cut.write_ticks.Given as goal

abbrev pub invariant-loop-next : goal.invariant-loop-next
invariant-loop-next g l = record {
  valid : IfSome l.next (IsValid l.set.atomic (spans_of l.set.blocks));
  low : All (λ hold. hold ≤ l.budget) (holds_next l.set l.next);
  same : l.ticks + length (longest_runs l.budget (holds_next l.set l.next)) ≡ length (longest_runs l.budget (pass_holds l.set));
  few : length (longest_runs l.budget (pass_holds l.set)) ≤ 64 * 65536;
  text : Partly (ticks_text (longest_runs l.budget (pass_holds l.set)) (pass_holds l.set))
      (left_text l.budget (l.ticks + 1) (holds_next l.set l.next) (count_text (length (longest_runs l.budget (pass_holds l.set)))))
      (g.K.Sink.held l.initial.sink) (g.K.Sink.held l.sink);
  faults : g.K.Sink.faults l.sink ≡ g.K.Sink.faults l.initial.sink;
}

abbrev pub decreases-loop-next : goal.decreases-loop-next
decreases-loop-next g l = length (longest_runs l.budget (holds_next l.set l.next))
