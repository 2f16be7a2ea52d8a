use Rattle.std.proofs.Common.{◌≡◌, ◌+◌, ◌*◌, ◌≤◌, length, drop}
use Rattle.std.specs.Prelude.{IfSome, nat_lt}
use Rattle.std.specs.List.{position_or_len}
use Rattle.mt_blocks.specs.Slices.{IsValid}
use Rattle.mt_blocks.specs.Accepted.{spans_of}
use Rattle.mt_cut.specs.Holds.{pass_holds, holds_next}
use Rattle.mt_cut.proofs.run.first_above.Given as goal

abbrev pub invariant-loop-next : goal.invariant-loop-next
invariant-loop-next l = record {
  valid : IfSome l.next (IsValid l.set.atomic (spans_of l.set.blocks));
  rest : holds_next l.set l.next ≡ drop l.slice (pass_holds l.set);
  there : l.slice ≤ length (pass_holds l.set);
  ahead : position_or_len (λ hold. nat_lt l.budget hold) (pass_holds l.set) ≡ l.slice + position_or_len (λ hold. nat_lt l.budget hold) (holds_next l.set l.next);
  few : length (pass_holds l.set) ≤ 64 * 65536;
}

abbrev pub decreases-loop-next : goal.decreases-loop-next
decreases-loop-next l = length (holds_next l.set l.next)
