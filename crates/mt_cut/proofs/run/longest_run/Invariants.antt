use Rattle.std.proofs.Common.{◌≡◌, ◌+◌, ◌-◌, ◌≤◌, take, drop}
use Rattle.std.specs.Prelude.{IfSome, sum}
use Rattle.mt_blocks.specs.Slices.{IsValid}
use Rattle.mt_blocks.specs.Accepted.{spans_of}
use Rattle.mt_cut.specs.Holds.{holds_from, holds_next}
use Rattle.mt_cut.specs.Cuts.{longest}
use Rattle.mt_cut.proofs.run.longest_run.Given as goal

abbrev pub invariant-loop-run : goal.invariant-loop-run
invariant-loop-run l = record {
  valid : IfSome l.run.next (IsValid l.set.atomic (spans_of l.set.blocks));
  rest : holds_next l.set l.run.next ≡ drop l.run.slices (holds_from l.set l.fn.at);
  accesses : l.run.accesses ≡ sum (take l.run.slices (holds_from l.set l.fn.at));
  longest : longest l.budget (holds_from l.set l.fn.at) ≡ l.run.slices + longest (l.budget - l.run.accesses) (holds_next l.set l.run.next);
  within : l.run.accesses ≤ l.budget;
  room : l.run.slices ≤ l.run.accesses;
}

abbrev pub decreases-loop-run : goal.decreases-loop-run
decreases-loop-run l = l.budget - l.run.accesses
