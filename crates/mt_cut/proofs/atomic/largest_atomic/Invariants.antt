use Rattle.std.proofs.Common.{◌≡◌}
use Rattle.mt_cut.specs.Atomic.{largest, largest_up_to}
use Rattle.mt_cut.proofs.atomic.largest_atomic.Given as goal

abbrev pub invariant-loop-words : goal.invariant-loop-words
invariant-loop-words l = largest l.set l.wait ≡ largest_up_to l.words l.set l.wait
