use Rattle.std.proofs.Common.{◌≡◌, ◌≤◌, ◌+◌, ◌-◌, ◌*◌, ◌^◌, fold, take}
use Rattle.mt_gen.specs.Summary.{with_entry}
use Rattle.mt_gen.proofs.summary.Summary.add_all.Given as goal

abbrev pub invariant-loop-entry : goal.invariant-loop-entry
invariant-loop-entry l = record {
  sums : l.self ≡ fold with_entry l.initial.self (take l.entry-index l.entries);
  ran : l.self.ran ≤ l.initial.self.ran + l.entry-index * (2 ^ 32 - 1);
  served : l.self.served ≤ l.initial.self.served + l.entry-index;
}
