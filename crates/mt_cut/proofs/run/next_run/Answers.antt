use Rattle.std.proofs.Common.{subst, sym}
use Rattle.mt_cut.specs.Holds.{holds_from}
use Rattle.mt_cut.specs.Cuts.{IsLongest}
use Rattle.mt_cut.proofs.Greedy.{longest-is}
use Rattle.mt_cut.proofs.run.next_run.Goals as goal

pub returns-in-Some-clause-longest : goal.returns-in-Some-clause-longest
returns-in-Some-clause-longest c =
    let all = holds_from c.args.set.now c.args.at in
    subst (IsLongest c.args.budget all) (sym c.in-Some.ensures.run.slices) (longest-is c.args.budget all)
