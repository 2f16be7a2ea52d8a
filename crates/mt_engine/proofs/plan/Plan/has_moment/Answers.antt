use Rattle.std.proofs.Common.{arith, take, sym, ◌∙◌}
use Rattle.mt_engine.specs.Testing.{saved_count}
use Rattle.mt_engine.proofs.Breaking.{saved_long, unbroken}
use Rattle.mt_engine.proofs.plan.Plan.has_moment.Goals as goal

pub returns-else-not-at-clause-yes : goal.returns-else-not-at-clause-yes
returns-else-not-at-clause-yes c = λ yes.
    let plan = c.args.self.now in
    record {
      job = c.requires.plan.job;
      slice = c.requires.plan.slice;
      made = omega (arith, c.if-at-accesses.false, c.accesses.ensures);
      fit = rw c.saved_count.ensures.count at (c.all_fit.ensures.yes c.if-not-all_fit.false);
      saved = saved_long plan.job.policy plan.slice.n c.args.at.made c.args.places.now (omega (arith, c.requires.plan.slice.small, c.requires.places));
      broken = λ b. sym (c.may_stand_broken.ensures (take (saved_count plan.job.policy plan.slice.n c.args.at.made) c.args.places.now) c.args.at.differs) ∙ yes;
    }

pub returns-else-not-at-clause-no : goal.returns-else-not-at-clause-no
returns-else-not-at-clause-no c = λ is.
    c.may_stand_broken.ensures (take (saved_count c.args.self.now.job.policy c.args.self.now.slice.n c.args.at.made) c.args.places.now) c.args.at.differs ∙ is.broken (unbroken c.args.at.broken c.if-not-at.false)
