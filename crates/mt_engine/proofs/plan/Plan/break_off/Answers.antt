use Rattle.std.proofs.Common.{ℕ, ◌≡◌, [], length, arith, take, subst}
use Rattle.std.specs.Prelude.{All, nat_le, ◌+◌}
use Rattle.std.proofs.lemmas.Bool.{le-leb}
use Rattle.mt_word.specs.Word.{Fits}
use Rattle.mt_plan.specs.Plan.{steps_of}
use Rattle.mt_engine.specs.Testing.{testing, saved_count}
use Rattle.mt_engine.proofs.Breaking.{count_stays, may_keeps, placed, placed_early}
use Rattle.mt_engine.proofs.plan.Plan.break_off.Goals as goal

pub returns-then-from-at-clause-test : goal.returns-then-from-at-clause-test
returns-then-from-at-clause-test c = λ places is.
    let plan = c.args.self.now in
    let n = plan.slice.n in
    let keeps = may_keeps (testing plan c.args.at []) c.requires.may in
    let same : saved_count plan.job.policy n c.args.at.made ≡ saved_count plan.job.policy n c.ending_from.result =
    count_stays plan.job.policy n c.args.at.made c.ending_from.result (omega (arith, c.from.ensures, c.if-from-at.true)) (omega (arith, c.ending_from.ensures.place)) in
    record {
      job = is.job;
      slice = is.slice;
      made = omega (arith, c.ending_from.ensures.hold keeps);
      fit = subst (λ (k : ℕ). All (Fits plan.width) (take k places)) same is.fit;
      saved = subst (λ (k : ℕ). length (take k places) ≡ k) same is.saved;
      broken = λ b. placed plan.job.policy c.ending_from.result n (n + length (steps_of plan.job.alg n)) (nat_le c.ending_from.result n) keeps
          (le-leb _ _ (omega (arith, c.ending_from.ensures.place)));
    }

pub returns-else-from-at-clause-test : goal.returns-else-from-at-clause-test
returns-else-from-at-clause-test c = λ places is.
    let plan = c.args.self.now in
    record {
      job = is.job;
      slice = is.slice;
      made = is.made;
      fit = is.fit;
      saved = is.saved;
      broken = λ b. placed_early plan.job.policy c.args.at.made plan.slice.n _ (may_keeps (testing plan c.args.at []) c.requires.may) (omega (arith, c.from.ensures, c.if-from-at.false));
    }
