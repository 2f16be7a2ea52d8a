use Rattle.std.proofs.Common.{◌≡◌, ◌+◌, ℕ, length, arith, ap, sym, ◌∙◌}
use Rattle.std.specs.Prelude.{◌&&◌, nat_lt}
use Rattle.mt_plan.specs.declared.algorithm.Policy.{Policy}
use Rattle.mt_plan.specs.declared.algorithm.Policy.TheVariants.{NonDestructive}
use Rattle.mt_plan.specs.Plan.{steps_of}
use Rattle.mt_seq.specs.declared.course.Course.{Course}
use Rattle.mt_seq.specs.declared.sequence.Job.{Job}
use Rattle.mt_seq.specs.Attempts.{keeps_words}
use Rattle.mt_seq.specs.Stepping.{Stepping, IsCourse}
use Rattle.mt_seq.proofs.Moves.{kept_whole}
use Rattle.mt_seq.proofs.stepper.Stepper.can_back_out.Goals as goal

early : (job : Job) (c : Course) (made to : ℕ) → IsCourse job c → job.policy ≡ NonDestructive → made ≡ c.made → to ≡ c.ending_from
    → nat_lt made to ≡ (keeps_words job.policy && nat_lt c.made (c.slice.n + length (steps_of job.alg c.slice.n)))
early job c made to is keeps e f =
    let end : to ≡ c.slice.n + length (steps_of job.alg c.slice.n) = omega (arith, is.to, kept_whole job c is keeps) in
    ap (λ (k : ℕ). nat_lt k to) e ∙ ap (nat_lt c.made) end
    ∙ sym (ap (λ (p : Policy). keeps_words p && nat_lt c.made (c.slice.n + length (steps_of job.alg c.slice.n))) keeps)

pub returns-in-NonDestructive : goal.returns-in-NonDestructive
returns-in-NonDestructive c =
    early c.self.inside.job c.self.inside.course c.made.result c.tested_at.result c.self.invariant c.in-NonDestructive.is c.made.ensures c.tested_at.ensures
    ∙ ap (λ (s : Stepping). keeps_words s.job.policy && nat_lt s.made (s.slice.n + length (steps_of s.job.alg s.slice.n))) c.self.view_is
