use Rattle.std.proofs.Common.{ℕ, ◌≡◌, ◌+◌, ◌-◌, ◌≤◌, ◌⊎◌, length, max, ap, sym, arith, inl, inr, ◌∙◌}
use Rattle.std.proofs.lemmas.Bool.{cases_lt}
use Rattle.mt_plan.specs.Plan.{steps_of}
use Rattle.mt_seq.proofs.Moments.{moment_none, moment_some, moment_late}
use Rattle.mt_seq.proofs.attempt.first_moment.Goals as goal

pub returns-in-None : goal.returns-in-None
returns-in-None c = sym (moment_none c.args.count (c.args.n + length (steps_of c.args.alg.now c.args.n)) c.args.offset c.in-None.is)

least : (count offset gap moment : ℕ) → gap ≡ offset - count → moment ≡ max gap 1 → (count + moment ≤ offset) ⊎ (moment ≤ 1)
least count offset gap moment e m =
    elim (cases_lt 1 gap) [ inl far ↦ inl (omega arith) | inr near ↦ inr (omega arith) ]

pub returns-then-moment-end : goal.returns-then-moment-end
returns-then-moment-end c =
    let end : c.from.result + c.steps.result ≡ c.args.n + length (steps_of c.args.alg.now c.args.n) =
    ap (λ (k : ℕ). c.from.result + k) (c.steps.ensures.length ∙ ap (λ (k : ℕ). length (steps_of c.args.alg.now k)) c.from-2.ensures) ∙ ap (λ (k : ℕ). k + length (steps_of c.args.alg.now c.args.n)) c.from.ensures in
    sym (moment_some c.args.count c.in-Some.offset (c.args.n + length (steps_of c.args.alg.now c.args.n)) c.max-moment.result c.args.offset c.in-Some.is (omega (arith, c.max-moment.ensures)) (omega (arith, end, c.if-moment-end.true)) (omega (arith, c.max-moment.ensures, c.saturating_sub.ensures)) (least c.args.count c.in-Some.offset c.saturating_sub.result c.max-moment.result c.saturating_sub.ensures c.max-moment.ensures))

pub returns-else-moment-end : goal.returns-else-moment-end
returns-else-moment-end c =
    let end : c.from.result + c.steps.result ≡ c.args.n + length (steps_of c.args.alg.now c.args.n) =
    ap (λ (k : ℕ). c.from.result + k) (c.steps.ensures.length ∙ ap (λ (k : ℕ). length (steps_of c.args.alg.now k)) c.from-2.ensures) ∙ ap (λ (k : ℕ). k + length (steps_of c.args.alg.now c.args.n)) c.from.ensures in
    sym (moment_late c.args.count c.in-Some.offset (c.args.n + length (steps_of c.args.alg.now c.args.n)) c.max-moment.result c.args.offset c.in-Some.is (omega (arith, c.max-moment.ensures)) (omega (arith, end, c.if-moment-end.false)) (omega (arith, c.requires.some)) (least c.args.count c.in-Some.offset c.saturating_sub.result c.max-moment.result c.saturating_sub.ensures c.max-moment.ensures))
