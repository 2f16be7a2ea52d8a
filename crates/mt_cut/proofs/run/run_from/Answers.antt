use Rattle.std.proofs.Common.{List, ℕ, ◌∷◌, ap, sym, ◌∙◌, arith}
use Rattle.mt_cut.specs.Holds.{holds_from, holds_next}
use Rattle.mt_cut.specs.Cuts.{longest, longest_runs}
use Rattle.mt_cut.proofs.Greedy.{longest_runs-next, longest-fits}
use Rattle.mt_cut.proofs.run.run_from.Goals as goal

pub returns-clause-cut : goal.returns-clause-cut
returns-clause-cut c =
    let run = c.longest_run.result in
    let all = holds_from c.args.set.now c.args.at in
    let first = c.longest_run.ensures.slices ∙ ap (longest c.args.budget) c.step_at.ensures.rest ∙ longest-fits c.args.budget c.step_at.result.hold (holds_next c.args.set.now c.step_at.result.next) c.if-step_at-budget.false in
    longest_runs-next c.args.budget run.slices all c.longest_run.ensures.slices (omega (arith, first)) ∙ ap (λ (l : List ℕ). run.slices ∷ longest_runs c.args.budget l) (sym c.longest_run.ensures.rest)
