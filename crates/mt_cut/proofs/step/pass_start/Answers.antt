use Rattle.std.proofs.Common.{ℕ, ◌≡◌, List, subst, ap, sym, arith, length}
use Rattle.std.specs.Prelude.{IfSome}
use Rattle.mt_blocks.specs.declared.config.Block.{Block}
use Rattle.mt_blocks.specs.Slices.{AreSpans, IsValid, pass, from_next}
use Rattle.mt_blocks.specs.Accepted.{spans_of}
use Rattle.mt_cut.specs.Holds.{pass_holds}
use Rattle.mt_cut.proofs.Greedy.{longest_runs-few}
use Rattle.mt_cut.proofs.Sets.{are_spans}
use Rattle.mt_cut.proofs.Places.{holds-start, length-holds}
use Rattle.mt_cut.proofs.step.pass_start.Goals as goal

pub returns-clause-valid : goal.returns-clause-valid
returns-clause-valid c =
    let set = c.args.set.now in
    let is = subst (λ (b : List Block). (K : ℕ) → AreSpans K (spans_of b) → IfSome c.first_place.result (IsValid K (spans_of b))) c.as_slice.ensures c.first_place.ensures.valid in
    is set.atomic (are_spans set c.requires)

pub returns-clause-all : goal.returns-clause-all
returns-clause-all c =
    let set = c.args.set.now in
    let is = subst (λ (b : List Block). (K : ℕ) → AreSpans K (spans_of b) → from_next K (spans_of b) c.first_place.result ≡ pass K (spans_of b)) c.as_slice.ensures c.first_place.ensures.all in
    holds-start set c.first_place.result (is set.atomic (are_spans set c.requires))

pub returns-clause-few : goal.returns-clause-few
returns-clause-few c =
    let set = c.args.set.now in
    let spans = subst (λ (b : List Block). AreSpans set.atomic (spans_of b)) (sym c.as_slice.ensures) (are_spans set c.requires) in
    let all = ap (λ (b : List Block). length (pass set.atomic (spans_of b))) c.as_slice.ensures in
    omega (arith, length-holds set, all, c.first_place.ensures.few set.atomic spans)

pub returns-clause-short : goal.returns-clause-short
returns-clause-short c = λ budget. omega (arith, longest_runs-few budget (pass_holds c.args.set.now), returns-clause-few c)
