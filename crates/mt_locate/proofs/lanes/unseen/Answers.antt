use Rattle.std.proofs.Common.{◌≡◌, ◌+◌, ◌≤◌, ℕ, Bool, true, false, not, ◌||◌, List, drop, length, refl, ap, sym, ◌∙◌, arith}
use Rattle.std.proofs.lemmas.List.{drop_more, drop_all}
use Rattle.mt_word.specs.Word.{has_bit}
use Rattle.mt_plan.specs.declared.algorithm.Act.TheVariants.{ReadPlain}
use Rattle.mt_plan.specs.declared.algorithm.Step.{Step}
use Rattle.mt_decoder.specs.BitModel.{caught, project}
use Rattle.mt_locate.specs.declared.lanes.Lanes.{Lanes}
use Rattle.mt_locate.specs.declared.lanes.Means.{Means}
use Rattle.mt_locate.specs.Lanes.{rule_of, side_at, value_at, agg_at, vic_at}
use Rattle.mt_locate.proofs.LaneBits.{no_bit, all_bits, has_flipped}
use Rattle.mt_locate.proofs.lanes.unseen.Goals as goal

abbrev none : Step
none = record { cell = 0; act = ReadPlain }

or_none : (b : Bool) → (b || false) ≡ b
or_none true = refl
or_none false = refl

-- what a lane has shown, or is still to show in some steps
abbrev Shows : Means → (agg vic : ℕ) → Lanes → List Step → ℕ → Bool
Shows means agg vic lanes steps k =
    has_bit lanes.wrong k || caught (rule_of means (side_at k) (value_at k)) (agg_at k).back (vic_at k).back (has_bit lanes.agg k) (has_bit lanes.vic k) (project agg vic steps)

pub loop-step-init : goal.loop-step-init
loop-step-init c = λ k h.
    ap (λ (v : Bool). caught (rule_of c.args.means (side_at k) (value_at k)) (agg_at k).back (vic_at k).back (agg_at k).first v (project c.args.agg c.args.vic c.args.steps.now)) (sym (c.first_victims.ensures k h))
    ∙ ap (λ (b : Bool). b || caught (rule_of c.args.means (side_at k) (value_at k)) (agg_at k).back (vic_at k).back (agg_at k).first (has_bit c.first_victims.result k) (project c.args.agg c.args.vic c.args.steps.now)) (sym (no_bit k))

pub loop-step-preserved : goal.loop-step-preserved
loop-step-preserved c = λ k h.
    let steps : List Step = c.args.steps.now in
    let i : ℕ = c.loop-step.step-index in
    c.loop-step.invariant k h
    ∙ ap (λ (xs : List Step). Shows c.args.means c.args.agg c.args.vic c.loop-step.lanes xs k) (drop_more steps i none c.loop-step-test.true)
    ∙ c.stepped-lanes.ensures k h (drop (i + 1) steps)

pub returns-then-lanes : goal.returns-then-lanes
returns-then-lanes c = λ l h.
    let steps : List Step = c.args.steps.now in
    let i : ℕ = c.loop-step.step-index in
    let more : List Step = drop (i + 1) steps in
    let new : Lanes = c.stepped-lanes.result in
    let seen = c.loop-step.invariant l h
    ∙ ap (λ (xs : List Step). Shows c.args.means c.args.agg c.args.vic c.loop-step.lanes xs l) (drop_more steps i none c.loop-step-test.true)
    ∙ c.stepped-lanes.ensures l h more
    ∙ ap (λ (w : ℕ). Shows c.args.means c.args.agg c.args.vic (record new { wrong = w }) more l) c.if-lanes.true
    ∙ ap (λ (b : Bool). b || caught (rule_of c.args.means (side_at l) (value_at l)) (agg_at l).back (vic_at l).back (has_bit new.agg l) (has_bit new.vic l) (project c.args.agg c.args.vic more)) (all_bits l h) in
    no_bit l ∙ sym (ap not seen)

pub returns : goal.returns
returns c = λ l h.
    let steps : List Step = c.args.steps.now in
    let i : ℕ = c.loop-step.step-index in
    let all : length steps ≤ i = omega arith in
    let lanes : Lanes = c.loop-step.lanes in
    let end = c.loop-step.invariant l h
    ∙ ap (λ (xs : List Step). Shows c.args.means c.args.agg c.args.vic lanes xs l) (drop_all i steps all)
    ∙ or_none (has_bit lanes.wrong l) in
    has_flipped lanes.wrong l h ∙ sym (ap not end)
