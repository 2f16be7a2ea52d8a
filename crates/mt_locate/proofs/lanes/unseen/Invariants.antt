use Rattle.std.proofs.Common.{◌≡◌, ◌<◌, ℕ, ◌||◌, drop}
use Rattle.mt_word.specs.Word.{has_bit}
use Rattle.mt_decoder.specs.BitModel.{caught, project}
use Rattle.mt_locate.specs.Lanes.{begun, rule_of, side_at, value_at, agg_at, vic_at}
use Rattle.mt_locate.proofs.lanes.unseen.Given as goal

abbrev pub invariant-loop-step : goal.invariant-loop-step
invariant-loop-step l = (k : ℕ) → k < 64
    → caught (rule_of l.means (side_at k) (value_at k)) (agg_at k).back (vic_at k).back (agg_at k).first (begun l.means (side_at k) (value_at k) (agg_at k).first (vic_at k).first) (project l.agg l.vic l.steps)
    ≡ (has_bit l.lanes.wrong k || caught (rule_of l.means (side_at k) (value_at k)) (agg_at k).back (vic_at k).back (has_bit l.lanes.agg k) (has_bit l.lanes.vic k) (project l.agg l.vic (drop l.step-index l.steps)))
