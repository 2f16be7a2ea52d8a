-- What is said of lanes between calls.
use Rattle.std.specs.Prelude.{ℕ, ◌≡◌, ◌<◌, ◌*◌, ◌/◌, ◌%◌, ◌||◌, List, ◌∷◌, length, get_or}
use Rattle.mt_word.specs.Word.{has_bit}
use Rattle.mt_plan.specs.declared.algorithm.Act.{Act}
use Rattle.mt_plan.specs.declared.algorithm.Step.{Step}
use Rattle.mt_plan.specs.Lists.{step}
use Rattle.mt_plan.specs.Plan.{steps_of}
use Rattle.mt_decoder.specs.BitModel.{agg_after, vic_after, caught, misses, project}
use Rattle.mt_locate.specs.declared.probe.Probe.{Probe}
use Rattle.mt_locate.specs.declared.lanes.Means.{Means}
use Rattle.mt_locate.specs.declared.lanes.Means.TheVariants.{Invert, Force, State}
use Rattle.mt_locate.specs.declared.lanes.Lanes.{Lanes}
use Rattle.mt_locate.specs.declared.unseen.Unseen.{Unseen}
use Rattle.mt_locate.specs.Lanes.{rule_of, side_at, value_at, agg_at, vic_at, goes_unseen}

-- Each lane goes by the rule of its class, where an act is done on cell 0 or 1.
pub record GoesByRule (means : Means) (cell : ℕ) (act : Act) (old new : Lanes) : Type 0 where
  pub agg : (l : ℕ) → l < 64
      → has_bit new.agg l ≡ agg_after (rule_of means (side_at l) (value_at l)) (agg_at l).back (vic_at l).back (has_bit old.agg l) (step cell act)
  pub vic : (l : ℕ) → l < 64
      → has_bit new.vic l ≡ vic_after (rule_of means (side_at l) (value_at l)) (agg_at l).back (vic_at l).back (has_bit old.agg l) (has_bit old.vic l) (step cell act)
  pub wrong : (l : ℕ) → l < 64
      → has_bit new.wrong l
      ≡ (has_bit old.wrong l || misses (rule_of means (side_at l) (value_at l)) (agg_at l).back (vic_at l).back (has_bit old.agg l) (has_bit old.vic l) (step cell act))

-- In each lane, what was seen or is still to be seen is the same before and after a step, whatever steps follow.
abbrev pub GoesOn : Means → (agg vic : ℕ) → Step → (old new : Lanes) → Type 0
GoesOn means agg vic t old new =
    (l : ℕ) → l < 64 → (more : List Step)
    → (has_bit old.wrong l || caught (rule_of means (side_at l) (value_at l)) (agg_at l).back (vic_at l).back (has_bit old.agg l) (has_bit old.vic l) (project agg vic (t ∷ more)))
    ≡ (has_bit new.wrong l || caught (rule_of means (side_at l) (value_at l)) (agg_at l).back (vic_at l).back (has_bit new.agg l) (has_bit new.vic l) (project agg vic more))

-- A word has in each lane whether the class goes unseen, with the aggressor in one cell and the victim in another.
abbrev pub IsRowOf : Probe → Means → (agg vic row : ℕ) → Type 0
IsRowOf probe means agg vic row =
    (l : ℕ) → l < 64 → has_bit row l ≡ goes_unseen means (side_at l) (value_at l) (agg_at l) (vic_at l) (project agg vic (steps_of probe.alg probe.n))

-- the rows of all pairs of cells, aggressor after aggressor
pub record IsTable (probe : Probe) (means : Means) (rows : List ℕ) : Type 0 where
  pub size : length rows ≡ probe.n * probe.n
  pub row : (k : ℕ) → k < probe.n * probe.n → IsRowOf probe means (k / probe.n) (k % probe.n) (get_or rows k 0)

-- the tables of the three kinds
pub record AreTables (probe : Probe) (unseen : Unseen) : Type 0 where
  pub invert : IsTable probe Invert unseen.invert.items
  pub force : IsTable probe Force unseen.force.items
  pub state : IsTable probe State unseen.state.items

-- the rows of a kind
abbrev pub rows_of : Unseen → Means → List ℕ
rows_of unseen Invert = unseen.invert.items
rows_of unseen Force = unseen.force.items
rows_of unseen State = unseen.state.items
