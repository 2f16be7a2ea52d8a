-- Coupling faults that nothing shows, by classes of bits.
use Rattle.std.specs.Prelude.{ℕ, ◌≡◌, ◌+◌, ◌-◌, ◌*◌, if◌then◌else◌, Bool, not, List, []}
use Rattle.mt_word.specs.Word.{has_bit, bit_number}
use Rattle.mt_fault.specs.declared.fault.Fault.{Fault}
use Rattle.mt_fault.specs.declared.fault.Fault.TheVariants as fault
use Rattle.mt_fault.specs.Faulty.{same}
use Rattle.mt_plan.specs.declared.algorithm.Step.{Step}
use Rattle.mt_plan.specs.Plan.{steps_of}
use Rattle.mt_decoder.specs.BitModel.{Rule, inverts, forces, holds, caught, project}
use Rattle.mt_locate.specs.declared.probe.Probe.{Probe}
use Rattle.mt_locate.specs.declared.lanes.Means.{Means}
use Rattle.mt_locate.specs.declared.lanes.Means.TheVariants.{Invert, Force, State}
use Rattle.mt_locate.specs.declared.lanes.TheConstants.{SIDE, VALUE, AGG_BACK, AGG_FIRST, VIC_BACK, VIC_FIRST}
use Rattle.mt_locate.specs.declared.disturbance.Disturbance.{Disturbance}
use Rattle.mt_locate.specs.Probes.{IsAcceptedProbe}
use Rattle.mt_locate.specs.Moved.{IsFaultOfSlice}
use Rattle.mt_locate.specs.Listed.{explains}

-- ---- what decides whether a coupling fault is seen

-- how a probe treats a bit of each word: its bit of the background word, and what it holds before the algorithm
pub record Treated : Type 0 where
  pub back : Bool
  pub first : Bool

abbrev pub treated : Probe → (bit : ℕ) → Treated
treated probe bit = record { back = has_bit probe.background bit; first = has_bit probe.initial bit }

-- the coupling fault
abbrev pub fault_by : Disturbance → Means → Fault
fault_by d Invert = fault.Invert d.agg d.side d.vic
fault_by d Force = fault.Force d.agg d.side d.vic d.value
fault_by d State = fault.State d.agg d.side d.vic d.value

abbrev pub fault_of : Disturbance → Fault
fault_of d = fault_by d d.means

-- its rule
abbrev pub rule_of : Means → (side value : Bool) → Rule
rule_of Invert side value = inverts side
rule_of Force side value = forces side value
rule_of State side value = holds side value

-- the victim's bit where the fault has come: an aggressor that holds disturbs at once
abbrev pub begun : Means → (side value agg vic : Bool) → Bool
begun Invert side value agg vic = vic
begun Force side value agg vic = vic
begun State side value agg vic = if same agg side then value else vic

-- whether no read shows another bit than it expects; steps on cell 0 are those of the aggressor's word, and on cell 1 of the victim's
abbrev pub goes_unseen : Means → (side value : Bool) → (agg vic : Treated) → List Step → Bool
goes_unseen means side value agg vic steps =
    not (caught (rule_of means side value) agg.back vic.back agg.first (begun means side value agg.first vic.first) steps)

-- whether a coupling fault goes unseen where the algorithm runs
abbrev pub stays_unseen : Probe → Disturbance → Bool
stays_unseen probe d =
    goes_unseen d.means d.side d.value (treated probe d.agg.bit) (treated probe d.vic.bit) (project (d.agg.word - probe.first) (d.vic.word - probe.first) (steps_of probe.alg probe.n))

-- A coupling fault explains that nothing was missed exactly where it goes unseen. So the place of its bits in their words does not matter,
-- but how the probe treats them.
abbrev pub BitsDecide : Type 0
BitsDecide =
    (probe : Probe) (d : Disturbance) → IsAcceptedProbe probe → IsFaultOfSlice probe.width probe.first probe.n (fault_of d)
    → explains probe [] (fault_of d) ≡ stays_unseen probe d

-- ---- lanes

-- the class of faults that a bit of a word stands for
abbrev pub side_at : ℕ → Bool
side_at l = has_bit SIDE l

abbrev pub value_at : ℕ → Bool
value_at l = has_bit VALUE l

abbrev pub agg_at : ℕ → Treated
agg_at l = record { back = has_bit AGG_BACK l; first = has_bit AGG_FIRST l }

abbrev pub vic_at : ℕ → Treated
vic_at l = record { back = has_bit VIC_BACK l; first = has_bit VIC_FIRST l }

-- the bit that stands for a class
abbrev pub lane : (side value : Bool) → (agg vic : Treated) → ℕ
lane side value agg vic =
    32 * bit_number side + 16 * bit_number value + 8 * bit_number agg.back + 4 * bit_number agg.first + 2 * bit_number vic.back + bit_number vic.first
