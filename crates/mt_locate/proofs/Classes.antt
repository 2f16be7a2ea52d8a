-- The lanes of classes, and the rows of pairs of cells.
use Rattle.std.proofs.Common.{mul-le-mul_right, ℕ, ◌≡◌, ◌+◌, ◌-◌, ◌*◌, ◌/◌, ◌%◌, ◌<◌, ◌≤◌, suc, Bool, true, false, ◌&&◌, List, get_or, refl, ap, ◌∙◌, arith}
use Rattle.std.proofs.lemmas.Nat.{div-mul-add}
use Rattle.mt_word.specs.Word.{has_bit, bit_number}
use Rattle.mt_fault.specs.Faulty.{same}
use Rattle.mt_plan.specs.declared.algorithm.Step.{Step}
use Rattle.mt_plan.specs.Plan.{steps_of}
use Rattle.mt_decoder.specs.BitModel.{project}
use Rattle.mt_locate.specs.declared.probe.Probe.{Probe}
use Rattle.mt_locate.specs.declared.lanes.Means.{Means}
use Rattle.mt_locate.specs.declared.lanes.Means.TheVariants.{Invert, Force, State}
use Rattle.mt_locate.specs.declared.unseen.Unseen.{Unseen}
use Rattle.mt_locate.specs.declared.disturbance.Disturbance.{Disturbance}
use Rattle.mt_locate.specs.Lanes.{Treated, treated, lane, side_at, value_at, agg_at, vic_at, goes_unseen, stays_unseen}
use Rattle.mt_locate.specs.Inner.Lanes.{IsTable, AreTables, rows_of}
use Rattle.mt_locate.proofs.Rows.{rest_of}
use Rattle.mt_locate.proofs.Tested.{and_true}
use Rattle.mt_locate.proofs.Unmissed.{Spots, below}

-- ---- the lane of a class

abbrev every : (Bool → Bool) → Bool
every p = p true && p false

each : (p : Bool → Bool) → every p ≡ true → (b : Bool) → p b ≡ true
each p e true = (and_true (p true) (p false) e).0
each p e false = (and_true (p true) (p false) e).1

same_is : (a b : Bool) → same a b ≡ true → a ≡ b
same_is true true e = refl
same_is true false e = absurd (cc)
same_is false true e = absurd (cc)
same_is false false e = refl

abbrev bits : (back first : Bool) → Treated
bits back first = record { back = back; first = first }

-- whether a lane stands for its class
abbrev stands : (side value agg_back agg_first vic_back vic_first : Bool) → Bool
stands side value agg_back agg_first vic_back vic_first =
    let l : ℕ = lane side value (bits agg_back agg_first) (bits vic_back vic_first) in
    same (side_at l) side && (same (value_at l) value && (same (agg_at l).back agg_back && (same (agg_at l).first agg_first && (same (vic_at l).back vic_back && same (vic_at l).first vic_first))))

all_stand : every (λ a. every (λ b. every (λ c. every (λ d. every (λ e. every (λ f. stands a b c d e f)))))) ≡ true
unfolding has_bit
all_stand = refl

stand : (a b c d e f : Bool) → stands a b c d e f ≡ true
stand a b c d e f =
    each (λ z. stands a b c d e z)
    (each (λ y. every (λ z. stands a b c d y z))
    (each (λ x. every (λ y. every (λ z. stands a b c x y z)))
    (each (λ w. every (λ x. every (λ y. every (λ z. stands a b w x y z))))
    (each (λ v. every (λ w. every (λ x. every (λ y. every (λ z. stands a v w x y z)))))
    (each (λ u. every (λ v. every (λ w. every (λ x. every (λ y. every (λ z. stands u v w x y z)))))) all_stand a) b) c) d) e) f

number_small : (b : Bool) → bit_number b ≤ 1
number_small true = omega arith
number_small false = omega arith

pub lane_small : (side value : Bool) (agg vic : Treated) → lane side value agg vic < 64
lane_small side value agg vic =
    omega (arith, number_small side, number_small value, number_small agg.back, number_small agg.first, number_small vic.back, number_small vic.first)

-- a row has at a class's lane what it has of the class
of_class : (means : Means) (side value : Bool) (agg vic : Treated) (steps : List Step) → let l : ℕ = lane side value agg vic in
    goes_unseen means (side_at l) (value_at l) (agg_at l) (vic_at l) steps ≡ goes_unseen means side value agg vic steps
of_class means side value agg vic steps =
    let l : ℕ = lane side value agg vic in
    let one = and_true _ _ (stand side value agg.back agg.first vic.back vic.first) in
    let two = and_true _ _ one.1 in
    let three = and_true _ _ two.1 in
    let four = and_true _ _ three.1 in
    let five = and_true _ _ four.1 in
    ap (λ (b : Bool). goes_unseen means b (value_at l) (agg_at l) (vic_at l) steps) (same_is _ _ one.0)
    ∙ ap (λ (b : Bool). goes_unseen means side b (agg_at l) (vic_at l) steps) (same_is _ _ two.0)
    ∙ ap (λ (b : Bool). goes_unseen means side value (bits b ((agg_at l).first)) (vic_at l) steps) (same_is _ _ three.0)
    ∙ ap (λ (b : Bool). goes_unseen means side value (bits agg.back b) (vic_at l) steps) (same_is _ _ four.0)
    ∙ ap (λ (b : Bool). goes_unseen means side value agg (bits b ((vic_at l).first)) steps) (same_is _ _ five.0)
    ∙ ap (λ (b : Bool). goes_unseen means side value agg (bits vic.back b) steps) (same_is _ _ five.1)

-- ---- the row of a pair of cells

pub is_table : (probe : Probe) (unseen : Unseen) (means : Means) → AreTables probe unseen → IsTable probe means (rows_of unseen means)
is_table probe unseen Invert t = t.invert
is_table probe unseen Force t = t.force
is_table probe unseen State t = t.state

pub pair_below : (n a b : ℕ) → a < n → b < n → a * n + b < n * n
pair_below n a b p q = let rows : suc a * n ≤ n * n = mul-le-mul_right n p in omega (arith, rows, q)

pub found : (probe : Probe) (d : Disturbance) (rows : List ℕ) → IsTable probe d.means rows → Spots probe d
    → has_bit (get_or rows ((d.agg.word - probe.first) * probe.n + (d.vic.word - probe.first)) 0) (lane d.side d.value (treated probe d.agg.bit) (treated probe d.vic.bit)) ≡ stays_unseen probe d
found probe d rows table s =
    let a : ℕ = d.agg.word - probe.first in
    let v : ℕ = d.vic.word - probe.first in
    let a_in : a < probe.n = below probe.first probe.n d.agg.word s.agg in
    let v_in : v < probe.n = below probe.first probe.n d.vic.word s.vic in
    let agg : Treated = treated probe d.agg.bit in
    let vic : Treated = treated probe d.vic.bit in
    table.row (a * probe.n + v) (pair_below probe.n a v a_in v_in) (lane d.side d.value agg vic) (lane_small d.side d.value agg vic)
    ∙ of_class d.means d.side d.value agg vic (project ((a * probe.n + v) / probe.n) ((a * probe.n + v) % probe.n) (steps_of probe.alg probe.n))
    ∙ ap (λ (x : ℕ). goes_unseen d.means d.side d.value agg vic (project x ((a * probe.n + v) % probe.n) (steps_of probe.alg probe.n))) (div-mul-add a probe.n v v_in)
    ∙ ap (λ (y : ℕ). goes_unseen d.means d.side d.value agg vic (project a y (steps_of probe.alg probe.n))) (rest_of a probe.n v v_in)
