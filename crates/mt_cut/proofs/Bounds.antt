-- Shorter sequences have no more accesses, and so the greatest slice for a wait bounds waits.
use Rattle.std.proofs.Common.{ℕ, ◌-◌, ◌≤◌, length, arith, mul-le-mul, subst}
use Rattle.mt_plan.specs.declared.algorithm.Algorithm.{Algorithm}
use Rattle.mt_plan.specs.declared.algorithm.Algorithm.TheVariants.{Checkerboard, March as Marches, WalkPath, Galpat, TransparentGalpat}
use Rattle.mt_plan.specs.declared.algorithm.Policy.{Policy}
use Rattle.mt_plan.specs.declared.algorithm.Policy.TheVariants.{NonDestructive, Destructive}
use Rattle.mt_march.specs.Accepted.{operations}
use Rattle.mt_plan.specs.Plan.{step_count, frame_of, hold_of}
use Rattle.mt_blocks.specs.declared.config.Block.{Block}
use Rattle.mt_cut.specs.Atomic.{LargestBoundsWaits}

steps-rise : (algorithm : Algorithm) (m n : ℕ) → m ≤ n → step_count algorithm m ≤ step_count algorithm n
unfolding step_count
steps-rise Checkerboard m n low = omega (arith, low)
steps-rise (Marches march) m n low = mul-le-mul {n₁ = length (operations march.elements.items)} (omega arith) low
steps-rise WalkPath m n low = omega (arith, low, mul-le-mul {n₁ = m} low low)
steps-rise Galpat m n low = omega (arith, low, mul-le-mul {n₁ = m} low low)
steps-rise TransparentGalpat m n low = omega (arith, low, mul-le-mul {n₁ = m} low low)

frames-rise : (policy : Policy) (m n : ℕ) → m ≤ n → frame_of policy m ≤ frame_of policy n
frames-rise NonDestructive m n low = omega (arith, low)
frames-rise Destructive m n low = omega (arith, low)

holds-rise : (algorithm : Algorithm) (policy : Policy) (m n : ℕ) → m ≤ n → hold_of algorithm policy m ≤ hold_of algorithm policy n
holds-rise algorithm policy m n low = omega (arith, steps-rise algorithm m n low, frames-rise policy m n low)

pub largest-bounds : LargestBoundsWaits
largest-bounds set wait words fewer waited b is low (k, there, same) met =
    let within : hold_of set.alg b.policy words - 1 ≤ wait = subst (λ (c : Block). hold_of set.alg c.policy words - 1 ≤ wait) same (is.waits k b there) in
    omega (arith, within, met, holds-rise set.alg b.policy fewer words low)
