-- Bytes of a plan, and their steps.
use Rattle.std.proofs.Common.{ℕ, suc, zero, ◌≡◌, ◌+◌, ◌*◌, ◌<◌, List, [], ◌∷◌, ◌++◌, map, take, refl, arith, ap, ◌∙◌, Some}
use Rattle.std.specs.Prelude.{Bool, ◌/◌, ◌%◌, ◌==◌, slice_get}
use Rattle.mt_fault.specs.Faulty.{is_odd}
use Rattle.mt_plan.specs.declared.algorithm.Act.{Act}
use Rattle.mt_plan.specs.declared.algorithm.Act.TheVariants.{ReadPlain, ReadFlipped, WritePlain, WriteFlipped}
use Rattle.mt_plan.specs.declared.algorithm.Step.{Step}
use Rattle.mt_plan.specs.Plan.{steps_of}
use Rattle.mt_unit.specs.Plans.{act_bits, act_with, byte_of, plan_of, step_in}
use Rattle.mt_unit.specs.Laws.{PlansAreTheSteps}

pub cell_back : (cell bits : ℕ) → bits < 4 → (4 * cell + bits) / 4 ≡ cell
cell_back cell bits small = omega arith

-- a number of which only the two lowest bits are asked
pub low_bit : (cell bits : ℕ) → is_odd (4 * cell + bits) ≡ is_odd bits
low_bit cell bits = let e : (4 * cell + bits) % 2 ≡ bits % 2 = omega arith in ap (λ (k : ℕ). k == 1) e

pub next_bit : (cell bits : ℕ) → bits < 4 → is_odd ((4 * cell + bits) / 2) ≡ is_odd (bits / 2)
next_bit cell bits small = let e : (4 * cell + bits) / 2 % 2 ≡ bits / 2 % 2 = omega arith in ap (λ (k : ℕ). k == 1) e

pub bits_small : (act : Act) → act_bits act < 4
bits_small ReadPlain = omega arith
bits_small ReadFlipped = omega arith
bits_small WritePlain = omega arith
bits_small WriteFlipped = omega arith

pub act_back : (act : Act) → act_with (is_odd (act_bits act / 2)) (is_odd (act_bits act)) ≡ act
act_back ReadPlain = refl
act_back ReadFlipped = refl
act_back WritePlain = refl
act_back WriteFlipped = refl

pub step_back : (step : Step) → step_in (byte_of step) ≡ step
step_back step =
    let small = bits_small step.act in
    ap (λ (k : ℕ). record { cell = k; act = act_with (is_odd (byte_of step / 2)) (is_odd (byte_of step)) }) (cell_back step.cell (act_bits step.act) small)
    ∙ ap (λ (b : Bool). record { cell = step.cell; act = act_with b (is_odd (byte_of step)) }) (next_bit step.cell (act_bits step.act) small)
    ∙ ap (λ (b : Bool). record { cell = step.cell; act = act_with (is_odd (act_bits step.act / 2)) b }) (low_bit step.cell (act_bits step.act))
    ∙ ap (λ (act : Act). record { cell = step.cell; act = act }) (act_back step.act)

steps_back : (steps : List Step) → map step_in (map byte_of steps) ≡ steps
steps_back [] = refl
steps_back (step ∷ more) = ap (λ (s : Step). s ∷ map step_in (map byte_of more)) (step_back step) ∙ ap (λ (l : List Step). step ∷ l) (steps_back more)

pub plans_back : PlansAreTheSteps
unfolding plan_of
plans_back alg n = steps_back (steps_of alg n)

-- one more step
pub one_more : {X : Type 0} (xs : List X) (i : ℕ) (x : X) → slice_get xs i ≡ Some x → take (i + 1) xs ≡ take i xs ++ x ∷ []
one_more [] i x e = cc
one_more (y ∷ ys) zero x e = grind arith
one_more (y ∷ ys) (suc i) x e =
    let next : suc i + 1 ≡ suc (i + 1) = omega arith in
    ap (λ (k : ℕ). take k (y ∷ ys)) next ∙ ap (λ (l : List _). y ∷ l) (one_more ys i x e)
