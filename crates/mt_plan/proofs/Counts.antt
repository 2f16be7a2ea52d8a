-- How many steps there are.
use Rattle.std.proofs.Common.{ℕ, ◌≡◌, ◌+◌, ◌*◌, ◌<◌, ◌≤◌, Bool, true, false, List, [], ◌∷◌, ◌++◌, map, length, take, get_or, length-append, append-nil, add-one, arith, ap, ◌∙◌}
use Rattle.std.proofs.Math.Seq.{take-suc}
use Rattle.std.proofs.lemmas.List.Concat.{flat_map-append}
use Rattle.std.specs.Prelude.{All}
use Rattle.std.specs.List.{flat_map}
use Rattle.std.proofs.lemmas.List.{length-map, length-reverse}
use Rattle.std.proofs.lemmas.List.Elements.{All-tail}
use Rattle.std.proofs.Math.Nat.{mul-le-mul_right}
use Rattle.mt_march.specs.Accepted.{IsAcceptedMarch, operations}
use Rattle.mt_march.specs.declared.march.Order.{Order}
use Rattle.mt_march.specs.declared.march.Order.TheVariants.{Up, Down, Either}
use Rattle.mt_march.specs.declared.march.Op.{Op}
use Rattle.mt_march.specs.declared.march.Element.{Element}
use Rattle.mt_plan.specs.declared.algorithm.Algorithm.{Algorithm}
use Rattle.mt_plan.specs.declared.algorithm.Algorithm.TheVariants.{Checkerboard, March as Marches, WalkPath, Galpat, TransparentGalpat}
use Rattle.mt_plan.specs.declared.algorithm.Act.{Act}
use Rattle.mt_plan.specs.Lists.{cells, step, write_act, act_of, ops_on, in_order, element_on, march_on, walk_base, walk_round, galpat_base, galpat_round, checkerboard_on}
use Rattle.mt_plan.specs.Plan.{IsAccepted, steps_of, step_count}
use Rattle.mt_plan.proofs.Items.{length-cells, length-pieces, length-even}
use Rattle.mt_plan.proofs.Bases.{length-writes, length-walk_base, length-galpat_base}

length-quarter : (n : ℕ) (f : ℕ → Act) → length (map (λ (j : ℕ). step j (f j)) (cells n)) ≡ n
length-quarter n f = length-map (cells n) (λ (j : ℕ). step j (f j)) ∙ length-cells n

length-checkerboard : (n : ℕ) → length (checkerboard_on (cells n)) ≡ 4 * n
length-checkerboard n =
    simp (length-append, length-map, length-cells) (omega arith)

length-order : (o : Order) (n : ℕ) → length (in_order o (cells n)) ≡ n
length-order Up n = length-cells n
length-order Down n = length-reverse (cells n) ∙ length-cells n
length-order Either n = length-cells n

length-element : (n : ℕ) (e : Element) → length (element_on (cells n) e) ≡ n * length e.ops.items
length-element n e =
    length-pieces (ops_on e.ops.items) (length e.ops.items) (in_order e.order (cells n)) (λ j. length-map e.ops.items (λ (op : Op). step j (act_of op)))
    ∙ ap (λ (x : ℕ). x * length e.ops.items) (length-order e.order n)

pub length-march : (n : ℕ) (es : List Element) → length (march_on (cells n) es) ≡ length (operations es) * n
length-march n [] = omega arith
length-march n (e ∷ es) =
    let m : (length e.ops.items + length (operations es)) * n ≡ n * length e.ops.items + length (operations es) * n = omega arith in
    omega (arith, length-append (element_on (cells n) e) (march_on (cells n) es), length-element n e, length-march n es, ap (λ (x : ℕ). x * n) (length-append e.ops.items (operations es)))

length-walk_round : (v : Bool) (n : ℕ) → length (walk_round v (cells n)) ≡ n + n * (n + 2)
length-walk_round v n =
    omega (arith, length-append (map (λ j. step j (write_act v)) (cells n)) (flat_map (walk_base v (cells n)) (cells n)), length-writes v n, length-even (walk_base v (cells n)) (n + 2) n (length-walk_base v n))

length-galpat_round : (v : Bool) (n : ℕ) → length (galpat_round v (cells n)) ≡ n + n * (2 * n + 1)
length-galpat_round v n =
    omega (arith, length-append (map (λ j. step j (write_act v)) (cells n)) (flat_map (galpat_base v (cells n)) (cells n)), length-writes v n, length-even (galpat_base v (cells n)) (2 * n + 1) n (length-galpat_base v n))

pub length-steps : (algorithm : Algorithm) (n : ℕ) → length (steps_of algorithm n) ≡ step_count algorithm n
unfolding steps_of step_count
length-steps Checkerboard n = length-checkerboard n
length-steps (Marches march) n = length-march n march.elements.items
length-steps WalkPath n = omega (arith, length-append (walk_round false (cells n)) (walk_round true (cells n)), length-walk_round false n, length-walk_round true n)
length-steps Galpat n = omega (arith, length-append (galpat_round false (cells n)) (galpat_round true (cells n)), length-galpat_round false n, length-galpat_round true n)
length-steps TransparentGalpat n = omega (arith, length-append (galpat_round false (cells n)) (galpat_round true (cells n)), length-galpat_round false n, length-galpat_round true n)

ops_few : (es : List Element) → All (λ (e : Element). (1 ≤ length e.ops.items) × (length e.ops.items ≤ 8)) es → length (operations es) ≤ 8 * length es
ops_few [] all = omega arith
ops_few (e ∷ es) all =
    let first : length e.ops.items ≤ 8 = (all 0 e (omega arith)).1 in
    omega (arith, length-append e.ops.items (operations es), ops_few es (All-tail (λ (e : Element). (1 ≤ length e.ops.items) × (length e.ops.items ≤ 8)) e es all), first)

pub march_few : (es : List Element) → IsAcceptedMarch es → length (operations es) ≤ 128
march_few es is = omega (arith, ops_few es is.short, is.few)

product_few : (a b n : ℕ) → a ≤ b → a * n ≤ b * n
product_few a b n h = omega (arith, mul-le-mul_right n h)

pub steps_few : (algorithm : Algorithm) (n : ℕ) → IsAccepted algorithm → n ≤ 64 → step_count algorithm n ≤ 260 * n
unfolding step_count
steps_few Checkerboard n is small = omega arith
steps_few (Marches march) n is small = omega (arith, product_few (length (operations march.elements.items)) 128 n (march_few march.elements.items is))
steps_few WalkPath n is small = omega (arith, product_few n 64 n small)
steps_few Galpat n is small = omega (arith, product_few n 64 n small)
steps_few TransparentGalpat n is small = omega (arith, product_few n 64 n small)

-- one more element
pub ops_taken : (es : List Element) (i : ℕ) (d : Element) → i < length es → length (operations (take (i + 1) es)) ≡ length (operations (take i es)) + length (get_or es i d).ops.items
ops_taken es i d h =
    rw (add-one, take-suc es i d)
    (ap length (flat_map-append (λ (e : Element). e.ops.items) (take i es) (get_or es i d ∷ []) ∙ ap (λ l. operations (take i es) ++ l) (append-nil (get_or es i d).ops.items))
    ∙ length-append (operations (take i es)) (get_or es i d).ops.items)
