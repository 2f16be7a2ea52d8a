-- The sets of an accepted configuration.
use Rattle.std.proofs.Common.{ℕ, ◌<◌, ◌≤◌, ◌≡◌, List, length, sym, subst, arith}
use Rattle.std.proofs.lemmas.List.{length-map, get_or-map}
use Rattle.mt_plan.specs.declared.algorithm.Algorithm.{Algorithm}
use Rattle.mt_plan.specs.declared.algorithm.Policy.{Policy}
use Rattle.mt_plan.specs.declared.algorithm.Policy.TheVariants.{NonDestructive, Destructive}
use Rattle.mt_plan.specs.Plan.{hold_of}
use Rattle.mt_blocks.specs.declared.span.Span.{Span}
use Rattle.mt_blocks.specs.declared.pass.Position.{Position}
use Rattle.mt_blocks.specs.declared.config.Block.{Block}
use Rattle.mt_blocks.specs.declared.config.ParamSet.{ParamSet}
use Rattle.mt_blocks.specs.Slices.{AreSpans, IsValid, span_at, no_span}
use Rattle.mt_blocks.specs.Accepted.{block_at, no_block, spans_of}
use Rattle.mt_cut.specs.Holds.{IsOfAccepted}

spans_at : (blocks : List Block) (i : ℕ) → i < length blocks → span_at (spans_of blocks) i ≡ (block_at blocks i).span
spans_at blocks i inside = get_or-map (λ (b : Block). b.span) blocks i no_block no_span inside

-- its blocks can be cut into slices
pub are_spans : (set : ParamSet) → IsOfAccepted set → AreSpans set.atomic (spans_of set.blocks)
are_spans set ok =
    let many = length-map set.blocks (λ (b : Block). b.span) in
    record {
      some = ok.accepted.atomic_some;
      small = ok.accepted.atomic_small;
      few = omega (arith, many, ok.accepted.few);
      ordered = λ i h. let inside : i < length set.blocks = omega (arith, many, h) in
          subst (λ (s : Span). s.first ≤ s.last) (sym (spans_at set.blocks i inside)) (ok.accepted.blocks i no_block inside).ordered;
      limit = λ i h. let inside : i < length set.blocks = omega (arith, many, h) in
          subst (λ (s : Span). s.last < 65536) (sym (spans_at set.blocks i inside)) (let low = (ok.accepted.blocks i no_block inside).inside in omega (arith, low, ok.limits.ram));
    }

pub block_there : (set : ParamSet) (at : Position) → IsValid set.atomic (spans_of set.blocks) at → at.block < length set.blocks
block_there set at valid = omega (arith, length-map set.blocks (λ (b : Block). b.span), valid.block)

-- a sequence of some words has an access
pub hold_some : (algorithm : Algorithm) (policy : Policy) (n : ℕ) → 1 ≤ n → 1 ≤ hold_of algorithm policy n
hold_some algorithm NonDestructive n some = omega (arith, some)
hold_some algorithm Destructive n some = omega (arith, some)
