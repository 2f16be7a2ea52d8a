-- The sets of the tests are of accepted configurations.
use Rattle.std.proofs.Common.{ℕ, suc, zero, ◌<◌, ◌≡◌, [], ◌∷◌, refl, arith, inl}
use Rattle.std.proofs.lemmas.List.Elements.{All-nil, All-cons}
use Rattle.mt_plan.specs.declared.algorithm.Algorithm.{Algorithm}
use Rattle.mt_plan.specs.declared.algorithm.Policy.TheVariants.{NonDestructive}
use Rattle.mt_plan.specs.Plan.{IsAccepted}
use Rattle.mt_blocks.specs.declared.config.Block.{Block}
use Rattle.mt_blocks.specs.Slices.{span_at}
use Rattle.mt_blocks.specs.Accepted.{IsAcceptedBlock, AreApart, spans_of}
use Rattle.mt_cut.specs.Holds.{IsOfAccepted}
use Rattle.mt_cut.specs.Example.{example_shape, filled_block, kept_block, checkerboard_set, one_block_set}

apart : (i j : ℕ) → i < j → j < 2 → AreApart (span_at (spans_of checkerboard_set.blocks) i) (span_at (spans_of checkerboard_set.blocks) j)
apart zero zero h k = absurd (omega (arith, h))
apart zero (suc zero) h k = inl (omega arith)
apart zero (suc (suc j)) h k = absurd (omega (arith, k))
apart (suc i) j h k = absurd (omega (arith, h, k))

pub checkerboard_accepted : IsOfAccepted checkerboard_set
checkerboard_accepted = record {
  shape = example_shape;
  limits = record { some = omega arith; ram = omega arith; flash = omega arith };
  accepted = record {
    accepted = tt;
    kept = λ e. cc;
    background = omega arith;
    some = omega arith;
    few = omega arith;
    blocks = All-cons (IsAcceptedBlock example_shape) filled_block (kept_block ∷ []) (record { ordered = omega arith; inside = omega arith; fill = omega arith })
        (All-cons (IsAcceptedBlock example_shape) kept_block [] (record { ordered = omega arith; inside = omega arith; fill = omega arith }) (All-nil (IsAcceptedBlock example_shape)));
    apart = apart;
    atomic_some = omega arith;
    atomic_small = omega arith;
    cells_low = omega arith;
    cells_high = omega arith;
    retries = omega arith;
  };
}

pub one_block_accepted : (alg : Algorithm) → IsAccepted alg → IsOfAccepted (one_block_set alg)
one_block_accepted alg ok =
    let block : Block = record kept_block { span = record { first = 0; last = 9 } } in
    record {
      shape = example_shape;
      limits = record { some = omega arith; ram = omega arith; flash = omega arith };
      accepted = record {
        accepted = ok;
        kept = λ e. All-cons (λ (b : Block). b.policy ≡ NonDestructive) block [] refl (All-nil (λ (b : Block). b.policy ≡ NonDestructive));
        background = omega arith;
        some = omega arith;
        few = omega arith;
        blocks = All-cons (IsAcceptedBlock example_shape) block [] (record { ordered = omega arith; inside = omega arith; fill = omega arith }) (All-nil (IsAcceptedBlock example_shape));
        apart = λ i j h k. absurd (omega (arith, h, k));
        atomic_some = omega arith;
        atomic_small = omega arith;
        cells_low = omega arith;
        cells_high = omega arith;
        retries = omega arith;
      };
    }
