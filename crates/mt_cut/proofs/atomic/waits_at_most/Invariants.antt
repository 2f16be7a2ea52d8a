use Rattle.std.proofs.Common.{◌≡◌, ◌-◌, true, take}
use Rattle.std.specs.Prelude.{nat_le}
use Rattle.std.specs.List.{list_all}
use Rattle.mt_plan.specs.Plan.{hold_of}
use Rattle.mt_blocks.specs.declared.config.Block.{Block}
use Rattle.mt_cut.proofs.atomic.waits_at_most.Given as goal

abbrev pub invariant-loop-block : goal.invariant-loop-block
invariant-loop-block l = list_all (λ (b : Block). nat_le (hold_of l.set.alg b.policy l.words - 1) l.wait) (take l.block-index l.block-items) ≡ true
