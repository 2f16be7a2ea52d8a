use Rattle.std.proofs.Common.{◌≡◌, false, take}
use Rattle.std.specs.Prelude.{◌==◌}
use Rattle.std.specs.List.{list_any}
use Rattle.mt_blocks.specs.declared.config.Block.{Block}
use Rattle.mt_unit.specs.Tables.{rest_in}
use Rattle.mt_unit.proofs.tables.is_rest.Given as goal

abbrev pub invariant-loop-block : goal.invariant-loop-block
invariant-loop-block l = list_any (λ (b : Block). rest_in l.atomic b.span == l.n) (take l.block-index l.blocks) ≡ false
