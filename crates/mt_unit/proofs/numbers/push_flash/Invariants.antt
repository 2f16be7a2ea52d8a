use Rattle.std.proofs.Common.{◌≡◌, ◌++◌, take}
use Rattle.std.specs.List.{flat_map}
use Rattle.mt_unit.specs.Tables.{flash_row}
use Rattle.mt_unit.proofs.numbers.push_flash.Given as goal

abbrev pub invariant-loop-block : goal.invariant-loop-block
invariant-loop-block l = l.out.items ≡ l.initial.out.items ++ flat_map (flash_row l.atomic) (take l.block-index l.blocks)
