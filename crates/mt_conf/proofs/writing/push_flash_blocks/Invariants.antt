use Rattle.std.proofs.Common.{◌≡◌, ◌≤◌, ◌+◌, ◌*◌, ◌++◌, length, take}
use Rattle.mt_conf.specs.Canonical.{flash_blocks_text}
use Rattle.mt_conf.proofs.writing.push_flash_blocks.Given as goal

abbrev pub invariant-loop-block : goal.invariant-loop-block
invariant-loop-block l = record {
  text : l.out.items ≡ l.initial.out.items ++ flash_blocks_text l.name (take l.block-index l.blocks);
  short : length l.out.items ≤ length l.initial.out.items + 69 * l.block-index;
}
