use Rattle.std.proofs.Common.{◌≡◌, ◌≤◌, ◌+◌, ◌*◌, ◌++◌, length, take}
use Rattle.mt_conf.specs.Canonical.{blocks_text}
use Rattle.mt_conf.proofs.writing.push_blocks.Given as goal

abbrev pub invariant-loop-block : goal.invariant-loop-block
invariant-loop-block l = record {
  text : l.out.items ≡ l.initial.out.items ++ blocks_text l.width (take l.block-index l.blocks);
  short : length l.out.items ≤ length l.initial.out.items + 105 * l.block-index;
}
