use Rattle.std.proofs.Common.{◌≡◌, map, take}
use Rattle.toml.specs.View.{view}
use Rattle.mt_conf.specs.Lookup.{fields}
use Rattle.mt_conf.specs.Outcome.{flash_block_of}
use Rattle.mt_conf.proofs.value.flash_blocks_of.Given as goal

abbrev pub invariant-loop-value : goal.invariant-loop-value
invariant-loop-value l = l.blocks.items ≡ map (λ v. flash_block_of (fields (view v))) (take l.value-index l.values)
