use Rattle.mt_conf.specs.Lookup.{fields}
use Rattle.mt_conf.specs.Outcome.{flash_block_of}
use Rattle.mt_conf.proofs.Lists.{map_view}
use Rattle.mt_conf.proofs.value.flash_blocks_in.Goals as goal

pub returns : goal.returns
returns c = rw (← c.array_at.ensures, ← map_view (λ d. flash_block_of (fields d)) c.array_at.result.now) c.flash_blocks_of.ensures
