use Rattle.mt_conf.specs.Lookup.{fields}
use Rattle.mt_conf.specs.Outcome.{block_of}
use Rattle.mt_conf.proofs.Lists.{map_view}
use Rattle.mt_conf.proofs.value.blocks_in.Goals as goal

pub returns : goal.returns
returns c = rw (← c.array_at.ensures, ← map_view (λ d. block_of c.args.width (fields d)) c.array_at.result.now) c.blocks_of.ensures
