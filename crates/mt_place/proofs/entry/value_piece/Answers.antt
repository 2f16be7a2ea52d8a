use Rattle.mt_place.proofs.PartLemmas.{blank_after}
use Rattle.mt_place.proofs.entry.value_piece.Goals as goal

pub returns-clause-gap : goal.returns-clause-gap
returns-clause-gap c = blank_after c.args.line.now c.trim_ascii_start-rest.result.now c.args.from c.requires c.trim_ascii_start-rest.ensures.value
