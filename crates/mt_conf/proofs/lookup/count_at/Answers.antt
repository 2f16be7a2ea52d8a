use Rattle.std.proofs.Common.{refl}
use Rattle.std.proofs.lemmas.List.{length-map}
use Rattle.mt_conf.proofs.lookup.count_at.Goals as goal

pub returns : goal.returns
returns c = rw (← c.array_at.ensures, length-map) refl
