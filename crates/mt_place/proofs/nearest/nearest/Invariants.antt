use Rattle.std.proofs.Common.{take, option_map}
use Rattle.mt_place.proofs.LineLemmas.{texts}
use Rattle.mt_place.proofs.NameLemmas.{IsBest}
use Rattle.mt_place.proofs.nearest.nearest.Given as goal

abbrev pub invariant-loop-name : goal.invariant-loop-name
invariant-loop-name l = IsBest l.word (take l.name-index (texts l.names)) (option_map (λ name. name.now) l.best) l.least
