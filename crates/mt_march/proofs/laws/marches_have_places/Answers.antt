use Rattle.mt_march.proofs.PlacedLemmas.{placed_is_spelled, spelled_has_places, places_are_one}
use Rattle.mt_march.proofs.laws.marches_have_places.Goals as goal

pub returns-clause-spelled : goal.returns-clause-spelled
returns-clause-spelled c = placed_is_spelled

pub returns-clause-placed : goal.returns-clause-placed
returns-clause-placed c = spelled_has_places

pub returns-clause-one : goal.returns-clause-one
returns-clause-one c = places_are_one
