use Rattle.mt_fault.proofs.PlacementLemmas.{well_placed, inside, address_within}
use Rattle.mt_fault.proofs.laws.placement_is_tested.Goals as goal

pub returns : goal.returns
returns c = record { placed = well_placed; inside = inside; addresses = address_within }
