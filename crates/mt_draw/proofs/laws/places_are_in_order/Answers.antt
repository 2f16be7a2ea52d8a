use Rattle.mt_draw.proofs.PlaceLemmas.{in_order, inside}
use Rattle.mt_draw.proofs.laws.places_are_in_order.Goals as goal

pub returns-clause-order : goal.returns-clause-order
returns-clause-order c = in_order

pub returns-clause-inside : goal.returns-clause-inside
returns-clause-inside c = inside
