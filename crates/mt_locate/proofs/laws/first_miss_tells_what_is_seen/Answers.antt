use Rattle.mt_locate.proofs.Culprits.{first_miss_tells}
use Rattle.mt_locate.proofs.laws.first_miss_tells_what_is_seen.Goals as goal

pub returns : goal.returns
returns c = first_miss_tells c.plans_are_steady.ensures
