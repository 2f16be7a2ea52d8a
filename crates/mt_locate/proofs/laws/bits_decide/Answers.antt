use Rattle.mt_locate.proofs.Unmissed.{decide}
use Rattle.mt_locate.proofs.laws.bits_decide.Goals as goal

pub returns : goal.returns
returns c = decide c.plans_are_steady.ensures (record { here = c.bits_are_put.ensures.here; others = c.bits_are_put.ensures.others; same = c.bits_are_put.ensures.same })
